-- A print: the side that does not give stays as it is.
use Rattle.std.proofs.Common.{◌≡◌, ℕ, ◌-◌, ◌≤◌, Bool, true, false, eqb, List, [], ◌∷◌, length, get_or, sym, refl, ap, ◌∙◌, subst, arith}
use Rattle.std.specs.List.{AllZip}
use Rattle.std.proofs.lemmas.Bool.{and_left, and_parts}
use Rattle.std.proofs.lemmas.List.Elements.{length_all_zip}
use Rattle.market.specs.declared.words.Side.{Side}
use Rattle.market.specs.declared.words.Side.TheVariants.{Buy, Sell}
use Rattle.market.specs.declared.words.Order.{Order}
use Rattle.market.specs.Sides.{opposite, same_side, better}
use Rattle.market.specs.Orders.{is_book, rests_on, fill}
use Rattle.market.specs.Changes.{blank}
use Rattle.replay.specs.Days.{Rule}
use Rattle.replay.specs.Rolls.{alter}
use Rattle.replay.specs.Book.{is_better, is_at, row, ahead}
use Rattle.replay.specs.Moves.{gift, after, dealt, deal, size}
use Rattle.orderbook.specs.Sorted.{Key, Sound, Tied}
use Rattle.orderbook.specs.Tables.{Kept}
use Rattle.orderbook.specs.Trades.{traded}
use Rattle.orderbook.proofs.Lookup.{alter_from}
use Rattle.orderbook.proofs.Prints.{deal_past, where_out}
use Rattle.orderbook.proofs.Leaving.{numbered_along, Stays, stays_self, stays_trans, each_set, each_trans, tied_still}
use Rattle.orderbook.proofs.Moving.{stays_off, other_stays}

deal_stays : (c : Side) (p : ℕ) (os : List Order) (gs : List ℕ) → AllZip (Stays (opposite c)) os (deal c p os gs)
unfolding deal
deal_stays c p [] gs = tt
deal_stays c p (o ∷ os) gs = (go (is_better c p o) refl (is_at c p o) refl, deal_stays c p os (after (is_at c p o) gs))
  where
    go : (b : Bool) → is_better c p o ≡ b → (a : Bool) → is_at c p o ≡ a → Stays (opposite c) o (dealt b a gs o)
    go true h a j = other_stays c o (fill o.«open» o) refl refl (and_parts (rests_on c o) (better c o.price p) h).0
    go false h true j = other_stays c o (fill (gift gs) o) refl refl (and_parts (rests_on c o) (eqb o.price p) j).0
    go false h false j = stays_self (opposite c) o

traded_stays : (c : Side) (n p q : ℕ) (gs : List ℕ) {os : List Order} → Sound os → (1 ≤ n) × (n ≤ length os) → is_book (get_or os (n - 1) blank).place ≡ false
    → AllZip (Stays (opposite c)) os (alter n (fill q) (deal c p os gs))
traded_stays c n p q gs {os} s w off =
    let us : List Order = deal c p os gs in
    let z : AllZip (Stays (opposite c)) os us = deal_stays c p os gs in
    let runner : get_or us (n - 1) blank ≡ get_or os (n - 1) blank = deal_past c p os gs (n - 1) (and_left (is_book (get_or os (n - 1) blank).place) (same_side (get_or os (n - 1) blank).side c) off) in
    let still : is_book (get_or us (n - 1) blank).place ≡ false = ap (λ (o : Order). is_book o.place) runner ∙ off in
    each_trans (Stays (opposite c)) (stays_trans (opposite c)) os us (alter n (fill q) us) z
    (subst (AllZip (Stays (opposite c)) us) (sym (alter_from (fill q) n 1 us (numbered_along (Stays (opposite c)) (λ o u k. k.key) 1 os us z s.numbered) w.0 (omega (arith, w.1, length_all_zip (Stays (opposite c)) os us z))))
    (each_set (Stays (opposite c)) (stays_self (opposite c)) us (n - 1) (fill q (get_or us (n - 1) blank))
    (stays_off (opposite c) (get_or us (n - 1) blank) (fill q (get_or us (n - 1) blank)) refl still (where_out ((get_or us (n - 1) blank).«open» - q) (get_or us (n - 1) blank).place still))))

module _ (gifts : Rule) (n p : ℕ) {os us : List Order} {b o : List Key} (k : Kept os b o) (w : (1 ≤ n) × (n ≤ length os)) (off : is_book (get_or os (n - 1) blank).place ≡ false) where
  other : (c : Side) (ks : List Key) → us ≡ traded gifts n c p os → Sound us → Tied (opposite c) os ks → Tied (opposite c) us ks
  other c ks e s d =
      tied_still (opposite c) os us ks s
      (subst (AllZip (Stays (opposite c)) os) (sym e) (traded_stays c n p (size n c p os) (gifts (row c p os) (size n c p os - ahead c p os)) d.sound w off)) d

  pub kept_sold : {o' : List Key} → us ≡ traded gifts n Sell p os → Tied Sell us o' → Kept us b o'
  kept_sold e d = record { bid = other Sell b e d.sound k.bid; offer = d }

  pub kept_bought : {b' : List Key} → us ≡ traded gifts n Buy p os → Tied Buy us b' → Kept us b' o
  kept_bought e d = record { bid = d; offer = other Buy o e d.sound k.offer }
