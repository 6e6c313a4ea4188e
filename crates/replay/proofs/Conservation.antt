-- Shares are conserved.
use Rattle.std.proofs.Common.{◌≡◌, ℕ, ◌+◌, ◌-◌, ◌%◌, ◌<◌, ◌≤◌, min, Bool, true, false, eqb, List, [], ◌∷◌, length, Some, None, sym, refl, ap, ◌∙◌, subst, arith}
use Rattle.std.specs.List.{AllZip, AllByRecursion}
use Rattle.market.specs.declared.words.Side.{Side}
use Rattle.market.specs.declared.words.Side.TheVariants.{Buy, Sell}
use Rattle.market.specs.declared.words.Place.TheVariants.{Line}
use Rattle.market.specs.declared.words.Order.{Order}
use Rattle.market.specs.Sides.{opposite, same_side}
use Rattle.market.specs.Orders.{is_book, fill}
use Rattle.sharing.specs.Shares.{LawfulRule}
use Rattle.replay.specs.Lists.{only, total, any}
use Rattle.replay.specs.Days.{Day, Rule}
use Rattle.replay.specs.Rolls.{look, found, alter, left, open_of}
use Rattle.replay.specs.Book.{is_at, is_better, ahead, depth, row}
use Rattle.replay.specs.Moves.{deal, size, trade}
use Rattle.replay.specs.SharesAddUp.{print_of, cancel_of, filled_on}
use Rattle.replay.proofs.Lists.{total_push}
use Rattle.replay.proofs.Sharing.{LawfulShares, LawfulRow, Gift, gifts_fit, gifts_sum}
use Rattle.replay.proofs.Rolls.{Good, good_fill, val, total_alter, all_alter, only_add, depth_split, row_lawful, row_short, row_some, total_whole, deal_good, deal_filled, deal_struck, length_deal, length_alter, look_deal}

pub record Books (d : Day) : Type 0 where
  pub orders : AllByRecursion Good d.roll
  pub few : length d.roll ≤ 512
  pub filled : (s : Side) → total (filled_on s) d.roll ≡ total print_of d.tape
  pub struck : total (λ o. o.cancelled) d.roll ≡ total cancel_of d.tape

both_sides : (t s : Side) (q : ℕ) → only (same_side (opposite t) s) q + only (same_side t s) q ≡ q
both_sides Buy Buy q = omega arith
both_sides Buy Sell q = omega arith
both_sides Sell Buy q = omega arith
both_sides Sell Sell q = omega arith

row_sum : (ns : List ℕ) → 1 ≤ length ns → AllByRecursion LawfulShares ns → 100 ≤ total (λ n. n) ns
row_sum [] h a = omega arith
row_sum (n ∷ ns) h a = omega (arith, a.0.1)

-- what is known when order n, with record r, prints at p against side c
pub record Ready (n : ℕ) (r : Order) (c : Side) (p : ℕ) (os : List Order) : Type 0 where
  pub is : look n os ≡ Some r
  pub waits : r.place ≡ Line
  pub contra : c ≡ opposite r.side
  pub some : any (is_at c p) os ≡ true
  pub short : ahead c p os < r.«open»

-- the quantity q of a print, where the order has o, a stands ahead and t at the price
pub record Fits (q o a t : ℕ) : Type 0 where
  pub whole : q % 100 ≡ 0
  pub over : 100 ≤ q - a
  pub sum : a + (q - a) ≡ q
  pub under : q ≤ o
  pub gifts_whole : (q - a) % 100 ≡ 0
  pub held : q - a ≤ t

fits_from : (q o a t : ℕ) → q ≡ min o (a + t) → o % 100 ≡ 0 → a % 100 ≡ 0 → t % 100 ≡ 0 → 100 ≤ t → a < o → Fits q o a t
fits_from q o a t e w₁ w₂ w₃ l s = omega arith

sum_whole : (ns : List ℕ) → AllByRecursion LawfulShares ns → total (λ n. n) ns % 100 ≡ 0
sum_whole [] a = refl
sum_whole (n ∷ ns) a = omega (arith, a.0.0, sum_whole ns a.1)

pub find_all : (Q : Order → Type 0) (n : ℕ) (os : List Order) (r : Order) → look n os ≡ Some r → AllByRecursion Q os → Q r
unfolding look
find_all Q n [] r e a = absurd (none_some e)
  where
    none_some : {A : Type 0} {x : A} → None ≡ Some x → ⊥
    none_some e = let z : ◌≡◌ {A = ℕ} 0 1 = cc in omega arith
find_all Q n (o ∷ os) r e a = go (eqb o.number n) e (λ e. find_all Q n os r e a.1)
  where
    go : (b : Bool) → found b o (look n os) ≡ Some r → (look n os ≡ Some r → Q r) → Q r
    go true e ih = let s : o ≡ r = cc in subst Q s a.0
    go false e ih = ih e

module _ (gifts : Rule) (lawful : LawfulRule gifts) (n : ℕ) (r : Order) (c : Side) (p : ℕ) (d : Day) (k : Ready n r c p d.roll) (b : Books d) where
  abbrev os : List Order
  os = d.roll

  abbrev qty : ℕ
  qty = size n c p os

  abbrev gs : List ℕ
  gs = gifts (row c p os) (qty - ahead c p os)

  qty_is : qty ≡ min r.«open» (ahead c p os + total (λ n. n) (row c p os))
  unfolding size left
  qty_is = ap (λ x. min (open_of x) (depth c p os)) k.is ∙ ap (λ x. min r.«open» x) (depth_split c p os)

  pub fits : Fits qty r.«open» (ahead c p os) (total (λ n. n) (row c p os))
  unfolding ahead
  fits =
      fits_from qty r.«open» (ahead c p os) (total (λ n. n) (row c p os)) qty_is (find_all Good n os r k.is b.orders).whole
      (total_whole (is_better c p) os b.orders) (sum_whole (row c p os) (row_lawful c p os b.orders))
      (row_sum (row c p os) (row_some c p os k.some) (row_lawful c p os b.orders)) k.short

  lawful_row : LawfulRow (row c p os)
  lawful_row = (row_some c p os k.some, omega (arith, row_short c p os, b.few), row_lawful c p os b.orders)

  pub zip : AllZip Gift gs (row c p os)
  zip = gifts_fit gifts lawful (row c p os) (qty - ahead c p os)

  pub gs_sum : ahead c p os + total (λ n. n) gs ≡ qty
  gs_sum = ap (λ n. ahead c p os + n) (gifts_sum gifts lawful (row c p os) (qty - ahead c p os) lawful_row fits.gifts_whole fits.over fits.held) ∙ fits.sum

  runner : look n (deal c p os gs) ≡ Some r
  runner = look_deal n c p os gs r k.is (ap is_book k.waits)

  good_runner : (o : Order) → look n (deal c p os gs) ≡ Some o → Good o → Good (fill qty o)
  good_runner o e g =
      let s : r ≡ o = some_inj (sym runner ∙ e) in
      good_fill qty o g (subst (λ x. qty ≤ x) (ap (λ (x : Order). x.«open») s) fits.under) fits.whole
    where
      some_inj : {x y : Order} → Some x ≡ Some y → x ≡ y
      some_inj e = cc

  traded_filled : (s : Side) → total (filled_on s) (alter n (fill qty) (deal c p os gs)) ≡ total (filled_on s) os + qty
  traded_filled s =
      let e₁ : total (filled_on s) (deal c p os gs) ≡ total (filled_on s) os + only (same_side c s) qty
      = deal_filled s c p os gs zip ∙ ap (λ n. total (filled_on s) os + only (same_side c s) n) gs_sum in
      let e₂ : total (filled_on s) (alter n (fill qty) (deal c p os gs)) + only (same_side r.side s) r.filled
      ≡ total (filled_on s) (deal c p os gs) + only (same_side r.side s) (r.filled + qty)
      = subst (λ x. total (filled_on s) (alter n (fill qty) (deal c p os gs)) + val (filled_on s) x ≡ total (filled_on s) (deal c p os gs) + val (λ o. filled_on s (fill qty o)) x)
      runner (total_alter (filled_on s) n (fill qty) (deal c p os gs)) in
      let e₃ : only (same_side c s) qty + only (same_side r.side s) qty ≡ qty
      = ap (λ x. only (same_side x s) qty + only (same_side r.side s) qty) k.contra ∙ both_sides r.side s qty in
      omega (arith, e₁, e₂, e₃, only_add (same_side r.side s) r.filled qty)

  traded_struck : total (λ o. o.cancelled) (alter n (fill qty) (deal c p os gs)) ≡ total (λ o. o.cancelled) os
  traded_struck =
      omega (arith, total_alter (λ o. o.cancelled) n (fill qty) (deal c p os gs), deal_struck c p os gs)

  pub trade_books : Books (trade gifts n c p d)
  unfolding trade
  trade_books = record {
    orders = all_alter Good n (fill qty) (deal c p os gs) good_runner (deal_good c p os gs zip b.orders);
    few = omega (arith, length_alter n (fill qty) (deal c p os gs), length_deal c p os gs, b.few);
    filled = λ s. traded_filled s ∙ ap (λ n. n + qty) (b.filled s) ∙ sym (total_push print_of d.tape _);
    struck = traded_struck ∙ b.struck ∙ sym (total_push cancel_of d.tape _ ∙ omega arith);
  }
