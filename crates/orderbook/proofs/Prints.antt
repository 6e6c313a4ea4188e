-- One print: the deal, and the order that trades.
use Rattle.std.proofs.Common.{◌≡◌, ℕ, zero, suc, ◌-◌, ◌≤◌, min, Bool, true, false, cond, eqb, List, [], ◌∷◌, map, length, get_or, take, drop, set, filter, ◌++◌, sum, sym, refl, ap, ◌∙◌, subst, arith}
use Rattle.std.specs.List.{AllZip, AllByRecursion}
use Rattle.std.proofs.ByRecursion.{All-weaker}
use Rattle.std.proofs.lemmas.Bool.{both_ways, false≢true, and_left, and_parts}
use Rattle.std.proofs.lemmas.List.Elements.{length_all_zip}
use Rattle.std.proofs.lemmas.List.{map-append, length-map, length-append, length-take-le, take_all, drop_all, append-nil}
use Rattle.std.proofs.lemmas.List.{length-drop}
use Rattle.std.specs.List.{refill}
use Rattle.arrayvec.proofs.ArrayVecLemmas.{items-with_items}
use Rattle.std.proofs.Math.Seq.{take-append_seam, drop-append_seam}
use Rattle.market.specs.declared.words.Side.{Side}
use Rattle.market.specs.declared.words.Place.{Place}
use Rattle.market.specs.declared.words.Place.TheVariants.{Nowhere}
use Rattle.market.specs.declared.words.Order.{Order}
use Rattle.market.specs.declared.side.Resting.{Resting}
use Rattle.market.specs.declared.change.Change.TheVariants.{Fill}
use Rattle.market.specs.Sides.{as_good, better, same_side}
use Rattle.market.specs.Orders.{is_book, rests_on, where_with, fill}
use Rattle.market.specs.Changes.{blank, does_at}
use Rattle.replay.specs.Lists.{kept, those}
use Rattle.replay.specs.Rolls.{alter}
use Rattle.replay.specs.Book.{is_better, is_at, row, ahead, depth}
use Rattle.sharing.specs.Shares.{LawfulRule}
use Rattle.replay.specs.Days.{Rule}
use Rattle.replay.specs.Moves.{gift, after, dealt, deal, size}
use Rattle.orderbook.specs.Sorted.{Key, key_of, before, book, Sound, Tied}
use Rattle.orderbook.specs.Tables.{keys, stays}
use Rattle.orderbook.specs.Trades.{given, traded}
use Rattle.orderbook.proofs.Fronts.{total_sum_by}
use Rattle.orderbook.proofs.Sorting.{Sorted, sorted_book, none_those, not_better_stays, not_better_level, better_level, level_as_good, better_good, row_book, total_those, depth_book, ahead_book}
use Rattle.orderbook.proofs.Lookup.{alter_at, left_at, sums_at}
use Rattle.orderbook.proofs.Leaving.{Alike, Leaves, alike_self, leaves_self, each_set, each_trans, alike_trans, sound_alike, tied_kept}
use Rattle.orderbook.proofs.Dealing.{fill_set, each_filled, table_dealt}

-- the front of the book ------------------------------------------------------------------------------------------------------
-- those priced better, then those at the price
module _ (c : Side) (p : ℕ) where
  same_level : (xs : List Order) → AllByRecursion (λ o. better c o.price p ≡ false) xs → those (λ o. as_good c o.price p) xs ≡ those (λ o. eqb o.price p) xs
  same_level [] a = refl
  same_level (x ∷ xs) a = ap (λ b. kept b x (those (λ o. as_good c o.price p) xs)) (not_better_level c x.price p a.0) ∙ ap (kept (eqb x.price p) x) (same_level xs a.1)

  good_split : (xs : List Order) → Sorted (before c) xs → those (λ o. as_good c o.price p) xs ≡ those (λ o. better c o.price p) xs ++ those (λ o. eqb o.price p) xs
  good_split [] s = refl
  good_split (x ∷ xs) s = go (better c x.price p) refl (as_good c x.price p) refl (good_split xs s.1)
    where
      go : (b : Bool) → better c x.price p ≡ b → (a : Bool) → as_good c x.price p ≡ a → those (λ o. as_good c o.price p) xs ≡ those (λ o. better c o.price p) xs ++ those (λ o. eqb o.price p) xs
          → kept a x (those (λ o. as_good c o.price p) xs) ≡ kept b x (those (λ o. better c o.price p) xs) ++ those (λ o. eqb o.price p) (x ∷ xs)
      go true h true j ih = ap (λ l. x ∷ l) ih ∙ ap (λ b. x ∷ those (λ o. better c o.price p) xs ++ kept b x (those (λ o. eqb o.price p) xs)) (sym (better_level c x.price p h))
      go true h false j ih = absurd (both_ways (better c x.price p) (better_good c x.price p j) h)
      go false h a j ih =
          let all : AllByRecursion (λ o. better c o.price p ≡ false) (x ∷ xs) = (h, All-weaker (λ y. before c x y ≡ true) (λ y. better c y.price p ≡ false) (λ y b. not_better_stays c (key_of x) (key_of y) p b h) xs s.0) in
          ap (λ b. kept b x (those (λ o. as_good c o.price p) xs)) (sym j) ∙ same_level (x ∷ xs) all
          ∙ ap (λ l. l ++ those (λ o. eqb o.price p) (x ∷ xs)) (sym (none_those (λ o. better c o.price p) xs all.1))

  -- what the orders at the price or better have open: those priced better, then the row
  pub front_split : (os : List Order) → Sound os → map (λ o. o.«open») (those (λ o. as_good c o.price p) (book c os)) ≡ map (λ o. o.«open») (those (λ o. better c o.price p) (book c os)) ++ row c p os
  front_split os s =
      ap (map (λ o. o.«open»)) (good_split (book c os) (sorted_book c 1 os s.numbered))
      ∙ map-append (λ o. o.«open») (those (λ o. better c o.price p) (book c os)) (those (λ o. eqb o.price p) (book c os))
      ∙ ap (λ l. map (λ o. o.«open») (those (λ o. better c o.price p) (book c os)) ++ l) (row_book c p os s.numbered)

  -- the same, where k orders are priced better
  pub record Front (os : List Order) (k : ℕ) (shares : List ℕ) : Type 0 where
    pub within : k ≤ length shares
    pub better : take k shares ≡ map (λ o. o.«open») (those (λ o. better c o.price p) (book c os))
    pub level : drop k shares ≡ row c p os

  pub front : (os : List Order) → Sound os → (k : ℕ) (shares : List ℕ) → k ≡ length (those (λ o. better c o.price p) (book c os))
      → shares ≡ map (λ o. o.«open») (those (λ o. as_good c o.price p) (book c os)) → Front os k shares
  front os s k shares e f =
      let bs = map (λ o. o.«open») (those (λ o. better c o.price p) (book c os)) in
      let n : k ≡ length bs = e ∙ sym (length-map (those (λ o. better c o.price p) (book c os)) (λ o. o.«open»)) in
      let split : shares ≡ bs ++ row c p os = f ∙ front_split os s in
      record {
        within = omega (arith, n, ap length split, length-append bs (row c p os));
        better = ap (take k) split ∙ ap (λ m. take m (bs ++ row c p os)) n ∙ take-append_seam bs (row c p os);
        level = ap (drop k) split ∙ ap (λ m. drop m (bs ++ row c p os)) n ∙ drop-append_seam bs (row c p os);
      }

  -- the row is replaced by its gifts
  pub given_is : (gifts : Rule) (q : ℕ) (os : List Order) {k r : ℕ} {shares xs new : List ℕ} → Front os k shares → shares ≡ xs → new ≡ gifts (take (length shares - k) (drop k shares)) r
      → length new ≡ length (take (length shares - k) (drop k shares)) → r ≡ q - ahead c p os
      → refill (length xs) xs (take k shares ++ (new ++ drop (length shares - k) (drop k shares))) ≡ given gifts q c p os
  given_is gifts q os {k} {r} {shares} {xs} {new} f same e long rest =
      let bs = map (λ o. o.«open») (those (λ o. better c o.price p) (book c os)) in
      let whole : take (length shares - k) (drop k shares) ≡ drop k shares = take_all (length shares - k) (drop k shares) (omega (arith, length-drop k shares)) in
      let none : drop (length shares - k) (drop k shares) ≡ [] = drop_all (length shares - k) (drop k shares) (omega (arith, length-drop k shares)) in
      let written : take k shares ++ (new ++ drop (length shares - k) (drop k shares)) ≡ take k shares ++ new = ap (λ l. take k shares ++ (new ++ l)) none ∙ ap (λ l. take k shares ++ l) (append-nil new) in
      let fits : length (take k shares ++ new) ≡ length xs =
      omega (arith, length-append (take k shares) new, length-take-le k shares f.within, long, ap length whole, length-drop k shares, ap length same, f.within) in
      ap (refill (length xs) xs) written ∙ items-with_items {T = ℕ} (record { items = xs }) (take k shares ++ new) fits
      ∙ ap (λ l. l ++ new) f.better ∙ ap (λ l. bs ++ l) (e ∙ ap (λ l. gifts l r) (whole ∙ f.level) ∙ ap (gifts (row c p os)) rest)

  pub ahead_sum : (os : List Order) → sum (map (λ o. o.«open») (those (λ o. better c o.price p) (book c os))) ≡ ahead c p os
  ahead_sum os =
      total_sum_by (λ n. n) (map (λ o. o.«open») (those (λ o. better c o.price p) (book c os)))
      ∙ sym (total_those (λ o. better c o.price p) (λ o. o.«open») (book c os)) ∙ ahead_book c p os

  pub depth_sum : (os : List Order) → sum (map (λ o. o.«open») (those (λ o. as_good c o.price p) (book c os))) ≡ depth c p os
  depth_sum os =
      total_sum_by (λ n. n) (map (λ o. o.«open») (those (λ o. as_good c o.price p) (book c os)))
      ∙ sym (total_those (λ o. as_good c o.price p) (λ o. o.«open») (book c os)) ∙ depth_book c p os

-- one order ----------------------------------------------------------------------------------------------------------------
pub where_out : (m : ℕ) (w : Place) → is_book w ≡ false → is_book (where_with m w) ≡ false
where_out m w e = go (eqb m 0)
  where
    go : (b : Bool) → is_book (cond b Nowhere w) ≡ false
    go true = refl
    go false = e

pub fill_alike : (q : ℕ) (o : Order) → q ≤ o.«open» → Alike o (fill q o)
fill_alike q o h = record { key = refl; sums = λ s. record { whole = omega (arith, s.whole); most = s.most } }

-- an order that is not on the book
fill_off : (c : Side) (p q : ℕ) (o : Order) → is_book o.place ≡ false → Leaves c p o (fill q o)
fill_off c p q o e = record {
  key = refl;
  side = refl;
  out = where_out (o.«open» - q) o.place;
  far = λ f h. absurd (both_ways (rests_on c o) (and_left (is_book o.place) (same_side o.side c) e) h);
}

-- one that the deal reaches is priced p or better
fill_near : (c : Side) (p q : ℕ) (o : Order) → (as_good c o.price p ≡ false → ⊥) → Leaves c p o (fill q o)
fill_near c p q o n = record { key = refl; side = refl; out = where_out (o.«open» - q) o.place; far = λ f h. absurd (n f) }

leaves_trans : (c : Side) (p : ℕ) (o u v : Order) → Leaves c p o u → Leaves c p u v → Leaves c p o v
leaves_trans c p o u v a b = record {
  key = b.key ∙ a.key;
  side = b.side ∙ a.side;
  out = λ e. b.out (a.out e);
  far = λ e h. b.far (ap (λ (k : Key). as_good c k.price p) a.key ∙ e) (a.far e h);
}

-- the deal -----------------------------------------------------------------------------------------------------------------
dealt_leaves : (c : Side) (p : ℕ) (gs : List ℕ) (o : Order) → Leaves c p o (dealt (is_better c p o) (is_at c p o) gs o)
dealt_leaves c p gs o = go (is_better c p o) refl (is_at c p o) refl
  where
    go : (b : Bool) → is_better c p o ≡ b → (a : Bool) → is_at c p o ≡ a → Leaves c p o (dealt b a gs o)
    go true h a j = fill_near c p o.«open» o (λ f. both_ways (better c o.price p) (better_good c o.price p f) (and_parts (rests_on c o) (better c o.price p) h).1)
    go false h true j = fill_near c p (gift gs) o (λ f. both_ways (eqb o.price p) (level_as_good c o.price p f) (and_parts (rests_on c o) (eqb o.price p) j).1)
    go false h false j = leaves_self c p o

pub deal_leaves : (c : Side) (p : ℕ) (os : List Order) (gs : List ℕ) → AllZip (Leaves c p) os (deal c p os gs)
unfolding deal
deal_leaves c p [] gs = tt
deal_leaves c p (o ∷ os) gs = (dealt_leaves c p gs o, deal_leaves c p os (after (is_at c p o) gs))

dealt_alike : (b a : Bool) (gs : List ℕ) (o : Order) → (a ≡ true → gift gs ≤ o.«open») → Alike o (dealt b a gs o)
dealt_alike true a gs o h = fill_alike o.«open» o (omega arith)
dealt_alike false true gs o h = fill_alike (gift gs) o (h refl)
dealt_alike false false gs o h = alike_self o

pub deal_alike : (c : Side) (p : ℕ) (os : List Order) (gs : List ℕ) → AllZip (λ g n. g ≤ n) gs (row c p os) → AllZip Alike os (deal c p os gs)
unfolding deal row
deal_alike c p [] gs f = tt
deal_alike c p (o ∷ os) gs f = go (is_better c p o) (is_at c p o) gs f (deal_alike c p os)
  where
    go : (b a : Bool) (gs : List ℕ) → AllZip (λ g n. g ≤ n) gs (map (λ o. o.«open») (kept a o (those (is_at c p) os)))
        → ((gs : List ℕ) → AllZip (λ g n. g ≤ n) gs (map (λ o. o.«open») (those (is_at c p) os)) → AllZip Alike os (deal c p os gs))
        → Alike o (dealt b a gs o) × AllZip Alike os (deal c p os (after a gs))
    go b true [] f ih = absurd f
    go b true (g ∷ gs) f ih = (dealt_alike b true (g ∷ gs) o (λ e. f.0), ih gs f.1)
    go b false gs f ih = (dealt_alike b false gs o (λ e. absurd (false≢true e)), ih gs f)

-- an order that does not rest is not dealt with
pub deal_past : (c : Side) (p : ℕ) (os : List Order) (gs : List ℕ) (i : ℕ) → rests_on c (get_or os i blank) ≡ false → get_or (deal c p os gs) i blank ≡ get_or os i blank
unfolding deal
deal_past c p [] gs i e = refl
deal_past c p (o ∷ os) gs zero e = ap (λ b. dealt b (is_at c p o) gs o) (and_left (rests_on c o) _ e) ∙ ap (λ b. dealt false b gs o) (and_left (rests_on c o) _ e)
deal_past c p (o ∷ os) gs (suc i) e = deal_past c p os (after (is_at c p o) gs) i e

-- the print ----------------------------------------------------------------------------------------------------------------
record Print (c : Side) (p : ℕ) (os : List Order) (gs : List ℕ) (n q : ℕ) : Type 0 where
  pub sound : Sound os
  pub low : 1 ≤ n
  pub high : n ≤ length os
  pub off : is_book (get_or os (n - 1) blank).place ≡ false
  pub fits : AllZip (λ g n. g ≤ n) gs (row c p os)
  pub enough : q ≤ (get_or os (n - 1) blank).«open»

module _ {c : Side} {p : ℕ} {os : List Order} {gs : List ℕ} {n q : ℕ} (t : Print c p os gs n q) where
  alike : AllZip Alike os (deal c p os gs)
  alike = deal_alike c p os gs t.fits

  sound' : Sound (deal c p os gs)
  sound' = sound_alike os (deal c p os gs) alike t.sound

  long : length (deal c p os gs) ≡ length os
  long = sym (length_all_zip Alike os (deal c p os gs) alike)

  runner : get_or (deal c p os gs) (n - 1) blank ≡ get_or os (n - 1) blank
  runner = deal_past c p os gs (n - 1) (and_left (is_book (get_or os (n - 1) blank).place) (same_side (get_or os (n - 1) blank).side c) t.off)

  is_set : alter n (fill q) (deal c p os gs) ≡ set (deal c p os gs) (n - 1) (fill q (get_or os (n - 1) blank))
  is_set = alter_at sound' n (fill q) t.low (omega (arith, long, t.high)) ∙ ap (λ o. set (deal c p os gs) (n - 1) (fill q o)) runner

  -- the fill of the order that trades may be done
  printed : does_at (Fill q) (n - 1) (deal c p os gs) ≡ alter n (fill q) (deal c p os gs)
  printed = fill_set n q (get_or os (n - 1) blank) (deal c p os gs) (omega (arith, long, t.low, t.high)) runner (sums_at t.sound n t.low t.high) t.enough ∙ sym is_set

  printed_alike : AllZip Alike os (alter n (fill q) (deal c p os gs))
  printed_alike =
      each_trans Alike alike_trans os (deal c p os gs) (alter n (fill q) (deal c p os gs)) alike
      (subst (AllZip Alike (deal c p os gs)) (sym is_set) (each_set Alike alike_self (deal c p os gs) (n - 1) (fill q (get_or os (n - 1) blank))
      (subst (λ o. Alike o (fill q (get_or os (n - 1) blank))) (sym runner) (fill_alike q (get_or os (n - 1) blank) t.enough))))

  printed_leaves : AllZip (Leaves c p) os (alter n (fill q) (deal c p os gs))
  printed_leaves =
      each_trans (Leaves c p) (leaves_trans c p) os (deal c p os gs) (alter n (fill q) (deal c p os gs)) (deal_leaves c p os gs)
      (subst (AllZip (Leaves c p) (deal c p os gs)) (sym is_set) (each_set (Leaves c p) (leaves_self c p) (deal c p os gs) (n - 1) (fill q (get_or os (n - 1) blank))
      (subst (λ o. Leaves c p o (fill q (get_or os (n - 1) blank))) (sym runner) (fill_off c p q (get_or os (n - 1) blank) t.off))))

  printed_sound : Sound (alter n (fill q) (deal c p os gs))
  printed_sound = sound_alike os (alter n (fill q) (deal c p os gs)) printed_alike t.sound

  -- the table after one pass over it
  table_kept : {S : Type 0} (us : List Order) (rows rows' : List (Resting S)) → us ≡ alter n (fill q) (deal c p os gs) → Tied c os (keys rows) → rows' ≡ filter (stays c p us) rows → Tied c us (keys rows')
  table_kept us rows rows' e d k = tied_kept c p os us rows rows' (subst Sound (sym e) printed_sound) (subst (AllZip (Leaves c p) os) (sym e) printed_leaves) d k

-- order n trades with the orders of a table
module _ {S : Type 0} {gifts : Rule} (lawful : LawfulRule gifts) {n : ℕ} (c : Side) (p : ℕ) {os : List Order} (t : List (Resting S)) (tied : Tied c os (keys t)) (w : (1 ≤ n) × (n ≤ length os))
    (off : is_book (get_or os (n - 1) blank).place ≡ false) {q : ℕ} (open_shares : q ≡ min (get_or os (n - 1) blank).«open» (depth c p os)) {vs us : List Order} (dealt : vs ≡ each_filled t (given gifts q c p os) os) (filled : us ≡ does_at (Fill q) (n - 1) vs) where
  pub shares : q ≡ size n c p os
  unfolding size
  shares = open_shares ∙ ap (λ x. min x (depth c p os)) (sym (left_at tied.sound n w.0 w.1))

  print : Print c p os (gifts (row c p os) (q - ahead c p os)) n q
  print = record {
    sound = tied.sound;
    low = w.0;
    high = w.1;
    off = off;
    fits = lawful.within (row c p os) (q - ahead c p os);
    enough = omega (arith, open_shares);
  }

  done : us ≡ alter n (fill q) (deal c p os (gifts (row c p os) (q - ahead c p os)))
  done =
      filled
      ∙ ap (does_at (Fill q) (n - 1)) (dealt ∙ table_dealt c p t (gifts (row c p os) (q - ahead c p os)) os tied (lawful.within (row c p os) (q - ahead c p os)))
      ∙ printed print

  pub print_done : us ≡ traded gifts n c p os
  print_done = done ∙ ap (λ x. alter n (fill x) (deal c p os (gifts (row c p os) (x - ahead c p os)))) shares

  pub print_tied : (t' : List (Resting S)) → t' ≡ filter (stays c p us) t → Tied c us (keys t')
  print_tied t' e = table_kept print us t t' done tied e
