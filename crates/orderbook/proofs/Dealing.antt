-- A print dealt out through the table, one row after the other, and over the roll: the same.
use Rattle.std.proofs.Common.{◌≡◌, ℕ, zero, suc, ◌+◌, ◌-◌, ◌<◌, ◌≤◌, Bool, true, false, cond, ◌&&◌, eqb, ◌⊎◌, List, [], ◌∷◌, ◌++◌, map, length, get_or, drop, set, sym, refl, ap, ◌∙◌, subst, ⊎_elim, arith}
use Rattle.std.specs.List.{AllZip, AllByRecursion}
use Rattle.std.proofs.ByRecursion.{All-weaker}
use Rattle.std.proofs.lemmas.List.{length-set, get_or-set_other}
use Rattle.std.proofs.lemmas.Bool.{both_ways, eq-eqb, ne_eqb, lt-ltb, le-leb, and_from}
use Rattle.std.proofs.lemmas.Bool.Decides.{nat_tests}
use Rattle.market.specs.declared.words.Side.{Side}
use Rattle.market.specs.declared.words.Side.TheVariants.{Buy, Sell}
use Rattle.market.specs.declared.words.Order.{Order}
use Rattle.market.specs.declared.side.Resting.{Resting}
use Rattle.market.specs.declared.change.Change.TheVariants.{Fill}
use Rattle.market.specs.Files.{filed}
use Rattle.market.specs.Sides.{better, as_good}
use Rattle.market.specs.Orders.{rests_on, can_fill, adds_up, fill}
use Rattle.market.specs.Changes.{blank, does_at}
use Rattle.replay.specs.Lists.{kept, those}
use Rattle.replay.specs.Rolls.{alter, here}
use Rattle.replay.specs.Book.{row}
use Rattle.replay.specs.Moves.{gift, after, dealt, deal}
use Rattle.replay.specs.RollHolds.{Numbered}
use Rattle.orderbook.specs.Sorted.{Key, precedes, key_of, before, rested, book, Sums, Sound, Tied}
use Rattle.orderbook.specs.Tables.{keys}
use Rattle.orderbook.proofs.Sorting.{better_good, better_level, not_better_stays, none_those, Sorted, sorted_book, all_book, all_read, above_book, Read, level_apart, level_as_good, row_book, behind}
use Rattle.orderbook.proofs.Lookup.{alter_from}

-- prices -----------------------------------------------------------------------------------------------------------------
good_level : (c : Side) (x p : ℕ) → as_good c x p ≡ true → better c x p ≡ false → eqb x p ≡ true
good_level Buy x p h e = grind (arith, nat_tests)
good_level Sell x p h e = grind (arith, nat_tests)

apart_self : (c : Side) (a b : Key) → precedes c a b ≡ true → a ≡ b → ⊥
apart_self c a b h e = both_ways (precedes c a a) (same c a) (subst (λ x. precedes c a x ≡ true) (sym e) h)
  where
    same : (c : Side) (a : Key) → precedes c a a ≡ false
    same Buy a = grind (arith, nat_tests)
    same Sell a = grind (arith, nat_tests)

-- through the table --------------------------------------------------------------------------------------------------------
-- the orders of t in turn: whole if the price is better, by the next gift if it is p
unfoldable pub applied : Side → ℕ → List Order → List ℕ → List Order → List Order
applied c p [] gs os = os
applied c p (x ∷ t) gs os = applied c p t (after (eqb x.price p) gs) (alter x.number (dealt (better c x.price p) (eqb x.price p) gs) os)

dealt_number : (b a : Bool) (gs : List ℕ) (o : Order) → (dealt b a gs o).number ≡ o.number
dealt_number true a gs o = refl
dealt_number false true gs o = refl
dealt_number false false gs o = refl

alter_past : (n : ℕ) (f : Order → Order) (u : Order) (os : List Order) → suc u.number ≤ n → alter n f (u ∷ os) ≡ u ∷ alter n f os
unfolding alter
alter_past n f u os h = ap (λ b. here b f u os (alter n f os)) (ne_eqb u.number n (λ e. omega (arith, e)))

alter_first : (n : ℕ) (f : Order → Order) (u : Order) (os : List Order) → u.number ≡ n → alter n f (u ∷ os) ≡ f u ∷ os
unfolding alter
alter_first n f u os e = ap (λ b. here b f u os (alter n f os)) (eq-eqb u.number n e)

alter_same : (n : ℕ) (f : Order → Order) (os : List Order) → ((o : Order) → f o ≡ o) → alter n f os ≡ os
unfolding alter
alter_same n f [] e = refl
alter_same n f (o ∷ os) e = go (eqb o.number n) (alter_same n f os e)
  where
    go : (b : Bool) → alter n f os ≡ os → here b f o os (alter n f os) ≡ o ∷ os
    go true ih = ap (λ u. u ∷ os) (e o)
    go false ih = ap (λ l. o ∷ l) ih

-- an order with a lower number than all of t stays as it is
applied_past : (c : Side) (p : ℕ) (t : List Order) (gs : List ℕ) (u : Order) (os : List Order) → AllByRecursion (λ x. suc u.number ≤ x.number) t → applied c p t gs (u ∷ os) ≡ u ∷ applied c p t gs os
unfolding applied
applied_past c p [] gs u os a = refl
applied_past c p (x ∷ t) gs u os a =
    ap (applied c p t (after (eqb x.price p) gs)) (alter_past x.number (dealt (better c x.price p) (eqb x.price p) gs) u os a.0)
    ∙ applied_past c p t (after (eqb x.price p) gs) u (alter x.number (dealt (better c x.price p) (eqb x.price p) gs) os) a.1

-- an order filed among those with higher numbers takes the first gift
applied_filed : (c : Side) (p : ℕ) (o : Order) (t : List Order) (gs : List ℕ) (os : List Order) → AllByRecursion (λ x. suc o.number ≤ x.number) t
    → applied c p (filed (before c) o t) gs (o ∷ os) ≡ dealt (better c o.price p) (eqb o.price p) gs o ∷ applied c p t (after (eqb o.price p) gs) os
unfolding applied
applied_filed c p o [] gs os a = alter_first o.number (dealt (better c o.price p) (eqb o.price p) gs) o os refl
applied_filed c p o (y ∷ ys) gs os a = go (before c o y) refl (applied_filed c p o ys (after (eqb y.price p) gs) (alter y.number (dealt (better c y.price p) (eqb y.price p) gs) os) a.1)
  where
    bo : Bool
    bo = better c o.price p

    by : Bool
    by = better c y.price p

    swap : (e d : Bool) → (e ≡ true → d ≡ false) → (gs : List ℕ) → (b b' : Bool)
        → dealt b e (after d gs) o ∷ applied c p ys (after e (after d gs)) (alter y.number (dealt b' d gs) os)
        ≡ dealt b e gs o ∷ applied c p ys (after d (after e gs)) (alter y.number (dealt b' d (after e gs)) os)
    swap true true k gs b b' = absurd (both_ways true (k refl) refl)
    swap true false k gs b true = refl
    swap true false k gs b false = refl
    swap false d k gs true b' = refl
    swap false d k gs false b' = refl

    go : (h : Bool) → before c o y ≡ h
        → applied c p (filed (before c) o ys) (after (eqb y.price p) gs) (o ∷ alter y.number (dealt by (eqb y.price p) gs) os)
        ≡ dealt bo (eqb o.price p) (after (eqb y.price p) gs) o ∷ applied c p ys (after (eqb o.price p) (after (eqb y.price p) gs)) (alter y.number (dealt by (eqb y.price p) gs) os)
        → applied c p (cond h (o ∷ y ∷ ys) (y ∷ filed (before c) o ys)) gs (o ∷ os) ≡ dealt bo (eqb o.price p) gs o ∷ applied c p (y ∷ ys) (after (eqb o.price p) gs) os
    go true h ih =
        ap (applied c p (y ∷ ys) (after (eqb o.price p) gs)) (alter_first o.number (dealt bo (eqb o.price p) gs) o os refl)
        ∙ applied_past c p (y ∷ ys) (after (eqb o.price p) gs) (dealt bo (eqb o.price p) gs o) os
        (subst (λ n. AllByRecursion (λ x. suc n ≤ x.number) (y ∷ ys)) (sym (dealt_number bo (eqb o.price p) gs o)) a)
    go false h ih =
        ap (applied c p (filed (before c) o ys) (after (eqb y.price p) gs)) (alter_past y.number (dealt by (eqb y.price p) gs) o os a.0)
        ∙ ih
        ∙ swap (eqb o.price p) (eqb y.price p) (level_apart c (key_of o) (key_of y) p a.0 h) gs bo by

pub applied_book : (c : Side) (p k : ℕ) (os : List Order) (gs : List ℕ) → Numbered k os → applied c p (book c os) gs os ≡ deal c p os gs
unfolding book deal applied
applied_book c p k [] gs h = refl
applied_book c p k (o ∷ os) gs h = go (rests_on c o) (λ gs. applied_book c p (suc k) os gs h.1)
  where
    low : AllByRecursion (λ u. suc o.number ≤ u.number) (book c os)
    low = subst (λ m. AllByRecursion (λ u. suc m ≤ u.number) (book c os)) (sym h.0) (above_book c (suc k) os h.1)

    go : (b : Bool) → ((gs : List ℕ) → applied c p (book c os) gs os ≡ deal c p os gs)
        → applied c p (rested c b o (book c os)) gs (o ∷ os) ≡ dealt (b && better c o.price p) (b && eqb o.price p) gs o ∷ deal c p os (after (b && eqb o.price p) gs)
    go true ih = applied_filed c p o (book c os) gs os low ∙ ap (λ l. dealt (better c o.price p) (eqb o.price p) gs o ∷ l) (ih (after (eqb o.price p) gs))
    go false ih = applied_past c p (book c os) gs o os low ∙ ap (λ l. o ∷ l) (ih gs)

-- behind the price nothing is done
applied_none : (c : Side) (p : ℕ) (t : List Order) (gs : List ℕ) (os : List Order) → AllByRecursion (λ x. as_good c x.price p ≡ false) t → applied c p t gs os ≡ os
unfolding applied
applied_none c p [] gs os a = refl
applied_none c p (x ∷ t) gs os a =
    ap (λ b. applied c p t (after (eqb x.price p) gs) (alter x.number (dealt b (eqb x.price p) gs) os)) (better_good c x.price p a.0)
    ∙ ap (λ b. applied c p t (after b gs) (alter x.number (dealt false b gs) os)) (level_as_good c x.price p a.0)
    ∙ ap (applied c p t gs) (alter_same x.number (dealt false false gs) os (λ o. refl))
    ∙ applied_none c p t gs os a.1

-- the loop -----------------------------------------------------------------------------------------------------------------
-- the orders of t have yet to be dealt with, and are as they were
pub record Dealing (c : Side) (p : ℕ) (t : List Order) (gs : List ℕ) (os whole : List Order) : Type 0 where
  pub same : applied c p t gs os ≡ whole
  pub ordered : Sorted (before c) t
  pub reads : AllByRecursion (Read 1 os) t
  pub sums : AllByRecursion Sums t
  pub fits : AllZip (λ g n. g ≤ n) gs (map (λ o. o.«open») (those (λ o. eqb o.price p) t))
  pub numbered : Numbered 1 os

dealing : (c : Side) (p : ℕ) (os : List Order) (gs : List ℕ) → Sound os → AllZip (λ g n. g ≤ n) gs (row c p os) → Dealing c p (book c os) gs os (deal c p os gs)
dealing c p os gs s f = record {
  same = applied_book c p 1 os gs s.numbered;
  ordered = sorted_book c 1 os s.numbered;
  reads = all_book (Read 1 os) c os (all_read 1 os s.numbered);
  sums = all_book Sums c os s.sums;
  fits = subst (AllZip (λ g n. g ≤ n) gs) (sym (row_book c p os s.numbered)) f;
  numbered = s.numbered;
}

can_fill_lem : (q : ℕ) (x : Order) → Sums x → q ≤ x.«open» → can_fill q x ≡ true
can_fill_lem q x s h = and_from _ (adds_up x) (le-leb q x.«open» h) (eq-eqb (x.filled + x.cancelled + x.«open») x.accepted s.whole)

numbered_set : (k : ℕ) (os : List Order) (i : ℕ) (v : Order) → Numbered k os → v.number ≡ (get_or os i blank).number → Numbered k (set os i v)
numbered_set k [] i v h e = tt
numbered_set k (o ∷ os) zero v h e = (e ∙ h.0, h.1)
numbered_set k (o ∷ os) (suc i) v h e = (h.0, numbered_set (suc k) os i v h.1 e)

-- the roll after the fill of an order that is as it was
pub fill_set : (n q : ℕ) (x : Order) (os : List Order) → n - 1 < length os → get_or os (n - 1) blank ≡ x → Sums x → q ≤ x.«open» → does_at (Fill q) (n - 1) os ≡ set os (n - 1) (fill q x)
fill_set n q x os h e s m =
    ap (λ b. cond b (set os (n - 1) (cond (can_fill q (get_or os (n - 1) blank)) (fill q (get_or os (n - 1) blank)) (get_or os (n - 1) blank))) os) (lt-ltb (n - 1) (length os) h)
    ∙ ap (λ o. set os (n - 1) (cond (can_fill q o) (fill q o) o)) e
    ∙ ap (λ b. set os (n - 1) (cond b (fill q x) x)) (can_fill_lem q x s m)

module _ {c : Side} {p : ℕ} {x : Order} {t : List Order} {gs : List ℕ} {os whole : List Order} (d : Dealing c p (x ∷ t) gs os whole) where
  there : x.number - 1 < length os
  there = let r = d.reads.0 in omega (arith, r.low, r.high)

  -- the rest are other orders
  others : (v : Order) (y : Order) → before c x y ≡ true → Read 1 os y → Read 1 (set os (x.number - 1) v) y
  others v y h r =
      let apart : x.number - 1 ≡ y.number - 1 → ⊥ =
      (λ e. apart_self c (key_of x) (key_of y) h (ap key_of (sym d.reads.0.is ∙ ap (λ i. get_or os i blank) e ∙ r.is))) in
      record {
        low = r.low;
        high = omega (arith, r.high, length-set os (x.number - 1) v);
        is = get_or-set_other os (x.number - 1) (y.number - 1) v blank (λ e. apart (sym e)) ∙ r.is;
      }

  reads_on : (v : Order) (ys : List Order) → AllByRecursion (λ y. before c x y ≡ true) ys → AllByRecursion (Read 1 os) ys → AllByRecursion (Read 1 (set os (x.number - 1) v)) ys
  reads_on v [] a b = tt
  reads_on v (y ∷ ys) a b = (others v y a.0 b.0, reads_on v ys a.1 b.1)

  -- the next order is filled by q
  step : (q : ℕ) (gs' : List ℕ) (us : List Order) → q ≤ x.«open» → dealt (better c x.price p) (eqb x.price p) gs x ≡ fill q x → after (eqb x.price p) gs ≡ gs'
      → AllZip (λ g n. g ≤ n) gs' (map (λ o. o.«open») (those (λ o. eqb o.price p) t)) → us ≡ does_at (Fill q) (x.number - 1) os → Dealing c p t gs' us whole
  unfolding applied
  step q gs' us m e f z i =
      let r = d.reads.0 in
      let set_is : us ≡ set os (x.number - 1) (fill q x) = i ∙ fill_set x.number q x os there r.is d.sums.0 m in
      let altered : us ≡ alter x.number (dealt (better c x.price p) (eqb x.price p) gs) os =
      set_is ∙ ap (set os (x.number - 1)) (sym e ∙ ap (dealt (better c x.price p) (eqb x.price p) gs) (sym r.is))
      ∙ sym (alter_from (dealt (better c x.price p) (eqb x.price p) gs) x.number 1 os d.numbered r.low r.high) in
      record {
        same = ap (applied c p t gs') altered ∙ ap (λ l. applied c p t l (alter x.number (dealt (better c x.price p) (eqb x.price p) gs) os)) (sym f) ∙ d.same;
        ordered = d.ordered.1;
        reads = subst (λ l. AllByRecursion (Read 1 l) t) (sym set_is) (reads_on (fill q x) t d.ordered.0 d.reads.1);
        sums = d.sums.1;
        fits = z;
        numbered = subst (Numbered 1) (sym set_is) (numbered_set 1 os (x.number - 1) (fill q x) d.numbered (ap (λ o. o.number) (sym r.is)));
      }

  row_is : (a : Bool) → eqb x.price p ≡ a → AllZip (λ g n. g ≤ n) gs (map (λ o. o.«open») (kept a x (those (λ o. eqb o.price p) t)))
  row_is a e = subst (λ b. AllZip (λ g n. g ≤ n) gs (map (λ o. o.«open») (kept b x (those (λ o. eqb o.price p) t)))) e d.fits

  deal_better : (us : List Order) (q : ℕ) → better c x.price p ≡ true → q ≡ x.«open» → us ≡ does_at (Fill q) (x.number - 1) os → Dealing c p t gs us whole
  deal_better us q h e i =
      let off : eqb x.price p ≡ false = better_level c x.price p h in
      step q gs us (omega (arith, e)) (ap (λ b. dealt b (eqb x.price p) gs x) h ∙ ap (λ n. fill n x) (sym e)) (ap (λ b. after b gs) off) (row_is false off) i

  deal_at : (us : List Order) (g : ℕ) (gs' : List ℕ) → better c x.price p ≡ false → eqb x.price p ≡ true → gs ≡ g ∷ gs' → us ≡ does_at (Fill g) (x.number - 1) os → Dealing c p t gs' us whole
  deal_at us g gs' h j e i =
      let z : AllZip (λ g n. g ≤ n) (g ∷ gs') (x.«open» ∷ map (λ o. o.«open») (those (λ o. eqb o.price p) t)) =
      subst (λ l. AllZip (λ g n. g ≤ n) l (x.«open» ∷ map (λ o. o.«open») (those (λ o. eqb o.price p) t))) e (row_is true j) in
      step g gs' us z.0
      (ap (λ b. dealt b (eqb x.price p) gs x) h ∙ ap (λ b. dealt false b gs x) j ∙ ap (λ l. fill (gift l) x) e)
      (ap (λ b. after b gs) j ∙ ap (after true) e) z.1 i

  no_gifts : gs ≡ [] → as_good c x.price p ≡ true → better c x.price p ≡ false → ⊥
  no_gifts e h n =
      subst (λ l. AllZip (λ g n. g ≤ n) l (x.«open» ∷ map (λ o. o.«open») (those (λ o. eqb o.price p) t))) e (row_is true (good_level c x.price p h n))

  gift_unasked : (g : ℕ) (gs' : List ℕ) → gs ≡ g ∷ gs' → as_good c x.price p ≡ false → ⊥
  gift_unasked g gs' e h =
      let none : those (λ o. eqb o.price p) (x ∷ t) ≡ [] =
      none_those (λ o. eqb o.price p) (x ∷ t) (All-weaker (λ o. as_good c o.price p ≡ false) (λ o. eqb o.price p ≡ false) (λ o. level_as_good c o.price p) (x ∷ t) (behind c p x t d.ordered h)) in
      subst (λ l. AllZip (λ g n. g ≤ n) l []) e (subst (λ l. AllZip (λ g n. g ≤ n) gs (map (λ o. o.«open») l)) none d.fits)

  deal_stop : as_good c x.price p ≡ false → os ≡ whole
  deal_stop e = sym (applied_none c p (x ∷ t) gs os (behind c p x t d.ordered e)) ∙ d.same

-- row by row ---------------------------------------------------------------------------------------------------------------
-- the orders of some rows are filled in turn, as far as there are shares for them
abbrev pub each_filled : {S : Type 0} → List (Resting S) → List ℕ → List Order → List Order
each_filled [] qs os = os
each_filled (e ∷ es) [] os = os
each_filled (e ∷ es) (q ∷ qs) os = each_filled es qs (does_at (Fill q) (e.number - 1) os)

-- no row is left, or no shares
pub each_done : {S : Type 0} (es : List (Resting S)) (qs : List ℕ) (os : List Order) → (length es ≡ 0) ⊎ (length qs ≡ 0) → os ≡ each_filled es qs os
each_done [] qs os h = refl
each_done (e ∷ es) [] os h = refl
each_done (e ∷ es) (q ∷ qs) os h = ⊎_elim (λ (e : suc (length es) ≡ 0). absurd (omega arith)) (λ (e : suc (length qs) ≡ 0). absurd (omega arith)) h

-- what is so of the rows behind
abbrev Behind : {S : Type 0} → Side → ℕ → List (Resting S) → List Order → List Order → Type 0
Behind c p es t whole = (gs : List ℕ) (us : List Order) → Dealing c p t gs us whole → each_filled es (map (λ o. o.«open») (those (λ o. better c o.price p) t) ++ gs) us ≡ whole

dealt_each : {S : Type 0} (c : Side) (p : ℕ) (es : List (Resting S)) (t : List Order) (gs : List ℕ) (os whole : List Order) → keys es ≡ map key_of t → Dealing c p t gs os whole
    → each_filled es (map (λ o. o.«open») (those (λ o. better c o.price p) t) ++ gs) os ≡ whole
unfolding applied
dealt_each c p [] [] gs os whole k d = d.same
dealt_each c p [] (x ∷ t) gs os whole k d = absurd (let z : ◌≡◌ {A = ℕ} 0 1 = omega (arith, ap length k) in omega arith)
dealt_each c p (e ∷ es) [] gs os whole k d = absurd (let z : ◌≡◌ {A = ℕ} 0 1 = omega (arith, ap length k) in omega arith)
dealt_each {S} c p (e ∷ es) (x ∷ t) gs os whole k d = go (better c x.price p) refl (λ gs' us. dealt_each c p es t gs' us whole (ap (drop 1) k))
  where
    number : e.number ≡ x.number
    number = ap number_of k
      where
        number_of : List Key → ℕ
        number_of [] = 0
        number_of (k ∷ ks) = k.number

    filled : (q : ℕ) → does_at (Fill q) (e.number - 1) os ≡ does_at (Fill q) (x.number - 1) os
    filled q = ap (λ n. does_at (Fill q) (n - 1) os) number

    behind_better : better c x.price p ≡ false → those (λ o. better c o.price p) t ≡ []
    behind_better h = none_those (λ o. better c o.price p) t (All-weaker (λ u. before c x u ≡ true) (λ u. better c u.price p ≡ false) (λ u b. not_better_stays c (key_of x) (key_of u) p b h) t d.ordered.0)

    stopped : better c x.price p ≡ false → (gs' : List ℕ) → gs ≡ gs' → (b : Bool) → as_good c x.price p ≡ b → Behind c p es t whole → each_filled (e ∷ es) gs' os ≡ whole
    stopped h [] i true j ih = absurd (no_gifts d i j h)
    stopped h [] i false j ih = deal_stop d j
    stopped h (g ∷ gs') i false j ih = absurd (gift_unasked d g gs' i j)
    stopped h (g ∷ gs') i true j ih =
        ap (λ l. each_filled es (map (λ o. o.«open») l ++ gs') (does_at (Fill g) (e.number - 1) os)) (sym (behind_better h))
        ∙ ih gs' (does_at (Fill g) (e.number - 1) os) (deal_at d (does_at (Fill g) (e.number - 1) os) g gs' h (good_level c x.price p j h) i (filled g))

    go : (b : Bool) → better c x.price p ≡ b → Behind c p es t whole → each_filled (e ∷ es) (map (λ o. o.«open») (kept b x (those (λ o. better c o.price p) t)) ++ gs) os ≡ whole
    go true h ih = ih gs (does_at (Fill x.«open») (e.number - 1) os) (deal_better d (does_at (Fill x.«open») (e.number - 1) os) x.«open» h refl (filled x.«open»))
    go false h ih = ap (λ l. each_filled (e ∷ es) (map (λ o. o.«open») l ++ gs) os) (behind_better h) ∙ stopped h gs refl (as_good c x.price p) refl ih

-- the rows of a table
pub table_dealt : {S : Type 0} (c : Side) (p : ℕ) (es : List (Resting S)) (gs : List ℕ) (os : List Order) → Tied c os (keys es) → AllZip (λ g n. g ≤ n) gs (row c p os)
    → each_filled es (map (λ o. o.«open») (those (λ o. better c o.price p) (book c os)) ++ gs) os ≡ deal c p os gs
table_dealt c p es gs os k f = dealt_each c p es (book c os) gs os (deal c p os gs) k.shows (dealing c p os gs k.sound f)
