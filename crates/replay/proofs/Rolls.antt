-- Laws of the roll: what looking up, altering and filling do to sums and to what holds of every order.
use Rattle.std.proofs.Common.{◌≡◌, ℕ, suc, ◌+◌, ◌-◌, ◌%◌, ◌≤◌, Bool, true, false, cond, ◌&&◌, ◌||◌, eqb, List, [], ◌∷◌, map, length, Some, None, Option, sym, refl, ap, ◌∙◌, arith}
use Rattle.std.proofs.lemmas.Bool.{ne_eqb, false≢true, and_parts, eqb-true, ltb-true, eqb-false}
use Rattle.std.proofs.lemmas.Bool.Decides.{nat_tests}
use Rattle.std.specs.List.{AllZip, AllByRecursion}
use Rattle.market.specs.declared.words.Side.{Side}
use Rattle.market.specs.declared.words.Side.TheVariants.{Buy, Sell}
use Rattle.market.specs.declared.words.Place.{Place}
use Rattle.market.specs.declared.words.Place.TheVariants.{Book, Line, StopFile, Nowhere}
use Rattle.market.specs.declared.words.Order.{Order}
use Rattle.market.specs.Sides.{better, as_good, same_side}
use Rattle.market.specs.Orders.{rests_on, is_book, where_with, fill, cancel}
use Rattle.replay.specs.Lists.{only, total, those, kept, any}
use Rattle.replay.specs.Rolls.{look, found, alter, here}
use Rattle.replay.specs.Book.{is_better, is_at, is_up_to, ahead, depth, row}
use Rattle.replay.specs.Moves.{gift, after, deal, dealt}
use Rattle.replay.specs.SharesAddUp.{filled_on}
use Rattle.replay.proofs.Sharing.{LawfulShares, Gift}

-- the shares of an order add up, and are a multiple of 100; an order has a place while shares are open
abbrev pub Held : Place → ℕ → Type 0
Held Book n = 100 ≤ n
Held Line n = 100 ≤ n
Held StopFile n = 100 ≤ n
Held Nowhere n = n ≡ 0

pub record Good (o : Order) : Type 0 where
  pub sum : o.accepted ≡ o.filled + o.cancelled + o.«open»
  pub whole : o.«open» % 100 ≡ 0
  pub most : o.accepted ≤ 1000000
  pub held : Held o.place o.«open»

-- one order ------------------------------------------------------------------------------------------------------------
spot_held : (w : Place) (m n : ℕ) → Held w n → m ≤ n → m % 100 ≡ 0 → Held (where_with m w) m
spot_held w m n h le e = go (eqb m 0) refl
  where
    some : (w : Place) → Held w n → (m ≡ 0 → ⊥) → Held w m
    some Book h k = omega arith
    some Line h k = omega arith
    some StopFile h k = omega arith
    some Nowhere h k = omega arith

    go : (b : Bool) → eqb m 0 ≡ b → Held (cond b Nowhere w) m
    go true t = eqb-true m 0 t
    go false t = some w h (eqb-false m 0 t)

pub good_fill : (q : ℕ) (o : Order) → Good o → q ≤ o.«open» → q % 100 ≡ 0 → Good (fill q o)
good_fill q o g le e = record {
  sum = omega (arith, g.sum);
  whole = omega (arith, g.whole);
  most = g.most;
  held = spot_held o.place (o.«open» - q) o.«open» g.held (omega arith) (omega (arith, g.whole));
}

pub good_cancel : (o : Order) → Good o → Good (cancel o)
good_cancel o g = record { sum = omega (arith, g.sum); whole = refl; most = g.most; held = refl }

-- looking up and altering ------------------------------------------------------------------------------------------------
abbrev pub val : (Order → ℕ) → Option Order → ℕ
val g None = 0
val g (Some o) = g o

pub total_alter : (g : Order → ℕ) (n : ℕ) (f : Order → Order) (os : List Order)
    → total g (alter n f os) + val g (look n os) ≡ total g os + val (λ o. g (f o)) (look n os)
unfolding alter look
total_alter g n f [] = refl
total_alter g n f (o ∷ os) = go (eqb o.number n) (total_alter g n f os)
  where
    go : (b : Bool) → total g (alter n f os) + val g (look n os) ≡ total g os + val (λ o. g (f o)) (look n os)
        → total g (here b f o os (alter n f os)) + val g (found b o (look n os)) ≡ (g o + total g os) + val (λ o. g (f o)) (found b o (look n os))
    go true ih = omega arith
    go false ih = omega arith

pub all_alter : (Q : Order → Type 0) (n : ℕ) (f : Order → Order) (os : List Order)
    → ((o : Order) → look n os ≡ Some o → Q o → Q (f o)) → AllByRecursion Q os → AllByRecursion Q (alter n f os)
unfolding alter look
all_alter Q n f [] h a = tt
all_alter Q n f (o ∷ os) h a = go (eqb o.number n) h (λ k. all_alter Q n f os k a.1)
  where
    go : (b : Bool) → ((r : Order) → found b o (look n os) ≡ Some r → Q r → Q (f r))
        → (((r : Order) → look n os ≡ Some r → Q r → Q (f r)) → AllByRecursion Q (alter n f os)) → AllByRecursion Q (here b f o os (alter n f os))
    go true k ih = (k o refl a.0, a.1)
    go false k ih = (a.0, ih k)

-- tests ------------------------------------------------------------------------------------------------------------------
pub only_add : (u : Bool) (x y : ℕ) → only u (x + y) ≡ only u x + only u y
only_add true x y = refl
only_add false x y = refl

pub only_add₃ : (u : Bool) (x y z : ℕ) → only u ((x + y) + z) ≡ only u x + only u (y + z)
only_add₃ true x y z = omega arith
only_add₃ false x y z = refl

pub only_zero : (u : Bool) → only u 0 ≡ 0
only_zero true = refl
only_zero false = refl

book_held : (w : Place) (n : ℕ) → is_book w ≡ true → Held w n → 100 ≤ n
book_held Book n e h = h
book_held Line n e h = absurd (false≢true e)
book_held StopFile n e h = absurd (false≢true e)
book_held Nowhere n e h = absurd (false≢true e)

pub same_side_lem : (s c : Side) → same_side s c ≡ true → s ≡ c
same_side_lem Buy Buy e = refl
same_side_lem Buy Sell e = absurd (false≢true e)
same_side_lem Sell Buy e = absurd (false≢true e)
same_side_lem Sell Sell e = refl

-- better and level exclude one another; one of them is up to
pub apart : (c : Side) (x p : ℕ) → better c x p ≡ true → eqb x p ≡ true → ⊥
apart Buy x p h k = omega (arith, ltb-true p x h, eqb-true x p k)
apart Sell x p h k = omega (arith, ltb-true x p h, eqb-true x p k)

pub is_better_is_at : (c : Side) (p : ℕ) (o : Order) → is_better c p o ≡ true → is_at c p o ≡ true → ⊥
is_better_is_at c p o h k =
    apart c o.price p (and_parts (rests_on c o) (better c o.price p) h).1 (and_parts (rests_on c o) (eqb o.price p) k).1

up_to : (c : Side) (x p n : ℕ) → only (as_good c x p) n ≡ only (better c x p) n + only (eqb x p) n
up_to Buy x p n = grind (arith, nat_tests)
up_to Sell x p n = grind (arith, nat_tests)

up_to_rests_on : (r : Bool) (c : Side) (x p n : ℕ) → only (r && as_good c x p) n ≡ only (r && better c x p) n + only (r && eqb x p) n
up_to_rests_on true c x p n = up_to c x p n
up_to_rests_on false c x p n = refl

-- the book at a price -----------------------------------------------------------------------------------------------------
pub depth_split : (c : Side) (p : ℕ) (os : List Order) → depth c p os ≡ ahead c p os + total (λ n. n) (row c p os)
unfolding depth ahead row
depth_split c p [] = refl
depth_split c p (o ∷ os) = go (is_at c p o) (up_to_rests_on (rests_on c o) c o.price p o.«open») (depth_split c p os)
  where
    go : (a : Bool) → only (is_up_to c p o) o.«open» ≡ only (is_better c p o) o.«open» + only a o.«open»
        → depth c p os ≡ ahead c p os + total (λ n. n) (row c p os)
        → only (is_up_to c p o) o.«open» + depth c p os
        ≡ (only (is_better c p o) o.«open» + ahead c p os) + total (λ n. n) (map (λ o. o.«open») (kept a o (those (is_at c p) os)))
    go true e ih = omega arith
    go false e ih = omega arith

pub row_lawful : (c : Side) (p : ℕ) (os : List Order) → AllByRecursion Good os → AllByRecursion LawfulShares (row c p os)
unfolding row
row_lawful c p [] a = tt
row_lawful c p (o ∷ os) a = go (is_at c p o) refl (row_lawful c p os a.1)
  where
    go : (t : Bool) → is_at c p o ≡ t → AllByRecursion LawfulShares (row c p os) → AllByRecursion LawfulShares (map (λ o. o.«open») (kept t o (those (is_at c p) os)))
    go true e ih =
        let h : 100 ≤ o.«open» = book_held o.place o.«open» (and_parts (is_book o.place) (same_side o.side c) (and_parts (rests_on c o) (eqb o.price p) e).0).0 a.0.held in
        ((a.0.whole, h, omega (arith, a.0.sum, a.0.most)), ih)
    go false e ih = ih

pub row_short : (c : Side) (p : ℕ) (os : List Order) → length (row c p os) ≤ length os
unfolding row
row_short c p [] = omega arith
row_short c p (o ∷ os) = go (is_at c p o) (row_short c p os)
  where
    go : (t : Bool) → length (row c p os) ≤ length os → length (map (λ o. o.«open») (kept t o (those (is_at c p) os))) ≤ suc (length os)
    go true ih = omega arith
    go false ih = omega arith

pub row_some : (c : Side) (p : ℕ) (os : List Order) → any (is_at c p) os ≡ true → 1 ≤ length (row c p os)
unfolding row
row_some c p [] e = absurd (false≢true e)
row_some c p (o ∷ os) e = go (is_at c p o) e (row_some c p os)
  where
    go : (t : Bool) → (t || any (is_at c p) os) ≡ true → (any (is_at c p) os ≡ true → 1 ≤ length (row c p os)) → 1 ≤ length (map (λ o. o.«open») (kept t o (those (is_at c p) os)))
    go true e ih = omega arith
    go false e ih = ih e

only_whole : (t : Bool) (n : ℕ) → n % 100 ≡ 0 → only t n % 100 ≡ 0
only_whole true n e = e
only_whole false n e = refl

pub total_whole : (t : Order → Bool) (os : List Order) → AllByRecursion Good os → total (λ o. only (t o) o.«open») os % 100 ≡ 0
total_whole t [] a = refl
total_whole t (o ∷ os) a = omega (arith, only_whole (t o) o.«open» a.0.whole, total_whole t os a.1)

-- sharing out ------------------------------------------------------------------------------------------------------------

-- what a fill keeps, and what holds of an order that takes no part, holds of every order after a print
pub dealt_is : (Q : Order → Type 0) (b t : Bool) (gs : List ℕ) (o : Order) → ((q : ℕ) → Q (fill q o)) → Q o → Q (dealt b t gs o)
dealt_is Q true t gs o f i = f o.«open»
dealt_is Q false true gs o f i = f (gift gs)
dealt_is Q false false gs o f i = i

pub dealt_number : (b t : Bool) (gs : List ℕ) (o : Order) → (dealt b t gs o).number ≡ o.number
dealt_number b t gs o = dealt_is (λ u. u.number ≡ o.number) b t gs o (λ q. refl) refl

pub deal_good : (c : Side) (p : ℕ) (os : List Order) (gs : List ℕ) → AllZip Gift gs (row c p os) → AllByRecursion Good os → AllByRecursion Good (deal c p os gs)
unfolding deal row
deal_good c p [] gs z a = tt
deal_good c p (o ∷ os) gs z a = go (is_better c p o) (is_at c p o) gs (is_better_is_at c p o) z (λ gs z. deal_good c p os gs z a.1)
  where
    go : (b t : Bool) (gs : List ℕ) → (b ≡ true → t ≡ true → ⊥) → AllZip Gift gs (map (λ o. o.«open») (kept t o (those (is_at c p) os)))
        → ((gs : List ℕ) → AllZip Gift gs (row c p os) → AllByRecursion Good (deal c p os gs))
        → AllByRecursion Good (dealt b t gs o ∷ deal c p os (after t gs))
    go true true gs x z ih = absurd (x refl refl)
    go true false gs x z ih = (good_fill o.«open» o a.0 (omega arith) a.0.whole, ih gs z)
    go false true [] x z ih = absurd z
    go false true (g ∷ gs) x z ih = (good_fill g o a.0 z.0.1 z.0.0, ih gs z.1)
    go false false gs x z ih = (a.0, ih gs z)

pub deal_filled : (s c : Side) (p : ℕ) (os : List Order) (gs : List ℕ) → AllZip Gift gs (row c p os)
    → total (filled_on s) (deal c p os gs) ≡ total (filled_on s) os + only (same_side c s) (ahead c p os + total (λ n. n) gs)
unfolding deal row ahead
deal_filled s c p [] [] z = omega (arith, only_zero (same_side c s))
deal_filled s c p [] (g ∷ gs) z = absurd z
deal_filled s c p (o ∷ os) gs z = go (is_better c p o) (is_at c p o) gs (is_better_is_at c p o) (resting (better c o.price p)) (resting (eqb o.price p)) z (deal_filled s c p os)
  where
    resting : (t : Bool) → (rests_on c o && t) ≡ true → same_side o.side s ≡ same_side c s
    resting t e = ap (λ x. same_side x s) (same_side_lem o.side c (and_parts (is_book o.place) (same_side o.side c) (and_parts (rests_on c o) t e).0).1)

    go : (b t : Bool) (gs : List ℕ) → (b ≡ true → t ≡ true → ⊥) → (b ≡ true → same_side o.side s ≡ same_side c s) → (t ≡ true → same_side o.side s ≡ same_side c s)
        → AllZip Gift gs (map (λ o. o.«open») (kept t o (those (is_at c p) os)))
        → ((gs : List ℕ) → AllZip Gift gs (row c p os) → total (filled_on s) (deal c p os gs) ≡ total (filled_on s) os + only (same_side c s) (ahead c p os + total (λ n. n) gs))
        → filled_on s (dealt b t gs o) + total (filled_on s) (deal c p os (after t gs))
        ≡ (only (same_side o.side s) o.filled + total (filled_on s) os) + only (same_side c s) ((only b o.«open» + ahead c p os) + total (λ n. n) gs)
    go true true gs x y w z ih = absurd (x refl refl)
    go true false gs x y w z ih = rw (y refl) (omega (arith, ih gs z, only_add (same_side c s) o.filled o.«open», only_add₃ (same_side c s) o.«open» (ahead c p os) (total (λ n. n) gs)))
    go false true [] x y w z ih = absurd z
    go false true (g ∷ gs) x y w z ih = rw (w refl) (omega (arith, ih gs z.1, only_add (same_side c s) o.filled g, only_add₃ (same_side c s) 0 (ahead c p os) (g + total (λ n. n) gs), only_zero (same_side c s), only_add₃ (same_side c s) (ahead c p os) g (total (λ n. n) gs), only_add (same_side c s) (ahead c p os) (g + total (λ n. n) gs), only_add (same_side c s) g (total (λ n. n) gs), only_add (same_side c s) (ahead c p os) (total (λ n. n) gs)))
    go false false gs x y w z ih = omega (arith, ih gs z, only_add (same_side o.side s) o.filled 0, only_zero (same_side o.side s), only_zero (same_side c s), only_add₃ (same_side c s) 0 (ahead c p os) (total (λ n. n) gs))

pub deal_struck : (c : Side) (p : ℕ) (os : List Order) (gs : List ℕ) → total (λ o. o.cancelled) (deal c p os gs) ≡ total (λ o. o.cancelled) os
unfolding deal
deal_struck c p [] gs = refl
deal_struck c p (o ∷ os) gs =
    ap (λ x. x + total (λ o. o.cancelled) (deal c p os (after (is_at c p o) gs))) (dealt_is (λ u. u.cancelled ≡ o.cancelled) (is_better c p o) (is_at c p o) gs o (λ q. refl) refl)
    ∙ ap (λ n. o.cancelled + n) (deal_struck c p os (after (is_at c p o) gs))

pub length_deal : (c : Side) (p : ℕ) (os : List Order) (gs : List ℕ) → length (deal c p os gs) ≡ length os
unfolding deal
length_deal c p [] gs = refl
length_deal c p (o ∷ os) gs = ap suc (length_deal c p os (after (is_at c p o) gs))

pub length_alter : (n : ℕ) (f : Order → Order) (os : List Order) → length (alter n f os) ≡ length os
unfolding alter
length_alter n f [] = refl
length_alter n f (o ∷ os) = go (eqb o.number n) (length_alter n f os)
  where
    go : (b : Bool) → length (alter n f os) ≡ length os → length (here b f o os (alter n f os)) ≡ suc (length os)
    go true ih = refl
    go false ih = ap suc ih

-- who is where -------------------------------------------------------------------------------------------------------------
pub look_same : (n : ℕ) (f : Order → Order) (os : List Order) (r : Order) → ((o : Order) → (f o).number ≡ o.number)
    → look n os ≡ Some r → look n (alter n f os) ≡ Some (f r)
unfolding alter look
look_same n f [] r k e = cc
look_same n f (o ∷ os) r k e = go (eqb o.number n) refl e (look_same n f os r k)
  where
    go : (b : Bool) → eqb o.number n ≡ b → found b o (look n os) ≡ Some r → (look n os ≡ Some r → look n (alter n f os) ≡ Some (f r))
        → look n (here b f o os (alter n f os)) ≡ Some (f r)
    go true t e ih =
        let s : o ≡ r = cc in
        ap (λ b. found b (f o) (look n os)) (ap (λ m. eqb m n) (k o) ∙ t) ∙ ap (λ x. Some (f x)) s
    go false t e ih = rw t (ih e)

pub look_other : (m n : ℕ) (f : Order → Order) (os : List Order) → ((o : Order) → (f o).number ≡ o.number)
    → (m ≡ n → ⊥) → look m (alter n f os) ≡ look m os
unfolding alter look
look_other m n f [] k ne = refl
look_other m n f (o ∷ os) k ne = go (eqb o.number n) refl (look_other m n f os k ne)
  where
    go : (b : Bool) → eqb o.number n ≡ b → look m (alter n f os) ≡ look m os
        → look m (here b f o os (alter n f os)) ≡ found (eqb o.number m) o (look m os)
    go true t ih =
        let e : eqb o.number m ≡ false = ne_eqb o.number m (λ h. ne (sym h ∙ eqb-true o.number n t)) in
        ap (λ b. found b (f o) (look m os)) (ap (λ x. eqb x m) (k o) ∙ e) ∙ sym (ap (λ b. found b o (look m os)) e)
    go false t ih = ap (λ x. found (eqb o.number m) o x) ih

-- who does not rest takes no part
pub no_part : (c : Side) (p : ℕ) (gs : List ℕ) (o : Order) → is_book o.place ≡ false → dealt (is_better c p o) (is_at c p o) gs o ≡ o
no_part c p gs o e = rw e refl

pub look_deal : (n : ℕ) (c : Side) (p : ℕ) (os : List Order) (gs : List ℕ) (r : Order) → look n os ≡ Some r → is_book r.place ≡ false
    → look n (deal c p os gs) ≡ Some r
unfolding deal look
look_deal n c p [] gs r e w = cc
look_deal n c p (o ∷ os) gs r e w =
    ap (λ m. found (eqb m n) (dealt (is_better c p o) (is_at c p o) gs o) (look n (deal c p os (after (is_at c p o) gs)))) (dealt_number (is_better c p o) (is_at c p o) gs o)
    ∙ go (eqb o.number n) e (λ e. look_deal n c p os (after (is_at c p o) gs) r e w)
  where
    go : (b : Bool) → found b o (look n os) ≡ Some r → (look n os ≡ Some r → look n (deal c p os (after (is_at c p o) gs)) ≡ Some r)
        → found b (dealt (is_better c p o) (is_at c p o) gs o) (look n (deal c p os (after (is_at c p o) gs))) ≡ Some r
    go true e ih =
        let s : o ≡ r = cc in
        let w' : is_book o.place ≡ false = ap (λ (x : Order). is_book x.place) s ∙ w in
        ap (λ (x : Order). Some x) (no_part c p gs o w') ∙ ap (λ (x : Order). Some x) s
    go false e ih = ih e
