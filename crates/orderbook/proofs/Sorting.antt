-- Laws of precedence, and of the book of a side.
use Rattle.std.proofs.Common.{◌≡◌, ℕ, suc, ◌+◌, ◌-◌, ◌<◌, ◌≤◌, Bool, true, false, cond, ◌&&◌, eqb, List, [], ◌∷◌, map, length, get_or, Some, None, Option, sym, refl, ap, ◌∙◌, subst, arith}
use Rattle.std.specs.List.{AllByRecursion}
use Rattle.std.proofs.ByRecursion.{All-weaker}
use Rattle.std.proofs.lemmas.Bool.Decides.{nat_tests}
use Rattle.market.specs.declared.words.Side.{Side}
use Rattle.market.specs.declared.words.Side.TheVariants.{Buy, Sell}
use Rattle.market.specs.declared.words.Order.{Order}
use Rattle.market.specs.Files.{filed}
use Rattle.market.specs.Sides.{better, as_good}
use Rattle.market.specs.Orders.{rests_on}
use Rattle.market.specs.Changes.{blank}
use Rattle.replay.specs.Lists.{only, total, kept, those}
use Rattle.replay.specs.Book.{is_better, is_at, is_up_to, ahead, depth, row, prices, pick, best}
use Rattle.replay.specs.RollHolds.{Numbered}
use Rattle.orderbook.specs.Sorted.{Key, precedes, key_of, before, rested, book, first_of, price_in}
pub use Rattle.orderbook.proofs.Fronts.{none_those}
pub use Rattle.orderbook.proofs.Filed.{total_filed, all_filed, filed_first, Sorted, kept_drop, kept_filed, filed_swap, map_filed, length_filed}

-- precedence ---------------------------------------------------------------------------------------------------------------
pub precedes_asym : (c : Side) (a b : Key) → precedes c a b ≡ true → precedes c b a ≡ false
precedes_asym Buy a b h = grind (arith, nat_tests)
precedes_asym Sell a b h = grind (arith, nat_tests)

pub precedes_trans : (c : Side) (x y z : Key) → precedes c x y ≡ true → precedes c y z ≡ true → precedes c x z ≡ true
precedes_trans Buy x y z h k = grind (arith, nat_tests)
precedes_trans Sell x y z h k = grind (arith, nat_tests)

-- of two numbers one precedes
pub precedes_or : (c : Side) (a b : Key) → a.number < b.number → precedes c a b ≡ false → precedes c b a ≡ true
precedes_or Buy a b l h = grind (arith, nat_tests)
precedes_or Sell a b l h = grind (arith, nat_tests)

-- a lower number that does not precede is at another price
pub level_apart : (c : Side) (a b : Key) (p : ℕ) → a.number < b.number → precedes c a b ≡ false → eqb a.price p ≡ true → eqb b.price p ≡ false
level_apart Buy a b p l h e = grind (arith, nat_tests)
level_apart Sell a b p l h e = grind (arith, nat_tests)

pick_first : (c : Side) (a b : Key) → precedes c a b ≡ true → a.price ≡ cond (better c b.price a.price) b.price a.price
pick_first Buy a b h = grind (arith, nat_tests)
pick_first Sell a b h = grind (arith, nat_tests)

pick_second : (c : Side) (a b : Key) → precedes c a b ≡ false → b.price ≡ cond (better c b.price a.price) b.price a.price
pick_second Buy a b h = grind (arith, nat_tests)
pick_second Sell a b h = grind (arith, nat_tests)

-- what does not reach p is not preceded by what does
pub not_better_stays : (c : Side) (a b : Key) (p : ℕ) → precedes c a b ≡ true → better c a.price p ≡ false → better c b.price p ≡ false
not_better_stays Buy a b p h e = grind (arith, nat_tests)
not_better_stays Sell a b p h e = grind (arith, nat_tests)

pub worse_stays : (c : Side) (a b : Key) (p : ℕ) → precedes c a b ≡ true → as_good c a.price p ≡ false → as_good c b.price p ≡ false
worse_stays Buy a b p h e = grind (arith, nat_tests)
worse_stays Sell a b p h e = grind (arith, nat_tests)

-- the book -----------------------------------------------------------------------------------------------------------------
pub all_book : (P : Order → Type 0) (c : Side) (os : List Order) → AllByRecursion P os → AllByRecursion P (book c os)
unfolding book
all_book P c [] a = tt
all_book P c (o ∷ os) a = go (rests_on c o) (all_book P c os a.1)
  where
    go : (b : Bool) → AllByRecursion P (book c os) → AllByRecursion P (rested c b o (book c os))
    go true ih = all_filed (before c) P o (book c os) a.0 ih
    go false ih = ih

pub total_book : (f : Order → ℕ) (c : Side) (os : List Order) → total f (book c os) ≡ total (λ o. only (rests_on c o) (f o)) os
unfolding book
total_book f c [] = refl
total_book f c (o ∷ os) = go (rests_on c o) (total_book f c os)
  where
    go : (b : Bool) → total f (book c os) ≡ total (λ o. only (rests_on c o) (f o)) os → total f (rested c b o (book c os)) ≡ only b (f o) + total (λ o. only (rests_on c o) (f o)) os
    go true ih = omega (arith, total_filed (before c) f o (book c os))
    go false ih = omega arith

pub length_book : (c : Side) (os : List Order) → length (book c os) ≤ length os
unfolding book
length_book c [] = omega arith
length_book c (o ∷ os) = go (rests_on c o) (length_book c os)
  where
    go : (b : Bool) → length (book c os) ≤ length os → length (rested c b o (book c os)) ≤ suc (length os)
    go true ih = omega (arith, length_filed (before c) o (book c os))
    go false ih = omega arith

-- numbers --------------------------------------------------------------------------------------------------------------------
pub record Read (k : ℕ) (os : List Order) (o : Order) : Type 0 where
  pub low : k ≤ o.number
  pub high : o.number < k + length os
  pub is : get_or os (o.number - k) blank ≡ o

pub all_read : (k : ℕ) (os : List Order) → Numbered k os → AllByRecursion (Read k os) os
all_read k [] h = tt
all_read k (o ∷ os) h =
    let here : o.number - k ≡ 0 = omega (arith, h.0) in (
      record { low = omega (arith, h.0); high = omega (arith, h.0); is = ap (λ m. get_or (o ∷ os) m blank) here },
      All-weaker (Read (suc k) os) (Read k (o ∷ os)) (λ u r. let e : u.number - k ≡ suc (u.number - suc k) = omega (arith, r.low) in
          record { low = omega (arith, r.low); high = omega (arith, r.high); is = ap (λ m. get_or (o ∷ os) m blank) e ∙ r.is }) os (all_read (suc k) os h.1),
    )

pub above : (k : ℕ) (os : List Order) → Numbered k os → AllByRecursion (λ o. k ≤ o.number) os
above k os h = All-weaker (Read k os) (λ o. k ≤ o.number) (λ o r. r.low) os (all_read k os h)

pub above_book : (c : Side) (k : ℕ) (os : List Order) → Numbered k os → AllByRecursion (λ o. k ≤ o.number) (book c os)
above_book c k os h = all_book (λ o. k ≤ o.number) c os (above k os h)

-- the first of the book has the best price -----------------------------------------------------------------------------------
abbrev pub head_price : List Order → Option ℕ
head_price [] = None
head_price (o ∷ os) = Some o.price

head_filed : (c : Side) (o : Order) (t : List Order) → head_price (filed (before c) o t) ≡ pick c o.price (head_price t)
head_filed c o [] = refl
head_filed c o (y ∷ ys) = go (before c o y) refl
  where
    go : (b : Bool) → before c o y ≡ b → head_price (cond b (o ∷ y ∷ ys) (y ∷ filed (before c) o ys)) ≡ Some (cond (better c y.price o.price) y.price o.price)
    go true e = ap Some (pick_first c (key_of o) (key_of y) e)
    go false e = ap Some (pick_second c (key_of o) (key_of y) e)

pub best_book : (c : Side) (os : List Order) → best c (prices (rests_on c) os) ≡ head_price (book c os)
unfolding book prices
best_book c [] = refl
best_book c (o ∷ os) = go (rests_on c o) (best_book c os)
  where
    go : (b : Bool) → best c (map (λ o. o.price) (those (rests_on c) os)) ≡ head_price (book c os)
        → best c (map (λ o. o.price) (kept b o (those (rests_on c) os))) ≡ head_price (rested c b o (book c os))
    go true ih = ap (pick c o.price) ih ∙ sym (head_filed c o (book c os))
    go false ih = ih

-- the row at a price ---------------------------------------------------------------------------------------------------------
level_filed : (c : Side) (p : ℕ) (o : Order) (t : List Order) → AllByRecursion (λ u. suc o.number ≤ u.number) t
    → those (λ u. eqb u.price p) (filed (before c) o t) ≡ kept (eqb o.price p) o (those (λ u. eqb u.price p) t)
level_filed c p o [] a = refl
level_filed c p o (y ∷ ys) a = go (before c o y) refl (eqb o.price p) refl (level_filed c p o ys a.1)
  where
    go : (b : Bool) → before c o y ≡ b → (e : Bool) → eqb o.price p ≡ e
        → those (λ u. eqb u.price p) (filed (before c) o ys) ≡ kept e o (those (λ u. eqb u.price p) ys)
        → those (λ u. eqb u.price p) (cond b (o ∷ y ∷ ys) (y ∷ filed (before c) o ys)) ≡ kept e o (those (λ u. eqb u.price p) (y ∷ ys))
    go true h e i ih = ap (λ b. kept b o (those (λ u. eqb u.price p) (y ∷ ys))) i
    go false h true i ih =
        let off : eqb y.price p ≡ false = level_apart c (key_of o) (key_of y) p a.0 h i in
        ap (λ b. kept b y (those (λ u. eqb u.price p) (filed (before c) o ys))) off
        ∙ ih ∙ ap (λ b. o ∷ kept b y (those (λ u. eqb u.price p) ys)) (sym off)
    go false h false i ih = ap (kept (eqb y.price p) y) ih

pub level_book : (c : Side) (p k : ℕ) (os : List Order) → Numbered k os → those (λ u. eqb u.price p) (book c os) ≡ those (is_at c p) os
unfolding book
level_book c p k [] h = refl
level_book c p k (o ∷ os) h = go (rests_on c o) (level_book c p (suc k) os h.1)
  where
    low : AllByRecursion (λ u. suc o.number ≤ u.number) (book c os)
    low = subst (λ m. AllByRecursion (λ u. suc m ≤ u.number) (book c os)) (sym h.0) (above_book c (suc k) os h.1)

    go : (b : Bool) → those (λ u. eqb u.price p) (book c os) ≡ those (is_at c p) os
        → those (λ u. eqb u.price p) (rested c b o (book c os)) ≡ kept (b && eqb o.price p) o (those (is_at c p) os)
    go true ih = level_filed c p o (book c os) low ∙ ap (kept (eqb o.price p) o) ih
    go false ih = ih

pub row_book : (c : Side) (p : ℕ) (os : List Order) → Numbered 1 os → map (λ o. o.«open») (those (λ u. eqb u.price p) (book c os)) ≡ row c p os
unfolding row
row_book c p os h = ap (map (λ o. o.«open»)) (level_book c p 1 os h)

-- sums -----------------------------------------------------------------------------------------------------------------------
pub only_and : (a b : Bool) (n : ℕ) → only a (only b n) ≡ only (a && b) n
only_and true b n = refl
only_and false b n = refl

pub total_same : {A : Type 0} (f g : A → ℕ) → ((x : A) → f x ≡ g x) → (xs : List A) → total f xs ≡ total g xs
total_same f g e [] = refl
total_same f g e (x ∷ xs) = omega (arith, e x, total_same f g e xs)

pub depth_book : (c : Side) (p : ℕ) (os : List Order) → total (λ o. only (as_good c o.price p) o.«open») (book c os) ≡ depth c p os
unfolding depth
depth_book c p os =
    total_book (λ o. only (as_good c o.price p) o.«open») c os
    ∙ total_same (λ o. only (rests_on c o) (only (as_good c o.price p) o.«open»)) (λ o. only (is_up_to c p o) o.«open») (λ o. only_and (rests_on c o) (as_good c o.price p) o.«open») os

pub ahead_book : (c : Side) (p : ℕ) (os : List Order) → total (λ o. only (better c o.price p) o.«open») (book c os) ≡ ahead c p os
unfolding ahead
ahead_book c p os =
    total_book (λ o. only (better c o.price p) o.«open») c os
    ∙ total_same (λ o. only (rests_on c o) (only (better c o.price p) o.«open»)) (λ o. only (is_better c p o) o.«open») (λ o. only_and (rests_on c o) (better c o.price p) o.«open») os

pub total_those : (t : Order → Bool) (f : Order → ℕ) (xs : List Order) → total (λ o. only (t o) (f o)) xs ≡ total (λ n. n) (map f (those t xs))
total_those t f [] = refl
total_those t f (x ∷ xs) = go (t x) (total_those t f xs)
  where
    go : (b : Bool) → total (λ o. only (t o) (f o)) xs ≡ total (λ n. n) (map f (those t xs)) → only b (f x) + total (λ o. only (t o) (f o)) xs ≡ total (λ n. n) (map f (kept b x (those t xs)))
    go true ih = omega arith
    go false ih = omega arith

-- the book is in order -------------------------------------------------------------------------------------------------------
pub sorted_filed : (c : Side) (o : Order) (t : List Order) → AllByRecursion (λ u. suc o.number ≤ u.number) t → Sorted (before c) t → Sorted (before c) (filed (before c) o t)
sorted_filed c o [] a s = (tt, tt)
sorted_filed c o (y ∷ ys) a s = go (before c o y) refl (sorted_filed c o ys a.1 s.1)
  where
    go : (b : Bool) → before c o y ≡ b → Sorted (before c) (filed (before c) o ys) → Sorted (before c) (cond b (o ∷ y ∷ ys) (y ∷ filed (before c) o ys))
    go true h ih = ((h, All-weaker (λ z. before c y z ≡ true) (λ z. before c o z ≡ true) (λ z. precedes_trans c (key_of o) (key_of y) (key_of z) h) ys s.0), s)
    go false h ih = (all_filed (before c) (λ z. before c y z ≡ true) o ys (precedes_or c (key_of o) (key_of y) a.0 h) s.0, ih)

pub sorted_book : (c : Side) (k : ℕ) (os : List Order) → Numbered k os → Sorted (before c) (book c os)
unfolding book
sorted_book c k [] h = tt
sorted_book c k (o ∷ os) h = go (rests_on c o) (sorted_book c (suc k) os h.1)
  where
    low : AllByRecursion (λ u. suc o.number ≤ u.number) (book c os)
    low = subst (λ m. AllByRecursion (λ u. suc m ≤ u.number) (book c os)) (sym h.0) (above_book c (suc k) os h.1)

    go : (b : Bool) → Sorted (before c) (book c os) → Sorted (before c) (rested c b o (book c os))
    go true ih = sorted_filed c o (book c os) low ih
    go false ih = ih

-- behind a price that does not reach p nothing reaches it
pub behind : (c : Side) (p : ℕ) (o : Order) (t : List Order) → Sorted (before c) (o ∷ t) → as_good c o.price p ≡ false → AllByRecursion (λ u. as_good c u.price p ≡ false) (o ∷ t)
behind c p o t s e = (e, All-weaker (λ u. before c o u ≡ true) (λ u. as_good c u.price p ≡ false) (λ u h. worse_stays c (key_of o) (key_of u) p h e) t s.0)

pub total_none : {A : Type 0} (t : A → Bool) (f : A → ℕ) (xs : List A) → AllByRecursion (λ x. t x ≡ false) xs → total (λ x. only (t x) (f x)) xs ≡ 0
total_none t f [] a = refl
total_none t f (x ∷ xs) a = omega (arith, ap (λ b. only b (f x)) a.0, total_none t f xs a.1)

pub first_some : (os : List Order) → 0 < length os → Some (get_or os 0 blank) ≡ first_of os
first_some [] h = absurd (omega arith)
first_some (o ∷ os) h = refl

pub first_price_lem : (os : List Order) → price_in (first_of os) ≡ head_price os
first_price_lem [] = refl
first_price_lem (o ∷ os) = refl

-- two prices
pub better_good : (c : Side) (x p : ℕ) → as_good c x p ≡ false → better c x p ≡ false
better_good Buy x p h = grind (arith, nat_tests)
better_good Sell x p h = grind (arith, nat_tests)

pub better_level : (c : Side) (x p : ℕ) → better c x p ≡ true → eqb x p ≡ false
better_level Buy x p h = grind (arith, nat_tests)
better_level Sell x p h = grind (arith, nat_tests)

pub not_better_level : (c : Side) (x p : ℕ) → better c x p ≡ false → as_good c x p ≡ eqb x p
not_better_level Buy x p h = grind (arith, nat_tests)
not_better_level Sell x p h = grind (arith, nat_tests)

pub level_as_good : (c : Side) (x p : ℕ) → as_good c x p ≡ false → eqb x p ≡ false
level_as_good Buy x p h = grind (arith, nat_tests)
level_as_good Sell x p h = grind (arith, nat_tests)

pub good_self : (c : Side) (p : ℕ) → as_good c p p ≡ true
good_self Buy p = grind (arith, nat_tests)
good_self Sell p = grind (arith, nat_tests)
