-- Files of records in order of precedence, for any kind of record. Assumes nothing.
use Rattle.std.specs.Prelude.{◌≡◌, ℕ, Bool, true, false, cond, not, ◌&&◌, ◌||◌, List, [], ◌∷◌, ◌==◌, nat_lt}
use Rattle.std.specs.List.{prefix_len, AllByRecursion}
use Rattle.std.specs.List.Sorted.{IsPermutation}

-- of two records at most one precedes the other, and what precedes a record precedes all that it precedes
pub record Strict {X : Type 0} (before : X → X → Bool) : Type 0 where
  pub asymmetric : (x y : X) → before x y ≡ true → before y x ≡ false
  pub transitive : (x y z : X) → before x y ≡ true → before y z ≡ true → before x z ≡ true

-- x stands before the first record that it precedes, or last
abbrev pub filed : {X : Type 0} → (X → X → Bool) → X → List X → List X
filed before x [] = x ∷ []
filed before x (y ∷ ys) = cond (before x y) (x ∷ y ∷ ys) (y ∷ filed before x ys)

-- how many records stand ahead of x: those before the first that x precedes
abbrev pub ahead : {X : Type 0} → (X → X → Bool) → X → List X → ℕ
ahead before x xs = prefix_len (λ y. not (before x y)) xs

-- no record precedes one that stands ahead of it
abbrev pub InOrder : {X : Type 0} → (X → X → Bool) → List X → Type 0
InOrder before [] = Unit {0}
InOrder before (x ∷ xs) = AllByRecursion (λ y. before y x ≡ false) xs × InOrder before xs

-- once x is filed in xs, ys is in order if xs was, and holds x and the records of xs, no more and no fewer
pub record Filing {X : Type 0} (before : X → X → Bool) (x : X) (xs ys : List X) : Type 0 where
  pub ordered : InOrder before xs → InOrder before ys
  pub whole : IsPermutation (x ∷ xs) ys

-- once x is taken out of xs, ys is in any order that xs was in, and xs holds x and the records of ys, no more and no fewer
pub record Removal {X : Type 0} (x : X) (xs ys : List X) : Type 0 where
  pub ordered : (before : X → X → Bool) → InOrder before xs → InOrder before ys
  pub whole : IsPermutation xs (x ∷ ys)

-- two numbers compared one after the other: the first by a rule of its own, then the lower second one
abbrev pub by_turns : (ℕ → ℕ → Bool) → ℕ → ℕ → ℕ → ℕ → Bool
by_turns first p n q m = first p q || (p == q && nat_lt n m)
