-- Time priority and rotation. Assumes nothing.
use Rattle.std.specs.Prelude.{◌≡◌, ℕ, zero, suc, ◌+◌, ◌-◌, ◌/◌, ◌%◌, ◌<◌, ◌≤◌, min, List, [], ◌∷◌, length, slice_index}
use Rattle.std.specs.List.{AllZip, AllByRecursion}
use Rattle.sharing.specs.Shares.{lot, total, zeros, guarded}

-- each entry in row order gets as much as is left
abbrev pub in_row_order : List ℕ → ℕ → List ℕ
in_row_order [] q = []
in_row_order (a ∷ rest) q = min a q ∷ in_row_order rest (q - min a q)

-- time priority
abbrev pub by_time : List ℕ → ℕ → List ℕ
by_time = guarded in_row_order

abbrev pub pointwise : (ℕ → ℕ → ℕ) → List ℕ → List ℕ → List ℕ
pointwise f [] ys = []
pointwise f (x ∷ xs) [] = x ∷ xs
pointwise f (x ∷ xs) (y ∷ ys) = f x y ∷ pointwise f xs ys

-- a round: 100 to each unfilled entry in row order, while some of the quantity is left
abbrev pub round : List ℕ → ℕ → List ℕ
round [] q = []
round (a ∷ rest) q = min lot (min a q) ∷ round rest (q - min lot (min a q))

-- round after round: what a round gives is no longer open in the next, nor left to give
abbrev pub rounds : ℕ → List ℕ → ℕ → List ℕ
rounds zero row q = zeros row
rounds (suc k) row q =
    let given : List ℕ = round row q in pointwise ◌+◌ given (rounds k (pointwise ◌-◌ row given) (q - total given))

-- until the quantity is spent: a round gives at least 100, so q / 100 rounds are enough
abbrev pub in_rounds : List ℕ → ℕ → List ℕ
in_rounds row q = rounds (q / lot) row q

-- rotation
abbrev pub by_rotation : List ℕ → ℕ → List ℕ
by_rotation = guarded in_rounds

-- laws on the gifts for a row, by which the rules can be told apart ----------------------------------------------------

-- Where the entry at i is not filled, no entry behind it has anything.
abbrev pub KeepsOrder : List ℕ → List ℕ → Type 0
KeepsOrder row given = (i j : ℕ) → slice_index given i < slice_index row i → i < j → slice_index given j ≡ 0

-- Where the entry at i is not filled, no entry has more than 100 above what it has, and none behind it has more.
abbrev pub TakesTurns : List ℕ → List ℕ → Type 0
TakesTurns row given =
    (i j : ℕ) → slice_index given i < slice_index row i → (slice_index given j ≤ slice_index given i + lot) × (i < j → slice_index given j ≤ slice_index given i)

-- the whole quantity given in lots, and to no entry more than it has open
pub record Gives (row : List ℕ) (q : ℕ) (given : List ℕ) : Type 0 where
  pub size : length given ≡ length row
  pub whole : total given ≡ q
  pub within : AllZip (λ gift entry. gift ≤ entry) given row
  pub lots : AllByRecursion (λ gift. gift % lot ≡ 0) given

-- gifts that keep such a law, and the only ones that do
pub record Alone (law : List ℕ → List ℕ → Type 0) (row : List ℕ) (q : ℕ) (given : List ℕ) : Type 0 where
  pub gives : Gives row q given
  pub keeps : law row given
  pub alone : (other : List ℕ) → Gives row q other → law row other → other ≡ given
