-- Words on lists. Assumes nothing.
use Rattle.std.specs.Prelude.{ℕ, ◌+◌, Bool, true, false, ◌||◌, List, [], ◌∷◌}

-- n where the test holds, and else nothing
abbrev pub only : Bool → ℕ → ℕ
only true n = n
only false n = 0

-- the sum of f over a list
abbrev pub total : {A : Type 0} → (A → ℕ) → List A → ℕ
total f [] = 0
total f (x ∷ xs) = f x + total f xs

abbrev pub kept : {A : Type 0} → Bool → A → List A → List A
kept true x xs = x ∷ xs
kept false x xs = xs

-- those of a list that pass a test, in their order
abbrev pub those : {A : Type 0} → (A → Bool) → List A → List A
those t [] = []
those t (x ∷ xs) = kept (t x) x (those t xs)

-- some element passes the test
abbrev pub any : {A : Type 0} → (A → Bool) → List A → Bool
any t [] = false
any t (x ∷ xs) = t x || any t xs

-- what ys has beyond xs, where xs is its beginning
abbrev pub beyond : {A : Type 0} → List A → List A → List A
beyond [] ys = ys
beyond (x ∷ xs) [] = []
beyond (x ∷ xs) (y ∷ ys) = beyond xs ys
