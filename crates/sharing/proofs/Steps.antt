-- The steps of the loops. Assumes nothing.
use Rattle.std.proofs.Common.{◌≡◌, ℕ, ◌+◌, ◌-◌, ◌*◌, ◌≤◌, min, List, [], ◌∷◌, ◌++◌, length, take, drop, sum, refl, sym, ap, ◌∙◌, append-nil, arith}
use Rattle.std.specs.List.{AllByRecursion}
use Rattle.std.proofs.lemmas.List.{take_all, drop_all}
use Rattle.std.proofs.lemmas.List.Sums.{sum_by-cons}
use Rattle.sharing.specs.Shares.{most_shares, total}
use Rattle.sharing.specs.Keeps.{Lots}
use Rattle.sharing.specs.Levels.{in_order_above}
use Rattle.sharing.specs.Turns.{in_row_order}

-- a loop that writes over each element: G says what becomes of the rest, and H of the rest behind it
module _ {X : Type 0} (xs : List X) (i : ℕ) (ys : List X) where
  pub over_all : (G : List X → List X) → G [] ≡ [] → length xs ≤ i → take i xs ++ G (drop i xs) ≡ ys → xs ≡ ys
  over_all G none h inv = sym (append-nil xs) ∙ sym (ap (λ l. l ++ []) (take_all i xs h)) ∙ sym (ap (λ l. take i xs ++ l) (ap G (drop_all i xs h) ∙ none)) ∙ inv

-- from the level 0, and with room for the whole quantity: as time priority has it
pub order_from_none : (m : ℕ) (row : List ℕ) (q : ℕ) → q ≤ m → in_order_above 0 m row q ≡ in_row_order row q
order_from_none m [] q h = refl
order_from_none m (a ∷ rest) q h =
    let same : min a 0 + min m (min (a - 0) q) ≡ min a q = omega arith in
    let less : min m (min (a - 0) q) ≡ min a q = omega arith in
    ap (λ x. x ∷ in_order_above 0 m rest (q - min m (min (a - 0) q))) same ∙ ap (λ x. min a q ∷ in_order_above 0 m rest (q - x)) less ∙ ap (λ r. min a q ∷ r) (order_from_none m rest (q - min a q) (omega arith))

-- the sum of a row
pub sum_is : (row : List ℕ) → sum row ≡ total row
sum_is [] = refl
sum_is (a ∷ rest) = sum_by-cons (λ x. x) a rest ∙ ap (λ n. a + n) (sum_is rest)

pub total_most : (row : List ℕ) → AllByRecursion (Lots most_shares) row → total row ≤ most_shares * length row
total_most [] h = omega arith
total_most (a ∷ rest) h = omega (arith, h.0.most, total_most rest h.1)
