-- The line of waiting orders. Assumes nothing.
use Rattle.std.specs.Prelude.{◌≡◌, ℕ, false, List, [], ◌∷◌, length, drop, Some, None, Option, ◌==◌}
use Rattle.std.specs.List.{AllByRecursion}
use Rattle.trading.specs.declared.line.Line.{Line}

-- those behind the ones that have gone
abbrev pub line_of : Line → List ℕ
line_of l = drop l.gone l.numbers.items

-- how many joined, but for those who left from behind the first
abbrev pub joined_of : Line → ℕ
joined_of l = length l.numbers.items

abbrev pub first_of : List ℕ → Option ℕ
first_of [] = None
first_of (n ∷ ns) = Some n

-- nobody is in line twice
abbrev pub Once : List ℕ → Type 0
Once [] = Unit {0}
Once (n ∷ ns) = AllByRecursion (λ m. (m == n) ≡ false) ns × Once ns
