-- The stops in the first slots; a count past the slots counts as all of them.
use Rattle.std.specs.Prelude.{ℕ, ◌≤◌, min, List, length, take}
use Rattle.std.proofs.Common.{length-take, arith}
use Rattle.market.specs.declared.words.Stop.{Stop}

abbrev pub filled : ℕ → List Stop → List Stop
filled n xs = take (min n (length xs)) xs

pub filled_fits : (n : ℕ) (xs : List Stop) → length (filled n xs) ≤ length xs
filled_fits n xs = omega (arith, length-take (min n (length xs)) xs)
