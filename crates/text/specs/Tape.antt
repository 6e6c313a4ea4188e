-- A line of the tape as text: its letter, then its numbers, each behind a tab.
use Rattle.std.specs.Prelude.{ℕ, List, [], ◌∷◌, decimal}
use Rattle.market.specs.declared.words.TapeLine.{TapeLine}
use Rattle.market.specs.declared.words.TapeLine.TheVariants.{Print, Cancel, Elect, Floor}
use Rattle.text.specs.Written.{tabbed}

abbrev pub tape_bytes : TapeLine → List ℕ
tape_bytes (Print order price shares low high) = 80 ∷ tabbed (decimal order ∷ decimal price ∷ decimal shares ∷ decimal low ∷ decimal high ∷ [])
tape_bytes (Cancel order shares) = 88 ∷ tabbed (decimal order ∷ decimal shares ∷ [])
tape_bytes (Elect order) = 69 ∷ tabbed (decimal order ∷ [])
tape_bytes (Floor price shares) = 70 ∷ tabbed (decimal price ∷ decimal shares ∷ [])
