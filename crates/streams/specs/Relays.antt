-- What a program shows of what it reads. Assumes nothing.
use Rattle.std.specs.Prelude.{◌≡◌, ◌↔◌, ℕ, Bool, true, false, List, [], Some, take}
use Rattle.std.specs.Io.KnownBytes.{Consumes}
use Rattle.streams.specs.Sinks.{SinkState, Took}
use Rattle.streams.specs.Sources.{SourceState}

-- all was taken, and nothing is kept back unless the sink is broken
pub record Passed (old new : SinkState) (bytes : List ℕ) : Type 0 where
  pub took : Took old new bytes
  pub whole : new.broken ≡ false → new.owed ≡ []

-- A text was read, all that was left but for what is more than there was room for, and what is shown of it went out. Where reading failed, nothing did.
pub record Relayed (shown : List ℕ → List ℕ) (room : ℕ) (source source' : SourceState) (out out' : SinkState) (ok : Bool) : Type 0 where
  pub text : List ℕ
  pub consumed : Consumes source.left source'.left text
  pub whole : source'.failed ≡ false → (all : List ℕ) → source.left ≡ Some all → text ≡ take room all
  pub passed : source'.failed ≡ false → Passed out out' (shown text)
  pub silent : source'.failed ≡ true → out' ≡ out
  pub answer : (ok ≡ true) ↔ ((source'.failed ≡ false) × (out'.broken ≡ false))

-- what is shown of all that was left went out, unless reading failed
abbrev pub ShowsAll : (List ℕ → List ℕ) → SourceState → SourceState → SinkState → SinkState → Type 0
ShowsAll shown source source' out out' = source'.failed ≡ false → (all : List ℕ) → source.left ≡ Some all → Passed out out' (shown all)
