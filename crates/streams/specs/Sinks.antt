-- What a sink takes. Assumes nothing.
use Rattle.std.specs.Prelude.{◌≡◌, ◌≤◌, ℕ, Bool, true, false, List, Option, ◌++◌, length, take, drop}
use Rattle.std.specs.Io.KnownBytes.{Appends}

-- What has arrived at the far end, where that is known; what was given and is still kept back; and whether a write has failed.
pub record SinkState : Type 0 where
  pub arrived : Option (List ℕ)
  pub owed : List ℕ
  pub broken : Bool

-- A front of what was owed and of the bytes arrived. All the rest is owed now, unless it is broken. What was broken stays so, and takes nothing.
pub record Took (old new : SinkState) (bytes : List ℕ) : Type 0 where
  pub count : ℕ
  pub within : count ≤ length (old.owed ++ bytes)
  pub front : Appends old.arrived new.arrived (take count (old.owed ++ bytes))
  pub rest : new.broken ≡ false → new.owed ≡ drop count (old.owed ++ bytes)
  pub lasts : old.broken ≡ true → (new.broken ≡ true) × (count ≡ 0)

-- some bytes more keep waiting in front of a sink
abbrev pub behind : SinkState → List ℕ → SinkState
behind state waiting = record state { owed = state.owed ++ waiting }
