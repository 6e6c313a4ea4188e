-- What a source gives. Assumes nothing.
use Rattle.std.specs.Prelude.{◌≡◌, ◌<◌, ◌≤◌, ℕ, Bool, true, false, List, Option, length, take}
use Rattle.std.specs.Io.KnownBytes.{Consumes, IsAtEnd}

-- What is left to be read, where that is known, and whether a read has failed.
pub record SourceState : Type 0 where
  pub left : Option (List ℕ)
  pub failed : Bool

-- One read: the first so many bytes of the buffer came. None only at the end, with no room, or where it failed. What failed stays so, and gives nothing.
pub record Gave (old new : SourceState) (count : ℕ) (buffer : List ℕ) : Type 0 where
  pub within : count ≤ length buffer
  pub bytes : Consumes old.left new.left (take count buffer)
  pub end : count ≡ 0 → 0 < length buffer → new.failed ≡ false → IsAtEnd new.left
  pub lasts : old.failed ≡ true → (new.failed ≡ true) × (count ≡ 0)

-- Reading on: the first so many bytes of the buffer came. Less than it has room for only at the end, or where it failed.
pub record Filled (old new : SourceState) (count : ℕ) (buffer : List ℕ) : Type 0 where
  pub within : count ≤ length buffer
  pub bytes : Consumes old.left new.left (take count buffer)
  pub end : count < length buffer → new.failed ≡ false → IsAtEnd new.left
  pub lasts : old.failed ≡ true → (new.failed ≡ true) × (count ≡ 0)
