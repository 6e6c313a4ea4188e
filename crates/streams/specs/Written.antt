-- What a writer took of some bytes. Assumes nothing.
use Rattle.std.specs.Prelude.{◌≡◌, ◌≤◌, ℕ, Bool, true, List, Option, length, take}
use Rattle.std.specs.Io.KnownBytes.{Appends}

-- a front of them, and all of them where no error came
pub record Written (old new : Option (List ℕ)) (ok : Bool) (bytes : List ℕ) : Type 0 where
  pub count : ℕ
  pub within : count ≤ length bytes
  pub front : Appends old new (take count bytes)
  pub all : ok ≡ true → count ≡ length bytes
