-- What it takes that a letter stands for a value: reading and writing undo each other.
use Rattle.std.specs.Prelude.{◌≡◌, ℕ, ◌≤◌, Some, Option}

pub record IsSpelling {K : Type 0} (meaning : ℕ → Option K) (letter : K → ℕ) : Type 0 where
  pub reads_back : (k : K) → meaning (letter k) ≡ Some k
  pub writes_back : (c : ℕ) (k : K) → meaning c ≡ Some k → c ≡ letter k
  -- a letter is neither a tab nor a line's end
  pub high : (k : K) → 48 ≤ letter k
