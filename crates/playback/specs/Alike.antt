-- Two calls that cannot be told apart but for the X lines of stops that differ. Assumes nothing.
use Rattle.std.specs.Prelude.{◌≡◌, ℕ, Bool}
use Rattle.std.specs.List.{AllZip}
use Rattle.replay.specs.StopsUnseen.{SameLine}
use Rattle.playback.specs.Seen.{Seen}

pub record Alike (D : ℕ → Bool) (x y : Seen) : Type 0 where
  pub answer : x.answer ≡ y.answer
  pub view : x.view ≡ y.view
  pub lines : AllZip (SameLine D) x.lines y.lines
