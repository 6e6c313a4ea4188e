-- What a call hands over follows what the tape had. Assumes nothing.
use Rattle.std.specs.Prelude.{◌≡◌, ℕ, List, ◌++◌}
use Rattle.sharing.specs.Shares.{LawfulRule}
use Rattle.replay.specs.Days.{Day, new_day, Call, Rule}
use Rattle.replay.specs.Calls.{handed, step, after_calls, tapes}
use Rattle.replay.specs.History.{joined}

pub record TapeGrows : Type 0 where
  -- The tape after a call is the tape before it with the lines handed over behind: no call takes a line back or changes one. This holds of any rule
  -- and from any day.
  pub call : (gifts : Rule) (room : ℕ) (d : Day) (c : Call) → (step gifts room d c).day.tape ≡ d.tape ++ handed d (step gifts room d c).day
  -- so after a list of calls it has behind all that they handed over, in their order
  pub list : (gifts : Rule) (room : ℕ) (cs : List Call) (d : Day) → (after_calls gifts room d cs).tape ≡ d.tape ++ joined (tapes gifts room d cs)
  -- and from a new day it is just that
  pub whole : (gifts : Rule) → LawfulRule gifts → (room : ℕ) (cs : List Call) → (after_calls gifts room new_day cs).tape ≡ joined (tapes gifts room new_day cs)
