-- The calls that led to a day, and one call more. Assumes nothing.
use Rattle.std.specs.Prelude.{◌≡◌, ℕ, List, [], ◌∷◌, ◌++◌}
use Rattle.market.specs.declared.words.Stop.{Stop}
use Rattle.market.specs.declared.words.TapeLine.{TapeLine}
use Rattle.replay.specs.Days.{Day, new_day, Call, Rule, Answer}
use Rattle.replay.specs.Calls.{handed, step, after_calls}
use Rattle.replay.specs.History.{bare}
use Rattle.playback.specs.Laws.{ListLaws}
use Rattle.playback.specs.Lent.{over}

-- the day is that after these calls, but for its history
abbrev pub Reached : Rule → ℕ → List Call → Day → Type 0
Reached gifts room cs d = d ≡ bare (after_calls gifts room new_day cs)

-- some calls led to the day
abbrev pub IsReached : Rule → ℕ → Day → Type 0
IsReached gifts room d = (cs : List Call) × Reached gifts room cs d

-- One call more after cs, with lines ls lent: what it answered and what the lines hold, the day after it, and the laws of the longer list.
pub record Went (gifts : Rule) (room : ℕ) (cs : List Call) (c : Call) (a : Answer) (e : Day) (ls ls' : List TapeLine) : Type 0 where
  pub answer : a ≡ (step gifts room (after_calls gifts room new_day cs) c).answer
  pub lines : ls' ≡ over (handed (after_calls gifts room new_day cs) (step gifts room (after_calls gifts room new_day cs) c).day) ls
  pub reached : Reached gifts room (cs ++ c ∷ []) e
  pub laws : ListLaws gifts room (cs ++ c ∷ [])

-- A call altered no order, no stop of the file, and no line.
pub record Unaltered (d e : Day) (ss ss' : List Stop) (ls ls' : List TapeLine) : Type 0 where
  pub day : e ≡ d
  pub stops : ss' ≡ ss
  pub lines : ls' ≡ ls
