-- When trading is paused, and what ends a pause. Assumes nothing.
use Rattle.std.specs.Prelude.{◌≡◌, ℕ, Bool, true, false, not, ◌&&◌, List, ◌∷◌, Some, None, nat_lt}
use Rattle.std.specs.List.{AllByRecursion}
use Rattle.market.specs.declared.words.Order.{Order}
use Rattle.market.specs.declared.words.TapeLine.{TapeLine}
use Rattle.market.specs.declared.words.TapeLine.TheVariants.{Print, Cancel, Elect, Floor}
use Rattle.sharing.specs.Shares.{LawfulRule}
use Rattle.replay.specs.Lists.{any, total}
use Rattle.replay.specs.Days.{Day, new_day, Call, Set, LoadLimit, LoadStop, Open, Enter, CancelOrder, FloorTrade, Resume, Close, Rule}
use Rattle.replay.specs.Rolls.{look}
use Rattle.replay.specs.Book.{is_contra}
use Rattle.replay.specs.Runs.{turn, turns}
use Rattle.replay.specs.Calls.{refusal, checks, handed, step, after_calls}
use Rattle.replay.specs.SharesAddUp.{print_of}
use Rattle.replay.specs.Starts.{start_of}

-- The run of order r has made e of d: trading is paused exactly when its prints gave it less than it had open, and an order of the other side is left
-- within its limit.
abbrev pub PausedIfLeft : Order → Day → Day → Type 0
PausedIfLeft r d e = e.paused ≡ (nat_lt (total print_of (handed d e)) r.«open» && any (is_contra r) e.roll)

-- so it is with the run of the first in line on day d
abbrev pub RunPauses : Rule → Day → Type 0
RunPauses gifts d = (n : ℕ) (ns : List ℕ) (r : Order) → d.paused ≡ false → d.line ≡ n ∷ ns → look n d.roll ≡ Some r → PausedIfLeft r d (turn gifts d)

-- The days of a performed call, d before it, after each number of turns of the line.
pub record PauseOfRuns (gifts : Rule) (room : ℕ) (d : Day) (c : Call) : Type 0 where
  -- as long as there is no pause, the first in line runs, and begins one or not
  pub run : (k : ℕ) → RunPauses gifts (turns gifts k (start_of d c))
  -- once it is paused, the call does nothing more
  pub over : (k : ℕ) → (turns gifts k (start_of d c)).paused ≡ true → (step gifts room d c).day ≡ turns gifts k (start_of d c)

-- Of every performed call of a day.
abbrev pub RunsPause : Type 0
RunsPause = (gifts : Rule) → LawfulRule gifts → (room : ℕ) (cs : List Call) (c : Call) → refusal (checks room (after_calls gifts room new_day cs) c) ≡ None
    → PauseOfRuns gifts room (after_calls gifts room new_day cs) c

-- from call to call ------------------------------------------------------------------------------------------------------
abbrev pub ends_pause : Call → Bool
ends_pause (Set k c p) = false
ends_pause (LoadLimit s m p q) = false
ends_pause (LoadStop s m p q) = false
ends_pause Open = false
ends_pause (Enter k s m p q f) = false
ends_pause (CancelOrder m n f) = false
ends_pause (FloorTrade p q f) = true
ends_pause (Resume f) = true
ends_pause Close = false

abbrev pub runs_orders : Call → Bool
runs_orders (Set k c p) = false
runs_orders (LoadLimit s m p q) = false
runs_orders (LoadStop s m p q) = false
runs_orders Open = false
runs_orders (Enter k s m p q f) = true
runs_orders (CancelOrder m n f) = false
runs_orders (FloorTrade p q f) = true
runs_orders (Resume f) = true
runs_orders Close = false

abbrev pub IsCancel : TapeLine → Type 0
IsCancel (Print n p q l h) = ⊥
IsCancel (Cancel n q) = Unit {0}
IsCancel (Elect n) = ⊥
IsCancel (Floor p q) = ⊥

pub record PauseHolds (gifts : Rule) (room : ℕ) (d : Day) (c : Call) : Type 0 where
  -- a performed floor trade or Resume ends a pause, and nothing else does
  pub ends : d.paused ≡ true → (step gifts room d c).day.paused ≡ false → (refusal (checks room d c) ≡ None) × (ends_pause c ≡ true)
  -- only a performed call that runs orders begins one
  pub begins : d.paused ≡ false → (step gifts room d c).day.paused ≡ true → (refusal (checks room d c) ≡ None) × (runs_orders c ≡ true)
  -- and not before somebody runs
  pub start : (start_of d c).paused ≡ (d.paused && not (ends_pause c))
  -- in a pause nobody runs: a call that does not end it hands over X lines at most
  pub still : d.paused ≡ true → ends_pause c ≡ false → AllByRecursion IsCancel (handed d (step gifts room d c).day)

-- Of every call of a day, performed or refused.
abbrev pub PauseStays : Type 0
PauseStays = (gifts : Rule) → LawfulRule gifts → (room : ℕ) (cs : List Call) (c : Call) → PauseHolds gifts room (after_calls gifts room new_day cs) c
