-- The line of waiting orders is worked off; the lines of a call fit what it asks for, and 2,049 free lines are always enough. Assumes nothing.
use Rattle.std.specs.Prelude.{◌≡◌, ℕ, suc, ◌≤◌, true, ◌⊎◌, List, [], length, Some, ◌≢◌}
use Rattle.sharing.specs.Shares.{LawfulRule}
use Rattle.replay.specs.Days.{Day, new_day, Call, Set, LoadLimit, LoadStop, Open, Enter, CancelOrder, FloorTrade, Resume, Close, Rule}
use Rattle.replay.specs.Calls.{refusal, need, checks, handed, step, after_calls}
use Rattle.replay.specs.Refusals.{tape_short}

-- the lines that a call asks for
abbrev pub wants : Day → Call → ℕ
wants d (Set k c p) = 0
wants d (LoadLimit s m p q) = 0
wants d (LoadStop s m p q) = 0
wants d Open = 0
wants d (Enter k s m p q f) = need 1 d
wants d (CancelOrder m n f) = 1
wants d (FloorTrade p q f) = suc (need 0 d)
wants d (Resume f) = need 0 d
wants d Close = 0

-- a call writes no more lines than that
abbrev pub TapeSuffices : Type 0
TapeSuffices = (gifts : Rule) → LawfulRule gifts → (room : ℕ) (cs : List Call) (c : Call)
    → length (handed (after_calls gifts room new_day cs) (step gifts room (after_calls gifts room new_day cs) c).day) ≤ wants (after_calls gifts room new_day cs) c

-- the free lines that a call gets; calls that write no tape need none
abbrev pub free_lines : Call → ℕ
free_lines (Set k c p) = 2049
free_lines (LoadLimit s m p q) = 2049
free_lines (LoadStop s m p q) = 2049
free_lines Open = 2049
free_lines (Enter k s m p q f) = f
free_lines (CancelOrder m n f) = f
free_lines (FloorTrade p q f) = f
free_lines (Resume f) = f
free_lines Close = 2049

-- with 2,049 free lines no call is refused for want of lines
abbrev pub NeverShort : Type 0
NeverShort = (gifts : Rule) → LawfulRule gifts → (room : ℕ) (cs : List Call) (c : Call) → 2049 ≤ free_lines c → refusal (checks room (after_calls gifts room new_day cs) c) ≢ Some tape_short

-- After every call trading is paused or nobody is in line: the bound on the turns is never what stopped them.
abbrev pub WorkedOff : Type 0
WorkedOff = (gifts : Rule) → LawfulRule gifts → (room : ℕ) (cs : List Call) → ((after_calls gifts room new_day cs).paused ≡ true) ⊎ ((after_calls gifts room new_day cs).line ≡ [])
