-- Who gives to a run: orders that rested on the other side of the book when it began. Assumes nothing.
use Rattle.std.specs.Prelude.{◌≡◌, ℕ, true, false, ◌⊎◌, List, ◌∷◌, Some, None}
use Rattle.std.specs.List.{AllByRecursion}
use Rattle.market.specs.declared.words.Order.{Order}
use Rattle.market.specs.Sides.{opposite}
use Rattle.market.specs.Orders.{rests_on}
use Rattle.sharing.specs.Shares.{LawfulRule}
use Rattle.replay.specs.Lists.{beyond}
use Rattle.replay.specs.Days.{Fill, Day, new_day, Call, Rule}
use Rattle.replay.specs.Rolls.{look}
use Rattle.replay.specs.Runs.{turn, turns}
use Rattle.replay.specs.Calls.{refusal, checks, after_calls}
use Rattle.replay.specs.Starts.{start_of}

-- a fill of a run of order r that began on day d: its own, or that of an order which rested on the other side then
abbrev pub FromBook : Order → Day → Fill → Type 0
FromBook r d f = (f.order ≡ r.number) ⊎ ((o : Order) × (look f.order d.roll ≡ Some o) × (rests_on (opposite r.side) o ≡ true))

-- the runs of a call, one by one, each from the day d to which those before have led: all fills of the run of the first in line are such fills
abbrev pub GivenFromBook : Rule → Day → Type 0
GivenFromBook gifts d = (n : ℕ) (ns : List ℕ) (r : Order) → d.paused ≡ false → d.line ≡ n ∷ ns → look n d.roll ≡ Some r → AllByRecursion (FromBook r d) (beyond d.fills (turn gifts d).fills)

-- Of every run of every performed call of a day.
abbrev pub BookGives : Type 0
BookGives = (gifts : Rule) → LawfulRule gifts → (room : ℕ) (cs : List Call) (c : Call) → refusal (checks room (after_calls gifts room new_day cs) c) ≡ None
    → (k : ℕ) → GivenFromBook gifts (turns gifts k (start_of (after_calls gifts room new_day cs) c))
