-- The day from which a performed call begins to run orders: all that the call itself does, before anybody runs. Assumes nothing.
use Rattle.std.specs.Prelude.{◌≡◌, ℕ, Bool, true, false, List, None}
use Rattle.market.specs.declared.words.Kind.{Kind}
use Rattle.market.specs.declared.words.Kind.TheVariants.{Limit, Market, ImmediateOrCancel, Stop}
use Rattle.market.specs.declared.words.Place.{Place}
use Rattle.market.specs.declared.words.Place.TheVariants.{Book, Line, StopFile}
use Rattle.market.specs.declared.words.Order.{Order}
use Rattle.sharing.specs.Shares.{LawfulRule}
use Rattle.replay.specs.Lists.{any}
use Rattle.replay.specs.Days.{Day, Trading, Closed, Rule, new_day}
use Rattle.replay.specs.Days.{Call, Set, LoadLimit, LoadStop, Open, Enter, CancelOrder, FloorTrade, Resume, Close}
use Rattle.replay.specs.Rolls.{fresh}
use Rattle.replay.specs.Book.{is_contra}
use Rattle.replay.specs.Moves.{withdraw, centre, resumed, floored, set_up, to, elect, admit}
use Rattle.replay.specs.Runs.{work, start_place}
use Rattle.replay.specs.Calls.{column_of, refusal, checks, step, after_calls}

-- an order is there, at its place; in a pause an immediate-or-cancel order is cancelled at once
abbrev pub comes_in : Bool → Kind → Order → Place → Day → Day
comes_in true ImmediateOrCancel o w d = withdraw o.number (admit o Line d)
comes_in true Limit o w d = admit o w d
comes_in true Market o w d = admit o w d
comes_in true Stop o w d = admit o w d
comes_in false k o w d = admit o w d

unfoldable pub start_of : Day → Call → Day
start_of d (Set k c p) = set_up k (column_of c) p d
start_of d (LoadLimit s m p q) = admit (fresh Limit s m p q d.roll) Book d
start_of d (LoadStop s m p q) = admit (fresh Stop s m p q d.roll) StopFile d
start_of d Open = centre (to Trading d)
start_of d (Enter k s m p q f) = let o : Order = fresh k s m p q d.roll in comes_in d.paused k o (start_place k (any (is_contra o) d.roll)) d
start_of d (CancelOrder m n f) = withdraw n d
start_of d (FloorTrade p q f) = elect p (floored p q d)
start_of d (Resume f) = resumed d
start_of d Close = to Closed d

-- From there the line is worked off, and that is all of a performed call; where nobody may run, it does nothing more.
abbrev pub RunsFollow : Type 0
RunsFollow = (gifts : Rule) → LawfulRule gifts → (room : ℕ) (cs : List Call) (c : Call) → refusal (checks room (after_calls gifts room new_day cs) c) ≡ None
    → (step gifts room (after_calls gifts room new_day cs) c).day ≡ work gifts (start_of (after_calls gifts room new_day cs) c)
