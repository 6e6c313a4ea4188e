-- What holds of every list of calls, performed or refused, whatever the rule and the stop file. Assumes nothing.
use Rattle.std.specs.Prelude.{◌≡◌, ℕ, ◌≤◌, Bool, true, ◌⊎◌, List, [], ◌++◌, length, take, drop, Some, None}
use Rattle.std.specs.List.{AllByRecursion}
use Rattle.market.specs.declared.words.Place.TheVariants.{StopFile}
use Rattle.market.specs.declared.words.Order.{Order}
use Rattle.market.specs.declared.words.Range.{Range}
use Rattle.market.specs.declared.words.TapeLine.{TapeLine}
use Rattle.replay.specs.Days.{Day, new_day, Call, Rule}
use Rattle.replay.specs.Rolls.{look, place_of}
use Rattle.replay.specs.Runs.{turns, work}
use Rattle.replay.specs.Calls.{refusal, checks, handed, step, after_calls, tapes}
use Rattle.replay.specs.History.{joined}
use Rattle.replay.specs.Questions.{totals}
use Rattle.replay.specs.StopsUnseen.{Pairs, Unelected, AllSeen}
use Rattle.replay.specs.BookInOrder.{Orderly}
use Rattle.replay.specs.Matches.{MatchedBy}
use Rattle.replay.specs.Givers.{GivenFromBook}
use Rattle.replay.specs.Placed.{Placed}
use Rattle.replay.specs.Accounts.{WholeLots}
use Rattle.replay.specs.Bounds.{Bounds}
use Rattle.replay.specs.Elections.{Fate, FiledAtOnce}
use Rattle.replay.specs.OnlyFiled.{OfFiled, elections_of}
use Rattle.replay.specs.RangeStays.{range_for, NoPrint, Stays, Begins}
use Rattle.replay.specs.Starts.{start_of}
use Rattle.replay.specs.Pauses.{PauseOfRuns, PauseHolds}
use Rattle.replay.specs.Lines.{wants}
use Rattle.replay.specs.RefusalsGiven.{Refusals}
use Rattle.replay.specs.SharesAddUp.{Conserved, brought_in}

-- the day after the first k calls of a list
abbrev pub day_after : Rule → ℕ → List Call → ℕ → Day
day_after gifts room cs k = after_calls gifts room new_day (take k cs)

-- the day after a call, and the lines that the call hands over
abbrev pub next_day : Rule → ℕ → Day → Call → Day
next_day gifts room d c = (step gifts room d c).day

abbrev pub lines_by : Rule → ℕ → Day → Call → List TapeLine
lines_by gifts room d c = handed d (next_day gifts room d c)

-- the call is not refused
abbrev pub Performs : ℕ → Day → Call → Type 0
Performs room d c = refusal (checks room d c) ≡ None

-- Of a call that is put to a day which some list of calls has reached.
pub record CallLaws (gifts : Rule) (room : ℕ) (d : Day) (c : Call) : Type 0 where
  -- A performed call is what it does itself, and then the line worked off.
  pub runs : Performs room d c → next_day gifts room d c ≡ work gifts (start_of d c)
  -- A range in force stays through the call, and every print shows it and lies within it; where none is in force, the first run that prints sets it.
  pub range_stays : (g : Range) → Performs room d c → range_for d c ≡ Some g → Stays g (lines_by gifts room d c) (next_day gifts room d c).range
  pub range_begins : Performs room d c → range_for d c ≡ None
      → (AllByRecursion NoPrint (lines_by gifts room d c) × ((next_day gifts room d c).range ≡ None)) ⊎ Begins d.class d.column (lines_by gifts room d c) (next_day gifts room d c).range
  -- Each run of it is given shares by orders alone that rested on the other side of the book when the run began.
  pub givers : Performs room d c → (k : ℕ) → GivenFromBook gifts (turns gifts k (start_of d c))
  -- A run pauses trading exactly when shares and a contra order are left; a pause ends by a floor trade or Resume alone, and nobody runs in it.
  pub pauses : Performs room d c → PauseOfRuns gifts room d c
  pub pause_stays : PauseHolds gifts room d c
  -- Only stops that were filed are elected, and only by a line of the same call that reached them.
  pub only_filed : AllByRecursion (OfFiled d (lines_by gifts room d c)) (lines_by gifts room d c)
  -- The call hands over no more lines than it asks for, and they follow what the tape had.
  pub fits : length (lines_by gifts room d c) ≤ wants d c
  pub tape : (next_day gifts room d c).tape ≡ d.tape ++ lines_by gifts room d c

pub record ListLaws (gifts : Rule) (room : ℕ) (cs : List Call) : Type 0 where
  -- Unelected stops are invisible: on any other list that is alike but for price and shares of stops that neither list elects, and with a stop file
  -- of the same capacity of whatever kind, the same is seen of every call.
  pub invisible : (N : ℕ → Bool) (cs' : List Call) → Pairs gifts N room new_day new_day cs cs' → Unelected N (after_calls gifts room new_day cs) → Unelected N (after_calls gifts room new_day cs')
      → AllSeen gifts N room new_day new_day cs cs'
  -- After each call: nobody waits unless trading is paused, the best bid is below the best offer, and no fill has passed its order's limit or the range.
  pub orderly : (k : ℕ) → Orderly (day_after gifts room cs k)
  -- What a print gave the order run, limit orders of the other side gave together.
  pub matched : (k : ℕ) → MatchedBy (day_after gifts room cs k).roll (day_after gifts room cs k).tape (day_after gifts room cs k).fills
  -- Open shares are in book, line or stop file, as their order's place says; all shares are whole lots; and numbers are in bounds.
  pub placed : (k : ℕ) → Placed (day_after gifts room cs k)
  pub lots : (k : ℕ) → AllByRecursion WholeLots (day_after gifts room cs k).roll
  pub bounds : (k : ℕ) → Bounds (day_after gifts room cs k)
  -- After its own call a stop is in the file.
  pub filed : (k : ℕ) → FiledAtOnce gifts room (day_after gifts room cs k)
  -- Of a stop that is filed after j calls, the lines of the next k calls tell that it is still asleep, was cancelled asleep, or was elected by the
  -- first line that reached it; and no order is elected twice.
  pub elected : (j k n : ℕ) (o : Order) → look n (day_after gifts room cs j).roll ≡ Some o → o.place ≡ StopFile
      → Fate n o.side o.price (place_of (look n (after_calls gifts room (day_after gifts room cs j) (take k (drop j cs))).roll)) (handed (day_after gifts room cs j) (after_calls gifts room (day_after gifts room cs j) (take k (drop j cs))))
  pub once : (k n : ℕ) → elections_of n (day_after gifts room cs k).tape ≤ 1
  -- The tape has the lines that the calls handed over, one call after the other.
  pub tape : (k : ℕ) → (day_after gifts room cs k).tape ≡ joined (tapes gifts room new_day (take k cs))
  -- Of any call that is put to the day after the first k.
  pub calls : (k : ℕ) (c : Call) → CallLaws gifts room (day_after gifts room cs k) c
  -- After each call the line is worked off, or trading is paused.
  pub worked_off : (k : ℕ) → ((day_after gifts room cs k).paused ≡ true) ⊎ ((day_after gifts room cs k).line ≡ [])
  -- The roll holds 512; 43 is given there and not before, 44 and 46 never where there are 2,049 free lines and room for 512 stops.
  pub refusals : (k : ℕ) → Refusals room (day_after gifts room cs k)
  -- After each call shares add up: of each order, of the day and against the tape; and what was accepted came in by the calls that were performed.
  pub add_up : (k : ℕ) → Conserved (day_after gifts room cs k) × ((totals (day_after gifts room cs k)).accepted ≡ brought_in gifts room new_day (take k cs))
