-- What a call did, by the definitions: one statement for all calls. Assumes nothing.
use Rattle.std.specs.Prelude.{◌≡◌, ℕ, List, [], ◌∷◌, ◌++◌, length, drop, Some, None, Ok, Err, Option, Result}
use Rattle.market.specs.declared.words.Kind.{Kind}
use Rattle.market.specs.declared.words.Kind.TheVariants.{Limit, Market, ImmediateOrCancel, Stop as StopKind}
use Rattle.market.specs.declared.words.Order.{Order}
use Rattle.market.specs.declared.words.Stop.{Stop}
use Rattle.market.specs.declared.words.TapeLine.{TapeLine}
use Rattle.market.specs.declared.refusal.Refusal.{Refusal}
use Rattle.market.specs.declared.refusal.Refusal.TheVariants.{StopFileFull}
use Rattle.market.specs.Refusals.{number_of}
use Rattle.orderbook.specs.declared.ticket.Ticket.{Ticket}
use Rattle.replay.specs.Days.{Day, Rule, Call, Enter, Answer, Done, Number, Lines, Entered, Refused}
use Rattle.replay.specs.Calls.{step}
use Rattle.replay.specs.History.{bare}
use Rattle.replay.specs.StopFile.{stop_of, file_of}
use Rattle.stops.specs.declared.stop_file.NotAdded.{NotAdded}
use Rattle.trading.specs.declared.board.Board.{Board}
use Rattle.trading.specs.declared.answer.Receipt.{Receipt}
use Rattle.trading.specs.Boards.{orders_of}

-- the number of a refusal, if there is one
abbrev pub refused_by : {A : Type 0} → Result A Refusal → Option ℕ
refused_by (Ok x) = None
refused_by (Err e) = Some (number_of e)

-- answers
abbrev pub when_done : {A : Type 0} → Result A Refusal → Answer
when_done (Ok x) = Done
when_done (Err e) = Refused (number_of e)

abbrev pub when_numbered : Result ℕ Refusal → Answer
when_numbered (Ok n) = Number n
when_numbered (Err e) = Refused (number_of e)

abbrev pub when_written : Result ℕ Refusal → Answer
when_written (Ok k) = Lines k
when_written (Err e) = Refused (number_of e)

abbrev pub when_entered : Result Receipt Refusal → Answer
when_entered (Ok r) = Entered r.number r.lines
when_entered (Err e) = Refused (number_of e)

-- an order is entered, with so many free lines
abbrev pub entering : Ticket → ℕ → Call
entering t f = Enter t.kind t.side t.member t.price t.shares f

-- the stop file lists the filed stops of the roll
abbrev pub Filed : List Stop → Board → Type 0
Filed ss b = ss ≡ file_of (orders_of b)

-- the file once an order came in: a stop more, or as it was
abbrev pub with_stop : Kind → Order → List Stop → List Stop
with_stop Limit o ss = ss
with_stop Market o ss = ss
with_stop ImmediateOrCancel o ss = ss
with_stop StopKind o ss = ss ++ stop_of o ∷ []

-- a stop that is not added is refused
abbrev pub when_added : Result (Unit {0}) NotAdded → Result (Unit {0}) Refusal
when_added (Ok u) = Ok u
when_added (Err e) = Err StopFileFull

-- the lines that an order may come to beyond those in line and file: a stop is counted in the file
abbrev pub may_add : Kind → ℕ
may_add Limit = 3
may_add Market = 3
may_add ImmediateOrCancel = 3
may_add StopKind = 0

-- a call that was refused altered nothing
pub record Unaltered (b b' : Board) (ss ss' : List Stop) (ls ls' : List TapeLine) : Type 0 where
  pub board : b' ≡ b
  pub stops : ss' ≡ ss
  pub lines : ls' ≡ ls

-- From a day before to the day after: the answer, the day, the stops of the file and every line are those of the definitions. The lines handed
-- over stand first, and the others are as they were.
pub record Did (gifts : Rule) (room : ℕ) (d : Day) (c : Call) (a : Answer) (e : Day) (ss' : List Stop) (ls ls' : List TapeLine) : Type 0 where
  pub answer : a ≡ (step gifts room d c).answer
  pub day : e ≡ bare (step gifts room d c).day
  pub file : ss' ≡ file_of e.roll
  pub lines : ls' ≡ (step gifts room d c).day.tape ++ drop (length (step gifts room d c).day.tape) ls
