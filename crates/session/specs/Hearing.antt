-- What the lines of a text say: a call each, or a fault. Assumes nothing.
use Rattle.std.specs.Prelude.{ℕ, List, [], ◌∷◌, Ok, Err, Result}
use Rattle.market.specs.declared.words.Kind.{Kind}
use Rattle.market.specs.declared.words.Kind.TheVariants.{Limit, Market, ImmediateOrCancel, Stop}
use Rattle.market.specs.declared.words.PricedOrder.{PricedOrder}
use Rattle.orderbook.specs.declared.ticket.Ticket.{Ticket}
use Rattle.replay.specs.Days.{Phase, Loading, Trading, Closed}
use Rattle.playback.specs.declared.call.Call.{Call}
use Rattle.playback.specs.declared.call.Call.TheVariants.{Set, LoadLimit, LoadStop, Open, Enter, Cancel, FloorTrade, Resume, Close}
use Rattle.text.specs.Letters.{column_letter}
use Rattle.text.specs.Reading.{record_in}
use Rattle.text.specs.Inspection.{lines_of}
use Rattle.text.specs.declared.fault.LineFault.{LineFault}
use Rattle.text.specs.declared.read.Fault.{Fault}
use Rattle.text.specs.declared.record.Record.{Record}
use Rattle.text.specs.declared.record.Record.TheVariants as records

abbrev pub ticket_of : Kind → PricedOrder → Ticket
ticket_of k o = record { kind = k; side = o.side; member = o.member; price = o.price; shares = o.shares }

-- while a day is loading, limit orders and stops are loaded; later they are entered
abbrev pub limit_call : Phase → PricedOrder → Call
limit_call Loading o = LoadLimit o
limit_call Trading o = Enter (ticket_of Limit o)
limit_call Closed o = Enter (ticket_of Limit o)

abbrev pub stop_call : Phase → PricedOrder → Call
stop_call Loading o = LoadStop o
stop_call Trading o = Enter (ticket_of Stop o)
stop_call Closed o = Enter (ticket_of Stop o)

-- the call of a record
abbrev pub call_for : Phase → Record → Call
call_for f (records.Set k c p) = Set k (column_letter c) p
call_for f (records.Limit o) = limit_call f o
call_for f (records.ImmediateOrCancel o) = Enter (ticket_of ImmediateOrCancel o)
call_for f (records.Stop o) = stop_call f o
call_for f (records.Market s m q) = Enter (record { kind = Market; side = s; member = m; price = 0; shares = q })
call_for f (records.Cancel m n) = Cancel m n
call_for f (records.FloorTrade p q) = FloorTrade p q
call_for f records.Resume = Resume
call_for f records.Open = Open
call_for f records.Close = Close

abbrev pub behind_open : Phase → Phase
behind_open Loading = Trading
behind_open Trading = Trading
behind_open Closed = Closed

abbrev pub behind_close : Phase → Phase
behind_close Loading = Loading
behind_close Trading = Closed
behind_close Closed = Closed

-- only O and Z lead from phase to phase
abbrev pub phase_after : Phase → Record → Phase
phase_after f (records.Set k c p) = f
phase_after f (records.Limit o) = f
phase_after f (records.ImmediateOrCancel o) = f
phase_after f (records.Stop o) = f
phase_after f (records.Market s m q) = f
phase_after f (records.Cancel m n) = f
phase_after f (records.FloorTrade p q) = f
phase_after f records.Resume = f
phase_after f records.Open = behind_open f
phase_after f records.Close = behind_close f

-- a line's fault as its reader gives it, who knows where the next line begins
abbrev pub ending_at : ℕ → Result Record LineFault → Result Record Fault
ending_at n (Ok r) = Ok r
ending_at n (Err f) = Err (record { cause = f.cause; field = f.field; next = n })

-- what a line says in a phase, and the phase behind it
abbrev pub hear : Phase → Result Record LineFault → Result Call LineFault
hear f (Ok r) = Ok (call_for f r)
hear f (Err e) = Err e

abbrev pub phase_behind : Phase → Result Record LineFault → Phase
phase_behind f (Ok r) = phase_after f r
phase_behind f (Err e) = f

unfoldable pub heard_from : Phase → List (List ℕ) → List (Result Call LineFault)
heard_from f [] = []
heard_from f (line ∷ lines) = hear f (record_in line) ∷ heard_from (phase_behind f (record_in line)) lines

-- what the lines of a text say, from its first
abbrev pub heard : List ℕ → List (Result Call LineFault)
heard text = heard_from Loading (lines_of text)

abbrev pub with_call : Result Call LineFault → List Call → List Call
with_call (Ok c) cs = c ∷ cs
with_call (Err e) cs = cs

-- the calls among what was heard
abbrev pub calls_among : List (Result Call LineFault) → List Call
calls_among [] = []
calls_among (x ∷ xs) = with_call x (calls_among xs)
