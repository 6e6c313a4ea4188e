-- What a day line holds, and which refusal a damaged one meets.
use Rattle.std.specs.Prelude.{ℕ, cond, List, length, Some, None, Ok, Err, Option, Result, ◌==◌}
use Rattle.market.specs.declared.words.Side.{Side}
use Rattle.market.specs.declared.words.Column.{Column}
use Rattle.text.specs.declared.refusal.Refusal.{Refusal}
use Rattle.text.specs.declared.refusal.Refusal.TheVariants.{EmptyText, UnknownLetter, FieldCount, BadNumber, BadLetter}
use Rattle.market.specs.declared.words.PricedOrder.{PricedOrder}
use Rattle.text.specs.declared.record.Record.{Record}
use Rattle.text.specs.declared.record.Record.TheVariants.{Set, Limit, ImmediateOrCancel, Stop, Market, Cancel, FloorTrade, Resume, Open, Close}
use Rattle.text.specs.declared.record.RecordKind.{RecordKind}
use Rattle.text.specs.declared.record.RecordKind.TheVariants.{Set as SetKind, Limit as LimitKind, ImmediateOrCancel as ImmediateKind, Stop as StopKind, Market as MarketKind, Cancel as CancelKind, FloorTrade as FloorKind, Resume as ResumeKind, Open as OpenKind, Close as CloseKind}
use Rattle.text.specs.declared.fault.LineFault.{LineFault}
use Rattle.text.specs.declared.read.Fault.{Fault}
use Rattle.text.specs.declared.read.Read.{Read}
use Rattle.text.specs.Cuts.{line_of, rest_of, next_of, field_count, field_at}
use Rattle.text.specs.Numbers.{number_in}
use Rattle.text.specs.Letters.{kind_in, side_in, column_in, fields_of}

-- a cause with the place of its field: the letter is field 1, and 0 means the line as a whole
abbrev pub fault_at : Refusal → ℕ → LineFault
fault_at c k = record { cause = c; field = k }

-- the first bad field from the left is the fault
abbrev pub set_from : Option ℕ → Option Column → Option ℕ → Result Record LineFault
set_from None column last = Err (fault_at BadNumber 2)
set_from (Some class) None last = Err (fault_at BadLetter 3)
set_from (Some class) (Some column) None = Err (fault_at BadNumber 4)
set_from (Some class) (Some column) (Some last) = Ok (Set class column last)

abbrev pub priced_from : Option Side → Option ℕ → Option ℕ → Option ℕ → Result PricedOrder LineFault
priced_from None member price shares = Err (fault_at BadLetter 2)
priced_from (Some side) None price shares = Err (fault_at BadNumber 3)
priced_from (Some side) (Some member) None shares = Err (fault_at BadNumber 4)
priced_from (Some side) (Some member) (Some price) None = Err (fault_at BadNumber 5)
priced_from (Some side) (Some member) (Some price) (Some shares) = Ok (record { side = side; member = member; price = price; shares = shares })

abbrev pub market_from : Option Side → Option ℕ → Option ℕ → Result Record LineFault
market_from None member shares = Err (fault_at BadLetter 2)
market_from (Some side) None shares = Err (fault_at BadNumber 3)
market_from (Some side) (Some member) None = Err (fault_at BadNumber 4)
market_from (Some side) (Some member) (Some shares) = Ok (Market side member shares)

abbrev pub pair_from : Option ℕ → Option ℕ → Result (ℕ × ℕ) LineFault
pair_from None second = Err (fault_at BadNumber 2)
pair_from (Some first) None = Err (fault_at BadNumber 3)
pair_from (Some first) (Some second) = Ok (first, second)

abbrev pub as_record : {A : Type 0} → (A → Record) → Result A LineFault → Result Record LineFault
as_record made (Ok fields) = Ok (made fields)
as_record made (Err fault) = Err fault

abbrev pub set_in : List ℕ → Result Record LineFault
set_in line = set_from (number_in (field_at 1 line)) (column_in (field_at 2 line)) (number_in (field_at 3 line))

abbrev pub priced_in : List ℕ → Result PricedOrder LineFault
priced_in line = priced_from (side_in (field_at 1 line)) (number_in (field_at 2 line)) (number_in (field_at 3 line)) (number_in (field_at 4 line))

abbrev pub market_in : List ℕ → Result Record LineFault
market_in line = market_from (side_in (field_at 1 line)) (number_in (field_at 2 line)) (number_in (field_at 3 line))

abbrev pub pair_in : List ℕ → Result (ℕ × ℕ) LineFault
pair_in line = pair_from (number_in (field_at 1 line)) (number_in (field_at 2 line))

-- a line of the right count of fields, by its kind
abbrev pub fields_as : RecordKind → List ℕ → Result Record LineFault
fields_as SetKind line = set_in line
fields_as LimitKind line = as_record Limit (priced_in line)
fields_as ImmediateKind line = as_record ImmediateOrCancel (priced_in line)
fields_as StopKind line = as_record Stop (priced_in line)
fields_as MarketKind line = market_in line
fields_as CancelKind line = as_record (λ p. Cancel p.0 p.1) (pair_in line)
fields_as FloorKind line = as_record (λ p. FloorTrade p.0 p.1) (pair_in line)
fields_as ResumeKind line = Ok Resume
fields_as OpenKind line = Ok Open
fields_as CloseKind line = Ok Close

-- the letter first, then the count of fields, then the fields
abbrev pub record_as : Option RecordKind → List ℕ → Result Record LineFault
record_as None line = Err (fault_at UnknownLetter 0)
record_as (Some kind) line = cond (field_count line == fields_of kind) (fields_as kind line) (Err (fault_at FieldCount 0))

abbrev pub record_in : List ℕ → Result Record LineFault
record_in line = record_as (kind_in (field_at 0 line)) line

abbrev pub read_as : Result Record LineFault → List ℕ → Result (Record × List ℕ) Fault
read_as (Ok r) text = Ok (r, rest_of text)
read_as (Err f) text = Err (record { cause = f.cause; field = f.field; next = next_of text })

-- the record of a text's first line and the unread rest, or the fault
abbrev pub read_of : List ℕ → Result (Record × List ℕ) Fault
read_of text = cond (length text == 0) (Err (record { cause = EmptyText; field = 0; next = 0 })) (read_as (record_in (line_of text)) text)

-- what a reading answers, apart from where the rest lies
abbrev pub seen : Result Read Fault → Result (Record × List ℕ) Fault
seen (Ok r) = Ok (r.record, r.rest.now)
seen (Err f) = Err f
