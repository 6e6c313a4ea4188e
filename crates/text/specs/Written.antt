-- The line that is written of a record or of a tape line, and what a buffer holds after.
use Rattle.std.specs.Prelude.{ℕ, Bool, true, cond, ◌&&◌, List, [], ◌∷◌, ◌++◌, length, drop, Ok, Err, decimal, Result, nat_le}
use Rattle.text.specs.declared.refusal.Refusal.{Refusal}
use Rattle.text.specs.declared.refusal.Refusal.TheVariants.{NumberTooLarge, BufferTooShort}
use Rattle.market.specs.declared.words.PricedOrder.{PricedOrder}
use Rattle.text.specs.declared.record.Record.{Record}
use Rattle.text.specs.declared.record.Record.TheVariants.{Set, Limit, ImmediateOrCancel, Stop, Market, Cancel, FloorTrade, Resume, Open, Close}
use Rattle.text.specs.declared.record.RecordKind.{RecordKind}
use Rattle.text.specs.declared.record.RecordKind.TheVariants.{Set as SetKind, Limit as LimitKind, ImmediateOrCancel as ImmediateKind, Stop as StopKind, Market as MarketKind, Cancel as CancelKind, FloorTrade as FloorKind, Resume as ResumeKind, Open as OpenKind, Close as CloseKind}
use Rattle.text.specs.declared.line.Line.{Line}
use Rattle.text.specs.Letters.{kind_letter, side_letter, column_letter}

-- what a line under construction holds so far
abbrev pub text_of : Line → List ℕ
text_of line = line.bytes.items

-- further fields, each behind a tab
abbrev pub tabbed : List (List ℕ) → List ℕ
tabbed [] = []
tabbed (f ∷ fs) = 9 ∷ (f ++ tabbed fs)

abbrev pub kind_for : Record → RecordKind
kind_for (Set class column last) = SetKind
kind_for (Limit order) = LimitKind
kind_for (ImmediateOrCancel order) = ImmediateKind
kind_for (Stop order) = StopKind
kind_for (Market side member shares) = MarketKind
kind_for (Cancel member number) = CancelKind
kind_for (FloorTrade price shares) = FloorKind
kind_for Resume = ResumeKind
kind_for Open = OpenKind
kind_for Close = CloseKind

abbrev pub priced_fields : PricedOrder → List (List ℕ)
priced_fields o = (side_letter o.side ∷ []) ∷ decimal o.member ∷ decimal o.price ∷ decimal o.shares ∷ []

-- the fields behind the letter
abbrev pub fields_for : Record → List (List ℕ)
fields_for (Set class column last) = decimal class ∷ (column_letter column ∷ []) ∷ decimal last ∷ []
fields_for (Limit order) = priced_fields order
fields_for (ImmediateOrCancel order) = priced_fields order
fields_for (Stop order) = priced_fields order
fields_for (Market side member shares) = (side_letter side ∷ []) ∷ decimal member ∷ decimal shares ∷ []
fields_for (Cancel member number) = decimal member ∷ decimal number ∷ []
fields_for (FloorTrade price shares) = decimal price ∷ decimal shares ∷ []
fields_for Resume = []
fields_for Open = []
fields_for Close = []

-- the line of a record, its end left out
abbrev pub bytes_for : Record → List ℕ
bytes_for r = kind_letter (kind_for r) ∷ tabbed (fields_for r)

abbrev pub priced_numbers : PricedOrder → List ℕ
priced_numbers o = o.member ∷ o.price ∷ o.shares ∷ []

abbrev pub numbers_of : Record → List ℕ
numbers_of (Set class column last) = class ∷ last ∷ []
numbers_of (Limit order) = priced_numbers order
numbers_of (ImmediateOrCancel order) = priced_numbers order
numbers_of (Stop order) = priced_numbers order
numbers_of (Market side member shares) = member ∷ shares ∷ []
numbers_of (Cancel member number) = member ∷ number ∷ []
numbers_of (FloorTrade price shares) = price ∷ shares ∷ []
numbers_of Resume = []
numbers_of Open = []
numbers_of Close = []

-- whether each number has at most 7 digits
abbrev pub all_fit : List ℕ → Bool
all_fit [] = true
all_fit (n ∷ ns) = nat_le n 9999999 && all_fit ns

-- the line of a record with its end, or the refusal of a number that no line holds
abbrev pub line_for : Record → Result (List ℕ) Refusal
line_for r = cond (all_fit (numbers_of r)) (Ok (bytes_for r ++ 10 ∷ [])) (Err NumberTooLarge)

-- what writing a line at a buffer's start answers, and the buffer after
abbrev pub put_length : Result (List ℕ) Refusal → List ℕ → Result ℕ Refusal
put_length (Ok line) buffer = cond (nat_le (length line) (length buffer)) (Ok (length line)) (Err BufferTooShort)
put_length (Err refusal) buffer = Err refusal

abbrev pub put_buffer : Result (List ℕ) Refusal → List ℕ → List ℕ
put_buffer (Ok line) buffer = cond (nat_le (length line) (length buffer)) (line ++ drop (length line) buffer) buffer
put_buffer (Err refusal) buffer = buffer
