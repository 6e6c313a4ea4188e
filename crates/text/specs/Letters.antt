-- The letters of a line: which record it holds, sides and columns.
use Rattle.std.specs.Prelude.{ℕ, cond, List, length, Some, None, Option, ◌==◌, slice_index}
use Rattle.market.specs.declared.words.Side.{Side}
use Rattle.market.specs.declared.words.Side.TheVariants.{Buy, Sell}
use Rattle.market.specs.declared.words.Column.{Column}
use Rattle.market.specs.declared.words.Column.TheVariants.{Lower, Higher}
use Rattle.text.specs.declared.record.RecordKind.{RecordKind}
use Rattle.text.specs.declared.record.RecordKind.TheVariants.{Set, Limit, ImmediateOrCancel, Stop, Market, Cancel, FloorTrade, Resume, Open, Close}

-- the byte of a field that has just one
abbrev pub only_byte : List ℕ → Option ℕ
only_byte field = cond (length field == 1) (Some (slice_index field 0)) None

abbrev pub kind_of : ℕ → Option RecordKind
kind_of c =
    cond (c == 71) (Some Set)
    (cond (c == 78) (Some Limit)
    (cond (c == 73) (Some ImmediateOrCancel)
    (cond (c == 84) (Some Stop)
    (cond (c == 77) (Some Market)
    (cond (c == 67) (Some Cancel)
    (cond (c == 70) (Some FloorTrade)
    (cond (c == 82) (Some Resume)
    (cond (c == 79) (Some Open)
    (cond (c == 90) (Some Close) None)))))))))

abbrev pub side_of : ℕ → Option Side
side_of c = cond (c == 66) (Some Buy) (cond (c == 83) (Some Sell) None)

abbrev pub column_of : ℕ → Option Column
column_of c = cond (c == 76) (Some Lower) (cond (c == 72) (Some Higher) None)

-- what the byte of a field of one byte means
abbrev pub named : {A : Type 0} → (ℕ → Option A) → Option ℕ → Option A
named meaning None = None
named meaning (Some c) = meaning c

abbrev pub kind_in : List ℕ → Option RecordKind
kind_in field = named kind_of (only_byte field)

abbrev pub side_in : List ℕ → Option Side
side_in field = named side_of (only_byte field)

abbrev pub column_in : List ℕ → Option Column
column_in field = named column_of (only_byte field)

-- the letter that stands for a kind, a side, a column
abbrev pub kind_letter : RecordKind → ℕ
kind_letter Set = 71
kind_letter Limit = 78
kind_letter ImmediateOrCancel = 73
kind_letter Stop = 84
kind_letter Market = 77
kind_letter Cancel = 67
kind_letter FloorTrade = 70
kind_letter Resume = 82
kind_letter Open = 79
kind_letter Close = 90

abbrev pub side_letter : Side → ℕ
side_letter Buy = 66
side_letter Sell = 83

abbrev pub column_letter : Column → ℕ
column_letter Lower = 76
column_letter Higher = 72

-- how many fields a line of each kind has, its letter counted
abbrev pub fields_of : RecordKind → ℕ
fields_of Set = 4
fields_of Limit = 5
fields_of ImmediateOrCancel = 5
fields_of Stop = 5
fields_of Market = 4
fields_of Cancel = 3
fields_of FloorTrade = 3
fields_of Resume = 1
fields_of Open = 1
fields_of Close = 1
