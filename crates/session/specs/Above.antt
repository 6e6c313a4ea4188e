-- What holds of each printed line against those that stand above it. Assumes nothing.
use Rattle.std.specs.Prelude.{◌≡◌, ◌≢◌, ℕ, suc, ◌+◌, ◌*◌, ◌<◌, ◌≤◌, List, length, filter_map, Some, None, Option}
use Rattle.std.specs.List.{AllByRecursion}
use Rattle.market.specs.declared.refusal.Refusal.{Refusal}
use Rattle.market.specs.declared.words.TapeLine.{TapeLine}
use Rattle.market.specs.Refusals.{number_of}
use Rattle.text.specs.declared.printed.Layer.{Layer}
use Rattle.text.specs.declared.printed.Layer.TheVariants.{Text, Session, Market}
use Rattle.text.specs.declared.printed.Printed.{Printed}
use Rattle.text.specs.declared.printed.Printed.TheVariants.{Accepted, Tape, Refused, Totals}
use Rattle.replay.specs.Lists.{total}
use Rattle.replay.specs.Refusals.{other_phase, bad_column, roll_full, tape_short, stop_file_full}
use Rattle.replay.specs.SharesAddUp.{print_of, cancel_of}

abbrev pub tape_line : Printed → Option TapeLine
tape_line (Accepted n) = None
tape_line (Tape l) = Some l
tape_line (Refused n layer k field) = None
tape_line (Totals a p c o) = None

-- the lines of the tape among some printed lines
abbrev pub tape_in : List Printed → List TapeLine
tape_in ps = filter_map tape_line ps

abbrev pub number_on : Printed → Option ℕ
number_on (Accepted n) = Some n
number_on (Tape l) = None
number_on (Refused n layer k field) = None
number_on (Totals a p c o) = None

-- the numbers of the A lines
abbrev pub numbers_in : List Printed → List ℕ
numbers_in ps = filter_map number_on ps

abbrev pub line_refused : Printed → Option ℕ
line_refused (Accepted n) = None
line_refused (Tape l) = None
line_refused (Refused n layer k field) = Some n
line_refused (Totals a p c o) = None

-- the lines of the text that the `!` lines refuse
abbrev pub lines_refused : List Printed → List ℕ
lines_refused ps = filter_map line_refused ps

-- any line but Z
abbrev pub NoTotals : Printed → Type 0
NoTotals (Accepted n) = Unit {0}
NoTotals (Tape l) = Unit {0}
NoTotals (Refused n layer k field) = Unit {0}
NoTotals (Totals a p c o) = ⊥

-- no Z line stands there
abbrev pub Unclosed : List Printed → Type 0
Unclosed ps = AllByRecursion NoTotals ps

-- A refusal of the market: none below a Z line; never that of a column's letter, since a text has none but L and H; that of a full roll only below 512 A
-- lines; and never for want of lines or of places for stops where there are 2,049 and 512.
pub record ByMarket (room free : ℕ) (above : List Printed) (k : ℕ) : Type 0 where
  pub refusal : Refusal
  pub number : k ≡ number_of refusal
  pub trading : Unclosed above
  pub column : k ≢ bad_column
  pub roll : k ≡ roll_full → length (numbers_in above) ≡ 512
  pub tape : k ≡ tape_short → free < 2049
  pub file : k ≡ stop_file_full → room < 512

-- layer, number and field of a refusal
abbrev pub Meets : ℕ → ℕ → List Printed → Layer → ℕ → ℕ → Type 0
Meets room free above Text k field = (11 ≤ k) × (k ≤ 14) × (field ≤ 5)
Meets room free above Session k field = (k ≡ other_phase) × (field ≡ 0)
Meets room free above Market k field = ByMarket room free above k × (field ≡ 0)

-- The Z line: p is the shares of the P lines above, c those of the X lines; each printed share is one bought and one sold.
pub record AddsUp (brought : ℕ) (above : List Printed) (a p c o : ℕ) : Type 0 where
  pub accepted : a ≡ brought
  pub printed : p ≡ total print_of (tape_in above)
  pub cancelled : c ≡ total cancel_of (tape_in above)
  pub sum : a ≡ 2 * p + c + o

-- What holds of a printed line: A numbers run 1, 2, 3 ..; the `!` lines follow the lines of the text, at most one each; only `!` lines stand below a Z line.
abbrev pub Stands : ℕ → ℕ → ℕ → List Printed → Printed → Type 0
Stands room free brought above (Accepted n) = Unclosed above × (n ≡ suc (length (numbers_in above)))
Stands room free brought above (Tape l) = Unclosed above
Stands room free brought above (Refused n layer k field) = AllByRecursion (λ m. m < n) (lines_refused above) × Meets room free above layer k field
Stands room free brought above (Totals a p c o) = Unclosed above × AddsUp brought above a p c o
