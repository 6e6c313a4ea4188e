-- What is shown of a day file before it is replayed: each line as it was read, or its refusal, and a count of both.
use Rattle.std.specs.Prelude.{ℕ, ◌+◌, Bool, true, false, cond, List, [], ◌∷◌, ◌++◌, length, is_ok, is_err, Ok, Err, decimal, Result, ◌==◌, nat_lt}
use Rattle.text.specs.declared.refusal.Refusal.TheVariants.{InputTooLong}
use Rattle.text.specs.declared.record.Record.{Record}
use Rattle.text.specs.declared.fault.LineFault.{LineFault}
use Rattle.text.specs.Refusals.{code_of}
use Rattle.text.specs.Reading.{record_in}
use Rattle.text.specs.Written.{tabbed, bytes_for}
use Rattle.text.specs.declared.printed.Layer.TheVariants.{Text}
use Rattle.text.specs.Printed.{refused_bytes}

-- a byte in front of the first of some lines
abbrev pub on_first : ℕ → List (List ℕ) → List (List ℕ)
on_first c [] = (c ∷ []) ∷ []
on_first c (line ∷ lines) = (c ∷ line) ∷ lines

-- the lines of a text: byte 10 ends a line, and one at the very end opens no other
abbrev pub lines_of : List ℕ → List (List ℕ)
lines_of [] = []
lines_of (c ∷ cs) = cond (c == 10) ([] ∷ lines_of cs) (on_first c (lines_of cs))

abbrev pub shown_as : ℕ → Result Record LineFault → List ℕ
shown_as n (Ok r) = bytes_for r ++ 10 ∷ []
shown_as n (Err f) = refused_bytes n Text (code_of f.cause) f.field

-- lines, numbered from n
abbrev pub shown_from : ℕ → List (List ℕ) → List ℕ
shown_from n [] = []
shown_from n (line ∷ lines) = shown_as n (record_in line) ++ shown_from (n + 1) lines

abbrev pub one : Bool → ℕ
one true = 1
one false = 0

-- how many lines hold a record, and how many are refused
abbrev pub good_in : List (List ℕ) → ℕ
good_in [] = 0
good_in (line ∷ lines) = one (is_ok (record_in line)) + good_in lines

abbrev pub refused_in : List (List ℕ) → ℕ
refused_in [] = 0
refused_in (line ∷ lines) = one (is_err (record_in line)) + refused_in lines

abbrev pub summary_line : ℕ → ℕ → List ℕ
summary_line good refused = (35 ∷ tabbed (decimal good ∷ decimal refused ∷ [])) ++ 10 ∷ []

-- everything that is printed of an input
abbrev pub inspected : List ℕ → List ℕ
inspected text =
    cond (nat_lt 32768 (length text)) (refused_bytes 0 Text (code_of InputTooLong) 0)
    (cond (length text == 0) [] (shown_from 1 (lines_of text) ++ summary_line (good_in (lines_of text)) (refused_in (lines_of text))))
