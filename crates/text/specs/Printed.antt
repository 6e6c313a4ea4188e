-- The lines that programs print of a day, each with its end.
use Rattle.std.specs.Prelude.{ℕ, List, [], ◌∷◌, ◌++◌, decimal}
use Rattle.text.specs.declared.printed.Layer.{Layer}
use Rattle.text.specs.declared.printed.Layer.TheVariants.{Text, Session, Market}
use Rattle.text.specs.declared.printed.Printed.{Printed}
use Rattle.text.specs.declared.printed.Printed.TheVariants.{Accepted, Tape, Refused, Totals}
use Rattle.text.specs.Tape.{tape_bytes}
use Rattle.text.specs.Written.{tabbed}

abbrev pub layer_letter : Layer → ℕ
layer_letter Text = 84
layer_letter Session = 83
layer_letter Market = 77

-- a line of some fields, with its end
abbrev pub ended : ℕ → List (List ℕ) → List ℕ
ended letter fields = (letter ∷ tabbed fields) ++ 10 ∷ []

-- a refusal: line, layer, number, field
abbrev pub refused_bytes : ℕ → Layer → ℕ → ℕ → List ℕ
refused_bytes line layer number field = ended 33 (decimal line ∷ (layer_letter layer ∷ []) ∷ decimal number ∷ decimal field ∷ [])

abbrev pub printed_bytes : Printed → List ℕ
printed_bytes (Accepted number) = ended 65 (decimal number ∷ [])
printed_bytes (Tape line) = tape_bytes line ++ 10 ∷ []
printed_bytes (Refused line layer number field) = refused_bytes line layer number field
printed_bytes (Totals accepted printed cancelled left) = ended 90 (decimal accepted ∷ decimal printed ∷ decimal cancelled ∷ decimal left ∷ [])

abbrev pub bytes_of : List Printed → List ℕ
bytes_of [] = []
bytes_of (p ∷ ps) = printed_bytes p ++ bytes_of ps
