-- Reading and writing undo each other.
use Rattle.std.specs.Prelude.{◌≡◌, ℕ, List, [], ◌∷◌, ◌++◌, drop, Ok, Err, Result}
use Rattle.text.specs.declared.refusal.Refusal.{Refusal}
use Rattle.text.specs.declared.record.Record.{Record}
use Rattle.text.specs.declared.read.Fault.{Fault}
use Rattle.text.specs.declared.read.Read.{Read}
use Rattle.text.specs.Cuts.{line_of}
use Rattle.text.specs.Reading.{read_of}
use Rattle.text.specs.Written.{line_for}

-- what was written reads back as its record, with exactly what followed it as the rest; a refusal left the buffer as it was
abbrev pub ReadsBack : Record → Result ℕ Refusal → List ℕ → List ℕ → Type 0
ReadsBack r (Ok n) before after = read_of after ≡ Ok (r, drop n before)
ReadsBack r (Err refusal) before after = after ≡ before

-- a record that was read writes its own line again, byte for byte
abbrev pub WritesBack : Result Read Fault → List ℕ → Type 0
WritesBack (Ok x) text = line_for x.record ≡ Ok (line_of text ++ 10 ∷ [])
WritesBack (Err fault) text = Unit {0}
