-- The refusals of the text layer, by number.
use Rattle.std.specs.Prelude.{ℕ}
use Rattle.text.specs.declared.refusal.Refusal.{Refusal}
use Rattle.text.specs.declared.refusal.Refusal.TheVariants.{EmptyText, UnknownLetter, FieldCount, BadNumber, BadLetter, NumberTooLarge, BufferTooShort, InputTooLong}

abbrev pub code_of : Refusal → ℕ
code_of EmptyText = 10
code_of UnknownLetter = 11
code_of FieldCount = 12
code_of BadNumber = 13
code_of BadLetter = 14
code_of NumberTooLarge = 15
code_of BufferTooShort = 16
code_of InputTooLong = 17
