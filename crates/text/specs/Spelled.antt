-- The letters of a line stand for sides, columns and kinds of records.
use Rattle.std.specs.Prelude.{refl}
use Rattle.std.proofs.Common.{arith}
use Rattle.std.proofs.lemmas.Bool.Decides.{nat_tests}
use Rattle.market.specs.declared.words.Side.TheVariants.{Buy, Sell}
use Rattle.market.specs.declared.words.Column.TheVariants.{Lower, Higher}
use Rattle.text.specs.declared.record.RecordKind.TheVariants.{Set, Limit, ImmediateOrCancel, Stop, Market, Cancel, FloorTrade, Resume, Open, Close}
use Rattle.text.specs.Letters.{kind_of, side_of, column_of, kind_letter, side_letter, column_letter}
use Rattle.text.specs.Spelling.{IsSpelling}

pub side_spelling : IsSpelling side_of side_letter
side_spelling = record {
  reads_back = elim [ Buy ↦ refl | Sell ↦ refl ];
  writes_back = λ c k e. grind (arith, nat_tests);
  high = elim [ Buy ↦ omega arith | Sell ↦ omega arith ];
}

pub column_spelling : IsSpelling column_of column_letter
column_spelling = record {
  reads_back = elim [ Lower ↦ refl | Higher ↦ refl ];
  writes_back = λ c k e. grind (arith, nat_tests);
  high = elim [ Lower ↦ omega arith | Higher ↦ omega arith ];
}

pub kind_spelling : IsSpelling kind_of kind_letter
kind_spelling = record {
  reads_back = elim [ Set ↦ refl | Limit ↦ refl | ImmediateOrCancel ↦ refl | Stop ↦ refl | Market ↦ refl | Cancel ↦ refl | FloorTrade ↦ refl | Resume ↦ refl | Open ↦ refl | Close ↦ refl ];
  writes_back = λ c k e. grind (arith, nat_tests);
  high = elim [ Set ↦ omega arith | Limit ↦ omega arith | ImmediateOrCancel ↦ omega arith | Stop ↦ omega arith | Market ↦ omega arith | Cancel ↦ omega arith | FloorTrade ↦ omega arith | Resume ↦ omega arith | Open ↦ omega arith | Close ↦ omega arith ];
}
