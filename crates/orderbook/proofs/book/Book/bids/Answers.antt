use Rattle.std.proofs.Common.{sym, subst}
use Rattle.market.specs.declared.words.Side.TheVariants.{Buy}
use Rattle.orderbook.specs.Books.{roll_of}
use Rattle.orderbook.specs.Sorted.{Tied}
use Rattle.orderbook.specs.Tables.{keys}
use Rattle.orderbook.proofs.Upkeep.{kept}
use Rattle.orderbook.proofs.book.Book.bids.Goals as goal

pub invariant_of-result : goal.invariant_of-result
invariant_of-result c = let b = c.args.self.now in record { tied = ∣ subst (λ l. Tied Buy (roll_of b) (keys l)) (sym c.as_slice.ensures.value) (kept b.kept).bid ∣₁ }
