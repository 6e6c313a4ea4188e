use Rattle.orderbook.proofs.Moving.{kept_empty}
use Rattle.orderbook.proofs.book.Book.new.Goals as goal

pub invariant_of-result : goal.invariant_of-result
invariant_of-result c = record { kept = ∣ kept_empty (cc) (cc) (cc) ∣₁ }
