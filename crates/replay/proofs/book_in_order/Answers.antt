use Rattle.replay.proofs.InOrder.{book_in_order}
use Rattle.replay.proofs.book_in_order.Goals as goal

pub returns : goal.returns
returns c = book_in_order
