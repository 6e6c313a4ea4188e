use Rattle.std.proofs.Common.{rules}
use Rattle.replay.specs.Rolls.{left}
use Rattle.orderbook.proofs.book.Book.left.Goals as goal

pub returns : goal.returns
unfolding left
returns c = search rules
