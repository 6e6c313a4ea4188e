use Rattle.orderbook.specs.Books.{roll_of}
use Rattle.orderbook.proofs.Summing.{Summed}
use Rattle.orderbook.proofs.book.Book.totals.Given as goal

abbrev pub invariant-loop-order : goal.invariant-loop-order
invariant-loop-order l = Summed (roll_of l.self) l.order-index l.accepted l.filled l.cancelled l.«open»
