-- The roll of a book. Assumes nothing.
use Rattle.std.specs.Prelude.{List}
use Rattle.market.specs.declared.words.Order.{Order}
use Rattle.market.specs.Rolls.{listed}
use Rattle.orderbook.specs.declared.book.Book.{Book}

abbrev pub roll_of : Book → List Order
roll_of b = listed b.roll
