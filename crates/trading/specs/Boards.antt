-- The day that a board stands for. Assumes nothing.
use Rattle.std.specs.Prelude.{ℕ, List, []}
use Rattle.market.specs.declared.words.Order.{Order}
use Rattle.orderbook.specs.Books.{roll_of}
use Rattle.replay.specs.Days.{Day, Phase}
use Rattle.trading.specs.declared.board.Board.{Board}
use Rattle.trading.specs.Waiting.{line_of}

abbrev pub orders_of : Board → List Order
orders_of b = roll_of b.book

abbrev pub waiting_of : Board → List ℕ
waiting_of b = line_of b.line

-- as it is, with no history
abbrev pub day_of : Phase → Board → Day
day_of f b = record {
  roll = orders_of b;
  line = waiting_of b;
  paused = b.paused;
  range = b.range;
  last = b.last_sale;
  class = b.class;
  column = b.column;
  phase = f;
  tape = [];
  fills = [];
}
