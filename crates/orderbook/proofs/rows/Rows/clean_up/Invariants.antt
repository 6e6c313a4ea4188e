use Rattle.market.specs.Orders.{reaches}
use Rattle.market.specs.Rolls.{listed}
use Rattle.orderbook.specs.Trades.{clean_up_to}
use Rattle.orderbook.proofs.Sweeping.{Sweeping}
use Rattle.orderbook.proofs.rows.Rows.clean_up.Given as goal

abbrev pub invariant-loop-row : goal.invariant-loop-row
invariant-loop-row g l =
    let os = listed l.self.roll.now in
    Sweeping g.S.BookSide.side os l.quantity (reaches l.order l.range) l.last l.sum l.row-index (clean_up_to l.quantity l.order l.range os)
