use Rattle.std.proofs.Common.{◌≡◌}
use Rattle.market.specs.Rolls.{listed}
use Rattle.orderbook.proofs.Dealing.{each_filled}
use Rattle.orderbook.proofs.deal.trade.Given as goal

abbrev pub invariant-loop-row : goal.invariant-loop-row
invariant-loop-row g l =
    each_filled l.row-iterator.a.rest.now l.row-iterator.b.rest.now (listed l.roll) ≡ each_filled l.initial.row-iterator.a.rest.now l.initial.row-iterator.b.rest.now (listed l.initial.roll)
