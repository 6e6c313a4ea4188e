use Rattle.std.proofs.Common.{◌≡◌, map, take}
use Rattle.market.specs.Rolls.{listed}
use Rattle.orderbook.proofs.Reading.{open_in}
use Rattle.orderbook.proofs.rows.Rows.open_shares.Given as goal

abbrev pub invariant-loop-row : goal.invariant-loop-row
invariant-loop-row g l = l.shares.items ≡ map (open_in (listed l.self.roll.now)) (take l.row-index l.row-items)
