use Rattle.market.specs.Sides.{opposite}
use Rattle.trading.proofs.Ruled.{ruled, ruled_traded}
use Rattle.trading.proofs.Trades.{traded_is, runner_stays}
use Rattle.trading.proofs.board.Board.print.Goals as goal

pub invariant_of-self : goal.invariant_of-self
invariant_of-self g c =
    let o = c.args.order.now in
    let gifts = g.R.ShareOut.gifts c.args.rule.now in
    record { ruled = ∣ ruled_traded gifts o.number (opposite o.side) c.args.price (traded_is gifts c.args.price c.trade-shares.ensures.roll c.requires.runner) (ruled c.args.self.now.ruled) ∣₁ }

pub returns-clause-runner : goal.returns-clause-runner
returns-clause-runner g c =
    let gifts = g.R.ShareOut.gifts c.args.rule.now in
    runner_stays gifts (opposite c.args.order.now.side) c.args.price (traded_is gifts c.args.price c.trade-shares.ensures.roll c.requires.runner) c.requires.runner
