use Rattle.std.proofs.Common.{map}
use Rattle.market.specs.declared.words.Side.TheVariants.{Buy, Sell}
use Rattle.stops.specs.Tables.{stop_of}
use Rattle.stops.specs.Priced.{buys_of, sells_of}
use Rattle.stops.proofs.Shifts.{pulled_left, pulled_right, pulled_apart}
use Rattle.stops.proofs.tables.PriceFile.pull.Goals as goal

pub invariant_of-self-clause-distinct : goal.invariant_of-self-clause-distinct
invariant_of-self-clause-distinct c =
    let f = c.args.self.now in
    pulled_apart c.pull.result _ _ (pulled_left (map (stop_of Sell) (sells_of f)) c.pull.result _ _ c.pull.ensures.left) f.distinct

pub invariant_of-self-in-Sells-clause-distinct : goal.invariant_of-self-in-Sells-clause-distinct
invariant_of-self-in-Sells-clause-distinct c =
    let f = c.args.self.now in
    pulled_apart c.pull-in-Sells.result _ _ (pulled_right (map (stop_of Buy) (buys_of f)) c.pull-in-Sells.result _ _ c.pull-in-Sells.ensures.left) f.distinct

pub returns-in-Sells-clause-left : goal.returns-in-Sells-clause-left
returns-in-Sells-clause-left c = pulled_right (map (stop_of Buy) (buys_of c.args.self.now)) c.pull-in-Sells.result _ _ c.pull-in-Sells.ensures.left
