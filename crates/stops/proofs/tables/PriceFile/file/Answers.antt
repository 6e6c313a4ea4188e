use Rattle.std.proofs.Common.{map, arith}
use Rattle.market.specs.declared.words.Side.TheVariants.{Buy, Sell}
use Rattle.stops.specs.Tables.{stop_of}
use Rattle.stops.specs.Priced.{buys_of, sells_of, held_by, length_held}
use Rattle.stops.proofs.Merged.{below_held, beside_left, beside_right, joined_last, joined_apart}
use Rattle.stops.proofs.tables.PriceFile.file.Goals as goal

pub invariant_of-self : goal.invariant_of-self
invariant_of-self c =
    let f = c.args.self.now in
    record {
      within = omega (arith, length_held f, c.requires.room, c.file.ensures.longer);
      distinct = joined_apart (beside_left (map (stop_of Sell) (sells_of f)) c.file.ensures.joined) (below_held c.args.stop.number (held_by f) c.requires.above) f.distinct;
    }

pub invariant_of-self-in-Sell : goal.invariant_of-self-in-Sell
invariant_of-self-in-Sell c =
    let f = c.args.self.now in
    record {
      within = omega (arith, length_held f, c.requires.room, c.file-in-Sell.ensures.longer);
      distinct = joined_apart (beside_right (map (stop_of Buy) (buys_of f)) c.file-in-Sell.ensures.joined) (below_held c.args.stop.number (held_by f) c.requires.above) f.distinct;
    }

pub returns-in-Buy : goal.returns-in-Buy
returns-in-Buy c =
    let f = c.args.self.now in
    joined_last (beside_left (map (stop_of Sell) (sells_of f)) c.file.ensures.joined) (below_held c.args.stop.number (held_by f) c.requires.above)

pub returns-in-Sell : goal.returns-in-Sell
returns-in-Sell c =
    let f = c.args.self.now in
    joined_last (beside_right (map (stop_of Buy) (buys_of f)) c.file-in-Sell.ensures.joined) (below_held c.args.stop.number (held_by f) c.requires.above)
