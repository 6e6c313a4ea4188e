use Rattle.std.proofs.Common.{◌≡◌, ◌+◌, ◌<◌, map, length, take, sym, ap, ◌∙◌, subst, arith, length-take}
use Rattle.std.proofs.lemmas.Bool.{lt-ltb}
use Rattle.market.specs.declared.words.Side.{Side}
use Rattle.market.specs.declared.words.Stop.{Stop}
use Rattle.stops.specs.declared.rows.PricedStop.{PricedStop}
use Rattle.stops.specs.Tables.{stop_of, ranks, Beside}
use Rattle.stops.proofs.Shifts.{filed_beside, filed_longer, row_filed}
use Rattle.stops.proofs.table.Table.file.Goals as goal

pub returns : goal.returns
returns g c =
    let side = g.S.BookSide.side in
    let s = c.args.stop in
    let old = c.args.self.now in
    let rows = take old.held old.rows in
    let filed = take (old.held + 1) c.insert.new.file in
    let row : PricedStop g.row.S.Denot = record { number = s.number; price = s.price; shares = s.shares; side = c.default.result } in
    let free : old.held < length old.rows = omega (arith, length-take old.held old.rows, old.long, c.requires.room) in
    let is = row_filed c.insert.result (c.insert.ensures.room ∙ lt-ltb _ _ free) c.insert.ensures.front in
    let same : stop_of side row ≡ s = ap (λ (d : Side). let t : Stop = record { number = s.number; side = d; price = s.price; shares = s.shares } in t) (sym c.requires.here) in
    record {
      joined = subst (λ (t : Stop). Beside t (map (stop_of side) filed) (map (stop_of side) rows)) same (filed_beside (stop_of side) (ranks side) rows filed row is);
      longer = filed_longer (stop_of side) (ranks side) rows filed row is;
    }
