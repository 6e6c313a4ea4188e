use Rattle.std.proofs.Common.{lit<, ◌<◌, map, length, take, ap, ◌∙◌, arith, length-take}
use Rattle.std.proofs.lemmas.List.{length-map, take_all}
use Rattle.market.specs.Rolls.{listed}
use Rattle.orderbook.proofs.Upkeep.{tied}
use Rattle.orderbook.proofs.Reading.{open_in, good_open, good_few}
use Rattle.orderbook.proofs.rows.Rows.open_shares.Goals as goal

pub push-requires : goal.push-requires
push-requires g c =
    let r = c.args.self.now in
    let os = listed r.roll.now in
    let i = c.loop-row.row-index in
    let rows = c.front-row-items.result.now in
    let room : length c.loop-row.shares.items < 512 =
    omega (arith, ap length c.loop-row.invariant, length-map (take i rows) (open_in os), length-take i rows, ap length c.front-row-items.ensures, good_few g.S.BookSide.side os r.rows.now (tied r.tied) c.args.price) in
    (lit< tt, room)

pub returns : goal.returns
returns g c =
    let r = c.args.self.now in
    let os = listed r.roll.now in
    c.loop-row.invariant ∙ ap (map (open_in os)) (take_all c.loop-row.row-index c.front-row-items.result.now c.loop-row-test.false ∙ c.front-row-items.ensures)
    ∙ good_open g.S.BookSide.side os r.rows.now (tied r.tied) c.args.price
