use Rattle.std.proofs.Common.{Some, sym, ap, ◌∙◌}
use Rattle.std.proofs.lemmas.Bool.{ltb-true}
use Rattle.market.specs.declared.words.Order.{Order}
use Rattle.market.specs.Rolls.{listed}
use Rattle.orderbook.specs.Sorted.{book}
use Rattle.orderbook.proofs.Upkeep.{tied}
use Rattle.orderbook.proofs.Sorting.{first_some}
use Rattle.orderbook.proofs.Reading.{row_at}
use Rattle.orderbook.proofs.rows.Rows.best.Goals as goal

pub returns : goal.returns
returns g c =
    let r = c.args.self.now in
    let i = c.in_ok-row.ensures.item in
    let x = row_at g.S.BookSide.side (listed r.roll.now) r.rows.now (tied r.tied) 0 (ltb-true _ _ (sym i.0)) i.1 c.order.ensures in
    ap (λ (o : Order). Some o) x.is ∙ first_some (book g.S.BookSide.side (listed r.roll.now)) x.there
