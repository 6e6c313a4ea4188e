use Rattle.std.proofs.Common.{rules, tests, ◌∙◌}
use Rattle.std.proofs.lemmas.List.Folds.{length-prefix_len}
use Rattle.std.proofs.lemmas.Iterator.{YieldsList-from_slice}
use Rattle.std.proofs.lemmas.Iterator.Consumers.{count_from_yields_List}
use Rattle.std.proofs.lemmas.Iterator.Search.{YieldsList-from_take_while}
use Rattle.market.specs.declared.side.Resting.{Resting}
use Rattle.market.specs.Rolls.{listed}
use Rattle.market.specs.Sides.{better}
use Rattle.orderbook.proofs.Upkeep.{tied}
use Rattle.orderbook.proofs.Reading.{better_count}
use Rattle.orderbook.proofs.rows.Rows.better.Goals as goal

pub returns : goal.returns
returns g c =
    let s = g.S.BookSide.side in
    let r = c.args.self.now in
    let p = c.args.price in
    count_from_yields_List c.take_while.result _ c.count.ensures.ran
    (YieldsList-from_take_while _ (λ (e : Resting g.row.S.Denot). better s e.price p) (YieldsList-from_slice r.rows.now (cc)) c.take_while.ensures.closure c.take_while.ensures.done (λ x b q k. search (rules, tests)))
    ∙ length-prefix_len (λ (e : Resting g.row.S.Denot). better s e.price p) r.rows.now
    ∙ better_count s (listed r.roll.now) r.rows.now (tied r.tied) p
