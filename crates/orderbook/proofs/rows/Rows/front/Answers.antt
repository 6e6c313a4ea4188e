use Rattle.std.proofs.Common.{rules, ◌≡◌, tests, take, ap, ◌∙◌}
use Rattle.std.specs.List.{prefix_len}
use Rattle.std.proofs.lemmas.List.Folds.{length-prefix_len}
use Rattle.std.proofs.lemmas.Iterator.{YieldsList-from_slice}
use Rattle.std.proofs.lemmas.Iterator.Consumers.{count_from_yields_List}
use Rattle.std.proofs.lemmas.Iterator.Search.{YieldsList-from_take_while}
use Rattle.market.specs.declared.side.Resting.{Resting}
use Rattle.market.specs.Sides.{as_good}
use Rattle.orderbook.proofs.rows.Rows.front.Goals as goal

pub returns : goal.returns
returns g c =
    let s = g.S.BookSide.side in
    let rows = c.args.self.now.rows.now in
    let p = c.args.price in
    let e : c.count-end.result ≡ prefix_len (λ (e : Resting g.row.S.Denot). as_good s e.price p) rows =
    count_from_yields_List c.take_while.result _ c.count-end.ensures.ran
    (YieldsList-from_take_while _ (λ (e : Resting g.row.S.Denot). as_good s e.price p) (YieldsList-from_slice rows (cc)) c.take_while.ensures.closure c.take_while.ensures.done (λ x b q k. search (rules, tests)))
    ∙ length-prefix_len (λ (e : Resting g.row.S.Denot). as_good s e.price p) rows in
    ap (λ n. take n rows) e
