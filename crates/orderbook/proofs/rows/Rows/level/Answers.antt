use Rattle.std.proofs.Common.{rules, eqb, sum, filter, tests, ap, ◌∙◌, sym, arith}
use Rattle.std.specs.List.{take_while}
use Rattle.std.proofs.lemmas.List.Sums.{sum-map}
use Rattle.std.proofs.lemmas.Iterator.{YieldsList-from_slice, YieldsList-from_map}
use Rattle.std.proofs.lemmas.Iterator.Consumers.{YieldsList-at, YieldsList-from_filter, sum_by_from_yields_List, fits_by_from_yields_list}
use Rattle.market.specs.declared.side.Resting.{Resting}
use Rattle.market.specs.Rolls.{listed}
use Rattle.market.specs.Sides.{as_good}
use Rattle.orderbook.proofs.Upkeep.{tied}
use Rattle.orderbook.proofs.Fronts.{total_sum_by}
use Rattle.orderbook.proofs.Reading.{open_in, level_open, level_few}
use Rattle.orderbook.proofs.rows.Rows.level.Goals as goal

pub sum-requires-clause-fits : goal.sum-requires-clause-fits
sum-requires-clause-fits g c =
    let s = g.S.BookSide.side in
    let r = c.args.self.now in
    let p = c.args.price in
    let os = listed r.roll.now in
    fits_by_from_yields_list (open_in os) _ c.map.result _
    (YieldsList-from_map _ (open_in os)
    (YieldsList-at c.map.ensures.source (YieldsList-from_filter _ (λ (e : Resting g.row.S.Denot). eqb e.price p)
    (YieldsList-from_slice (take_while (λ (e : Resting g.row.S.Denot). as_good s e.price p) r.rows.now) (cc)) c.filter.ensures.closure (λ x b q k. search (rules, tests))))
    c.map.ensures.closure (λ x b q k. search (rules, tests)))
    (omega (arith, level_few s os r.rows.now (tied r.tied) p))

pub returns : goal.returns
returns g c =
    let s = g.S.BookSide.side in
    let r = c.args.self.now in
    let p = c.args.price in
    let os = listed r.roll.now in
    let at = filter (λ (e : Resting g.row.S.Denot). eqb e.price p) (take_while (λ (e : Resting g.row.S.Denot). as_good s e.price p) r.rows.now) in
    sum_by_from_yields_List (open_in os) at c.map.result c.sum.result c.sum.ensures.ran
    (YieldsList-from_map _ (open_in os)
    (YieldsList-at c.map.ensures.source (YieldsList-from_filter _ (λ (e : Resting g.row.S.Denot). eqb e.price p)
    (YieldsList-from_slice (take_while (λ (e : Resting g.row.S.Denot). as_good s e.price p) r.rows.now) (cc)) c.filter.ensures.closure (λ x b q k. search (rules, tests))))
    c.map.ensures.closure (λ x b q k. search (rules, tests)))
    ∙ sym (sum-map (open_in os) at) ∙ ap sum (level_open s os r.rows.now (tied r.tied) p) ∙ total_sum_by (λ n. n) _
