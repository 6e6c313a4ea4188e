use Rattle.std.proofs.Common.{◌≡◌, ◌-◌, min, map, sym, ap, ◌∙◌, arith}
use Rattle.std.proofs.lemmas.Iterator.{YieldsList-from_slice}
use Rattle.std.proofs.lemmas.Iterator.Consumers.{fits_from_yields_list, sum_from_yields_List}
use Rattle.std.proofs.lemmas.List.{length-take-le}
use Rattle.market.specs.Rolls.{listed}
use Rattle.market.specs.Sides.{better, as_good}
use Rattle.replay.specs.Lists.{those}
use Rattle.replay.specs.Book.{ahead, depth}
use Rattle.orderbook.specs.Sorted.{book}
use Rattle.orderbook.proofs.Upkeep.{tied}
use Rattle.orderbook.proofs.Reading.{few_shares}
use Rattle.orderbook.proofs.Prints.{front, given_is, ahead_sum, depth_sum}
use Rattle.orderbook.proofs.deal.print_of.Goals as goal

pub sum-requires-clause-fits : goal.sum-requires-clause-fits
sum-requires-clause-fits g c =
    let s = g.S.BookSide.side in
    let r = c.args.rows.now in
    let os = listed r.roll.now in
    fits_from_yields_list c.iter.result _ (YieldsList-from_slice (map (λ o. o.«open») (those (λ o. as_good s o.price c.args.price) (book s os))) (cc))
    (omega (arith, few_shares s os r.rows.now (tied r.tied) (λ o. as_good s o.price c.args.price)))

pub slice_bounds-iter-end : goal.slice_bounds-iter-end
slice_bounds-iter-end g c =
    let r = c.args.rows.now in
    let f = front g.S.BookSide.side c.args.price (listed r.roll.now) (tied r.tied).sound c.better-better.result c.deref-2.result.now c.better-better.ensures (c.deref-2.ensures.0 ∙ c.open_shares.ensures) in
    sym (length-take-le c.better-better.result c.deref-2.result.now f.within)

pub sum-ahead-requires-clause-fits : goal.sum-ahead-requires-clause-fits
sum-ahead-requires-clause-fits g c =
    let s = g.S.BookSide.side in
    let r = c.args.rows.now in
    let os = listed r.roll.now in
    let f = front s c.args.price os (tied r.tied).sound c.better-better.result c.deref-2.result.now c.better-better.ensures (c.deref-2.ensures.0 ∙ c.open_shares.ensures) in
    fits_from_yields_list c.iter-2.result _ (YieldsList-from_slice (map (λ o. o.«open») (those (λ o. better s o.price c.args.price) (book s os))) (c.iter-2.ensures.rest ∙ f.better))
    (omega (arith, few_shares s os r.rows.now (tied r.tied) (λ o. better s o.price c.args.price)))

pub offset_bounds-deref_mut-better : goal.offset_bounds-deref_mut-better
offset_bounds-deref_mut-better g c =
    let r = c.args.rows.now in
    let f = front g.S.BookSide.side c.args.price (listed r.roll.now) (tied r.tied).sound c.better-better.result c.deref_mut.result.now c.better-better.ensures (c.deref_mut.ensures.value ∙ c.open_shares.ensures) in
    omega (arith, f.within)

pub slice_bounds-share_out-count : goal.slice_bounds-share_out-count
slice_bounds-share_out-count g c =
    let r = c.args.rows.now in
    let f = front g.S.BookSide.side c.args.price (listed r.roll.now) (tied r.tied).sound c.better-better.result c.deref_mut.result.now c.better-better.ensures (c.deref_mut.ensures.value ∙ c.open_shares.ensures) in
    f.within

pub slice_bounds-share_out-start : goal.slice_bounds-share_out-start
slice_bounds-share_out-start g c =
    let r = c.args.rows.now in
    let f = front g.S.BookSide.side c.args.price (listed r.roll.now) (tied r.tied).sound c.better-better.result c.deref_mut.result.now c.better-better.ensures (c.deref_mut.ensures.value ∙ c.open_shares.ensures) in
    f.within

pub returns : goal.returns
returns g c =
    let s = g.S.BookSide.side in
    let r = c.args.rows.now in
    let os = listed r.roll.now in
    let p = c.args.price in
    let depth_is : c.sum.result ≡ depth s p os =
    sum_from_yields_List c.iter.result c.sum.result c.sum.ensures.ran (YieldsList-from_slice (map (λ o. o.«open») (those (λ o. as_good s o.price p) (book s os))) (cc)) ∙ depth_sum s p os in
    let front_2 = front s p os (tied r.tied).sound c.better-better.result c.deref-2.result.now c.better-better.ensures (c.deref-2.ensures.0 ∙ c.open_shares.ensures) in
    let ahead_is : c.sum-ahead.result ≡ ahead s p os =
    sum_from_yields_List c.iter-2.result c.sum-ahead.result c.sum-ahead.ensures.ran (YieldsList-from_slice (map (λ o. o.«open») (those (λ o. better s o.price p) (book s os))) (c.iter-2.ensures.rest ∙ front_2.better))
    ∙ ahead_sum s p os in
    let f = front s p os (tied r.tied).sound c.better-better.result c.deref_mut.result.now c.better-better.ensures (c.deref_mut.ensures.value ∙ c.open_shares.ensures) in
    record {
      shares = c.min-shares.ensures ∙ ap (min c.args.«open») depth_is;
      given = given_is s p (g.R.ShareOut.gifts c.args.rule.now) c.min-shares.result os f c.deref_mut.ensures.value c.share_out.ensures c.share_out.auto.row
          (c.saturating_sub.ensures ∙ ap (λ a. c.min-shares.result - a) ahead_is);
    }
