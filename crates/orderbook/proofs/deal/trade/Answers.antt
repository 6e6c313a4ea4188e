use Rattle.std.proofs.Common.{◌≡◌, min, length, ◌⊎◌, inl, inr, ap, ◌∙◌}
use Rattle.market.specs.Rolls.{listed}
use Rattle.replay.specs.Book.{depth}
use Rattle.orderbook.specs.Trades.{given}
use Rattle.orderbook.proofs.Dealing.{each_filled, each_done}
use Rattle.orderbook.proofs.Prints.{shares, print_done, print_tied}
use Rattle.orderbook.proofs.deal.trade.Goals as goal

pub returns : goal.returns
returns g c =
    let s = g.S.BookSide.side in
    let p = c.args.price in
    let os = listed c.args.roll.now in
    let t = c.args.table.now.items in
    let gifts = given (g.R.ShareOut.gifts c.args.rule.now) c.print_of-shares.result s p os in
    let it = c.loop-row.row-iterator in
    let over : (length it.a.rest.now ≡ 0) ⊎ (length it.b.rest.now ≡ 0) = elim c.in-None.ensures.steps [ inl w ↦ inl w.1.0 | inr w ↦ inr w.1.0 ] in
    let first : c.into_iter-row-iterator.result.a.rest.now ≡ t = cc in
    let second : c.into_iter-row-iterator.result.b.rest.now ≡ gifts = cc in
    let dealt : listed c.loop-row.roll ≡ each_filled t gifts os =
    each_done it.a.rest.now it.b.rest.now (listed c.loop-row.roll) over ∙ c.loop-row.invariant
    ∙ ap (λ es. each_filled es c.into_iter-row-iterator.result.b.rest.now os) first ∙ ap (λ qs. each_filled t qs os) second in
    let lawful = g.R.ShareOut.lawful c.args.rule.now in
    let shares_is = c.print_of-shares.ensures.shares ∙ ap (λ o. min o.«open» (depth s p os)) c.order_numbered-open.ensures in
    record {
      shares = shares lawful s p t c.requires.tied c.requires.there c.requires.off shares_is dealt c.change_order-2.ensures;
      roll = print_done lawful s p t c.requires.tied c.requires.there c.requires.off shares_is dealt c.change_order-2.ensures;
      tied = print_tied lawful s p t c.requires.tied c.requires.there c.requires.off shares_is dealt c.change_order-2.ensures c.retain.new.table.items c.retain.ensures;
    }
