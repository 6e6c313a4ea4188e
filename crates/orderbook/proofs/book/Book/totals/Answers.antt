use Rattle.std.proofs.Common.{◌≡◌, ◌<◌, length, get_or, refl, ap, ◌∙◌, subst, arith}
use Rattle.market.specs.Changes.{blank}
use Rattle.market.specs.declared.words.Order.{Order}
use Rattle.orderbook.specs.Books.{roll_of}
use Rattle.orderbook.proofs.Upkeep.{sound}
use Rattle.orderbook.proofs.Fronts.{total_sum_by}
use Rattle.orderbook.proofs.Summing.{accepted_fits, filled_fits, cancelled_fits, open_fits, summed_more}
use Rattle.orderbook.proofs.book.Book.totals.Goals as goal

pub overflow_add-accepted : goal.overflow_add-accepted
overflow_add-accepted c =
    let os = roll_of c.args.self.now in
    let i = c.loop-order.order-index in
    let lt : i < length os = subst (λ l. i < length l) c.as_slice-order-items.ensures c.loop-order-test.true in
    let x : c.from-accepted.result ≡ (get_or os i blank).accepted = c.from-accepted.ensures ∙ ap (λ l. (get_or l i blank).accepted) c.as_slice-order-items.ensures in
    omega (arith, x, (summed_more c.loop-order.invariant (get_or os i blank) lt refl).accepted_is, total_sum_by (λ (o : Order). o.accepted) os, accepted_fits (sound c.args.self.now.kept))

pub overflow_add-filled : goal.overflow_add-filled
overflow_add-filled c =
    let os = roll_of c.args.self.now in
    let i = c.loop-order.order-index in
    let lt : i < length os = subst (λ l. i < length l) c.as_slice-order-items.ensures c.loop-order-test.true in
    let x : c.from-filled.result ≡ (get_or os i blank).filled = c.from-filled.ensures ∙ ap (λ l. (get_or l i blank).filled) c.as_slice-order-items.ensures in
    omega (arith, x, (summed_more c.loop-order.invariant (get_or os i blank) lt refl).filled_is, total_sum_by (λ (o : Order). o.filled) os, filled_fits (sound c.args.self.now.kept))

pub overflow_add-cancelled : goal.overflow_add-cancelled
overflow_add-cancelled c =
    let os = roll_of c.args.self.now in
    let i = c.loop-order.order-index in
    let lt : i < length os = subst (λ l. i < length l) c.as_slice-order-items.ensures c.loop-order-test.true in
    let x : c.from-cancelled.result ≡ (get_or os i blank).cancelled = c.from-cancelled.ensures ∙ ap (λ l. (get_or l i blank).cancelled) c.as_slice-order-items.ensures in
    omega (arith, x, (summed_more c.loop-order.invariant (get_or os i blank) lt refl).cancelled_is, total_sum_by (λ (o : Order). o.cancelled) os, cancelled_fits (sound c.args.self.now.kept))

pub overflow_add-open : goal.overflow_add-open
overflow_add-open c =
    let os = roll_of c.args.self.now in
    let i = c.loop-order.order-index in
    let lt : i < length os = subst (λ l. i < length l) c.as_slice-order-items.ensures c.loop-order-test.true in
    let x : c.from-open.result ≡ (get_or os i blank).«open» = c.from-open.ensures ∙ ap (λ l. (get_or l i blank).«open») c.as_slice-order-items.ensures in
    omega (arith, x, (summed_more c.loop-order.invariant (get_or os i blank) lt refl).left_is, total_sum_by (λ (o : Order). o.«open») os, open_fits (sound c.args.self.now.kept))
