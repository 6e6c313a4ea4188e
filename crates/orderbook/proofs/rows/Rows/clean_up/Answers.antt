use Rattle.std.proofs.Common.{sym, refl, arith}
use Rattle.market.specs.Rolls.{listed}
use Rattle.orderbook.proofs.Upkeep.{tied}
use Rattle.orderbook.proofs.Reading.{as_long, few_rows, row_at}
use Rattle.orderbook.proofs.Sweeps.{clean_up_is}
use Rattle.orderbook.proofs.Sweeping.{past_behind, sweep_stop, sweep_more, sweep_skip, sweep_out, sweep_end}
use Rattle.orderbook.proofs.rows.Rows.clean_up.Goals as goal
use Rattle.orderbook.proofs.rows.Rows.clean_up.Goals.{then-reaches+else-quantity-sum, else-reaches+else-is_past}

pub loop-row-init : goal.loop-row-init
loop-row-init g c =
    record {
      same = clean_up_is g.S.BookSide.side c.args.quantity c.args.order.now c.args.range (listed c.args.self.now.roll.now) c.requires;
      sums = refl;
      small = omega arith;
    }

pub overflow_add-sum : goal.overflow_add-sum
overflow_add-sum g c =
    let r = c.args.self.now in
    let x = row_at g.S.BookSide.side (listed r.roll.now) r.rows.now (tied r.tied) c.loop-row.row-index c.loop-row-test.true c.row-item.is c.order-sum.ensures in
    omega (arith, c.loop-row.invariant.small, x.few, few_rows _ _ _ (tied r.tied))

pub returns-then-quantity-sum : goal.returns-then-quantity-sum
returns-then-quantity-sum g c =
    let r = c.args.self.now in
    let x = row_at g.S.BookSide.side (listed r.roll.now) r.rows.now (tied r.tied) c.loop-row.row-index c.loop-row-test.true c.row-item.is c.order-sum.ensures in
    sweep_stop (tied r.tied).sound.numbered c.order-sum.result x.there x.is x.price c.loop-row.invariant (sym c.if-reaches.ensures) c.if-quantity-sum.true

pub returns-then-is_past : goal.returns-then-is_past
returns-then-is_past g c =
    let r = c.args.self.now in
    let s = g.S.BookSide.side in
    let x = row_at s (listed r.roll.now) r.rows.now (tied r.tied) c.loop-row.row-index c.loop-row-test.true c.row-item.is c.order-sum.ensures in
    sweep_out (tied r.tied).sound.numbered c.order-sum.result x.there x.is x.price c.loop-row.invariant (sym c.if-reaches.ensures)
    (λ p h. past_behind s c.args.order.now c.args.range c.row-item.result.price p c.requires h (sym c.if-is_past.ensures))

pub loop-row-preserved : goal.loop-row-preserved
loop-row-preserved g c =
    let r = c.args.self.now in
    let x = row_at g.S.BookSide.side (listed r.roll.now) r.rows.now (tied r.tied) c.loop-row.row-index c.loop-row-test.true c.row-item.is c.order-sum.ensures in
    elim c.if-reaches.branch [
      | then-reaches+else-quantity-sum w ↦ rw w.last-is (sweep_more (tied r.tied).sound.numbered c.order-sum.result x.there x.is x.price c.loop-row.invariant
          (sym w.if-reaches.ensures) (omega (arith, w.if-quantity-sum.false)) x.few)
      | else-reaches+else-is_past w ↦ rw w.last-is (sweep_skip (tied r.tied).sound.numbered c.order-sum.result x.there x.is x.price c.loop-row.invariant
          (sym w.if-reaches.ensures) x.few)
    ]

pub returns : goal.returns
returns g c = sweep_end (omega (arith, as_long _ _ _ (tied c.args.self.now.tied))) c.loop-row.invariant
