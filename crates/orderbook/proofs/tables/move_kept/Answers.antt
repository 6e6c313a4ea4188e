use Rattle.std.proofs.Common.{◌<◌, length, sym, arith}
use Rattle.std.proofs.lemmas.List.Filters.{FiltersInPlace-all, FiltersInPlace-more_no, FiltersInPlace-more_set}
use Rattle.orderbook.proofs.tables.move_kept.Goals as goal
use Rattle.orderbook.proofs.tables.move_kept.Goals.{then-is_kept, else-is_kept}

pub loop-at-preserved : goal.loop-at-preserved
loop-at-preserved g c =
    let lt : c.loop-at.at < length c.loop-at.rows = omega arith in
    elim c.if-is_kept.branch [
      | then-is_kept w ↦ rw (w.rows-is, w.kept-is) (FiltersInPlace-more_set c.loop-at.invariant lt (sym w.if-is_kept.ensures) c.index-rows-at.is)
      | else-is_kept w ↦ rw (w.rows-is, w.kept-is) (FiltersInPlace-more_no c.loop-at.invariant lt (sym w.if-is_kept.ensures) c.index-rows-at.is)
    ]

pub returns : goal.returns
returns g c = FiltersInPlace-all c.loop-at.invariant (omega arith)
