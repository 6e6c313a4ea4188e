use Rattle.std.proofs.Common.{◌∙◌, arith}
use Rattle.stops.specs.Tables.{ranks}
use Rattle.stops.proofs.table.Table.take_out.Goals as goal

pub invariant_of-self-2 : goal.invariant_of-self-2
invariant_of-self-2 g c =
    let old = c.args.self.now in
    record { long = c.remove_at.auto.file ∙ old.long; fits = omega (arith, old.fits); ranked = c.in_ok-row.ensures.lawful.ordered (ranks g.S.BookSide.side) old.ranked }
