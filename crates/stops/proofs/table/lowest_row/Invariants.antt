use Rattle.std.proofs.Common.{ltb}
use Rattle.std.specs.List.{IsFirstBest}
use Rattle.stops.proofs.table.lowest_row.Given as goal

abbrev pub invariant-loop-i : goal.invariant-loop-i
invariant-loop-i g l = IsFirstBest (λ x y. ltb x.number y.number) l.rows l.i l.best
