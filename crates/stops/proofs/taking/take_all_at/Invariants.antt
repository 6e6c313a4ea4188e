use Rattle.std.proofs.Common.{◌≡◌}
use Rattle.stops.specs.Stops.{elects}
use Rattle.stops.proofs.Turns.{Taking}
use Rattle.stops.proofs.taking.take_all_at.Given as goal

abbrev pub invariant-loop-n : goal.invariant-loop-n
invariant-loop-n g l =
    let F = g.F.StopFile in
    Taking (elects l.price) (F.stops l.initial.file) (F.stops l.file) l.initial.numbers l.numbers l.n × (F.room l.file ≡ F.room l.initial.file)
