use Rattle.std.proofs.Common.{◌≡◌, length}
use Rattle.trading.specs.Tapes.{written, Grew}
use Rattle.trading.proofs.Taking.{Electing, Spent}
use Rattle.trading.proofs.board.Board.elect.Given as goal

abbrev pub invariant-loop-stop : goal.invariant-loop-stop
invariant-loop-stop g l =
    let F = g.F.StopFile in
    Electing l.price l.initial.self (F.stops l.initial.file) (written l.initial.tape) l.self (F.stops l.file) (written l.tape)
    × Spent l.initial.tape.used l.initial.self (F.stops l.initial.file) l.tape.used l.self (F.stops l.file)
    × Grew l.initial.tape l.tape
    × (F.room l.file ≡ F.room l.initial.file)

abbrev pub decreases-loop-stop : goal.decreases-loop-stop
decreases-loop-stop g l = length (g.F.StopFile.stops l.file)
