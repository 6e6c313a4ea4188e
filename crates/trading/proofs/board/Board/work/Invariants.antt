use Rattle.std.proofs.Common.{◌≡◌, ◌+◌, true, cond, ◌⊎◌, length}
use Rattle.trading.specs.Boards.{waiting_of}
use Rattle.trading.specs.Tapes.{written, HasRoom, Grew}
use Rattle.trading.specs.Shows.{may_print}
use Rattle.trading.proofs.Working.{Working}
use Rattle.trading.proofs.board.Board.work.Given as goal

abbrev pub invariant-loop-number : goal.invariant-loop-number
invariant-loop-number g l =
    let F = g.F.StopFile in
    Working (g.R.ShareOut.gifts l.rule) l.initial.self (F.stops l.initial.file) (written l.initial.tape) l.self (F.stops l.file) (written l.tape)
    × ((l.self.paused ≡ true) ⊎ HasRoom (may_print l.self (F.stops l.file)) l.tape)
    × Grew l.initial.tape l.tape
    × (F.room l.file ≡ F.room l.initial.file)

abbrev pub decreases-loop-number : goal.decreases-loop-number
decreases-loop-number g l = cond l.self.paused 0 (length (waiting_of l.self) + length (g.F.StopFile.stops l.file))
