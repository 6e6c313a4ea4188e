use Rattle.std.proofs.Common.{[], rules}
use Rattle.replay.specs.Moves.{resumed}
use Rattle.trading.proofs.Tape.{with_lines}
use Rattle.trading.proofs.board.Board.resume.Goals as goal

pub returns-clause-day : goal.returns-clause-day
unfolding resumed
returns-clause-day g c = λ f d s fl.
    let t = c.work.ensures.day f (resumed d) (with_lines (c.unpause.ensures.day [] f d s) c.new-tape.ensures.written) fl in
    (with_lines t.0 (search rules), t.1)
