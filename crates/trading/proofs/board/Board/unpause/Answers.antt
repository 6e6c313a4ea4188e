use Rattle.std.proofs.Common.{[], refl}
use Rattle.replay.specs.Days.{Trading}
use Rattle.replay.specs.Moves.{centre, resumed}
use Rattle.trading.proofs.Days.{running}
use Rattle.trading.proofs.Running.{shown}
use Rattle.trading.proofs.board.Board.unpause.Goals as goal

pub returns : goal.returns
unfolding centre resumed
returns c = record {
  line = (c.centre.ensures [] Trading _ (shown Trading _ [])).line;
  day = λ ls f d s. c.centre.ensures ls f (running d.last d) (record {
    roll = s.roll;
    line = s.line;
    paused = refl;
    range = s.range;
    last = s.last;
    class = s.class;
    column = s.column;
    phase = s.phase;
    tape = s.tape;
  });
}
