use Rattle.std.proofs.Common.{[], refl}
use Rattle.replay.specs.Days.{Trading}
use Rattle.replay.specs.Moves.{centre, floored}
use Rattle.trading.proofs.Days.{running}
use Rattle.trading.proofs.Running.{shown}
use Rattle.trading.proofs.Tape.{wrote}
use Rattle.trading.proofs.board.Board.print_floor.Goals as goal

pub returns-clause-line : goal.returns-clause-line
unfolding centre
returns-clause-line c = (c.centre.ensures [] Trading _ (shown Trading _ [])).line

pub returns-clause-day : goal.returns-clause-day
unfolding centre floored
returns-clause-day c = λ f d s.
    let t = c.centre.ensures _ f (running c.args.price d) (record {
      roll = s.roll;
      line = s.line;
      paused = refl;
      range = s.range;
      last = refl;
      class = s.class;
      column = s.column;
      phase = s.phase;
      tape = s.tape;
    }) in record {
      roll = t.roll;
      line = t.line;
      paused = t.paused;
      range = t.range;
      last = t.last;
      class = t.class;
      column = t.column;
      phase = t.phase;
      tape = wrote c.write.ensures.written refl t.tape;
    }
