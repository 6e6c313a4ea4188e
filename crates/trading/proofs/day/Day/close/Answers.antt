use Rattle.std.proofs.Common.{[], refl}
use Rattle.replay.specs.Days.{Closed, Close}
use Rattle.replay.specs.Moves.{to}
use Rattle.replay.specs.Calls.{checks, became, answered}
use Rattle.trading.proofs.Doing.{did_done}
use Rattle.trading.proofs.Running.{shown}
use Rattle.trading.proofs.day.Day.close.Goals as goal

pub returns-clause-did : goal.returns-clause-did
unfolding checks became answered to
returns-clause-did g c =
    let b = c.args.self.board in
    did_done (g.R.ShareOut.gifts c.args.self.rule) (g.F.StopFile.room c.args.self.file) b Close refl refl (shown Closed b []) c.args.self.filed refl
