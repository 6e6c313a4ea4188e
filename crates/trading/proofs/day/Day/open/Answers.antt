use Rattle.std.proofs.Common.{[], refl, sym, ◌∙◌, ap}
use Rattle.replay.specs.StopFile.{file_of}
use Rattle.replay.specs.Days.{Trading, Open}
use Rattle.replay.specs.Moves.{centre, to}
use Rattle.replay.specs.Calls.{checks, became, answered}
use Rattle.trading.specs.Boards.{day_of}
use Rattle.trading.proofs.Doing.{did_done}
use Rattle.trading.proofs.Running.{shown}
use Rattle.trading.proofs.day.Day.open.Goals as goal

pub invariant_of-result : goal.invariant_of-result
unfolding centre
invariant_of-result g c =
    let b = c.args.self.board in
    record { filed = c.args.self.filed ∙ ap file_of (sym (c.centre.ensures [] Trading (day_of Trading b) (shown Trading b [])).roll) }

pub returns-clause-did : goal.returns-clause-did
unfolding checks became answered centre to
returns-clause-did g c =
    let b = c.args.self.board in
    did_done (g.R.ShareOut.gifts c.args.self.rule) (g.F.StopFile.room c.args.self.file) b Open refl refl (c.centre.ensures [] Trading (day_of Trading b) (shown Trading b [])) c.args.self.filed refl
