use Rattle.std.proofs.Common.{length, sym, refl, subst}
use Rattle.replay.specs.Days.{Refused}
use Rattle.trading.specs.Deeds.{Did}
use Rattle.trading.proofs.Doing.{did_refused}
use Rattle.playback.specs.declared.stage.Stage.{Stage}
use Rattle.playback.specs.Stages.{call_of, day_in, rule_in, file_in}
use Rattle.playback.proofs.Stepping.{not_closed}
use Rattle.playback.proofs.stage.Stage.put_within.Goals as goal

pub returns-in-Shut-clause-did : goal.returns-in-Shut-clause-did
returns-in-Shut-clause-did g c =
    let n = length c.args.tape.now in
    let d = c.in-Shut.field-0 in
    let room = g.F.StopFile.room d.file in
    subst (λ (x : Stage g.row.R.Denot g.row.F.Denot g.F.StopFile). Did (g.R.ShareOut.gifts (rule_in x)) (g.F.StopFile.room (file_in x)) (day_in x) (call_of n c.args.call) (Refused 21) (day_in x) (g.F.StopFile.stops (file_in x)) c.args.tape.now c.args.tape.now) (sym c.in-Shut.is)
    (did_refused (g.R.ShareOut.gifts d.rule) room d.board (call_of n c.args.call) (not_closed room d.board n c.args.call) refl d.filed refl refl refl)
