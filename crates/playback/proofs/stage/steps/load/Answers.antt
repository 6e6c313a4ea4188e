use Rattle.std.proofs.Common.{◌≡◌, false, refl, rules}
use Rattle.trading.proofs.Doing.{did_refused}
use Rattle.playback.specs.Stages.{call_of}
use Rattle.playback.proofs.Stepping.{loads, not_loading}
use Rattle.playback.proofs.stage.steps.load.Goals as goal

pub returns-in-Open : goal.returns-in-Open
returns-in-Open g c =
    let day = c.args.day.now in
    let room = g.F.StopFile.room day.file in
    let other : loads c.args.call ≡ false = search rules in
    record {
      did = λ free. did_refused (g.R.ShareOut.gifts day.rule) room day.board (call_of free c.args.call) (not_loading room day.board free c.args.call other c.requires) refl day.filed refl refl refl;
      keeps = (refl, refl);
    }
