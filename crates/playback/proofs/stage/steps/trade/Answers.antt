use Rattle.std.proofs.Common.{◌≡◌, false, length, refl, rules}
use Rattle.trading.proofs.Doing.{did_refused}
use Rattle.playback.specs.Stages.{call_of}
use Rattle.playback.proofs.Stepping.{trades, not_trading}
use Rattle.playback.proofs.stage.steps.trade.Goals as goal

pub returns-in-Close : goal.returns-in-Close
returns-in-Close g c =
    let day = c.args.day.now in
    let room = g.F.StopFile.room day.file in
    let free = length c.args.tape.now in
    let other : trades c.args.call ≡ false = search rules in
    record {
      did = did_refused (g.R.ShareOut.gifts day.rule) room day.board (call_of free c.args.call) (not_trading room day.board free c.args.call other c.requires) refl day.filed refl refl refl;
      keeps = (refl, refl);
    }
