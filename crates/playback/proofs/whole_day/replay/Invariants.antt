use Rattle.std.proofs.Common.{◌≡◌, map, length, take}
use Rattle.replay.specs.Days.{new_day}
use Rattle.playback.specs.Stages.{call_of}
use Rattle.playback.specs.ReachedDays.{day_at, rule_at, file_at}
use Rattle.playback.specs.Lent.{lent}
use Rattle.playback.specs.Reached.{Reached}
use Rattle.playback.specs.Seen.{seen, Follows}
use Rattle.playback.proofs.whole_day.replay.Given as goal

abbrev pub invariant-loop-call : goal.invariant-loop-call
invariant-loop-call g l =
    let gifts = g.R.ShareOut.gifts l.fn.rule in
    let capacity = g.F.StopFile.room l.fn.file in
    let cs = map (call_of (length l.fn.lines)) (take l.call-index l.calls) in
    record {
      long : length l.lines ≡ length l.fn.lines;
      rule : rule_at l.day ≡ l.fn.rule;
      room : g.F.StopFile.room (file_at l.day) ≡ capacity;
      reached : Reached gifts capacity cs (day_at l.day);
      told : Follows g.N.Notes.notes l.fn.notes (seen gifts capacity new_day cs) l.notes;
      lines : l.lines ≡ lent gifts capacity new_day cs l.fn.lines;
    }
