use Rattle.std.proofs.Common.{◌≡◌, ◌+◌, ◌≤◌, map, length}
use Rattle.text.specs.Printed.{bytes_of}
use Rattle.replay.specs.Days.{new_day}
use Rattle.playback.specs.Stages.{call_of}
use Rattle.playback.specs.ReachedDays.{day_at, rule_at, file_at}
use Rattle.playback.specs.Lent.{lent}
use Rattle.session.specs.Hearing.{heard, calls_among}
use Rattle.session.specs.Transcripts.{printed}
use Rattle.session.proofs.Playing.{Midway}
use Rattle.session.proofs.transcript.play.Given as goal

abbrev pub invariant-loop-rest : goal.invariant-loop-rest
invariant-loop-rest g l =
    record {
      long : length l.lines ≡ length l.fn.lines;
      rule : rule_at l.day ≡ l.fn.rule;
      room : g.F.StopFile.room (file_at l.day) ≡ g.F.StopFile.room l.fn.file;
      few : l.line + length l.rest ≤ length l.text;
      midway : Midway (g.R.ShareOut.gifts l.fn.rule) (g.F.StopFile.room l.fn.file) (length l.fn.lines) (bytes_of (printed (g.R.ShareOut.gifts l.fn.rule) (g.F.StopFile.room l.fn.file) (length l.fn.lines) 1 new_day (heard l.text))) (lent (g.R.ShareOut.gifts l.fn.rule) (g.F.StopFile.room l.fn.file) new_day (map (call_of (length l.fn.lines)) (calls_among (heard l.text))) l.fn.lines) (g.K.Sink.state l.fn.sink) (g.K.Sink.state l.sink) (l.line + 1) (day_at l.day) l.rest l.lines;
    }

abbrev pub decreases-loop-rest : goal.decreases-loop-rest
decreases-loop-rest g l = length l.rest
