-- The book stays in order, over every list of calls.
use Rattle.replay.specs.Days.{Day, new_day}
use Rattle.replay.specs.Calls.{after_calls}
use Rattle.replay.specs.BookInOrder.{FilledBy, BookInOrder}
use Rattle.replay.specs.Lines.{WorkedOff}
use Rattle.replay.proofs.Runs.{Sound}
use Rattle.replay.proofs.Calls.{calls_sound, new_sound}
use Rattle.replay.proofs.Keeps.{always}
use Rattle.replay.proofs.Apart.{Apart, apart_keeps, bid_below, new_apart}
use Rattle.replay.proofs.Idle.{InLine, in_line_keeps, new_in_line, calls_idle, new_idle, nobody_waits}
use Rattle.replay.proofs.Fills.{Fair, fair_keeps, new_fair, filled_sums, filled_keeps, new_filled}

pub book_in_order : BookInOrder
book_in_order gifts lawful room cs =
    let d : Day = after_calls gifts room new_day cs in
    let s : Sound d = calls_sound gifts lawful room cs new_day (new_sound gifts lawful) in
    let f : Fair d = always gifts lawful Fair (fair_keeps gifts lawful) (new_fair gifts lawful) room cs in
    record {
      idle = nobody_waits d s (always gifts lawful InLine (in_line_keeps gifts lawful) (new_in_line gifts lawful) room cs)
          (calls_idle gifts lawful room cs new_day (new_sound gifts lawful) (new_idle gifts lawful));
      apart = bid_below d (always gifts lawful (λ d. Apart d.roll) (apart_keeps gifts lawful) new_apart room cs);
      fills = always gifts lawful (λ d. FilledBy d.tape d.fills) (filled_keeps gifts lawful) (new_filled gifts lawful) room cs;
      limit = f.limit;
      range = f.range;
      filled = filled_sums d s f;
    }

pub worked_off : WorkedOff
worked_off gifts lawful room cs = calls_idle gifts lawful room cs new_day (new_sound gifts lawful) (new_idle gifts lawful)
