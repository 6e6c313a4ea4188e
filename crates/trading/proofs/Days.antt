-- Days that are alike.
use Rattle.std.proofs.Common.{ℕ, false}
use Rattle.replay.specs.Days.{Day}

-- not paused, with a last sale
abbrev pub running : ℕ → Day → Day
running p d = record { roll = d.roll; line = d.line; paused = false; range = d.range; last = p; class = d.class; column = d.column; phase = d.phase; tape = d.tape; fills = d.fills }
