use Rattle.std.proofs.Common.{◌≡◌, ◌≤◌, ◌-◌, true, length, take}
use Rattle.std.specs.Io.KnownBytes.{Consumes}
use Rattle.streams.proofs.fill.fill.Given as goal

abbrev pub invariant-loop-end : goal.invariant-loop-end
invariant-loop-end g l =
    record {
      within : l.end ≤ length l.buffer;
      bytes : Consumes (g.S.Source.state l.fn.source).left (g.S.Source.state l.source).left (take l.end l.buffer);
      lasts : (g.S.Source.state l.fn.source).failed ≡ true → ((g.S.Source.state l.source).failed ≡ true) × (l.end ≡ 0);
    }

abbrev pub decreases-loop-end : goal.decreases-loop-end
decreases-loop-end g l = length l.buffer - l.end
