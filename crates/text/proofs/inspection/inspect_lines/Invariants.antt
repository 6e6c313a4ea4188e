use Rattle.std.proofs.Common.{◌≡◌, ℕ, ◌+◌, ◌≤◌, List, ◌++◌, length}
use Rattle.streams.specs.Sinks.{Took}
use Rattle.text.specs.Inspection.{lines_of, shown_from, good_in, refused_in}
use Rattle.text.proofs.inspection.inspect_lines.Given as goal

abbrev pub invariant-loop-rest : goal.invariant-loop-rest
invariant-loop-rest g l =
    record {
      shown : List ℕ;
      took : Took (g.K.Sink.state l.fn.sink) (g.K.Sink.state l.sink) shown;
      all : shown ++ shown_from (l.tally.good + l.tally.refused + 1) (lines_of l.rest) ≡ shown_from 1 (lines_of l.text);
      good : l.tally.good + good_in (lines_of l.rest) ≡ good_in (lines_of l.text);
      refused : l.tally.refused + refused_in (lines_of l.rest) ≡ refused_in (lines_of l.text);
      within : l.tally.good + l.tally.refused + length l.rest ≤ length l.text;
    }

abbrev pub decreases-loop-rest : goal.decreases-loop-rest
decreases-loop-rest g l = length l.rest
