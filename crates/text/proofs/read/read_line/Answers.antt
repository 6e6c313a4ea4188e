use Rattle.std.proofs.Common.{sym, ap, ◌∙◌, rules}
use Rattle.text.specs.Cuts.{line_of}
use Rattle.text.specs.Reading.{record_in}
use Rattle.text.proofs.WritesBack.{line_for_again}
use Rattle.text.proofs.read.read_line.Goals as goal

pub returns-clause-again : goal.returns-clause-again
returns-clause-again c = line_for_again (line_of c.args.text.now) c.in_ok-record.«record» (ap record_in (sym c.split_at_mark.ensures.front) ∙ (search rules))
