use Rattle.std.proofs.Common.{sym, ◌∙◌}
use Rattle.text.specs.Written.{text_of}
use Rattle.text.proofs.ReadsBack.{written_back}
use Rattle.text.proofs.write.write_line.Goals as goal

pub returns-clause-back : goal.returns-clause-back
returns-clause-back c =
    written_back c.args.«record» (sym c.numbers_fit.ensures ∙ c.if-not-numbers_fit.false) (text_of c.line_of.result) c.args.buffer.now c.line_of.ensures c.copy_to.result c.copy_to.new.buffer c.copy_to.ensures.answer c.copy_to.ensures.buffer
