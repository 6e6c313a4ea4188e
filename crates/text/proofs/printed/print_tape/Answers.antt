use Rattle.std.proofs.Common.{sym, subst, arith}
use Rattle.streams.specs.Sinks.{Took}
use Rattle.streams.proofs.Taking.{took_more}
use Rattle.text.proofs.Printing.{tape_more}
use Rattle.text.proofs.printed.print_tape.Goals as goal

pub loop-line-preserved : goal.loop-line-preserved
loop-line-preserved g c =
    let state = g.K.Sink.state in
    subst (Took (state c.args.sink.now) (state c.put_tape.new.sink)) (sym (tape_more c.args.lines.now c.loop-line.line-index _ (omega arith))) (took_more _ _ c.loop-line.invariant c.put_tape.ensures)
