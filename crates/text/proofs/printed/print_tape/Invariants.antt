use Rattle.std.proofs.Common.{take, map}
use Rattle.streams.specs.Sinks.{Took}
use Rattle.text.specs.declared.printed.Printed.TheVariants.{Tape}
use Rattle.text.specs.Printed.{bytes_of}
use Rattle.text.proofs.printed.print_tape.Given as goal

abbrev pub invariant-loop-line : goal.invariant-loop-line
invariant-loop-line g l = Took (g.K.Sink.state l.fn.sink) (g.K.Sink.state l.sink) (bytes_of (map Tape (take l.line-index l.lines)))
