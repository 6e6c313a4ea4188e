use Rattle.std.proofs.Common.{cond, [], ◌∷◌, map, take, subst}
use Rattle.streams.specs.Sinks.{Took}
use Rattle.text.specs.declared.printed.Printed.TheVariants.{Tape}
use Rattle.text.specs.Printed.{bytes_of}
use Rattle.replay.specs.Days.{Closed}
use Rattle.replay.specs.Questions.{totals}
use Rattle.trading.specs.Boards.{day_of}
use Rattle.session.specs.Transcripts.{totals_line}
use Rattle.session.specs.Turns.{first_said, lines_in}
use Rattle.session.proofs.Bytes.{three}
use Rattle.session.proofs.showing.show.Goals as goal

pub returns : goal.returns
returns g c =
    three (first_said c.args.line c.args.reply) (map Tape (take (lines_in c.args.reply) c.args.lines.now)) (cond c.args.closed (totals_line (totals (day_of Closed c.args.board.now)) ∷ []) [])
    c.show_reply.ensures
    (subst (λ n. Took (g.K.Sink.state c.show_reply.new.sink) (g.K.Sink.state c.print_tape.new.sink) (bytes_of (map Tape (take n c.args.lines.now)))) c.lines_written.ensures c.print_tape.ensures)
    c.show_totals.ensures
