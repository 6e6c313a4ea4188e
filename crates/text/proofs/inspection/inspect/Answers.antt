use Rattle.std.proofs.Common.{◌≡◌, ◌++◌, sym, subst, ◌∙◌, ap, arith}
use Rattle.std.proofs.lemmas.Grind.{common_steps}
use Rattle.streams.specs.Sinks.{Took}
use Rattle.streams.proofs.Taking.{took_more}
use Rattle.text.specs.Inspection.{lines_of, shown_from, summary_line, good_in, refused_in, inspected}
use Rattle.text.proofs.inspection.inspect.Goals as goal

pub returns : goal.returns
returns g c =
    let state = g.K.Sink.state in
    let lines = lines_of c.args.text.now in
    let tally = c.inspect_lines-tally in
    let all : inspected c.args.text.now ≡ shown_from 1 lines ++ summary_line (good_in lines) (refused_in lines) = grind (arith, common_steps) in
    let last : c.as_slice-2.result.now ≡ summary_line (good_in lines) (refused_in lines) = c.as_slice-2.ensures ∙ c.summary_line.ensures ∙ ap (λ n. summary_line n tally.result.refused) tally.ensures.good ∙ ap (summary_line (good_in lines)) tally.ensures.refused in
    subst (Took (state c.args.sink.now) (state c.put-2.new.self)) (ap (λ l. shown_from 1 lines ++ l) last ∙ sym all) (took_more _ _ tally.ensures.shown c.put-2.ensures)
