use Rattle.std.proofs.Common.{◌+◌, is_ok, is_err, sym, ap, ◌∙◌, subst, arith}
use Rattle.std.proofs.lemmas.List.{take_rest}
use Rattle.streams.specs.Sinks.{Took}
use Rattle.text.specs.Inspection.{one, shown_as}
use Rattle.text.proofs.Inspecting.{read_good, read_bad, next_rest}
use Rattle.text.proofs.inspection.inspect_line.Goals as goal

pub returns-in-Ok-clause-shown : goal.returns-in-Ok-clause-shown
returns-in-Ok-clause-shown g c =
    let state = g.K.Sink.state in
    let good = read_good c.args.text.now c.requires.some (c.in-Ok.read.«record», c.in-Ok.read.rest.now) c.in-Ok.ensures.answer in
    subst (Took (state c.args.sink.now) (state c.put.new.self)) (c.as_slice.ensures ∙ c.line_of.ensures ∙ sym (ap (shown_as (c.args.tally.now.good + c.args.tally.now.refused + 1)) good.0)) c.put.ensures

pub returns-in-Ok-clause-good : goal.returns-in-Ok-clause-good
returns-in-Ok-clause-good g c =
    let good = read_good c.args.text.now c.requires.some (c.in-Ok.read.«record», c.in-Ok.read.rest.now) c.in-Ok.ensures.answer in
    ap (λ r. c.args.tally.now.good + one (is_ok r)) (sym good.0)

pub returns-in-Ok-clause-refused : goal.returns-in-Ok-clause-refused
returns-in-Ok-clause-refused g c =
    let good = read_good c.args.text.now c.requires.some (c.in-Ok.read.«record», c.in-Ok.read.rest.now) c.in-Ok.ensures.answer in
    omega (arith, ap (λ r. one (is_err r)) good.0)

pub returns-in-Ok-clause-rest : goal.returns-in-Ok-clause-rest
returns-in-Ok-clause-rest g c = (read_good c.args.text.now c.requires.some (c.in-Ok.read.«record», c.in-Ok.read.rest.now) c.in-Ok.ensures.answer).1

pub returns-in-Err-clause-shown : goal.returns-in-Err-clause-shown
returns-in-Err-clause-shown g c =
    let state = g.K.Sink.state in
    let bad = read_bad c.args.text.now c.requires.some c.in-Err.fault c.in-Err.ensures.answer in
    subst (Took (state c.args.sink.now) (state c.put-in-Err.new.self)) (c.as_slice-in-Err.ensures ∙ c.refusal_line.ensures ∙ sym (ap (shown_as (c.args.tally.now.good + c.args.tally.now.refused + 1)) bad.0)) c.put-in-Err.ensures

pub returns-in-Err-clause-good : goal.returns-in-Err-clause-good
returns-in-Err-clause-good g c =
    let bad = read_bad c.args.text.now c.requires.some c.in-Err.fault c.in-Err.ensures.answer in
    omega (arith, ap (λ r. one (is_ok r)) bad.0)

pub returns-in-Err-clause-refused : goal.returns-in-Err-clause-refused
returns-in-Err-clause-refused g c =
    let bad = read_bad c.args.text.now c.requires.some c.in-Err.fault c.in-Err.ensures.answer in
    ap (λ r. c.args.tally.now.refused + one (is_err r)) (sym bad.0)

pub returns-in-Err-clause-rest : goal.returns-in-Err-clause-rest
returns-in-Err-clause-rest g c =
    let text = c.args.text.now in
    let next = c.in-Err.fault.next in
    take_rest text next ∙ next_rest text next (read_bad text c.requires.some c.in-Err.fault c.in-Err.ensures.answer).1
