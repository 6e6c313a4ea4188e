use Rattle.std.proofs.Common.{◌∙◌}
use Rattle.std.proofs.lemmas.List.{take_rest}
use Rattle.text.proofs.Inspecting.{read_bad, next_rest}
use Rattle.session.proofs.hearing.first_line.Goals as goal

pub returns-in-Err-clause-rest : goal.returns-in-Err-clause-rest
returns-in-Err-clause-rest c =
    let text = c.args.text.now in
    let fault = c.in-Err.fault in
    take_rest text fault.next ∙ next_rest text fault.next (read_bad text c.requires fault c.in-Err.ensures.answer).1
