use Rattle.std.proofs.Common.{◌≡◌, ◌∙◌, eqb, count_by, rules}
use Rattle.text.proofs.Marks.{marks_is}
use Rattle.text.proofs.cut.count_marks.Goals as goal

pub returns-clause-count : goal.returns-clause-count
returns-clause-count c =
    let counted : c.count.result ≡ count_by (λ b. eqb b c.args.mark) c.args.text.now = search rules in
    counted ∙ marks_is c.args.mark c.args.text.now
