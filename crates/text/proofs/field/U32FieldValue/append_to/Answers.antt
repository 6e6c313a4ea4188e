use Rattle.std.proofs.Common.{◌++◌, sym, ap, ◌∙◌}
use Rattle.std.proofs.lemmas.Fmt.{decimal_digit}
use Rattle.text.proofs.field.U32FieldValue.append_to.Goals as goal

pub returns-then-self-lt10-clause-text : goal.returns-then-self-lt10-clause-text
returns-then-self-lt10-clause-text c = c.push.ensures.items ∙ ap (λ l. c.args.line.now.items ++ l) (sym (decimal_digit c.args.self c.if-self-lt10.true))
