use Rattle.session.proofs.Lawful.{text_laws}
use Rattle.session.proofs.transcript.transcript.Goals as goal

pub returns-then-text-gt-INPUT_LIMIT-clause-laws : goal.returns-then-text-gt-INPUT_LIMIT-clause-laws
returns-then-text-gt-INPUT_LIMIT-clause-laws g c = text_laws _ (g.R.ShareOut.lawful c.args.rule) _ _ _

pub returns-else-text-gt-INPUT_LIMIT-clause-laws : goal.returns-else-text-gt-INPUT_LIMIT-clause-laws
returns-else-text-gt-INPUT_LIMIT-clause-laws g c = text_laws _ (g.R.ShareOut.lawful c.args.rule) _ _ _
