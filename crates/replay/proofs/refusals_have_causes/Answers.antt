use Rattle.replay.proofs.RefusalsGiven.{refusals}
use Rattle.replay.proofs.refusals_have_causes.Goals as goal

pub returns : goal.returns
returns c = refusals
