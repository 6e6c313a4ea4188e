use Rattle.replay.proofs.ElectedOnce.{elected_once}
use Rattle.replay.proofs.elected_once.Goals as goal

pub returns : goal.returns
returns c = elected_once
