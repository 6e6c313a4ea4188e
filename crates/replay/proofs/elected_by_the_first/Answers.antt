use Rattle.replay.proofs.Elections.{elected_by_first}
use Rattle.replay.proofs.elected_by_the_first.Goals as goal

pub returns : goal.returns
returns c = elected_by_first
