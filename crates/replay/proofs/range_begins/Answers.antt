use Rattle.replay.proofs.Beginning.{range_begins}
use Rattle.replay.proofs.range_begins.Goals as goal

pub returns : goal.returns
returns c = range_begins
