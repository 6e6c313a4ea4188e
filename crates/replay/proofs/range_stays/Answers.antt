use Rattle.replay.proofs.Ranges.{range_stays}
use Rattle.replay.proofs.range_stays.Goals as goal

pub returns : goal.returns
returns c = range_stays
