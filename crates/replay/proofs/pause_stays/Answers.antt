use Rattle.replay.proofs.Pauses.{pause_stays}
use Rattle.replay.proofs.pause_stays.Goals as goal

pub returns : goal.returns
returns c = pause_stays
