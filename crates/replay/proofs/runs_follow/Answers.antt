use Rattle.replay.proofs.Starts.{runs_follow}
use Rattle.replay.proofs.runs_follow.Goals as goal

pub returns : goal.returns
returns c = runs_follow
