use Rattle.replay.proofs.Accepted.{shares_add_up}
use Rattle.replay.proofs.shares_add_up.Goals as goal

pub returns : goal.returns
returns c = shares_add_up
