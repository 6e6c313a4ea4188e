use Rattle.replay.proofs.Places.{roll_holds}
use Rattle.replay.proofs.roll_holds_512.Goals as goal

pub returns : goal.returns
returns c = roll_holds
