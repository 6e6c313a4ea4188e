use Rattle.replay.proofs.TapeGrows.{tape_grows}
use Rattle.replay.proofs.tape_grows.Goals as goal

pub returns : goal.returns
returns c = tape_grows
