use Rattle.replay.proofs.Bounds.{numbers_in_bounds}
use Rattle.replay.proofs.numbers_in_bounds.Goals as goal

pub returns : goal.returns
returns c = numbers_in_bounds
