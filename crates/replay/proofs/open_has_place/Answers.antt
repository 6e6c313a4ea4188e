use Rattle.replay.proofs.Placed.{open_has_place}
use Rattle.replay.proofs.open_has_place.Goals as goal

pub returns : goal.returns
returns c = open_has_place
