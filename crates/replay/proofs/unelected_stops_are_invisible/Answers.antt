use Rattle.replay.proofs.UnseenCalls.{stops_unseen}
use Rattle.replay.proofs.unelected_stops_are_invisible.Goals as goal

pub returns : goal.returns
returns c = stops_unseen
