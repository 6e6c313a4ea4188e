use Rattle.replay.proofs.Filing.{stops_are_filed}
use Rattle.replay.proofs.filed_at_once.Goals as goal

pub returns : goal.returns
returns c = stops_are_filed
