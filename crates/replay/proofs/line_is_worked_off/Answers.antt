use Rattle.replay.proofs.InOrder.{worked_off}
use Rattle.replay.proofs.line_is_worked_off.Goals as goal

pub returns : goal.returns
returns c = worked_off
