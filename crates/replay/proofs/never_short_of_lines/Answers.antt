use Rattle.replay.proofs.Queue.{never_short}
use Rattle.replay.proofs.never_short_of_lines.Goals as goal

pub returns : goal.returns
returns c = never_short
