use Rattle.replay.proofs.WorkedExamples.{examples}
use Rattle.replay.proofs.examples_hold.Goals as goal

pub returns : goal.returns
returns c = examples
