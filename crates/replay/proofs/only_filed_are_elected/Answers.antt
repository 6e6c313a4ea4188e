use Rattle.replay.proofs.OnlyFiled.{only_filed_elected}
use Rattle.replay.proofs.only_filed_are_elected.Goals as goal

pub returns : goal.returns
returns c = only_filed_elected
