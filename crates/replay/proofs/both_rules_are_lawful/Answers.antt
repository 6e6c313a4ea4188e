use Rattle.sharing.specs.Keeps.{time_lawful, rotation_lawful}
use Rattle.replay.proofs.both_rules_are_lawful.Goals as goal

pub returns : goal.returns
returns c = record { time = time_lawful; rotation = rotation_lawful }
