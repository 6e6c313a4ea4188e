use Rattle.std.proofs.Common.{ap, ◌∙◌, sym}
use Rattle.replay.specs.StopFile.{file_of}
use Rattle.replay.specs.Days as days
use Rattle.trading.proofs.loading.begin.Goals as goal

pub invariant_of-result : goal.invariant_of-result
unfolding days.new_day
invariant_of-result g c = record { filed = c.clear.ensures.listed ∙ sym (ap (λ (d : days.Day). file_of d.roll) c.new.ensures) }
