use Rattle.playback.proofs.OneMore.{reached_new}
use Rattle.playback.proofs.reached.ReachedDay.begin.Goals as goal

pub invariant_of-result : goal.invariant_of-result
invariant_of-result g c = record { reached = reached_new _ _ c.begin.ensures.day }
