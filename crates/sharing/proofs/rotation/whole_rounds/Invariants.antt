use Rattle.sharing.proofs.Levels.{Stands, kinds}
use Rattle.sharing.proofs.rotation.whole_rounds.Given as goal

abbrev pub invariant-loop-unfilled : goal.invariant-loop-unfilled
invariant-loop-unfilled l = Stands l.row l.quantity l.level l.left

-- how many different entries are above the level: each turn fills those of one size, so no more turns are made than there are different entries
abbrev pub decreases-loop-unfilled : goal.decreases-loop-unfilled
decreases-loop-unfilled l = kinds l.level l.row
