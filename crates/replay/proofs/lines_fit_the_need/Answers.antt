use Rattle.replay.proofs.Need.{tape_suffices}
use Rattle.replay.proofs.lines_fit_the_need.Goals as goal

pub returns : goal.returns
returns c = tape_suffices
