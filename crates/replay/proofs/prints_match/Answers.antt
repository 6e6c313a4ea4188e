use Rattle.replay.proofs.Matches.{prints_match}
use Rattle.replay.proofs.prints_match.Goals as goal

pub returns : goal.returns
returns c = prints_match
