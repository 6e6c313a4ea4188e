use Rattle.replay.proofs.Givers.{book_gives}
use Rattle.replay.proofs.book_gives.Goals as goal

pub returns : goal.returns
returns c = book_gives
