use Rattle.replay.proofs.History.{history_unread}
use Rattle.replay.proofs.history_is_not_read.Goals as goal

pub returns : goal.returns
returns c = history_unread
