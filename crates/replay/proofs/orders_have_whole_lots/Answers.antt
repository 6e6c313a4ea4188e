use Rattle.replay.proofs.Accounts.{accounts}
use Rattle.replay.proofs.orders_have_whole_lots.Goals as goal

pub returns : goal.returns
returns c = accounts
