use Rattle.replay.proofs.RunPauses.{runs_pause}
use Rattle.replay.proofs.runs_pause_trading.Goals as goal

pub returns : goal.returns
returns c = runs_pause
