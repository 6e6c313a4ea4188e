use Rattle.std.proofs.Common.{ap, ◌∙◌}
use Rattle.trading.specs.Boards.{day_of}
use Rattle.trading.specs.declared.board.Board.{Board}
use Rattle.playback.specs.Stages.{day_in}
use Rattle.playback.proofs.Boards.{stage_board}
use Rattle.playback.proofs.reached.ReachedDay.board.Goals as goal

pub returns-clause-day : goal.returns-clause-day
returns-clause-day g c = ap (λ (b : Board). day_of (day_in c.args.self.now.stage).phase b) c.board.ensures ∙ stage_board c.args.self.now.stage
