-- The day that was reached, its board, its rule and its stop file. Assumes nothing.
use Rattle.replay.specs.Days.{Day}
use Rattle.trading.specs.declared.board.Board.{Board}
use Rattle.playback.specs.declared.reached.ReachedDay.{ReachedDay}
use Rattle.playback.specs.Stages.{day_in, board_in, rule_in, file_in}

module _ {R F : Type 0} {r g : _} where
  abbrev pub day_at : ReachedDay R F r g → Day
  day_at d = day_in d.stage

  abbrev pub board_at : ReachedDay R F r g → Board
  board_at d = board_in d.stage

  abbrev pub rule_at : ReachedDay R F r g → R
  rule_at d = rule_in d.stage

  abbrev pub file_at : ReachedDay R F r g → F
  file_at d = file_in d.stage
