-- The day that a stage stands for, and its board.
use Rattle.std.proofs.Common.{◌≡◌, refl}
use Rattle.replay.specs.History.{bare}
use Rattle.trading.specs.Boards.{day_of}
use Rattle.playback.specs.declared.stage.Stage.{Stage}
use Rattle.playback.specs.declared.stage.Stage.TheVariants.{Load, Trade, Shut}
use Rattle.playback.specs.Stages.{day_in, board_in}

module _ {R F : Type 0} {g : _} where
  -- it keeps no history
  pub stage_bare : (st : Stage R F g) → bare (day_in st) ≡ day_in st
  stage_bare (Load d) = refl
  stage_bare (Trade d) = refl
  stage_bare (Shut d) = refl

  -- it is that of its board, in its phase
  pub stage_board : (st : Stage R F g) → day_of (day_in st).phase (board_in st) ≡ day_in st
  stage_board (Load d) = refl
  stage_board (Trade d) = refl
  stage_board (Shut d) = refl
