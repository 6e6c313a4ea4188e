-- The calls of a list, and the day that a stage stands for. Assumes nothing.
use Rattle.std.specs.Prelude.{◌≡◌, ℕ, List}
use Rattle.market.specs.declared.words.TapeLine.{TapeLine}
use Rattle.trading.specs.declared.board.Board.{Board}
use Rattle.trading.specs.Boards.{day_of}
use Rattle.trading.specs.Deeds.{entering}
use Rattle.replay.specs.Days.{Day, Loading, Trading, Closed, CancelOrder}
use Rattle.replay.specs.Days as days
use Rattle.playback.specs.declared.call.Call.{Call}
use Rattle.playback.specs.declared.call.Call.TheVariants.{Set, LoadLimit, LoadStop, Open, Enter, Cancel, FloorTrade, Resume, Close}
use Rattle.playback.specs.declared.stage.Stage.{Stage}
use Rattle.playback.specs.declared.stage.Stage.TheVariants.{Load, Trade, Shut}

-- a call as the definitions have it, with so many free lines
abbrev pub call_of : ℕ → Call → days.Call
call_of f (Set k c p) = days.Set k c p
call_of f (LoadLimit o) = days.LoadLimit o.side o.member o.price o.shares
call_of f (LoadStop o) = days.LoadStop o.side o.member o.price o.shares
call_of f Open = days.Open
call_of f (Enter t) = entering t f
call_of f (Cancel m n) = CancelOrder m n f
call_of f (FloorTrade p q) = days.FloorTrade p q f
call_of f Resume = days.Resume f
call_of f Close = days.Close

module _ {R F : Type 0} {g : _} where
  abbrev pub day_in : Stage R F g → Day
  day_in (Load d) = day_of Loading d.board
  day_in (Trade d) = day_of Trading d.board
  day_in (Shut d) = day_of Closed d.board

  abbrev pub board_in : Stage R F g → Board
  board_in (Load d) = d.board
  board_in (Trade d) = d.board
  board_in (Shut d) = d.board

  abbrev pub rule_in : Stage R F g → R
  rule_in (Load d) = d.rule
  rule_in (Trade d) = d.rule
  rule_in (Shut d) = d.rule

  abbrev pub file_in : Stage R F g → F
  file_in (Load d) = d.file
  file_in (Trade d) = d.file
  file_in (Shut d) = d.file

  -- the call leads the day to its next phase
  abbrev pub LeadsOn : Call → Stage R F g → Type 0
  LeadsOn c (Load d) = c ≡ Open
  LeadsOn c (Trade d) = c ≡ Close
  LeadsOn c (Shut d) = ⊥

  -- such a call was put to the stage, and altered nothing yet
  pub record Unmoved (c : Call) (st st' : Stage R F g) (ls ls' : List TapeLine) : Type 0 where
    pub leads : LeadsOn c st
    pub stage : st' ≡ st
    pub lines : ls' ≡ ls
