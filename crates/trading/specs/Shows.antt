-- Which days a board shows, and what its moves do to them. Assumes nothing.
use Rattle.std.specs.Prelude.{◌≡◌, ℕ, ◌+◌, ◌*◌, Bool, true, false, List, length, Some, None, Option}
use Rattle.market.specs.declared.words.Order.{Order}
use Rattle.market.specs.declared.words.Stop.{Stop}
use Rattle.market.specs.declared.words.TapeLine.{TapeLine}
use Rattle.market.specs.Sides.{opposite}
use Rattle.orderbook.specs.Trades.{is_off, contra_of}
use Rattle.replay.specs.Days.{Day, Phase, Rule}
use Rattle.replay.specs.Rolls.{look, is_filed}
use Rattle.replay.specs.Runs.{first_price, next_price, print_at}
use Rattle.replay.specs.StopFile.{file_of}
use Rattle.trading.specs.declared.board.Board.{Board}
use Rattle.trading.specs.Waiting.{first_of}
use Rattle.trading.specs.Boards.{orders_of, waiting_of}

-- A board shows a day if it has all of it but its fills, and these lines are its tape. As the fills are left open, a board shows many days, and
-- what is said of a move holds of each of them.
pub record Shows (f : Phase) (b : Board) (lines : List TapeLine) (d : Day) : Type 0 where
  pub roll : orders_of b ≡ d.roll
  pub line : waiting_of b ≡ d.line
  pub paused : b.paused ≡ d.paused
  pub range : b.range ≡ d.range
  pub last : b.last_sale ≡ d.last
  pub class : b.class ≡ d.class
  pub column : b.column ≡ d.column
  pub phase : f ≡ d.phase
  pub tape : lines ≡ d.tape

-- whatever day it showed, afterwards it shows what the move makes of it
abbrev pub Does : Board → List TapeLine → Board → List TapeLine → (Day → Day) → Type 0
Does b ls b' ls' op = (f : Phase) (d : Day) → Shows f b ls d → Shows f b' ls' (op d)

-- the same of a stop file that lists the filed stops of the roll
abbrev pub Carries : Board → List Stop → List TapeLine → Board → List Stop → List TapeLine → (Day → Day) → Type 0
Carries b ss ls b' ss' ls' op = (f : Phase) (d : Day) → Shows f b ls d → ss ≡ file_of d.roll → Shows f b' ls' (op d) × (ss' ≡ file_of (op d).roll)

-- the order that runs is not on the book, and trades with the other side
pub record Runner (os : List Order) (r : Order) : Type 0 where
  pub off : is_off (look r.number os) ≡ true
  pub contra : contra_of (look r.number os) ≡ opposite r.side

-- the prices and the prints of a run
abbrev pub second_price : Rule → Order → Day → Option ℕ
second_price gifts r d = next_price (first_price r d) r (print_at gifts r (first_price r d) d)

abbrev pub printed : Rule → Order → Day → Day
printed gifts r d = print_at gifts r (second_price gifts r d) (print_at gifts r (first_price r d) d)

-- two prices at which an order printed, and the board afterwards
pub record Printed (gifts : Rule) (r : Order) (f : Phase) (p p' : Option ℕ) (b' : Board) (ls' : List TapeLine) (d : Day) : Type 0 where
  pub first : p ≡ first_price r d
  pub second : p' ≡ second_price gifts r d
  pub shows : Shows f b' ls' (printed gifts r d)

-- the order of a number is in the stop file
abbrev pub filed_of : Option Order → Bool
filed_of None = false
filed_of (Some o) = is_filed o.place

-- who runs next: the first in line, unless trading is paused
abbrev pub up_next : Bool → List ℕ → Option ℕ
up_next true ns = None
up_next false ns = first_of ns

-- the lines that those in line and the stops of a file may yet come to
abbrev pub may_print : Board → List Stop → ℕ
may_print b ss = 3 * length (waiting_of b) + 4 * length ss

-- all but the roll and the line
pub record Beside (b b' : Board) : Type 0 where
  pub paused : b'.paused ≡ b.paused
  pub range : b'.range ≡ b.range
  pub last : b'.last_sale ≡ b.last_sale
  pub class : b'.class ≡ b.class
  pub column : b'.column ≡ b.column
