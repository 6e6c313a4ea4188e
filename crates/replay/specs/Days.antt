-- A trading day by what it means: the roll of orders with their places, who is in line, and what is in force. Assumes nothing.
-- Book and stop file are no parts of a day: they are read off the roll. So there is one truth about each order, and as the roll is
-- in order of number, "the order that came first" is the one that stands first.
use Rattle.std.specs.Prelude.{ℕ, Bool, false, List, [], None, Option}
use Rattle.market.specs.declared.words.Side.{Side}
use Rattle.market.specs.declared.words.Kind.{Kind}
use Rattle.market.specs.declared.words.Column.{Column}
use Rattle.market.specs.declared.words.Column.TheVariants.{Lower}
use Rattle.market.specs.declared.words.Order.{Order}
use Rattle.market.specs.declared.words.Range.{Range}
use Rattle.market.specs.declared.words.TapeLine.{TapeLine}

-- a day is loading, then trading, then closed
pub data Phase : Type 0 where
  Loading Trading Closed : Phase

-- Shares that one order got in one print: its number, the price, the shares, and the range in force then, as the print's line shows it.
pub record Fill : Type 0 where
  pub order : ℕ
  pub price : ℕ
  pub shares : ℕ
  pub low : ℕ
  pub high : ℕ

pub record Day : Type 0 where
  -- every order accepted today, at the place of its number
  pub roll : List Order
  -- the numbers of the orders that wait to run, first come first
  pub line : List ℕ
  pub paused : Bool
  -- the range in force
  pub range : Option Range
  -- the last sale, 0 for none
  pub last : ℕ
  -- which cells of the range table hold today
  pub class : ℕ
  pub column : Column
  pub phase : Phase
  -- the lines of all calls so far
  pub tape : List TapeLine
  -- every fill so far. No rule looks at it: it is kept for the laws.
  pub fills : List Fill

-- a new day: class 1, lower values, no last sale, nobody there
unfoldable pub new_day : Day
new_day = record { roll = []; line = []; paused = false; range = None; last = 0; class = 1; column = Lower; phase = Loading; tape = []; fills = [] }

-- What may be asked of a day. Calls that write tape lines say how many lines are free for them.
pub data Call : Type 0 where
  -- class, column as the code of its letter, last sale or 0
  Set : ℕ → ℕ → ℕ → Call
  -- side, member, price, shares
  LoadLimit : Side → ℕ → ℕ → ℕ → Call
  LoadStop : Side → ℕ → ℕ → ℕ → Call
  Open : Call
  -- kind, side, member, price, shares, free lines; a market order's price is not looked at
  Enter : Kind → Side → ℕ → ℕ → ℕ → ℕ → Call
  -- member, order number, free lines
  CancelOrder : ℕ → ℕ → ℕ → Call
  -- price, shares, free lines
  FloorTrade : ℕ → ℕ → ℕ → Call
  -- free lines
  Resume : ℕ → Call
  Close : Call

pub data Answer : Type 0 where
  Done : Answer
  -- the number of the order
  Number : ℕ → Answer
  -- how many lines were written
  Lines : ℕ → Answer
  -- both
  Entered : ℕ → ℕ → Answer
  -- the number of the refusal
  Refused : ℕ → Answer

pub record Outcome : Type 0 where
  pub answer : Answer
  pub day : Day

-- a share-out rule, by what it gives: the gift of each entry of a row for a quantity
abbrev pub Rule : Type 0
Rule = List ℕ → ℕ → List ℕ
