-- The moves of a day: every change of a day is one of these or several in turn. Assumes nothing.
use Rattle.std.specs.Prelude.{ℕ, zero, suc, ◌-◌, min, Bool, true, false, not, ◌&&◌, ◌||◌, List, [], ◌∷◌, ◌++◌, map, Some, None, Option, ◌==◌}
use Rattle.market.specs.declared.words.Side.{Side}
use Rattle.market.specs.declared.words.Column.{Column}
use Rattle.market.specs.declared.words.Place.{Place}
use Rattle.market.specs.declared.words.Place.TheVariants.{Nowhere, Book, Line, StopFile}
use Rattle.market.specs.declared.words.Order.{Order}
use Rattle.market.specs.declared.words.Range.{Range}
use Rattle.market.specs.declared.words.TapeLine.TheVariants.{Print, Cancel, Elect, Floor}
use Rattle.market.specs.Sides.{as_good}
use Rattle.market.specs.Ranges.{range_around}
use Rattle.market.specs.Orders.{fill, cancel, put}
use Rattle.replay.specs.Lists.{those}
use Rattle.replay.specs.Days.{Day, Fill, Phase, Rule}
use Rattle.replay.specs.Rolls.{is_filed, alter, left}
use Rattle.replay.specs.Book.{is_better, is_at, ahead, depth, row}

-- a print -------------------------------------------------------------------------------------------------------------
-- the range as a print's line shows it: 0 and 0 without one
abbrev pub low_of : Option Range → ℕ
low_of None = 0
low_of (Some g) = g.low

abbrev pub high_of : Option Range → ℕ
high_of None = 0
high_of (Some g) = g.high

abbrev pub gift : List ℕ → ℕ
gift [] = 0
gift (g ∷ gs) = g

-- the gifts left for the orders behind one that takes a gift, or takes none
abbrev pub after : Bool → List ℕ → List ℕ
after false gs = gs
after true [] = []
after true (g ∷ gs) = gs

-- what an order gives to a print: all that is open if its price is better, its gift if it is at the price, else nothing
abbrev pub part : Bool → Bool → ℕ → List ℕ → ℕ
part true a n gs = n
part false true n gs = gift gs
part false false n gs = 0

-- the order after it; an order that takes no part stays as it is
abbrev pub dealt : Bool → Bool → List ℕ → Order → Order
dealt true a gs o = fill o.«open» o
dealt false true gs o = fill (gift gs) o
dealt false false gs o = o

-- the roll after a print at p, with the gifts of the orders of side c at p
unfoldable pub deal : Side → ℕ → List Order → List ℕ → List Order
deal c p [] gs = []
deal c p (o ∷ os) gs = dealt (is_better c p o) (is_at c p o) gs o ∷ deal c p os (after (is_at c p o) gs)

-- the fills of a print; who gets nothing has none
abbrev pub filled_by : ℕ → ℕ → ℕ → Option Range → List Fill → List Fill
filled_by zero n p g fs = fs
filled_by (suc q) n p g fs = record { order = n; price = p; shares = suc q; low = low_of g; high = high_of g } ∷ fs

unfoldable pub taken : Side → ℕ → Option Range → List Order → List ℕ → List Fill
taken c p g [] gs = []
taken c p g (o ∷ os) gs = filled_by (part (is_better c p o) (is_at c p o) o.«open» gs) o.number p g (taken c p g os (after (is_at c p o) gs))

-- the shares that order n trades with side c at p: as many as both have
unfoldable pub size : ℕ → Side → ℕ → List Order → ℕ
size n c p os = min (left n os) (depth c p os)

-- Order n trades with the orders of side c at p or better, all at p. Better orders are filled whole, and the rule shares out the rest
-- among the orders at p. Where no order is better, this is a trade with the orders at p alone.
unfoldable pub trade : Rule → ℕ → Side → ℕ → Day → Day
trade gifts n c p d =
    let os : List Order = d.roll in
    let q : ℕ = size n c p os in
    let gs : List ℕ = gifts (row c p os) (q - ahead c p os) in
    record {
      roll = alter n (fill q) (deal c p os gs);
      line = d.line;
      paused = d.paused;
      range = d.range;
      last = p;
      class = d.class;
      column = d.column;
      phase = d.phase;
      tape = d.tape ++ (Print n p q (low_of d.range) (high_of d.range) ∷ []);
      fills = d.fills ++ filled_by q n p d.range (taken c p d.range os gs);
    }

-- leaving the line ----------------------------------------------------------------------------------------------------
abbrev pub without : ℕ → List ℕ → List ℕ
without n ns = those (λ m. not (m == n)) ns

-- order n is filled and leaves the line
unfoldable pub leave : ℕ → Day → Day
leave n d = record {
  roll = d.roll;
  line = without n d.line;
  paused = d.paused;
  range = d.range;
  last = d.last;
  class = d.class;
  column = d.column;
  phase = d.phase;
  tape = d.tape;
  fills = d.fills;
}

-- all open shares of order n are cancelled, with a line of the tape, wherever they were
unfoldable pub withdraw : ℕ → Day → Day
withdraw n d = record {
  roll = alter n cancel d.roll;
  line = without n d.line;
  paused = d.paused;
  range = d.range;
  last = d.last;
  class = d.class;
  column = d.column;
  phase = d.phase;
  tape = d.tape ++ (Cancel n (left n d.roll) ∷ []);
  fills = d.fills;
}

-- order n goes from the line to the book
unfoldable pub rest : ℕ → Day → Day
rest n d = record {
  roll = alter n (put Book) d.roll;
  line = without n d.line;
  paused = d.paused;
  range = d.range;
  last = d.last;
  class = d.class;
  column = d.column;
  phase = d.phase;
  tape = d.tape;
  fills = d.fills;
}

-- pause, range and phase ----------------------------------------------------------------------------------------------
unfoldable pub pause : Bool → Day → Day
pause b d = record {
  roll = d.roll;
  line = d.line;
  paused = b || d.paused;
  range = d.range;
  last = d.last;
  class = d.class;
  column = d.column;
  phase = d.phase;
  tape = d.tape;
  fills = d.fills;
}

-- the range is set from the last sale
unfoldable pub centre : Day → Day
centre d = record {
  roll = d.roll;
  line = d.line;
  paused = d.paused;
  range = range_around d.class d.column d.last;
  last = d.last;
  class = d.class;
  column = d.column;
  phase = d.phase;
  tape = d.tape;
  fills = d.fills;
}

-- a pause ends, and the range is set from the last sale
unfoldable pub resumed : Day → Day
resumed d = record {
  roll = d.roll;
  line = d.line;
  paused = false;
  range = range_around d.class d.column d.last;
  last = d.last;
  class = d.class;
  column = d.column;
  phase = d.phase;
  tape = d.tape;
  fills = d.fills;
}

-- a trade on the floor: it is the last sale, a pause ends, and the range is set from it
unfoldable pub floored : ℕ → ℕ → Day → Day
floored p q d = record {
  roll = d.roll;
  line = d.line;
  paused = false;
  range = range_around d.class d.column p;
  last = p;
  class = d.class;
  column = d.column;
  phase = d.phase;
  tape = d.tape ++ (Floor p q ∷ []);
  fills = d.fills;
}

unfoldable pub set_up : ℕ → Column → ℕ → Day → Day
set_up k c p d = record { roll = d.roll; line = d.line; paused = d.paused; range = d.range; last = p; class = k; column = c; phase = d.phase; tape = d.tape; fills = d.fills }

unfoldable pub to : Phase → Day → Day
to f d = record { roll = d.roll; line = d.line; paused = d.paused; range = d.range; last = d.last; class = d.class; column = d.column; phase = f; tape = d.tape; fills = d.fills }

-- elections -----------------------------------------------------------------------------------------------------------
-- price p elects the order: a filed buy stop priced at p or lower, a filed sell stop priced at p or higher
abbrev pub is_elected : ℕ → Order → Bool
is_elected p o = is_filed o.place && as_good o.side p o.price

abbrev pub called : Bool → Order → Order
called true o = put Line o
called false o = o

-- all filed stops that p elects join the end of the line, lowest number first, each with a line of the tape
unfoldable pub elect : ℕ → Day → Day
elect p d =
    let ns : List ℕ = map (λ o. o.number) (those (is_elected p) d.roll) in
    record {
      roll = map (λ o. called (is_elected p o) o) d.roll;
      line = d.line ++ ns;
      paused = d.paused;
      range = d.range;
      last = d.last;
      class = d.class;
      column = d.column;
      phase = d.phase;
      tape = d.tape ++ map Elect ns;
      fills = d.fills;
    }

-- a new order ---------------------------------------------------------------------------------------------------------
abbrev pub line_with : Place → ℕ → List ℕ → List ℕ
line_with Nowhere n ns = ns
line_with Book n ns = ns
line_with Line n ns = ns ++ (n ∷ [])
line_with StopFile n ns = ns

-- an order more on the roll, at its place; whoever waits stands last in line
unfoldable pub admit : Order → Place → Day → Day
admit o w d = record {
  roll = d.roll ++ (put w o ∷ []);
  line = line_with w o.number d.line;
  paused = d.paused;
  range = d.range;
  last = d.last;
  class = d.class;
  column = d.column;
  phase = d.phase;
  tape = d.tape;
  fills = d.fills;
}
