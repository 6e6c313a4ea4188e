-- A range in force stays through a call, and every print lies within it; where none is in force, the first run that prints sets it. Assumes nothing.
use Rattle.std.specs.Prelude.{◌≡◌, ℕ, ◌≤◌, ◌⊎◌, List, ◌∷◌, ◌++◌, Some, None, Option, ◌≢◌}
use Rattle.market.specs.declared.words.Column.{Column}
use Rattle.market.specs.declared.words.Range.{Range}
use Rattle.market.specs.declared.words.TapeLine.{TapeLine}
use Rattle.market.specs.declared.words.TapeLine.TheVariants.{Print, Cancel, Elect, Floor}
use Rattle.market.specs.Ranges.{range_around}
use Rattle.std.specs.List.{AllByRecursion}
use Rattle.sharing.specs.Shares.{LawfulRule}
use Rattle.replay.specs.Days.{Day, new_day, Call, Set, LoadLimit, LoadStop, Open, Enter, CancelOrder, FloorTrade, Resume, Close, Rule}
use Rattle.replay.specs.Calls.{refusal, checks, handed, step, after_calls}

-- the range in force when a performed call begins to run orders: opening, floor trade and resuming set it, all others leave it
abbrev pub range_for : Day → Call → Option Range
range_for d (Set k c p) = d.range
range_for d (LoadLimit s m p q) = d.range
range_for d (LoadStop s m p q) = d.range
range_for d Open = range_around d.class d.column d.last
range_for d (Enter k s m p q f) = d.range
range_for d (CancelOrder m n f) = d.range
range_for d (FloorTrade p q f) = range_around d.class d.column p
range_for d (Resume f) = range_around d.class d.column d.last
range_for d Close = d.range

abbrev pub Shows : ℕ → ℕ → TapeLine → Type 0
Shows lo hi (Print n p q l h) = (l ≡ lo) × (h ≡ hi)
Shows lo hi (Cancel n q) = Unit {0}
Shows lo hi (Elect n) = Unit {0}
Shows lo hi (Floor p q) = Unit {0}

-- a print has its price within these ends
abbrev pub PricedIn : ℕ → ℕ → TapeLine → Type 0
PricedIn lo hi (Print n p q l h) = (lo ≤ p) × (p ≤ hi)
PricedIn lo hi (Cancel n q) = Unit {0}
PricedIn lo hi (Elect n) = Unit {0}
PricedIn lo hi (Floor p q) = Unit {0}

-- The lines of a call that began to run orders with range g in force, and the range after it: it stays, every print shows it and lies within it.
-- It starts at 1 or higher, so that no print shows 0, which would say that none is in force.
pub record Stays (g : Range) (ls : List TapeLine) (after : Option Range) : Type 0 where
  pub low : 1 ≤ g.low
  pub stays : after ≡ Some g
  pub shown : AllByRecursion (Shows g.low g.high) ls
  pub within : AllByRecursion (PricedIn g.low g.high) ls

-- A range in force when a performed call begins to run orders is in force after it, and every print of the call shows it and lies within it.
abbrev pub RangeStays : Type 0
RangeStays = (gifts : Rule) → LawfulRule gifts → (room : ℕ) (cs : List Call) (c : Call) (g : Range)
    → refusal (checks room (after_calls gifts room new_day cs) c) ≡ None → range_for (after_calls gifts room new_day cs) c ≡ Some g
    → Stays g (handed (after_calls gifts room new_day cs) (step gifts room (after_calls gifts room new_day cs) c).day) (step gifts room (after_calls gifts room new_day cs) c).day.range

-- Where none is in force -----------------------------------------------------------------------------------------------
abbrev pub NoPrint : TapeLine → Type 0
NoPrint (Print n p q l h) = ⊥
NoPrint (Cancel n q) = Unit {0}
NoPrint (Elect n) = Unit {0}
NoPrint (Floor p q) = Unit {0}

-- a print of order n that shows 0 and 0
abbrev pub Rangeless : ℕ → TapeLine → Type 0
Rangeless n (Print m p q l h) = (m ≡ n) × (l ≡ 0) × (h ≡ 0)
Rangeless n (Cancel m q) = ⊥
Rangeless n (Elect m) = ⊥
Rangeless n (Floor p q) = ⊥

-- a print is of another order than n
abbrev pub OfOther : ℕ → TapeLine → Type 0
OfOther n (Print m p q l h) = m ≢ n
OfOther n (Cancel m q) = Unit {0}
OfOther n (Elect m) = Unit {0}
OfOther n (Floor p q) = Unit {0}

-- The lines of a call on a day of a class and column, and the range after it: the prints of the first run that prints show 0 and 0, and
-- from then on the range round the last of them is in force, and every later print is of another order, shows it and lies within it.
-- So the prints of that run are all prints of its order in the call, and none of them has a range.
pub record Begins (class : ℕ) (column : Column) (ls : List TapeLine) (after : Option Range) : Type 0 where
  pub before : List TapeLine
  pub runner : ℕ
  pub earlier : List TapeLine
  pub price : ℕ
  pub shares : ℕ
  pub later : List TapeLine
  pub range : Range
  pub lines : ls ≡ before ++ (earlier ++ (Print runner price shares 0 0 ∷ later))
  pub silent : AllByRecursion NoPrint before
  pub first : AllByRecursion (Rangeless runner) earlier
  pub around : range_around class column price ≡ Some range
  pub low : 1 ≤ range.low
  pub others : AllByRecursion (OfOther runner) later
  pub shown : AllByRecursion (Shows range.low range.high) later
  pub within : AllByRecursion (PricedIn range.low range.high) later
  pub stays : after ≡ Some range

-- A performed call that begins to run orders with no range in force prints nothing and leaves none, or its first run that prints sets it.
abbrev pub RangeBegins : Type 0
RangeBegins = (gifts : Rule) → LawfulRule gifts → (room : ℕ) (cs : List Call) (c : Call)
    → refusal (checks room (after_calls gifts room new_day cs) c) ≡ None → range_for (after_calls gifts room new_day cs) c ≡ None
    → (AllByRecursion NoPrint (handed (after_calls gifts room new_day cs) (step gifts room (after_calls gifts room new_day cs) c).day)
    × ((step gifts room (after_calls gifts room new_day cs) c).day.range ≡ None))
    ⊎ Begins (after_calls gifts room new_day cs).class (after_calls gifts room new_day cs).column
    (handed (after_calls gifts room new_day cs) (step gifts room (after_calls gifts room new_day cs) c).day) (step gifts room (after_calls gifts room new_day cs) c).day.range
