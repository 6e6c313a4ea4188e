-- Open shares have a place: on the book, in line, or in the stop file. Assumes nothing.
use Rattle.std.specs.Prelude.{◌≡◌, ℕ, ◌+◌, ◌≤◌, Bool, List, map, Some, ◌≢◌, ◌==◌}
use Rattle.std.specs.List.{AllByRecursion}
use Rattle.market.specs.declared.words.Kind.TheVariants.{Limit, Stop}
use Rattle.market.specs.declared.words.Place.{Place}
use Rattle.market.specs.declared.words.Place.TheVariants.{Nowhere, Book, Line, StopFile}
use Rattle.market.specs.declared.words.Order.{Order}
use Rattle.market.specs.Orders.{is_book}
use Rattle.sharing.specs.Shares.{LawfulRule}
use Rattle.replay.specs.Lists.{only, total}
use Rattle.replay.specs.Days.{Day, new_day, Call, Rule}
use Rattle.replay.specs.Rolls.{is_filed, is_waiting, look}
use Rattle.replay.specs.Calls.{after_calls}
use Rattle.replay.specs.Questions.{totals}
use Rattle.replay.specs.StopFile.{file_of}

-- how often a number stands in a list
abbrev pub times : ℕ → List ℕ → ℕ
times n ms = total (λ m. only (m == n) 1) ms

-- the open shares of the orders at some places
abbrev pub open_at : (Place → Bool) → List Order → ℕ
open_at t os = total (λ o. only (t o.place) o.«open») os

pub record HasPlace (d : Day) (o : Order) : Type 0 where
  -- an order has a place exactly while shares of it are open
  pub «open» : 1 ≤ o.«open» → o.place ≢ Nowhere
  pub held : o.place ≢ Nowhere → 1 ≤ o.«open»
  -- only limit orders rest, and only stops are filed
  pub rests : o.place ≡ Book → o.kind ≡ Limit
  pub filed : o.place ≡ StopFile → o.kind ≡ Stop
  -- it stands in line once if its place is there, and else not at all; and so in the stop file
  pub line : times o.number d.line ≡ only (is_waiting o.place) 1
  pub file : times o.number (map (λ t. t.number) (file_of d.roll)) ≡ only (is_filed o.place) 1

pub record Placed (d : Day) : Type 0 where
  pub orders : AllByRecursion (HasPlace d) d.roll
  -- whoever stands in line is an order of the roll, whose place is there
  pub known : AllByRecursion (λ n. (o : Order) × (look n d.roll ≡ Some o) × (o.place ≡ Line)) d.line
  -- the open shares of the day are those on the book, in line and in the stop file
  pub sum : (totals d).«open» ≡ open_at is_book d.roll + open_at is_waiting d.roll + open_at is_filed d.roll

-- All this holds after every list of calls.
abbrev pub OpenHasPlace : Type 0
OpenHasPlace = (gifts : Rule) → LawfulRule gifts → (room : ℕ) (cs : List Call) → Placed (after_calls gifts room new_day cs)
