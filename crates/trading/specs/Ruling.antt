-- What a board keeps: the roll, the numbers in line, and how many have joined it today. Assumes nothing.
use Rattle.std.specs.Prelude.{◌≡◌, ℕ, ◌+◌, ◌≤◌, Bool, true, false, List, length, Some, None, Option}
use Rattle.std.specs.List.{AllByRecursion}
use Rattle.market.specs.declared.words.Place.{Place}
use Rattle.market.specs.declared.words.Place.TheVariants.{Nowhere, Book, Line, StopFile}
use Rattle.market.specs.declared.words.Order.{Order}
use Rattle.replay.specs.Rolls.{look, filed}
use Rattle.replay.specs.RollHolds.{Numbered}
use Rattle.trading.specs.Waiting.{Once}

-- neither on the book nor in the stop file
abbrev pub is_loose : Place → Bool
is_loose Nowhere = true
is_loose Book = false
is_loose Line = true
is_loose StopFile = false

abbrev pub loose_of : Option Order → Bool
loose_of None = false
loose_of (Some o) = is_loose o.place

-- an order of the roll that is neither on the book nor in the stop file
abbrev pub Waits : List Order → ℕ → Type 0
Waits os n = loose_of (look n os) ≡ true

pub record Ruled (os : List Order) (line : List ℕ) (joined : ℕ) : Type 0 where
  pub numbered : Numbered 1 os
  pub few : length os ≤ 512
  pub waits : AllByRecursion (Waits os) line
  pub once : Once line
  -- each order joins the line once at most, and none while it is filed: so there is always room in line
  pub room : joined + filed os ≤ length os
