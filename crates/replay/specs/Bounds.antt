-- The numbers of a day stay in bounds. Assumes nothing.
use Rattle.std.specs.Prelude.{◌≡◌, ℕ, ◌≤◌, false, List, Some, None, Option}
use Rattle.std.specs.List.{AllByRecursion}
use Rattle.market.specs.declared.words.Kind.TheVariants.{Limit}
use Rattle.market.specs.declared.words.Place.TheVariants.{Book}
use Rattle.market.specs.declared.words.Order.{Order}
use Rattle.market.specs.declared.words.Range.{Range}
use Rattle.sharing.specs.Shares.{LawfulRule}
use Rattle.replay.specs.Days.{Day, new_day, Call, Rule}
use Rattle.replay.specs.Rolls.{is_market}
use Rattle.replay.specs.Calls.{after_calls}

-- an order
pub record Fine (o : Order) : Type 0 where
  pub price : o.price ≤ 100000
  pub priced : is_market o.kind ≡ false → 1 ≤ o.price
  pub member : (1 ≤ o.member) × (o.member ≤ 255)
  -- only limit orders rest
  pub book : o.place ≡ Book → o.kind ≡ Limit

-- the range in force, if there is one; its high end is not held to the highest price
abbrev pub FineRange : Option Range → Type 0
FineRange None = Unit {0}
FineRange (Some g) = (1 ≤ g.low) × (g.low ≤ g.high) × (g.high ≤ 100200)

pub record Bounds (d : Day) : Type 0 where
  pub orders : AllByRecursion Fine d.roll
  pub last : d.last ≤ 100000
  pub class : (1 ≤ d.class) × (d.class ≤ 3)
  pub range : FineRange d.range

-- Prices, members, class, last sale and range are within what the market takes, after every list of calls.
abbrev pub NumbersInBounds : Type 0
NumbersInBounds = (gifts : Rule) → LawfulRule gifts → (room : ℕ) (cs : List Call) → Bounds (after_calls gifts room new_day cs)
