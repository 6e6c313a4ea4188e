-- The book of a side: the resting orders of the roll, the better price first, and at one price the lower number. Assumes nothing.
use Rattle.std.specs.Prelude.{◌≡◌, ℕ, ◌+◌, ◌≤◌, Bool, true, false, List, [], ◌∷◌, map, length, Some, None, Option}
use Rattle.std.specs.List.{AllByRecursion}
use Rattle.market.specs.declared.words.Side.{Side}
use Rattle.market.specs.declared.words.Order.{Order}
use Rattle.market.specs.Files.{filed}
use Rattle.market.specs.Sides.{precedence}
use Rattle.market.specs.Orders.{rests_on}
use Rattle.replay.specs.RollHolds.{Numbered}

-- by what a resting order is ranked
pub record Key : Type 0 where
  pub price : ℕ
  pub number : ℕ

abbrev pub precedes : Side → Key → Key → Bool
precedes c a b = precedence c a.price a.number b.price b.number

abbrev pub key_of : Order → Key
key_of o = record { price = o.price; number = o.number }

abbrev pub before : Side → Order → Order → Bool
before c o u = precedes c (key_of o) (key_of u)

abbrev pub rested : Side → Bool → Order → List Order → List Order
rested c true o t = filed (before c) o t
rested c false o t = t

-- the orders that rest on side c, in order of precedence
unfoldable pub book : Side → List Order → List Order
book c [] = []
book c (o ∷ os) = rested c (rests_on c o) o (book c os)

abbrev pub first_of : List Order → Option Order
first_of [] = None
first_of (o ∷ os) = Some o

abbrev pub price_in : Option Order → Option ℕ
price_in None = None
price_in (Some o) = Some o.price

-- each accepted share is filled, cancelled or open
pub record Sums (o : Order) : Type 0 where
  pub whole : o.filled + o.cancelled + o.«open» ≡ o.accepted
  pub most : o.accepted ≤ 1000000

-- what every roll keeps
pub record Sound (os : List Order) : Type 0 where
  pub numbered : Numbered 1 os
  pub few : length os ≤ 512
  pub sums : AllByRecursion Sums os

-- a table of keys shows the book of side c
pub record Tied (c : Side) (os : List Order) (ks : List Key) : Type 0 where
  pub sound : Sound os
  pub shows : ks ≡ map key_of (book c os)
