-- The changes of an order, and of a roll of orders. Assumes nothing.
use Rattle.std.specs.Prelude.{ℕ, Bool, true, cond, ◌&&◌, List, length, Some, None, Option, nat_lt, slice_index_or, slice_set}
use Rattle.market.specs.declared.change.Change.{Change}
use Rattle.market.specs.declared.change.Change.TheVariants.{Fill, Cancel, Rest, Wait, File}
use Rattle.market.specs.declared.words.Order.{Order}
use Rattle.market.specs.declared.words.Side.TheVariants.{Buy}
use Rattle.market.specs.declared.words.Kind.TheVariants.{Limit}
use Rattle.market.specs.declared.words.Place.TheVariants.{Book, Line, StopFile}
use Rattle.market.specs.Orders.{enter, adds_up, can_fill, try_fill, try_cancel, put}

abbrev pub allowed : Change → Order → Bool
allowed (Fill q) o = can_fill q o
allowed Cancel o = adds_up o
allowed Rest o = true
allowed Wait o = true
allowed File o = true

-- the order after a change, or as it was
abbrev pub does : Change → Order → Order
does (Fill q) o = try_fill q o
does Cancel o = try_cancel o
does Rest o = put Book o
does Wait o = put Line o
does File o = put StopFile o

-- what is read where there is no order
abbrev pub blank : Order
blank = enter 0 0 Buy Limit 0 0

-- the order at a place, if the roll goes so far
abbrev pub order_at : ℕ → List Order → Option Order
order_at i os = cond (nat_lt i (length os)) (Some (slice_index_or os i blank)) None

abbrev pub allowed_at : Change → ℕ → List Order → Bool
allowed_at c i os = nat_lt i (length os) && allowed c (slice_index_or os i blank)

-- the roll with the order at one place changed, if it goes so far
abbrev pub does_at : Change → ℕ → List Order → List Order
does_at c i os = cond (nat_lt i (length os)) (slice_set os i (does c (slice_index_or os i blank))) os
