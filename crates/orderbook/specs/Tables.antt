-- The tables of resting orders. Assumes nothing.
use Rattle.std.specs.Prelude.{ℕ, ◌-◌, Bool, not, ◌||◌, List, map, slice_index_or}
use Rattle.market.specs.declared.words.Side.{Side}
use Rattle.market.specs.declared.words.Side.TheVariants.{Buy, Sell}
use Rattle.market.specs.declared.words.Order.{Order}
use Rattle.market.specs.declared.side.Resting.{Resting}
use Rattle.market.specs.Sides.{as_good}
use Rattle.market.specs.Orders.{is_book}
use Rattle.market.specs.Changes.{blank}
use Rattle.orderbook.specs.Sorted.{Key, Tied}

abbrev pub key_in : {S : Type 0} → Resting S → Key
key_in e = record { price = e.price; number = e.number }

-- what a table shows
abbrev pub keys : {S : Type 0} → List (Resting S) → List Key
keys t = map key_in t

-- both tables show the books of their sides
pub record Kept (os : List Order) (bids offers : List Key) : Type 0 where
  pub bid : Tied Buy os bids
  pub offer : Tied Sell os offers

-- whether the order of a row is on the book; rows that are not as good as p are not looked up
abbrev pub stays : {S : Type 0} → Side → ℕ → List Order → Resting S → Bool
stays c p os e = not (as_good c e.price p) || is_book (slice_index_or os (e.number - 1) blank).place
