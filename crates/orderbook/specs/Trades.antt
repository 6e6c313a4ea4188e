-- What the calls of a book do to the roll, and what its questions answer. Assumes nothing.
use Rattle.std.specs.Prelude.{ℕ, ◌-◌, Bool, false, cond, not, ◌&&◌, ◌||◌, leb, List, ◌++◌, map, length, Some, None, Option, nat_le, nat_lt}
use Rattle.market.specs.declared.words.Side.{Side}
use Rattle.market.specs.declared.words.Side.TheVariants.{Buy}
use Rattle.market.specs.declared.words.Place.{Place}
use Rattle.market.specs.declared.words.Place.TheVariants.{Nowhere, Book, Line, StopFile}
use Rattle.market.specs.declared.words.Order.{Order}
use Rattle.market.specs.declared.words.Range.{Range}
use Rattle.market.specs.Sides.{opposite, better}
use Rattle.market.specs.Orders.{is_book, rests_on, fill, put, in_limit, reaches}
use Rattle.replay.specs.Lists.{those}
use Rattle.replay.specs.Days.{Rule}
use Rattle.replay.specs.Rolls.{look, alter, left, fresh}
use Rattle.replay.specs.Book.{ahead, depth, row, prices, best, is_reached}
use Rattle.replay.specs.Moves.{deal, size}
use Rattle.replay.specs.Runs.{allowed, or}
use Rattle.orderbook.specs.Sorted.{book}
use Rattle.orderbook.specs.declared.ticket.Ticket.{Ticket}

-- the roll after order n traded with side c at p
abbrev pub traded : Rule → ℕ → Side → ℕ → List Order → List Order
traded gifts n c p os = alter n (fill (size n c p os)) (deal c p os (gifts (row c p os) (size n c p os - ahead c p os)))

-- what the orders of side c give to a print of q shares at p, in order of precedence: those priced better all that is open, and those
-- at p their gifts
abbrev pub given : Rule → ℕ → Side → ℕ → List Order → List ℕ
given gifts q c p os = map (λ o. o.«open») (those (λ o. better c o.price p) (book c os)) ++ gifts (row c p os) (q - ahead c p os)

-- there is such an order, and it is not on the book
abbrev pub is_off : Option Order → Bool
is_off None = false
is_off (Some o) = not (is_book o.place)

-- the side that an order trades with
abbrev pub contra_of : Option Order → Side
contra_of None = Buy
contra_of (Some o) = opposite o.side

-- an order that is not on the book is put elsewhere
abbrev pub moved : Place → ℕ → List Order → List Order
moved Nowhere n os = os
moved Book n os = cond (is_off (look n os)) (alter n (put Book) os) os
moved Line n os = cond (is_off (look n os)) (alter n (put Line) os) os
moved StopFile n os = cond (is_off (look n os)) (alter n (put StopFile) os) os

-- the next order, as its ticket has it
abbrev pub next : Ticket → List Order → Order
next t os = fresh t.kind t.side t.member t.price t.shares os

-- there is a place on the roll, and the shares are no more than an order may have
abbrev pub admits : Ticket → List Order → Bool
admits t os = nat_lt (length os) 512 && nat_le t.shares 1000000

-- the price at which an order trades first: the best price of the other side, if it is within limit and range
abbrev pub first_in : Order → Option Range → List Order → Option ℕ
first_in r g os = allowed (reaches r g) (best (opposite r.side) (prices (rests_on (opposite r.side)) os))

-- the clean-up price of q shares: of the prices of the other side within limit and range, the best at which the orders priced there or
-- better cover q; if none covers it, the worst
abbrev pub clean_up_to : ℕ → Order → Option Range → List Order → Option ℕ
clean_up_to q r g os =
    let c : Side = opposite r.side in
    let ps : List ℕ = prices (is_reached r g) os in
    or (best c (those (λ p. leb q (depth c p os)) ps)) (best (opposite c) ps)

-- that of what is left of the order
abbrev pub clean_in : Order → Option Range → List Order → Option ℕ
clean_in r g os = clean_up_to (left r.number os) r g os

-- no price of side c that is worse than p is within limit and range
abbrev pub past_range : Side → Option Range → ℕ → Bool
past_range c None p = false
past_range c (Some g) p = better c g.low p && better c g.high p

abbrev pub is_past : Side → Order → Option Range → ℕ → Bool
is_past c r g p = not (in_limit r p) || past_range c g p
