-- Orders of a roll: where they are, how they are found and changed. Assumes nothing.
use Rattle.std.specs.Prelude.{ℕ, suc, Bool, true, false, List, [], ◌∷◌, length, Some, None, Option, ◌==◌}
use Rattle.market.specs.declared.words.Side.{Side}
use Rattle.market.specs.declared.words.Kind.{Kind}
use Rattle.market.specs.declared.words.Kind.TheVariants.{Limit, Market, ImmediateOrCancel, Stop}
use Rattle.market.specs.declared.words.Place.{Place}
use Rattle.market.specs.declared.words.Place.TheVariants.{Nowhere, Book, Line, StopFile}
use Rattle.market.specs.declared.words.Order.{Order}
use Rattle.market.specs.Orders.{enter}
use Rattle.replay.specs.Lists.{only, total}

abbrev pub is_filed : Place → Bool
is_filed Nowhere = false
is_filed Book = false
is_filed Line = false
is_filed StopFile = true

abbrev pub is_waiting : Place → Bool
is_waiting Nowhere = false
is_waiting Book = false
is_waiting Line = true
is_waiting StopFile = false

abbrev pub is_market : Kind → Bool
is_market Limit = false
is_market Market = true
is_market ImmediateOrCancel = false
is_market Stop = false

abbrev pub is_stop : Kind → Bool
is_stop Limit = false
is_stop Market = false
is_stop ImmediateOrCancel = false
is_stop Stop = true

-- how many stops are filed
abbrev pub filed : List Order → ℕ
filed os = total (λ o. only (is_filed o.place) 1) os

-- the order of a number, if the roll has it
abbrev pub found : Bool → Order → Option Order → Option Order
found true o r = Some o
found false o r = r

unfoldable pub look : ℕ → List Order → Option Order
look n [] = None
look n (o ∷ os) = found (o.number == n) o (look n os)

-- the roll with the order of a number changed
abbrev pub here : Bool → (Order → Order) → Order → List Order → List Order → List Order
here true f o os rest = f o ∷ os
here false f o os rest = o ∷ rest

unfoldable pub alter : ℕ → (Order → Order) → List Order → List Order
alter n f [] = []
alter n f (o ∷ os) = here (o.number == n) f o os (alter n f os)

abbrev pub open_of : Option Order → ℕ
open_of None = 0
open_of (Some o) = o.«open»

abbrev pub member_of : Option Order → ℕ
member_of None = 0
member_of (Some o) = o.member

abbrev pub place_of : Option Order → Place
place_of None = Nowhere
place_of (Some o) = o.place

abbrev pub absent : Option Order → Bool
absent None = true
absent (Some o) = false

-- the open shares of order n
unfoldable pub left : ℕ → List Order → ℕ
left n os = open_of (look n os)

-- a market order has price 0
abbrev pub price_of : Kind → ℕ → ℕ
price_of Limit p = p
price_of Market p = 0
price_of ImmediateOrCancel p = p
price_of Stop p = p

-- the next order of a roll, with the next number
unfoldable pub fresh : Kind → Side → ℕ → ℕ → ℕ → List Order → Order
fresh k s m p q os = enter (suc (length os)) m s k (price_of k p) q
