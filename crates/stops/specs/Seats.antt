-- Where a stop stands in the two tables.
use Rattle.std.specs.Prelude.{◌≡◌, ℕ, ◌≤◌, Bool, true, false, cond, List, map, Some, None, Option, nat_lt}
use Rattle.std.specs.List.{prefix_len, AllByRecursion, slice_get}
use Rattle.market.specs.declared.words.Stop.{Stop}
use Rattle.market.specs.declared.words.Side.{Side}
use Rattle.market.specs.declared.words.Side.TheVariants.{Buy, Sell}
use Rattle.stops.specs.declared.rows.PricedStop.{PricedStop}
use Rattle.stops.specs.declared.seats.Found.{Found}
use Rattle.stops.specs.declared.seats.Seat.{Seat}
use Rattle.stops.specs.declared.seats.Seat.TheVariants.{Buys, Sells}
use Rattle.stops.specs.Stops.{elects}
use Rattle.stops.specs.Tables.{stop_of}

-- how many rows stand ahead of the first that the price does not elect
abbrev pub elected_len : {S : Type 0} → Side → ℕ → List (PricedStop S) → ℕ
elected_len c p rows = prefix_len (λ row. elects p (stop_of c row)) rows

abbrev pub seated : {A B : Type 0} → List (PricedStop A) → List (PricedStop B) → Option Seat → Option Stop
seated bs ss None = None
seated bs ss (Some (Buys i)) = slice_get (map (stop_of Buy) bs) i
seated bs ss (Some (Sells j)) = slice_get (map (stop_of Sell) ss) j

-- of one find in each table, the one with the lower number
abbrev pub lower_seat : Option Found → Option Found → Option Seat
lower_seat None None = None
lower_seat (Some b) None = Some (Buys b.place)
lower_seat None (Some s) = Some (Sells s.place)
lower_seat (Some b) (Some s) = cond (nat_lt b.number s.number) (Some (Buys b.place)) (Some (Sells s.place))

-- a stop passes, and none that passes is lower; or none passes
abbrev pub Leads : (Stop → Bool) → Option Stop → List Stop → Type 0
Leads t None ss = AllByRecursion (λ u. t u ≡ false) ss
Leads t (Some s) ss = (t s ≡ true) × AllByRecursion (λ u. t u ≡ true → s.number ≤ u.number) ss
