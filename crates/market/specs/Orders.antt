-- An order of the roll, and what may become of it. Assumes nothing.
use Rattle.std.specs.Prelude.{ℕ, ◌+◌, ◌-◌, Bool, true, false, cond, ◌&&◌, Option, ◌==◌, nat_le}
use Rattle.market.specs.declared.words.Side.{Side}
use Rattle.market.specs.declared.words.Kind.{Kind}
use Rattle.market.specs.declared.words.Kind.TheVariants.{Limit, Market, ImmediateOrCancel, Stop}
use Rattle.market.specs.declared.words.Place.{Place}
use Rattle.market.specs.declared.words.Place.TheVariants.{Nowhere, Book, Line, StopFile}
use Rattle.market.specs.declared.words.Order.{Order}
use Rattle.market.specs.declared.words.Range.{Range}
use Rattle.market.specs.Ranges.{in_range}
use Rattle.market.specs.Sides.{opposite, same_side, as_good}

-- as an order is accepted: all shares open, and nowhere yet
abbrev pub enter : ℕ → ℕ → Side → Kind → ℕ → ℕ → Order
enter n m s k p q = record { number = n; member = m; side = s; kind = k; price = p; accepted = q; filled = 0; cancelled = 0; «open» = q; place = Nowhere }

-- each accepted share is filled, cancelled or open
abbrev pub adds_up : Order → Bool
adds_up o = o.filled + o.cancelled + o.«open» == o.accepted

-- q shares are open, of an order that adds up
abbrev pub can_fill : ℕ → Order → Bool
can_fill q o = nat_le q o.«open» && adds_up o

-- where an order is of which n shares are open
abbrev pub where_with : ℕ → Place → Place
where_with n w = cond (n == 0) Nowhere w

-- q shares go from open to filled
abbrev pub fill : ℕ → Order → Order
fill q o =
    record {
      number = o.number;
      member = o.member;
      side = o.side;
      kind = o.kind;
      price = o.price;
      accepted = o.accepted;
      filled = o.filled + q;
      cancelled = o.cancelled;
      «open» = o.«open» - q;
      place = where_with (o.«open» - q) o.place;
    }

-- all open shares go to cancelled
abbrev pub cancel : Order → Order
cancel o =
    record {
      number = o.number;
      member = o.member;
      side = o.side;
      kind = o.kind;
      price = o.price;
      accepted = o.accepted;
      filled = o.filled;
      cancelled = o.cancelled + o.«open»;
      «open» = 0;
      place = Nowhere;
    }

-- the same where it may be done, and else the order as it was
abbrev pub try_fill : ℕ → Order → Order
try_fill q o = cond (can_fill q o) (fill q o) o

abbrev pub try_cancel : Order → Order
try_cancel o = cond (adds_up o) (cancel o) o

-- the open shares are put elsewhere
abbrev pub put : Place → Order → Order
put w o =
    record {
      number = o.number;
      member = o.member;
      side = o.side;
      kind = o.kind;
      price = o.price;
      accepted = o.accepted;
      filled = o.filled;
      cancelled = o.cancelled;
      «open» = o.«open»;
      place = w;
    }

abbrev pub is_book : Place → Bool
is_book Nowhere = false
is_book Book = true
is_book Line = false
is_book StopFile = false

-- resting on the book of side s
abbrev pub rests_on : Side → Order → Bool
rests_on s o = is_book o.place && same_side o.side s

-- a price of the opposite side is within the limit; market orders and stops have none
abbrev pub within_limit : Kind → Side → ℕ → ℕ → Bool
within_limit Limit s limit p = as_good (opposite s) p limit
within_limit Market s limit p = true
within_limit ImmediateOrCancel s limit p = as_good (opposite s) p limit
within_limit Stop s limit p = true

abbrev pub in_limit : Order → ℕ → Bool
in_limit o p = within_limit o.kind o.side o.price p

-- the order may execute at a price of the opposite side
abbrev pub reaches : Order → Option Range → ℕ → Bool
reaches o r p = in_limit o p && in_range r p
