-- How an order runs, and how the line is worked off. Assumes nothing.
use Rattle.std.specs.Prelude.{ℕ, zero, suc, ◌+◌, Bool, true, false, List, [], ◌∷◌, length, Some, None, Option, nat_le}
use Rattle.market.specs.declared.words.Side.{Side}
use Rattle.market.specs.declared.words.Kind.{Kind}
use Rattle.market.specs.declared.words.Kind.TheVariants.{Limit, Market, ImmediateOrCancel, Stop}
use Rattle.market.specs.declared.words.Place.{Place}
use Rattle.market.specs.declared.words.Place.TheVariants.{Book, Line, StopFile}
use Rattle.market.specs.declared.words.Order.{Order}
use Rattle.market.specs.declared.words.Range.{Range}
use Rattle.market.specs.Sides.{opposite}
use Rattle.market.specs.Orders.{rests_on, reaches}
use Rattle.replay.specs.Lists.{those, any}
use Rattle.replay.specs.Days.{Day, Rule}
use Rattle.replay.specs.Rolls.{filed, look, left}
use Rattle.replay.specs.Book.{depth, prices, best, is_contra, is_reached}
use Rattle.replay.specs.Moves.{trade, leave, withdraw, rest, pause, centre, elect, admit}

-- prices --------------------------------------------------------------------------------------------------------------
abbrev pub only_if : Bool → ℕ → Option ℕ
only_if true p = Some p
only_if false p = None

abbrev pub allowed : (ℕ → Bool) → Option ℕ → Option ℕ
allowed t None = None
allowed t (Some p) = only_if (t p) p

-- The first price: the best price of the other side, if it is within limit and range.
unfoldable pub first_price : Order → Day → Option ℕ
first_price r d = allowed (reaches r d.range) (best (opposite r.side) (prices (rests_on (opposite r.side)) d.roll))

abbrev pub or : Option ℕ → Option ℕ → Option ℕ
or None y = y
or (Some x) y = Some x

-- The clean-up price, among the prices of the other side within limit and range: the best at which the orders priced there or better
-- cover what is left of the order; if none covers it, the worst.
unfoldable pub clean_up : Order → Day → Option ℕ
clean_up r d =
    let c : Side = opposite r.side in
    let ps : List ℕ = prices (is_reached r d.range) d.roll in
    or (best c (those (λ p. nat_le (left r.number d.roll) (depth c p d.roll)) ps)) (best (opposite c) ps)

abbrev pub if_left : ℕ → Option ℕ → Option ℕ
if_left zero x = None
if_left (suc n) x = x

-- the second price, if there was a first one and shares are left
abbrev pub next_price : Option ℕ → Order → Day → Option ℕ
next_price None r d = None
next_price (Some p) r d = if_left (left r.number d.roll) (clean_up r d)

abbrev pub print_at : Rule → Order → Option ℕ → Day → Day
print_at gifts r None d = d
print_at gifts r (Some p) d = trade gifts r.number (opposite r.side) p d

-- what is left --------------------------------------------------------------------------------------------------------
-- What becomes of a residual: whether an order of the other side is left within its limit, in range or not, and its kind.
-- If one is left, trading pauses, and the residual stays first in line unless it was to be executed at once or not at all.
abbrev pub residual : ℕ → Bool → Kind → Day → Day
residual n true Limit d = pause true d
residual n true Market d = pause true d
residual n true Stop d = pause true d
residual n true ImmediateOrCancel d = pause true (withdraw n d)
residual n false Limit d = rest n d
residual n false Market d = withdraw n d
residual n false Stop d = withdraw n d
residual n false ImmediateOrCancel d = withdraw n d

abbrev pub settle_of : ℕ → ℕ → Bool → Kind → Day → Day
settle_of zero n b k d = leave n d
settle_of (suc m) n b k d = residual n b k d

unfoldable pub settle : Order → Day → Day
settle r d = settle_of (left r.number d.roll) r.number (any (is_contra r) d.roll) r.kind d

-- a run ---------------------------------------------------------------------------------------------------------------
-- a print elects
abbrev pub elect_at : Option ℕ → Day → Day
elect_at None d = d
elect_at (Some p) d = elect p d

-- where none is in force, the first run that prints sets the range once it is over; else it stays
abbrev pub centre_if : Option Range → Option ℕ → Day → Day
centre_if None (Some p) d = centre d
centre_if None None d = d
centre_if (Some g) x d = d

-- An order runs: it prints at the first price and then at the clean-up price; what is left is settled; then each print elects, in turn.
unfoldable pub run : Rule → Order → Day → Day
run gifts r d =
    let a : Option ℕ = first_price r d in
    let d₁ : Day = print_at gifts r a d in
    let b : Option ℕ = next_price a r d₁ in
    let d₂ : Day = print_at gifts r b d₁ in
    centre_if d.range a (elect_at b (elect_at a (settle r d₂)))

abbrev pub run_of : Rule → ℕ → Option Order → Day → Day
run_of gifts n None d = leave n d
run_of gifts n (Some r) d = run gifts r d

-- the line ------------------------------------------------------------------------------------------------------------
abbrev pub turn_of : Rule → Bool → List ℕ → Day → Day
turn_of gifts true ns d = d
turn_of gifts false [] d = d
turn_of gifts false (n ∷ ns) d = run_of gifts n (look n d.roll) d

-- the line's first order runs, unless trading is paused or nobody waits
unfoldable pub turn : Rule → Day → Day
turn gifts d = turn_of gifts d.paused d.line d

unfoldable pub turns : Rule → ℕ → Day → Day
turns gifts zero d = d
turns gifts (suc k) d = turns gifts k (turn gifts d)

-- who may yet run: those in line, and the filed stops
unfoldable pub busy : Day → ℕ
busy d = length d.line + filed d.roll

-- The line is worked off. Each of them runs once at most, so that so many turns are enough: afterwards trading is paused or nobody
-- waits, which is a law.
unfoldable pub work : Rule → Day → Day
work gifts d = turns gifts (busy d) d

-- an order comes in ---------------------------------------------------------------------------------------------------
-- where it goes: a stop into the stop file, a limit order that meets no contra order on the book, every other into the line
abbrev pub start_place : Kind → Bool → Place
start_place Limit true = Line
start_place Limit false = Book
start_place Market b = Line
start_place ImmediateOrCancel b = Line
start_place Stop b = StopFile

-- in a pause an immediate-or-cancel order is cancelled
abbrev pub join_of : Rule → Bool → Kind → Order → Place → Day → Day
join_of gifts true ImmediateOrCancel o w d = withdraw o.number (admit o Line d)
join_of gifts true Limit o w d = work gifts (admit o w d)
join_of gifts true Market o w d = work gifts (admit o w d)
join_of gifts true Stop o w d = work gifts (admit o w d)
join_of gifts false k o w d = work gifts (admit o w d)

unfoldable pub join : Rule → Order → Day → Day
join gifts o d = join_of gifts d.paused o.kind o (start_place o.kind (any (is_contra o) d.roll)) d
