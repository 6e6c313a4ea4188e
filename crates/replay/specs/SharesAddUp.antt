-- Shares add up: of each order, of the day, and against the tape. Assumes nothing.
use Rattle.std.specs.Prelude.{◌≡◌, ℕ, ◌+◌, ◌*◌, List, [], ◌∷◌, Some, None, Option}
use Rattle.market.specs.declared.words.Side.{Side}
use Rattle.market.specs.declared.words.Side.TheVariants.{Buy, Sell}
use Rattle.market.specs.declared.words.Order.{Order}
use Rattle.market.specs.declared.words.TapeLine.{TapeLine}
use Rattle.market.specs.declared.words.TapeLine.TheVariants.{Print, Cancel, Elect, Floor}
use Rattle.market.specs.Sides.{same_side}
use Rattle.std.specs.List.{AllByRecursion}
use Rattle.sharing.specs.Shares.{LawfulRule}
use Rattle.replay.specs.Lists.{only, total}
use Rattle.replay.specs.Days.{Day, new_day, Call, Set, LoadLimit, LoadStop, Open, Enter, CancelOrder, FloorTrade, Resume, Close, Rule}
use Rattle.replay.specs.Calls.{refusal, checks, step, after_calls}
use Rattle.replay.specs.Questions.{totals}

-- the shares of a P line, and those of an X line
abbrev pub print_of : TapeLine → ℕ
print_of (Print n p q l h) = q
print_of (Cancel n q) = 0
print_of (Elect n) = 0
print_of (Floor p q) = 0

abbrev pub cancel_of : TapeLine → ℕ
cancel_of (Print n p q l h) = 0
cancel_of (Cancel n q) = q
cancel_of (Elect n) = 0
cancel_of (Floor p q) = 0

-- the shares of an order that were filled on side s
abbrev pub filled_on : Side → Order → ℕ
filled_on s o = only (same_side o.side s) o.filled

pub record Conserved (d : Day) : Type 0 where
  -- each order: what was accepted is filled, cancelled or open
  pub each : AllByRecursion (λ o. o.accepted ≡ o.filled + o.cancelled + o.«open») d.roll
  -- the day: each printed share is one bought and one sold
  pub sum : (totals d).accepted ≡ 2 * (totals d).printed + (totals d).cancelled + (totals d).«open»
  -- printed is the sum of the P lines, cancelled that of the X lines
  pub printed : (totals d).printed ≡ total print_of d.tape
  pub cancelled : (totals d).cancelled ≡ total cancel_of d.tape
  -- what was bought and what was sold are each what was printed
  pub bought : total (filled_on Buy) d.roll ≡ total print_of d.tape
  pub sold : total (filled_on Sell) d.roll ≡ total print_of d.tape

-- the shares of a Load or Enter call
abbrev pub brings : Call → ℕ
brings (Set k c p) = 0
brings (LoadLimit s m p q) = q
brings (LoadStop s m p q) = q
brings Open = 0
brings (Enter k s m p q f) = q
brings (CancelOrder m n f) = 0
brings (FloorTrade p q f) = 0
brings (Resume f) = 0
brings Close = 0

abbrev pub if_performed : Option ℕ → ℕ → ℕ
if_performed None q = q
if_performed (Some k) q = 0

-- those of the performed calls of a list
unfoldable pub brought_in : Rule → ℕ → Day → List Call → ℕ
brought_in gifts room d [] = 0
brought_in gifts room d (c ∷ cs) = if_performed (refusal (checks room d c)) (brings c) + brought_in gifts room (step gifts room d c).day cs

-- Shares add up after every list of calls, and what is accepted in all came in by the calls that were performed.
abbrev pub SharesAddUp : Type 0
SharesAddUp = (gifts : Rule) → LawfulRule gifts → (room : ℕ) (cs : List Call)
    → Conserved (after_calls gifts room new_day cs) × ((totals (after_calls gifts room new_day cs)).accepted ≡ brought_in gifts room new_day cs)
