-- Limits, ranges and waiting are in order, and the best bid is below the best offer. Assumes nothing.
use Rattle.std.specs.Prelude.{◌≡◌, ℕ, ◌<◌, ◌≤◌, true, false, ◌⊎◌, List, [], ◌∷◌, ◌++◌, Some, ◌==◌}
use Rattle.market.specs.declared.words.Side.TheVariants.{Buy, Sell}
use Rattle.market.specs.declared.words.Order.{Order}
use Rattle.market.specs.declared.words.TapeLine.{TapeLine}
use Rattle.market.specs.declared.words.TapeLine.TheVariants.{Print, Cancel, Elect, Floor}
use Rattle.market.specs.Orders.{in_limit}
use Rattle.std.specs.List.{AllByRecursion}
use Rattle.sharing.specs.Shares.{LawfulRule}
use Rattle.replay.specs.Lists.{only, total}
use Rattle.replay.specs.Days.{Fill, Day, new_day, Call, Rule}
use Rattle.replay.specs.Rolls.{is_waiting, look}
use Rattle.replay.specs.Calls.{after_calls}
use Rattle.replay.specs.Questions.{quote}

-- the price of a fill is within the range that was in force, if one was
abbrev pub InShown : Fill → Type 0
InShown f = ((f.low ≡ 0) × (f.high ≡ 0)) ⊎ ((f.low ≤ f.price) × (f.price ≤ f.high))

-- the fill's order is on the roll, and the price is no worse than its limit
abbrev pub WithinLimit : List Order → Fill → Type 0
WithinLimit os f = (o : Order) × (look f.order os ≡ Some o) × (in_limit o f.price ≡ true)

-- the shares that a fill gave to order n
abbrev pub shares_of : ℕ → Fill → ℕ
shares_of n f = only (f.order == n) f.shares

-- a fill of the print at p, with the range shown
pub record OfPrint (p lo hi : ℕ) (f : Fill) : Type 0 where
  pub price : f.price ≡ p
  pub low : f.low ≡ lo
  pub high : f.high ≡ hi

-- the fills are those of the P lines, one after the other: the order run gets the line's shares, and other orders as many together
abbrev pub FilledBy : List TapeLine → List Fill → Type 0
FilledBy [] fs = fs ≡ []
FilledBy (Print n p q lo hi ∷ ls) fs =
    (gs : List Fill) × (rest : List Fill) × (fs ≡ record { order = n; price = p; shares = q; low = lo; high = hi } ∷ gs ++ rest)
    × AllByRecursion (OfPrint p lo hi) gs × (total (λ f. f.shares) gs ≡ q) × FilledBy ls rest
FilledBy (Cancel n q ∷ ls) fs = FilledBy ls fs
FilledBy (Elect n ∷ ls) fs = FilledBy ls fs
FilledBy (Floor p q ∷ ls) fs = FilledBy ls fs

pub record Orderly (d : Day) : Type 0 where
  -- nobody waits unless trading is paused
  pub idle : (d.paused ≡ true) ⊎ AllByRecursion (λ o. is_waiting o.place ≡ false) d.roll
  -- the best bid is below the best offer
  pub apart : (b o : ℕ × ℕ) → quote Buy d ≡ Some b → quote Sell d ≡ Some o → b.0 < o.0
  -- the fills are those of the P lines
  pub fills : FilledBy d.tape d.fills
  -- no fill passes its order's limit or the range in force, which is the range shown
  pub limit : AllByRecursion (WithinLimit d.roll) d.fills
  pub range : AllByRecursion InShown d.fills
  -- an order's filled shares are the sum of its fills
  pub filled : AllByRecursion (λ o. o.filled ≡ total (shares_of o.number) d.fills) d.roll

-- All this holds after every list of calls.
abbrev pub BookInOrder : Type 0
BookInOrder = (gifts : Rule) → LawfulRule gifts → (room : ℕ) (cs : List Call) → Orderly (after_calls gifts room new_day cs)
