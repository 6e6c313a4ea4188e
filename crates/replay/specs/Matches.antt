-- Who stands on the two sides of a print. Assumes nothing.
use Rattle.std.specs.Prelude.{◌≡◌, ℕ, ◌≤◌, List, [], ◌∷◌, ◌++◌, Some, ◌≢◌, ◌==◌}
use Rattle.std.specs.List.{AllByRecursion}
use Rattle.market.specs.declared.words.Side.{Side}
use Rattle.market.specs.declared.words.Kind.TheVariants.{Limit}
use Rattle.market.specs.declared.words.Order.{Order}
use Rattle.market.specs.declared.words.TapeLine.{TapeLine}
use Rattle.market.specs.declared.words.TapeLine.TheVariants.{Print, Cancel, Elect, Floor}
use Rattle.market.specs.Sides.{opposite}
use Rattle.sharing.specs.Shares.{LawfulRule}
use Rattle.replay.specs.Lists.{only, total}
use Rattle.replay.specs.Days.{Fill, new_day, Call, Rule}
use Rattle.replay.specs.Rolls.{look}
use Rattle.replay.specs.Calls.{after_calls}
use Rattle.replay.specs.BookInOrder.{OfPrint}

-- A fill on the other side of a print at p that order n of side s makes: another order got it, a limit order of the other side.
pub record Against (os : List Order) (n : ℕ) (s : Side) (p lo hi : ℕ) (f : Fill) : Type 0 where
  pub order : Order
  pub there : look f.order os ≡ Some order
  pub other : f.order ≢ n
  pub kind : order.kind ≡ Limit
  pub side : order.side ≡ opposite s
  pub some : 1 ≤ f.shares
  pub print : OfPrint p lo hi f

-- how often order m is among some fills
abbrev pub fills_of : ℕ → List Fill → ℕ
fills_of m fs = total (λ f. only (f.order == m) 1) fs

-- The fills are those of the P lines, one after the other: first that of the order run, for the line's shares, and then those of limit orders of the
-- other side, for as many together, none of them twice.
abbrev pub MatchedBy : List Order → List TapeLine → List Fill → Type 0
MatchedBy os [] fs = fs ≡ []
MatchedBy os (Print n p q lo hi ∷ ls) fs =
    (r : Order) × (gs : List Fill) × (rest : List Fill) × (look n os ≡ Some r) × (fs ≡ record { order = n; price = p; shares = q; low = lo; high = hi } ∷ gs ++ rest)
    × AllByRecursion (Against os n r.side p lo hi) gs × ((m : ℕ) → fills_of m gs ≤ 1) × (total (λ f. f.shares) gs ≡ q) × MatchedBy os ls rest
MatchedBy os (Cancel n q ∷ ls) fs = MatchedBy os ls fs
MatchedBy os (Elect n ∷ ls) fs = MatchedBy os ls fs
MatchedBy os (Floor p q ∷ ls) fs = MatchedBy os ls fs

-- So it is after every list of calls, with the orders as they are on the roll then.
abbrev pub PrintsMatch : Type 0
PrintsMatch = (gifts : Rule) → LawfulRule gifts → (room : ℕ) (cs : List Call)
    → MatchedBy (after_calls gifts room new_day cs).roll (after_calls gifts room new_day cs).tape (after_calls gifts room new_day cs).fills
