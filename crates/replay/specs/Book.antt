-- The book, read off the roll: prices, rows, depth and quotes. Written once for both sides. Assumes nothing.
use Rattle.std.specs.Prelude.{ℕ, Bool, cond, ◌&&◌, List, [], ◌∷◌, map, Some, None, Option, ◌==◌}
use Rattle.market.specs.declared.words.Side.{Side}
use Rattle.market.specs.declared.words.Order.{Order}
use Rattle.market.specs.declared.words.Range.{Range}
use Rattle.market.specs.Sides.{opposite, better, as_good}
use Rattle.market.specs.Ranges.{in_range}
use Rattle.market.specs.Orders.{rests_on, in_limit}
use Rattle.replay.specs.Lists.{only, total, those}

-- an order resting on side c at a price better than p, at p, at p or better
abbrev pub is_better : Side → ℕ → Order → Bool
is_better c p o = rests_on c o && better c o.price p

abbrev pub is_at : Side → ℕ → Order → Bool
is_at c p o = rests_on c o && o.price == p

abbrev pub is_up_to : Side → ℕ → Order → Bool
is_up_to c p o = rests_on c o && as_good c o.price p

-- the shares resting on side c at prices better than p
unfoldable pub ahead : Side → ℕ → List Order → ℕ
ahead c p os = total (λ o. only (is_better c p o) o.«open») os

-- the shares resting on side c at p or better
unfoldable pub depth : Side → ℕ → List Order → ℕ
depth c p os = total (λ o. only (is_up_to c p o) o.«open») os

-- the open shares at p, lowest order number first: what a share-out rule is given
unfoldable pub row : Side → ℕ → List Order → List ℕ
row c p os = map (λ o. o.«open») (those (is_at c p) os)

-- the prices of the orders that pass a test
unfoldable pub prices : (Order → Bool) → List Order → List ℕ
prices t os = map (λ o. o.price) (those t os)

abbrev pub pick : Side → ℕ → Option ℕ → Option ℕ
pick s p None = Some p
pick s p (Some q) = Some (cond (better s q p) q p)

-- the best price of a list, if it has any
abbrev pub best : Side → List ℕ → Option ℕ
best s [] = None
best s (p ∷ ps) = pick s p (best s ps)

-- a contra order of r: it rests on the other side, within r's limit
abbrev pub is_contra : Order → Order → Bool
is_contra r o = rests_on (opposite r.side) o && in_limit r o.price

-- one within the range as well
abbrev pub is_reached : Order → Option Range → Order → Bool
is_reached r g o = is_contra r o && in_range g o.price
