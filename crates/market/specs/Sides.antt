-- The two sides of the book, and which of two prices is better on each. Assumes nothing.
use Rattle.std.specs.Prelude.{◌≡◌, ℕ, Bool, true, false, not, nat_le, nat_lt}
use Rattle.market.specs.declared.words.Side.{Side}
use Rattle.market.specs.declared.words.Side.TheVariants.{Buy, Sell}
use Rattle.market.specs.Files.{by_turns}

abbrev pub opposite : Side → Side
opposite Buy = Sell
opposite Sell = Buy

abbrev pub same_side : Side → Side → Bool
same_side Buy Buy = true
same_side Buy Sell = false
same_side Sell Buy = false
same_side Sell Sell = true

-- p is a better price than q: higher for bids, lower for offers
abbrev pub better : Side → ℕ → ℕ → Bool
better Buy p q = nat_lt q p
better Sell p q = nat_lt p q

-- p is q or better
abbrev pub as_good : Side → ℕ → ℕ → Bool
as_good Buy p q = nat_le q p
as_good Sell p q = nat_le p q

-- resting order n at price p stands before order m at price q: by the better price, then by the lower number
abbrev pub precedence : Side → ℕ → ℕ → ℕ → ℕ → Bool
precedence s p n q m = by_turns (better s) p n q m

-- what holds of the prices of either side
pub record PriceOrder (s : Side) : Type 0 where
  pub irreflexive : (p : ℕ) → better s p p ≡ false
  pub asymmetric : (p q : ℕ) → better s p q ≡ true → better s q p ≡ false
  pub transitive : (p q r : ℕ) → better s p q ≡ true → better s q r ≡ true → better s p r ≡ true
  pub total : (p q : ℕ) → better s p q ≡ false → better s q p ≡ false → p ≡ q
  pub as_good_not_better : (p q : ℕ) → as_good s p q ≡ not (better s q p)
  pub reversed : (p q : ℕ) → better (opposite s) p q ≡ better s q p
