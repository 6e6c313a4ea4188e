-- Sums over the whole roll; none of them is large if it is sound.
use Rattle.std.proofs.Common.{◌≡◌, ℕ, ◌+◌, ◌*◌, ◌<◌, ◌≤◌, List, [], ◌∷◌, length, get_or, drop, ap, arith}
use Rattle.std.specs.List.{AllByRecursion, sum_by}
use Rattle.std.proofs.lemmas.List.{at_drop_more}
use Rattle.market.specs.declared.words.Order.{Order}
use Rattle.market.specs.Changes.{blank}
use Rattle.replay.specs.Lists.{total}
use Rattle.orderbook.specs.Sorted.{Sums, Sound}
use Rattle.orderbook.proofs.Fronts.{total_sum_by}

-- the first i orders are summed
pub record Summed (os : List Order) (i accepted filled cancelled left : ℕ) : Type 0 where
  pub accepted_is : accepted + total (λ o. o.accepted) (drop i os) ≡ total (λ o. o.accepted) os
  pub filled_is : filled + total (λ o. o.filled) (drop i os) ≡ total (λ o. o.filled) os
  pub cancelled_is : cancelled + total (λ o. o.cancelled) (drop i os) ≡ total (λ o. o.cancelled) os
  pub left_is : left + total (λ o. o.«open») (drop i os) ≡ total (λ o. o.«open») os

pub summed_more : {os : List Order} {i a f c l : ℕ} → Summed os i a f c l → (o : Order) → i < length os → o ≡ get_or os i blank → Summed os (i + 1) (a + o.accepted) (f + o.filled) (c + o.cancelled) (l + o.«open»)
summed_more {os} {i} s o lt e =
    let step : (f : Order → ℕ) → total f (drop i os) ≡ f (get_or os i blank) + total f (drop (i + 1) os) = λ f. at_drop_more (total f) os i blank lt in
    record {
      accepted_is = omega (arith, s.accepted_is, step (λ o. o.accepted), ap (λ (o : Order). o.accepted) e);
      filled_is = omega (arith, s.filled_is, step (λ o. o.filled), ap (λ (o : Order). o.filled) e);
      cancelled_is = omega (arith, s.cancelled_is, step (λ o. o.cancelled), ap (λ (o : Order). o.cancelled) e);
      left_is = omega (arith, s.left_is, step (λ o. o.«open»), ap (λ (o : Order). o.«open») e);
    }

pub few : (f : Order → ℕ) → ((o : Order) → Sums o → f o ≤ 1000000) → (os : List Order) → AllByRecursion Sums os → total f os ≤ 1000000 * length os
few f h [] a = omega arith
few f h (o ∷ os) a = omega (arith, h o a.0, few f h os a.1)

module _ {os : List Order} (s : Sound os) where
  fits : (f : Order → ℕ) → ((o : Order) → Sums o → f o ≤ 1000000) → sum_by f os < 18446744073709551616
  fits f h = omega (arith, total_sum_by f os, few f h os s.sums, s.few)

  pub accepted_fits : sum_by (λ (o : Order). o.accepted) os < 18446744073709551616
  accepted_fits = fits (λ o. o.accepted) (λ o u. omega (arith, u.most))

  pub filled_fits : sum_by (λ (o : Order). o.filled) os < 18446744073709551616
  filled_fits = fits (λ o. o.filled) (λ o u. omega (arith, u.whole, u.most))

  pub cancelled_fits : sum_by (λ (o : Order). o.cancelled) os < 18446744073709551616
  cancelled_fits = fits (λ o. o.cancelled) (λ o u. omega (arith, u.whole, u.most))

  pub open_fits : sum_by (λ (o : Order). o.«open») os < 18446744073709551616
  open_fits = fits (λ o. o.«open») (λ o u. omega (arith, u.whole, u.most))
