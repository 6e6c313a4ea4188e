-- The steps of the loop that looks for the clean-up price in one pass.
use Rattle.std.proofs.Common.{◌≡◌, ℕ, zero, suc, ◌+◌, ◌*◌, ◌<◌, ◌≤◌, Bool, true, false, not, leb, List, [], ◌∷◌, length, get_or, take, drop, Some, None, Option, sym, refl, ap, ◌∙◌, subst, ⊎_elim, arith}
use Rattle.std.proofs.ByRecursion.{All-weaker, All-get_or}
use Rattle.std.proofs.lemmas.List.{drop_more, drop_all}
use Rattle.std.proofs.lemmas.List.Sums.{sum_by_more}
use Rattle.std.proofs.lemmas.Bool.{false≢true, or_cases, and_left, and_right, le-leb, leb-true}
use Rattle.std.proofs.lemmas.Bool.Decides.{nat_tests}
use Rattle.market.specs.declared.words.Side.{Side}
use Rattle.market.specs.declared.words.Side.TheVariants.{Buy, Sell}
use Rattle.market.specs.declared.words.Kind.{Kind}
use Rattle.market.specs.declared.words.Kind.TheVariants.{Limit, Market, ImmediateOrCancel, Stop}
use Rattle.market.specs.declared.words.Order.{Order}
use Rattle.market.specs.declared.words.Range.{Range}
use Rattle.market.specs.Sides.{opposite, better, as_good}
use Rattle.market.specs.Ranges.{in_range}
use Rattle.market.specs.Orders.{within_limit, in_limit, reaches}
use Rattle.market.specs.Changes.{blank}
use Rattle.replay.specs.Lists.{only, total}
use Rattle.replay.specs.Book.{depth}
use Rattle.replay.specs.RollHolds.{Numbered}
use Rattle.orderbook.specs.Sorted.{Key, precedes, key_of, before, book}
use Rattle.orderbook.specs.Trades.{past_range, is_past}
use Rattle.orderbook.proofs.Sorting.{good_self, Sorted, sorted_book, depth_book, behind, total_none}
use Rattle.orderbook.proofs.Fronts.{sorted_drop, total_sum_by}
use Rattle.orderbook.proofs.Sweeps.{sweep, sweep_past, sweep_here, sweep_on, sweep_none}

-- prices behind ----------------------------------------------------------------------------------------------------------
ahead_good : (c : Side) (a b : Key) → precedes c a b ≡ true → as_good c a.price b.price ≡ true
ahead_good Buy a b h = grind (arith, nat_tests)
ahead_good Sell a b h = grind (arith, nat_tests)

behind_not_better : (c : Side) (a b : Key) → precedes c a b ≡ true → better c b.price a.price ≡ false
behind_not_better Buy a b h = grind (arith, nat_tests)
behind_not_better Sell a b h = grind (arith, nat_tests)

-- one that stands behind another and is as good has its price
behind_level : (c : Side) (a b : Key) → precedes c a b ≡ true → as_good c b.price a.price ≡ true → b.price ≡ a.price
behind_level Buy a b h e = grind (arith, nat_tests)
behind_level Sell a b h e = grind (arith, nat_tests)

good_behind : (c : Side) (p q l : ℕ) → better c q p ≡ false → as_good c p l ≡ false → as_good c q l ≡ false
good_behind Buy p q l h e = grind (arith, nat_tests)
good_behind Sell p q l h e = grind (arith, nat_tests)

limit_behind : (k : Kind) (s : Side) (l p q : ℕ) → better (opposite s) q p ≡ false → not (within_limit k s l p) ≡ true → within_limit k s l q ≡ false
limit_behind Limit s l p q h e = good_behind (opposite s) p q l h (out (as_good (opposite s) p l) e)
  where
    out : (b : Bool) → not b ≡ true → b ≡ false
    out true e = absurd (false≢true e)
    out false e = refl
limit_behind ImmediateOrCancel s l p q h e = good_behind (opposite s) p q l h (out (as_good (opposite s) p l) e)
  where
    out : (b : Bool) → not b ≡ true → b ≡ false
    out true e = absurd (false≢true e)
    out false e = refl
limit_behind Market s l p q h e = absurd (false≢true e)
limit_behind Stop s l p q h e = absurd (false≢true e)

range_behind : (c : Side) (g : Option Range) (p q : ℕ) → better c q p ≡ false → past_range c g p ≡ true → in_range g q ≡ false
range_behind c None p q h e = absurd (false≢true e)
range_behind Buy (Some g) p q h e = grind (arith, nat_tests)
range_behind Sell (Some g) p q h e = grind (arith, nat_tests)

pub past_behind : (c : Side) (r : Order) (g : Option Range) (p q : ℕ) → c ≡ opposite r.side → better c q p ≡ false → is_past c r g p ≡ true → reaches r g q ≡ false
past_behind c r g p q e h k =
    ⊎_elim
    (λ (t : not (in_limit r p) ≡ true). and_left (in_limit r q) (in_range g q) (limit_behind r.kind r.side r.price p q (subst (λ s. better s q p ≡ false) e h) t))
    (λ (t : past_range c g p ≡ true). and_right (in_limit r q) (in_range g q) (range_behind c g p q h t))
    (or_cases (not (in_limit r p)) (past_range c g p) k)

-- sums -------------------------------------------------------------------------------------------------------------------
total_take : {X : Type 0} (f : X → ℕ) (xs : List X) (i : ℕ) (d : X) → i < length xs → total f (take (i + 1) xs) ≡ total f (take i xs) + f (get_or xs i d)
total_take f xs i d h = sym (total_sum_by f (take (i + 1) xs)) ∙ sum_by_more f xs i d h ∙ ap (λ n. n + f (get_or xs i d)) (total_sum_by f (take i xs))

-- up to the price of the order at i all shares count, those ahead of it whole
front_covered : (c : Side) (xs : List Order) (i : ℕ) → Sorted (before c) xs → i < length xs
    → total (λ o. only (as_good c o.price (get_or xs i blank).price) o.«open») xs ≡ total (λ o. o.«open») (take i xs) + total (λ o. only (as_good c o.price (get_or xs i blank).price) o.«open») (drop i xs)
front_covered c [] i s h = absurd (omega arith)
front_covered c (x ∷ xs) zero s h = zero_left (total (λ o. only (as_good c o.price x.price) o.«open») (x ∷ xs))
  where
    zero_left : (n : ℕ) → n ≡ 0 + n
    zero_left n = omega arith
front_covered c (x ∷ xs) (suc i) s h =
    let good : as_good c x.price (get_or xs i blank).price ≡ true = ahead_good c (key_of x) (key_of (get_or xs i blank)) (All-get_or (λ y. before c x y ≡ true) xs i blank (omega arith) s.0) in
    omega (arith, front_covered c xs i s.1 (omega arith), ap (λ b. only b x.«open») good)

-- the loop ---------------------------------------------------------------------------------------------------------------
abbrev pub covered : Side → ℕ → List Order → Order → Bool
covered c q os o = leb q (depth c o.price os)

pub record Sweeping (c : Side) (os : List Order) (q : ℕ) (reach : ℕ → Bool) (last : Option ℕ) (sum i : ℕ) (whole : Option ℕ) : Type 0 where
  pub same : sweep c (λ o. reach o.price) (covered c q os) last (drop i (book c os)) ≡ whole
  pub sums : sum ≡ total (λ o. o.«open») (take i (book c os))
  pub small : sum ≤ 1000000 * i

module _ {c : Side} {os : List Order} {q : ℕ} {reach : ℕ → Bool} {last : Option ℕ} {sum i : ℕ} {whole : Option ℕ}
    (count : Numbered 1 os) (x : Order) (lt : i < length (book c os)) (is : x ≡ get_or (book c os) i blank) {price : ℕ} (priced : price ≡ x.price) (inv : Sweeping c os q reach last sum i whole) where
  at : drop i (book c os) ≡ x ∷ drop (i + 1) (book c os)
  at = drop_more (book c os) i blank lt ∙ ap (λ u. u ∷ drop (i + 1) (book c os)) (sym is)

  in_order : Sorted (before c) (x ∷ drop (i + 1) (book c os))
  in_order = subst (Sorted (before c)) at (sorted_drop (before c) i (book c os) (sorted_book c 1 os count))

  more : sum + x.«open» ≡ total (λ o. o.«open») (take (i + 1) (book c os))
  more = omega (arith, total_take (λ o. o.«open») (book c os) i blank lt, inv.sums, ap (λ o. o.«open») is)

  -- the shares up to the price of x
  deep : depth c x.price os ≡ (sum + x.«open») + total (λ o. only (as_good c o.price x.price) o.«open») (drop (i + 1) (book c os))
  deep =
      let whole' : depth c x.price os ≡ total (λ o. only (as_good c o.price x.price) o.«open») (book c os) = sym (depth_book c x.price os) in
      let split : total (λ o. only (as_good c o.price x.price) o.«open») (book c os)
      ≡ total (λ o. o.«open») (take i (book c os)) + total (λ o. only (as_good c o.price x.price) o.«open») (drop i (book c os)) =
      subst (λ (y : Order). total (λ o. only (as_good c o.price y.price) o.«open») (book c os)
      ≡ total (λ o. o.«open») (take i (book c os)) + total (λ o. only (as_good c o.price y.price) o.«open») (drop i (book c os))) (sym is) (front_covered c (book c os) i (sorted_book c 1 os count) lt) in
      let head : total (λ o. only (as_good c o.price x.price) o.«open») (drop i (book c os))
      ≡ only (as_good c x.price x.price) x.«open» + total (λ o. only (as_good c o.price x.price) o.«open») (drop (i + 1) (book c os)) =
      ap (total (λ o. only (as_good c o.price x.price) o.«open»)) at in
      omega (arith, whole', split, head, ap (λ b. only b x.«open») (good_self c x.price), inv.sums)

  from : sweep c (λ o. reach o.price) (covered c q os) last (x ∷ drop (i + 1) (book c os)) ≡ whole
  from = ap (sweep c (λ o. reach o.price) (covered c q os) last) (sym at) ∙ inv.same

  here : reach x.price ≡ true → covered c q os x ≡ true → Some x.price ≡ whole
  here e f = sym (sweep_here c (λ o. reach o.price) (covered c q os) last x (drop (i + 1) (book c os)) in_order e f) ∙ from

  reach_at : {b : Bool} → reach price ≡ b → reach x.price ≡ b
  reach_at e = ap reach (sym priced) ∙ e

  pub sweep_stop : reach price ≡ true → q ≤ sum + x.«open» → Some price ≡ whole
  sweep_stop e h = ap (λ (n : ℕ). Some n) priced ∙ here (reach_at e) (le-leb q (depth c x.price os) (omega (arith, deep)))

  -- where the price covers q but the sum does not yet, the next order has the same price
  level_next : (ys : List Order) → Sorted (before c) (x ∷ ys) → reach x.price ≡ true → covered c q os x ≡ true → 0 < total (λ o. only (as_good c o.price x.price) o.«open») ys
      → sweep c (λ o. reach o.price) (covered c q os) (Some x.price) ys ≡ Some x.price
  level_next [] s e f h = refl
  level_next (y ∷ ys) s e f h = go (as_good c y.price x.price) refl
    where
      none : as_good c y.price x.price ≡ false → total (λ o. only (as_good c o.price x.price) o.«open») (y ∷ ys) ≡ 0
      none k = total_none (λ o. as_good c o.price x.price) (λ o. o.«open») (y ∷ ys) (behind c x.price y ys s.1 k)

      go : (b : Bool) → as_good c y.price x.price ≡ b → sweep c (λ o. reach o.price) (covered c q os) (Some x.price) (y ∷ ys) ≡ Some x.price
      go true k =
          let p : y.price ≡ x.price = behind_level c (key_of x) (key_of y) s.0.0 k in
          sweep_here c (λ o. reach o.price) (covered c q os) (Some x.price) y ys s.1 (ap reach p ∙ e) (ap (λ n. leb q (depth c n os)) p ∙ f) ∙ ap (λ (n : ℕ). Some n) p
      go false k = absurd (omega (arith, none k))

  pub sweep_more : reach price ≡ true → sum + x.«open» < q → x.«open» ≤ 1000000 → Sweeping c os q reach (Some price) (sum + x.«open») (i + 1) whole
  sweep_more k h m = record { same = ap (λ (n : ℕ). sweep c (λ o. reach o.price) (covered c q os) (Some n) (drop (i + 1) (book c os))) priced ∙ go (covered c q os x) refl; sums = more; small = omega (arith, inv.small) }
    where
      e : reach x.price ≡ true
      e = reach_at k

      go : (b : Bool) → covered c q os x ≡ b → sweep c (λ o. reach o.price) (covered c q os) (Some x.price) (drop (i + 1) (book c os)) ≡ whole
      go true f = level_next (drop (i + 1) (book c os)) in_order e f (omega (arith, deep, leb-true q (depth c x.price os) f)) ∙ here e f
      go false f = sym (sweep_on c (λ o. reach o.price) (covered c q os) last x (drop (i + 1) (book c os)) in_order e f) ∙ from

  pub sweep_skip : reach price ≡ false → x.«open» ≤ 1000000 → Sweeping c os q reach last (sum + x.«open») (i + 1) whole
  sweep_skip e m = record { same = sym (sweep_past c (λ o. reach o.price) (covered c q os) last x (drop (i + 1) (book c os)) in_order (reach_at e)) ∙ from; sums = more; small = omega (arith, inv.small) }

  -- where no worse price is in reach
  pub sweep_out : reach price ≡ false → ((p : ℕ) → better c p price ≡ false → reach p ≡ false) → last ≡ whole
  sweep_out e out =
      sym (sweep_none c (λ o. reach o.price) (covered c q os) last (x ∷ drop (i + 1) (book c os))
      (reach_at e, All-weaker (λ y. before c x y ≡ true) (λ y. reach y.price ≡ false) (λ y h. out y.price (ap (better c y.price) priced ∙ behind_not_better c (key_of x) (key_of y) h)) (drop (i + 1) (book c os)) in_order.0))
      ∙ from

pub sweep_end : {c : Side} {os : List Order} {q : ℕ} {reach : ℕ → Bool} {last : Option ℕ} {sum i : ℕ} {whole : Option ℕ} → length (book c os) ≤ i → Sweeping c os q reach last sum i whole → last ≡ whole
sweep_end {c} {os} {q} {reach} {last} {sum} {i} {whole} h inv = ap (sweep c (λ o. reach o.price) (covered c q os) last) (sym (drop_all i (book c os) h)) ∙ inv.same
