-- The clean-up price, from the front of the book.
use Rattle.std.proofs.Common.{◌≡◌, ℕ, Bool, true, false, cond, ◌&&◌, leb, List, [], ◌∷◌, map, Some, None, Option, sym, refl, ap, ◌∙◌, arith}
use Rattle.std.specs.List.{AllByRecursion}
use Rattle.std.proofs.ByRecursion.{All-weaker}
use Rattle.std.proofs.lemmas.Bool.{and_left}
use Rattle.std.proofs.Math.Bool.{and_assoc}
use Rattle.std.proofs.lemmas.Bool.Decides.{nat_tests}
use Rattle.market.specs.declared.words.Side.{Side}
use Rattle.market.specs.declared.words.Side.TheVariants.{Buy, Sell}
use Rattle.market.specs.declared.words.Order.{Order}
use Rattle.market.specs.declared.words.Range.{Range}
use Rattle.market.specs.Files.{filed}
use Rattle.market.specs.Sides.{opposite, better}
use Rattle.market.specs.Ranges.{in_range}
use Rattle.market.specs.Orders.{rests_on, in_limit, reaches}
use Rattle.replay.specs.Lists.{kept, those}
use Rattle.replay.specs.Book.{depth, prices, pick, best, is_reached}
use Rattle.replay.specs.Runs.{or}
use Rattle.orderbook.specs.Sorted.{Key, precedes, key_of, before, rested, book}
use Rattle.orderbook.specs.Trades.{clean_up_to}
use Rattle.orderbook.proofs.Sorting.{Sorted, none_those}

pick_swap : (s : Side) (p q : ℕ) (r : Option ℕ) → pick s p (pick s q r) ≡ pick s q (pick s p r)
pick_swap Buy p q None = ap (λ (n : ℕ). Some n) (grind (arith, nat_tests))
pick_swap Sell p q None = ap (λ (n : ℕ). Some n) (grind (arith, nat_tests))
pick_swap Buy p q (Some x) = ap (λ (n : ℕ). Some n) (grind (arith, nat_tests))
pick_swap Sell p q (Some x) = ap (λ (n : ℕ). Some n) (grind (arith, nat_tests))

abbrev pub tagged : (Order → Bool) → List Order → List ℕ
tagged u xs = map (λ o. o.price) (those u xs)

-- the best of a list does not hang on where a record is filed
best_filed : (s c : Side) (u : Order → Bool) (o : Order) (t : List Order) → best s (tagged u (filed (before c) o t)) ≡ best s (tagged u (o ∷ t))
best_filed s c u o [] = refl
best_filed s c u o (y ∷ ys) = go (before c o y) (u y) refl (u o) refl (best_filed s c u o ys)
  where
    go : (b v : Bool) → u y ≡ v → (w : Bool) → u o ≡ w → best s (tagged u (filed (before c) o ys)) ≡ best s (tagged u (o ∷ ys))
        → best s (tagged u (cond b (o ∷ y ∷ ys) (y ∷ filed (before c) o ys))) ≡ best s (tagged u (o ∷ y ∷ ys))
    go true v e w f ih = refl
    go false true e true f ih =
        ap (λ b. best s (map (λ o. o.price) (kept b y (those u (filed (before c) o ys))))) e
        ∙ ap (pick s y.price) (ih ∙ ap (λ b. best s (map (λ o. o.price) (kept b o (those u ys)))) f)
        ∙ pick_swap s y.price o.price (best s (tagged u ys))
        ∙ ap (λ b. pick s o.price (best s (map (λ o. o.price) (kept b y (those u ys))))) (sym e)
        ∙ ap (λ b. best s (map (λ o. o.price) (kept b o (those u (y ∷ ys))))) (sym f)
    go false true e false f ih =
        ap (λ b. best s (map (λ o. o.price) (kept b y (those u (filed (before c) o ys))))) e
        ∙ ap (pick s y.price) (ih ∙ ap (λ b. best s (map (λ o. o.price) (kept b o (those u ys)))) f)
        ∙ ap (λ b. best s (map (λ o. o.price) (kept b y (those u ys)))) (sym e)
        ∙ ap (λ b. best s (map (λ o. o.price) (kept b o (those u (y ∷ ys))))) (sym f)
    go false false e w f ih =
        ap (λ b. best s (map (λ o. o.price) (kept b y (those u (filed (before c) o ys))))) e
        ∙ ih ∙ ap (λ b. best s (map (λ o. o.price) (kept (u o) o (kept b y (those u ys))))) (sym e)

pub best_tagged : (s c : Side) (u : Order → Bool) (os : List Order) → best s (tagged (λ o. rests_on c o && u o) os) ≡ best s (tagged u (book c os))
unfolding book
best_tagged s c u [] = refl
best_tagged s c u (o ∷ os) = go (rests_on c o) (u o) refl (best_tagged s c u os)
  where
    go : (b v : Bool) → u o ≡ v → best s (tagged (λ o. rests_on c o && u o) os) ≡ best s (tagged u (book c os))
        → best s (map (λ o. o.price) (kept (b && u o) o (those (λ o. rests_on c o && u o) os))) ≡ best s (tagged u (rested c b o (book c os)))
    go true true e ih =
        ap (λ b. best s (map (λ o. o.price) (kept b o (those (λ o. rests_on c o && u o) os)))) e
        ∙ ap (pick s o.price) ih ∙ ap (λ b. best s (map (λ o. o.price) (kept b o (those u (book c os))))) (sym e) ∙ sym (best_filed s c u o (book c os))
    go true false e ih =
        ap (λ b. best s (map (λ o. o.price) (kept b o (those (λ o. rests_on c o && u o) os)))) e
        ∙ ih ∙ ap (λ b. best s (map (λ o. o.price) (kept b o (those u (book c os))))) (sym e) ∙ sym (best_filed s c u o (book c os))
    go false v e ih = ih

-- in order, the best is the first, and the worst the last ---------------------------------------------------------------
pick_near : (c : Side) (a b : Key) → precedes c a b ≡ true → cond (better c a.price b.price) a.price b.price ≡ a.price
pick_near Buy a b h = grind (arith, nat_tests)
pick_near Sell a b h = grind (arith, nat_tests)

pick_far : (c : Side) (a b : Key) → precedes c a b ≡ true → cond (better (opposite c) b.price a.price) b.price a.price ≡ b.price
pick_far Buy a b h = grind (arith, nat_tests)
pick_far Sell a b h = grind (arith, nat_tests)

near : (c : Side) (u : Order → Bool) (x : Order) (xs : List Order) → AllByRecursion (λ y. before c x y ≡ true) xs → pick c x.price (best c (tagged u xs)) ≡ Some x.price
near c u x [] a = refl
near c u x (y ∷ ys) a = go (u y) (near c u x ys a.1)
  where
    go : (b : Bool) → pick c x.price (best c (tagged u ys)) ≡ Some x.price → pick c x.price (best c (map (λ o. o.price) (kept b y (those u ys)))) ≡ Some x.price
    go true ih = pick_swap c x.price y.price (best c (tagged u ys)) ∙ ap (pick c y.price) ih ∙ ap (λ (n : ℕ). Some n) (pick_near c (key_of x) (key_of y) a.0)
    go false ih = ih

-- the worst of what is behind x, or x
far : (c : Side) (u : Order → Bool) (x : Order) (xs : List Order) → AllByRecursion (λ y. before c x y ≡ true) xs → pick (opposite c) x.price (best (opposite c) (tagged u xs)) ≡ or (best (opposite c) (tagged u xs)) (Some x.price)
far c u x [] a = refl
far c u x (y ∷ ys) a = go (u y) (far c u x ys a.1)
  where
    two : (r : Option ℕ) → pick (opposite c) x.price r ≡ or r (Some x.price) → pick (opposite c) x.price (pick (opposite c) y.price r) ≡ or (pick (opposite c) y.price r) (Some x.price)
    two None e = ap (λ (n : ℕ). Some n) (pick_far c (key_of x) (key_of y) a.0)
    two (Some z) e = pick_swap (opposite c) x.price y.price (Some z) ∙ ap (pick (opposite c) y.price) e

    go : (b : Bool) → pick (opposite c) x.price (best (opposite c) (tagged u ys)) ≡ or (best (opposite c) (tagged u ys)) (Some x.price)
        → pick (opposite c) x.price (best (opposite c) (map (λ o. o.price) (kept b y (those u ys)))) ≡ or (best (opposite c) (map (λ o. o.price) (kept b y (those u ys)))) (Some x.price)
    go true ih = two (best (opposite c) (tagged u ys)) ih
    go false ih = ih

-- the sweep: the first in reach that covers, or else the last in reach; `last` is the one before
abbrev pub sweep : Side → (Order → Bool) → (Order → Bool) → Option ℕ → List Order → Option ℕ
sweep c reach covers last xs = or (best c (tagged (λ o. reach o && covers o) xs)) (or (best (opposite c) (tagged reach xs)) last)

or_or : (a b c : Option ℕ) → or (or a b) c ≡ or a (or b c)
or_or None b c = refl
or_or (Some x) b c = refl

-- nothing in reach
pub sweep_none : (c : Side) (reach covers : Order → Bool) (last : Option ℕ) (xs : List Order) → AllByRecursion (λ x. reach x ≡ false) xs → sweep c reach covers last xs ≡ last
sweep_none c reach covers last xs a =
    ap (λ l. or (best c (map (λ o. o.price) l)) (or (best (opposite c) (tagged reach xs)) last)) (none_those (λ o. reach o && covers o) xs (All-weaker (λ x. reach x ≡ false) (λ x. (reach x && covers x) ≡ false) (λ x e. and_left (reach x) (covers x) e) xs a))
    ∙ ap (λ l. or (best (opposite c) (map (λ o. o.price) l)) last) (none_those reach xs a)

module _ (c : Side) (reach covers : Order → Bool) (last : Option ℕ) (x : Order) (xs : List Order) (s : Sorted (before c) (x ∷ xs)) where
  pub sweep_past : reach x ≡ false → sweep c reach covers last (x ∷ xs) ≡ sweep c reach covers last xs
  sweep_past e = ap (λ b. or (best c (map (λ o. o.price) (kept (b && covers x) x (those (λ o. reach o && covers o) xs)))) (or (best (opposite c) (map (λ o. o.price) (kept b x (those reach xs)))) last)) e

  pub sweep_here : reach x ≡ true → covers x ≡ true → sweep c reach covers last (x ∷ xs) ≡ Some x.price
  sweep_here e f =
      ap (λ b. or (best c (map (λ o. o.price) (kept (b && covers x) x (those (λ o. reach o && covers o) xs)))) (or (best (opposite c) (tagged reach (x ∷ xs))) last)) e
      ∙ ap (λ b. or (best c (map (λ o. o.price) (kept b x (those (λ o. reach o && covers o) xs)))) (or (best (opposite c) (tagged reach (x ∷ xs))) last)) f
      ∙ ap (λ r. or r (or (best (opposite c) (tagged reach (x ∷ xs))) last)) (near c (λ o. reach o && covers o) x xs s.0)

  pub sweep_on : reach x ≡ true → covers x ≡ false → sweep c reach covers last (x ∷ xs) ≡ sweep c reach covers (Some x.price) xs
  sweep_on e f =
      ap (λ b. or (best c (map (λ o. o.price) (kept (b && covers x) x (those (λ o. reach o && covers o) xs)))) (or (best (opposite c) (map (λ o. o.price) (kept b x (those reach xs)))) last)) e
      ∙ ap (λ b. or (best c (map (λ o. o.price) (kept b x (those (λ o. reach o && covers o) xs)))) (or (pick (opposite c) x.price (best (opposite c) (tagged reach xs))) last)) f
      ∙ ap (λ r. or (best c (tagged (λ o. reach o && covers o) xs)) (or r last)) (far c reach x xs s.0)
      ∙ ap (or (best c (tagged (λ o. reach o && covers o) xs))) (or_or (best (opposite c) (tagged reach xs)) (Some x.price) last)

-- what is kept of prices
kept_prices : (u : Order → Bool) (t : ℕ → Bool) (xs : List Order) → those t (tagged u xs) ≡ tagged (λ o. u o && t o.price) xs
kept_prices u t [] = refl
kept_prices u t (x ∷ xs) = go (u x) (kept_prices u t xs)
  where
    go : (b : Bool) → those t (tagged u xs) ≡ tagged (λ o. u o && t o.price) xs
        → those t (map (λ o. o.price) (kept b x (those u xs))) ≡ map (λ o. o.price) (kept (b && t x.price) x (those (λ o. u o && t o.price) xs))
    go true ih = inner (t x.price) ih
      where
        inner : (d : Bool) → those t (tagged u xs) ≡ tagged (λ o. u o && t o.price) xs
            → kept d x.price (those t (tagged u xs)) ≡ map (λ o. o.price) (kept d x (those (λ o. u o && t o.price) xs))
        inner true ih = ap (λ l. x.price ∷ l) ih
        inner false ih = ih
    go false ih = ih

same_tagged : (u v : Order → Bool) → ((o : Order) → u o ≡ v o) → (xs : List Order) → tagged u xs ≡ tagged v xs
same_tagged u v e [] = refl
same_tagged u v e (x ∷ xs) =
    ap (λ b. map (λ o. o.price) (kept b x (those u xs))) (e x) ∙ go (v x) (same_tagged u v e xs)
  where
    go : (b : Bool) → tagged u xs ≡ tagged v xs → map (λ o. o.price) (kept b x (those u xs)) ≡ map (λ o. o.price) (kept b x (those v xs))
    go true ih = ap (λ l. x.price ∷ l) ih
    go false ih = ih

or_none : (a : Option ℕ) → or a None ≡ a
or_none None = refl
or_none (Some x) = refl

clean_up_lem : (c : Side) (q : ℕ) (t : ℕ → Bool) (os : List Order)
    → sweep c (λ o. t o.price) (λ o. leb q (depth c o.price os)) None (book c os)
    ≡ or (best c (those (λ p. leb q (depth c p os)) (tagged (λ o. rests_on c o && t o.price) os))) (best (opposite c) (tagged (λ o. rests_on c o && t o.price) os))
clean_up_lem c q t os =
    let reach : Order → Bool = λ o. t o.price in
    let covers : Order → Bool = λ o. leb q (depth c o.price os) in
    ap (λ r. or (best c (tagged (λ o. reach o && covers o) (book c os))) r) (or_none (best (opposite c) (tagged reach (book c os))) ∙ sym (best_tagged (opposite c) c reach os))
    ∙ ap (λ r. or r (best (opposite c) (tagged (λ o. rests_on c o && reach o) os)))
    (sym (best_tagged c c (λ o. reach o && covers o) os) ∙ ap (best c) (sym (same_tagged (λ o. (rests_on c o && reach o) && covers o) (λ o. rests_on c o && (reach o && covers o)) (λ o. and_assoc (rests_on c o) (reach o) (covers o)) os)
    ∙ sym (kept_prices (λ o. rests_on c o && reach o) (λ p. leb q (depth c p os)) os)))

pub clean_up_is : (c : Side) (q : ℕ) (r : Order) (g : Option Range) (os : List Order) → c ≡ opposite r.side
    → sweep c (λ o. reaches r g o.price) (λ o. leb q (depth c o.price os)) None (book c os) ≡ clean_up_to q r g os
unfolding prices
clean_up_is c q r g os e =
    ap (λ s. sweep s (λ o. reaches r g o.price) (λ o. leb q (depth s o.price os)) None (book s os)) e
    ∙ clean_up_lem (opposite r.side) q (reaches r g) os
    ∙ ap (λ l. or (best (opposite r.side) (those (λ p. leb q (depth (opposite r.side) p os)) l)) (best (opposite (opposite r.side)) l))
    (sym (same_tagged (is_reached r g) (λ o. rests_on (opposite r.side) o && reaches r g o.price) (λ o. and_assoc (rests_on (opposite r.side) o) (in_limit r o.price) (in_range g o.price)) os))
