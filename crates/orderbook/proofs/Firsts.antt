-- Questions that the first order of a side decides.
use Rattle.std.proofs.Common.{◌≡◌, ℕ, Bool, true, false, cond, ◌&&◌, ◌||◌, List, [], ◌∷◌, Some, None, Option, sym, refl, ap, ◌∙◌}
use Rattle.std.specs.List.{AllByRecursion}
use Rattle.std.proofs.ByRecursion.{All-weaker}
use Rattle.market.specs.declared.words.Side.{Side}
use Rattle.market.specs.declared.words.Kind.{Kind}
use Rattle.market.specs.declared.words.Kind.TheVariants.{Limit, Market, ImmediateOrCancel, Stop}
use Rattle.market.specs.declared.words.Order.{Order}
use Rattle.market.specs.Files.{filed}
use Rattle.market.specs.Sides.{opposite, better}
use Rattle.market.specs.Orders.{rests_on, within_limit, in_limit}
use Rattle.replay.specs.Lists.{any}
use Rattle.replay.specs.Book.{best, prices, is_contra}
use Rattle.replay.specs.Calls.{resting_at}
use Rattle.orderbook.specs.Sorted.{key_of, before, rested, book, first_of, price_in, Sound}
use Rattle.orderbook.proofs.Sorting.{Sorted, sorted_book, best_book, first_price_lem, worse_stays, not_better_stays}

-- the best price
pub price_first : (c d : Side) (os : List Order) (r : Option Order) → c ≡ d → r ≡ first_of (book d os) → price_in r ≡ best c (prices (rests_on c) os)
price_first c d os r e f = ap price_in f ∙ first_price_lem (book d os) ∙ sym (best_book d os) ∙ ap (λ x. best x (prices (rests_on x) os)) (sym e)

-- whether any passes a test ---------------------------------------------------------------------------------------------
or_swap : (a b c : Bool) → (a || (b || c)) ≡ (b || (a || c))
or_swap true true c = refl
or_swap true false c = refl
or_swap false true c = refl
or_swap false false c = refl

any_filed : {X : Type 0} (lt : X → X → Bool) (t : X → Bool) (x : X) (xs : List X) → any t (filed lt x xs) ≡ (t x || any t xs)
any_filed lt t x [] = refl
any_filed lt t x (y ∷ ys) = go (lt x y) (any_filed lt t x ys)
  where
    go : (b : Bool) → any t (filed lt x ys) ≡ (t x || any t ys) → any t (cond b (x ∷ y ∷ ys) (y ∷ filed lt x ys)) ≡ (t x || (t y || any t ys))
    go true ih = refl
    go false ih = ap (λ b. t y || b) ih ∙ or_swap (t y) (t x) (any t ys)

any_book : (c : Side) (t : Order → Bool) (os : List Order) → any (λ o. rests_on c o && t o) os ≡ any t (book c os)
unfolding book
any_book c t [] = refl
any_book c t (o ∷ os) = go (rests_on c o) (any_book c t os)
  where
    go : (b : Bool) → any (λ o. rests_on c o && t o) os ≡ any t (book c os) → ((b && t o) || any (λ o. rests_on c o && t o) os) ≡ any t (rested c b o (book c os))
    go true ih = ap (λ b. t o || b) ih ∙ sym (any_filed (before c) t o (book c os))
    go false ih = ih

any_none : {X : Type 0} (t : X → Bool) (xs : List X) → AllByRecursion (λ x. t x ≡ false) xs → any t xs ≡ false
any_none t [] a = refl
any_none t (x ∷ xs) a = ap (λ b. b || any t xs) a.0 ∙ any_none t xs a.1

-- what the first says
abbrev pub first_is : (ℕ → Bool) → Option Order → Bool
first_is t None = false
first_is t (Some o) = t o.price

any_first : (c : Side) (t : ℕ → Bool) → ((a b : Order) → before c a b ≡ true → t a.price ≡ false → t b.price ≡ false) → (xs : List Order) → Sorted (before c) xs
    → any (λ o. t o.price) xs ≡ first_is t (first_of xs)
any_first c t k [] s = refl
any_first c t k (x ∷ xs) s = go (t x.price) refl
  where
    go : (b : Bool) → t x.price ≡ b → (b || any (λ o. t o.price) xs) ≡ b
    go true e = refl
    go false e = any_none (λ o. t o.price) xs (All-weaker (λ y. before c x y ≡ true) (λ y. t y.price ≡ false) (λ y h. k x y h e) xs s.0)

-- a test that fails behind an order that fails it
rests_first : (c : Side) (t : ℕ → Bool) → ((a b : Order) → before c a b ≡ true → t a.price ≡ false → t b.price ≡ false) → {os : List Order} → Sound os
    → first_is t (first_of (book c os)) ≡ any (λ o. rests_on c o && t o.price) os
rests_first c t k {os} s = sym (any_first c t k (book c os) (sorted_book c 1 os s.numbered)) ∙ sym (any_book c (λ o. t o.price) os)

pub behind_first : (c : Side) (p : ℕ) {os : List Order} → Sound os → (r : Option Order) → r ≡ first_of (book c os) → first_is (λ b. better c b p) r ≡ resting_at (λ b. better c b p) c os
behind_first c p s r e = ap (first_is (λ b. better c b p)) e ∙ rests_first c (λ b. better c b p) (λ a b h f. not_better_stays c (key_of a) (key_of b) p h f) s

limit_stays : (r a b : Order) → before (opposite r.side) a b ≡ true → in_limit r a.price ≡ false → in_limit r b.price ≡ false
limit_stays r a b h e = go r.kind e
  where
    go : (k : Kind) → within_limit k r.side r.price a.price ≡ false → within_limit k r.side r.price b.price ≡ false
    go Limit e = worse_stays (opposite r.side) (key_of a) (key_of b) r.price h e
    go Market e = e
    go ImmediateOrCancel e = worse_stays (opposite r.side) (key_of a) (key_of b) r.price h e
    go Stop e = e

pub meets_first : (r : Order) {os : List Order} → Sound os → (c : Side) (x : Option Order) → c ≡ opposite r.side → x ≡ first_of (book c os) → first_is (in_limit r) x ≡ any (is_contra r) os
meets_first r {os} s c x e f = ap (first_is (in_limit r)) (f ∙ ap (λ d. first_of (book d os)) e) ∙ rests_first (opposite r.side) (in_limit r) (limit_stays r) s
