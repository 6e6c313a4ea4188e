-- The first price and the clean-up price are good prices to trade at.
use Rattle.std.proofs.Common.{◌≡◌, ℕ, ◌<◌, ◌≤◌, Bool, true, false, cond, ◌&&◌, ◌||◌, leb, ◌⊎◌, List, [], ◌∷◌, map, Some, None, Option, sym, refl, ◌∙◌, subst, inl, inr, ⊎_elim, arith}
use Rattle.std.proofs.lemmas.Bool.{false≢true, and_parts, and_from, ltb-true, ltb-false, leb-true, le-leb, le-ltb, cases_lt}
use Rattle.std.specs.List.{AllByRecursion}
use Rattle.market.specs.declared.words.Side.{Side}
use Rattle.market.specs.declared.words.Side.TheVariants.{Buy, Sell}
use Rattle.market.specs.declared.words.Kind.{Kind}
use Rattle.market.specs.declared.words.Kind.TheVariants.{Limit, Market, ImmediateOrCancel, Stop}
use Rattle.market.specs.declared.words.Order.{Order}
use Rattle.market.specs.declared.words.Range.{Range}
use Rattle.market.specs.Sides.{opposite, better, as_good}
use Rattle.market.specs.Orders.{rests_on, in_limit, within_limit}
use Rattle.market.specs.Ranges.{in_range}
use Rattle.replay.specs.Lists.{only, total, those, kept, any}
use Rattle.replay.specs.Book.{best, pick, is_better, is_up_to, ahead, depth, prices, is_contra, is_reached}
use Rattle.replay.specs.Runs.{or}
use Rattle.replay.proofs.Lists.{all_map}

-- some element of the list has Q
abbrev pub Among : {A : Type 0} → (A → Type 0) → List A → Type 0
Among Q [] = ⊥
Among Q (x ∷ xs) = Q x ⊎ Among Q xs

pub meet : {A : Type 0} (Q R : A → Type 0) (G : Type 0) (xs : List A) → ((x : A) → Q x → R x → G) → AllByRecursion Q xs → Among R xs → G
meet Q R G [] f a m = absurd m
meet Q R G (x ∷ xs) f a (inl r) = f x a.0 r
meet Q R G (x ∷ xs) f a (inr m) = meet Q R G xs f a.1 m

pub among_any : (t : Order → Bool) (os : List Order) → Among (λ o. t o ≡ true) os → any t os ≡ true
among_any t [] m = absurd m
among_any t (o ∷ os) (inl e) = rw e refl
among_any t (o ∷ os) (inr m) = go (t o) (among_any t os m)
  where
    go : (b : Bool) → any t os ≡ true → (b || any t os) ≡ true
    go true e = refl
    go false e = e

pub among_map : {A : Type 0} (Q R : A → Type 0) (xs : List A) → ((x : A) → Q x → R x) → Among Q xs → Among R xs
among_map Q R [] f m = m
among_map Q R (x ∷ xs) f (inl q) = inl (f x q)
among_map Q R (x ∷ xs) f (inr m) = inr (among_map Q R xs f m)

-- better is an order ---------------------------------------------------------------------------------------------------------
self : (s : Side) (x : ℕ) → better s x x ≡ false
self Buy x = le-ltb x x (omega arith)
self Sell x = le-ltb x x (omega arith)

turned : (s : Side) (x q : ℕ) → better s q x ≡ true → better s x q ≡ false
turned Buy x q e = le-ltb q x (omega (arith, ltb-true x q e))
turned Sell x q e = le-ltb x q (omega (arith, ltb-true q x e))

chain : (s : Side) (x q y : ℕ) → better s q x ≡ false → better s y q ≡ false → better s y x ≡ false
chain Buy x q y e f = le-ltb x y (omega (arith, ltb-false x q e, ltb-false q y f))
chain Sell x q y e f = le-ltb y x (omega (arith, ltb-false q x e, ltb-false y q f))

-- the best of a list -----------------------------------------------------------------------------------------------------------
Best : Side → List ℕ → Option ℕ → Type 0
Best s ps None = ps ≡ []
Best s ps (Some p) = AllByRecursion (λ q. better s q p ≡ false) ps × Among (λ q. q ≡ p) ps

best_is : (s : Side) (ps : List ℕ) → Best s ps (best s ps)
unfolding Best
best_is s [] = refl
best_is s (x ∷ xs) = go (best s xs) (best_is s xs)
  where
    choose : (b : Bool) (q : ℕ) → better s q x ≡ b → Best s xs (Some q) → Best s (x ∷ xs) (Some (cond b q x))
    choose true q e h = ((turned s x q e, h.0), inr h.1)
    choose false q e h = ((self s x, all_map _ _ xs (λ y f. chain s x q y e f) h.0), inl refl)

    go : (o : Option ℕ) → Best s xs o → Best s (x ∷ xs) (pick s x o)
    go None h = subst (λ ys. AllByRecursion (λ q. better s q x ≡ false) (x ∷ ys) × Among (λ q. q ≡ x) (x ∷ ys)) (sym h) ((self s x, tt), inl refl)
    go (Some q) h = choose (better s q x) q refl h

pub best_all : (s : Side) (ps : List ℕ) (p : ℕ) → best s ps ≡ Some p → AllByRecursion (λ q. better s q p ≡ false) ps
unfolding Best
best_all s ps p e = (subst (Best s ps) e (best_is s ps)).0

pub best_in : (s : Side) (ps : List ℕ) (p : ℕ) → best s ps ≡ Some p → Among (λ q. q ≡ p) ps
unfolding Best
best_in s ps p e = (subst (Best s ps) e (best_is s ps)).1

pub best_none : (s : Side) (ps : List ℕ) → best s ps ≡ None → ps ≡ []
unfolding Best
best_none s ps e = subst (Best s ps) e (best_is s ps)

-- the same of orders
pub of_prices : (t : Order → Bool) (Q : ℕ → Type 0) (os : List Order) → AllByRecursion Q (prices t os) → AllByRecursion (λ o. t o ≡ true → Q o.price) os
unfolding prices
of_prices t Q [] a = tt
of_prices t Q (o ∷ os) a = go (t o) a (of_prices t Q os)
  where
    go : (b : Bool) → AllByRecursion Q (map (λ o. o.price) (kept b o (those t os))) → (AllByRecursion Q (prices t os) → AllByRecursion (λ o. t o ≡ true → Q o.price) os)
        → (b ≡ true → Q o.price) × AllByRecursion (λ o. t o ≡ true → Q o.price) os
    go true a ih = (λ e. a.0, ih a.1)
    go false a ih = (λ e. absurd (false≢true e), ih a)

pub in_prices : (t : Order → Bool) (Q : ℕ → Type 0) (os : List Order) → Among Q (prices t os) → Among (λ o. (t o ≡ true) × Q o.price) os
unfolding prices
in_prices t Q [] m = m
in_prices t Q (o ∷ os) m = go (t o) m (in_prices t Q os)
  where
    go : (b : Bool) → Among Q (map (λ o. o.price) (kept b o (those t os))) → (Among Q (prices t os) → Among (λ o. (t o ≡ true) × Q o.price) os)
        → ((b ≡ true) × Q o.price) ⊎ Among (λ o. (t o ≡ true) × Q o.price) os
    go true (inl q) ih = inl (refl, q)
    go true (inr m) ih = inr (ih m)
    go false m ih = inr (ih m)

pub among_those : {A : Type 0} (t : A → Bool) (Q : A → Type 0) (xs : List A) → Among (λ x. (t x ≡ true) × Q x) xs → Among Q (those t xs)
among_those t Q [] m = m
among_those t Q (x ∷ xs) (inl h) = rw h.0 (inl h.1)
among_those t Q (x ∷ xs) (inr m) = go (t x) (among_those t Q xs m)
  where
    go : (b : Bool) → Among Q (those t xs) → Among Q (kept b x (those t xs))
    go true m = inr m
    go false m = m

pub among_kept : {A : Type 0} (t : A → Bool) (Q : A → Type 0) (xs : List A) → Among Q (those t xs) → Among Q xs
among_kept t Q [] m = m
among_kept t Q (x ∷ xs) m = go (t x) m (among_kept t Q xs)
  where
    go : (b : Bool) → Among Q (kept b x (those t xs)) → (Among Q (those t xs) → Among Q xs) → Q x ⊎ Among Q xs
    go true (inl q) ih = inl q
    go true (inr m) ih = inr (ih m)
    go false m ih = inr (ih m)

pub among_map' : {A B : Type 0} (f : A → B) (Q : B → Type 0) (xs : List A) → Among (λ x. Q (f x)) xs → Among Q (map f xs)
among_map' f Q [] m = m
among_map' f Q (x ∷ xs) (inl q) = inl q
among_map' f Q (x ∷ xs) (inr m) = inr (among_map' f Q xs m)

pub to_prices : (t : Order → Bool) (Q : ℕ → Type 0) (os : List Order) → Among (λ o. (t o ≡ true) × Q o.price) os → Among Q (prices t os)
unfolding prices
to_prices t Q os m = among_map' (λ o. o.price) Q (those t os) (among_those t (λ o. Q o.price) os m)

-- sums ------------------------------------------------------------------------------------------------------------------------
total_le : {A : Type 0} (f g : A → ℕ) (xs : List A) → AllByRecursion (λ x. f x ≤ g x) xs → total f xs ≤ total g xs
total_le f g [] a = omega arith
total_le f g (x ∷ xs) a = omega (arith, a.0, total_le f g xs a.1)

total_none : {A : Type 0} (f : A → ℕ) (xs : List A) → AllByRecursion (λ x. f x ≡ 0) xs → total f xs ≡ 0
total_none f [] a = refl
total_none f (x ∷ xs) a = omega (arith, a.0, total_none f xs a.1)

only_le : (a b : Bool) (n : ℕ) → (a ≡ true → b ≡ true) → only a n ≤ only b n
only_le true b n h = rw (h refl) (omega arith)
only_le false b n h = omega arith

-- nothing stands ahead of the best price
pub none_ahead : (c : Side) (p : ℕ) (os : List Order) → AllByRecursion (λ o. rests_on c o ≡ true → better c o.price p ≡ false) os → ahead c p os ≡ 0
unfolding ahead
none_ahead c p os a = total_none (λ o. only (is_better c p o) o.«open») os (all_map _ _ os (λ o h. go (rests_on c o) (better c o.price p) o.«open» h) a)
  where
    go : (r b : Bool) (n : ℕ) → (r ≡ true → b ≡ false) → only (r && b) n ≡ 0
    go true b n h = rw (h refl) refl
    go false b n h = refl

-- the clean-up price ------------------------------------------------------------------------------------------------------------
not_worse : (c : Side) (x w : ℕ) → better (opposite c) x w ≡ false → as_good c x w ≡ true
not_worse Buy x w e = le-leb w x (ltb-false x w e)
not_worse Sell x w e = le-leb x w (ltb-false w x e)

nearer : (c : Side) (w p l : ℕ) → better c w p ≡ true → as_good c p l ≡ true → as_good c w l ≡ true
nearer Buy w p l e f = le-leb l w (omega (arith, ltb-true p w e, leb-true l p f))
nearer Sell w p l e f = le-leb w l (omega (arith, ltb-true w p e, leb-true p l f))

limit_nearer : (r : Order) (w p : ℕ) → better (opposite r.side) w p ≡ true → in_limit r p ≡ true → in_limit r w ≡ true
limit_nearer r w p e = go r.kind
  where
    go : (k : Kind) → within_limit k r.side r.price p ≡ true → within_limit k r.side r.price w ≡ true
    go Limit f = nearer (opposite r.side) w p r.price e f
    go Market f = refl
    go ImmediateOrCancel f = nearer (opposite r.side) w p r.price e f
    go Stop f = refl

range_between : (c : Side) (g : Option Range) (f w p : ℕ) → better c w f ≡ false → better c w p ≡ true → in_range g f ≡ true → in_range g p ≡ true → in_range g w ≡ true
range_between c None f w p a b x y = refl
range_between Buy (Some g) f w p a b x y =
    let lo : ℕ = g.low in
    let hi : ℕ = g.high in
    and_from (leb lo w) (leb w hi) (le-leb lo w (omega (arith, ltb-true p w b, leb-true lo p (and_parts (leb lo p) (leb p hi) y).0)))
    (le-leb w hi (omega (arith, ltb-false f w a, leb-true f hi (and_parts (leb lo f) (leb f hi) x).1)))
range_between Sell (Some g) f w p a b x y =
    let lo : ℕ = g.low in
    let hi : ℕ = g.high in
    and_from (leb lo w) (leb w hi) (le-leb lo w (omega (arith, ltb-false w f a, leb-true lo f (and_parts (leb lo f) (leb f hi) x).0)))
    (le-leb w hi (omega (arith, ltb-true w p b, leb-true p hi (and_parts (leb lo p) (leb p hi) y).1)))

pub at_reach : (r : Order) (g : Option Range) (p : ℕ) (os : List Order) → Among (λ o. (is_reached r g o ≡ true) × (o.price ≡ p)) os → (in_limit r p ≡ true) × (in_range g p ≡ true)
at_reach r g p os m = meet (λ o. Unit {0}) (λ o. (is_reached r g o ≡ true) × (o.price ≡ p)) _ os
    (λ o _ h. let k : (is_contra r o ≡ true) × (in_range g o.price ≡ true) = and_parts (is_contra r o) (in_range g o.price) h.0 in
    (subst (λ x. in_limit r x ≡ true) h.1 (and_parts (rests_on (opposite r.side) o) (in_limit r o.price) k.0).1, subst (λ x. in_range g x ≡ true) h.1 k.1))
    (all_unit os) m
  where
    all_unit : (xs : List Order) → AllByRecursion (λ o. Unit {0}) xs
    all_unit [] = tt
    all_unit (x ∷ xs) = (tt, all_unit xs)

module _ (r : Order) (g : Option Range) (L f p : ℕ) (os : List Order) where
  abbrev c : Side
  c = opposite r.side

  abbrev reach : List ℕ
  reach = prices (is_reached r g) os

  abbrev covers : ℕ → Bool
  covers q = leb L (depth c q os)

  abbrev IsCleanUp : Type 0
  IsCleanUp = or (best c (those covers reach)) (best (opposite c) reach) ≡ Some p

  no_better : IsCleanUp → AllByRecursion (λ q. better c q p ≡ false) (those covers reach)
  no_better e = go (best c (those covers reach)) refl e
    where
      go : (x : Option ℕ) → best c (those covers reach) ≡ x → or x (best (opposite c) reach) ≡ Some p → AllByRecursion (λ q. better c q p ≡ false) (those covers reach)
      go None n e = subst (λ qs. AllByRecursion (λ q. better c q p ≡ false) qs) (sym (best_none c (those covers reach) n)) tt
      go (Some q) n e = best_all c (those covers reach) p (n ∙ e)

  pub in_reach : IsCleanUp → Among (λ o. (is_reached r g o ≡ true) × (o.price ≡ p)) os
  in_reach e = in_prices (is_reached r g) (λ q. q ≡ p) os (go (best c (those covers reach)) refl e)
    where
      go : (x : Option ℕ) → best c (those covers reach) ≡ x → or x (best (opposite c) reach) ≡ Some p → Among (λ q. q ≡ p) reach
      go None n e = best_in (opposite c) reach p e
      go (Some q) n e = among_kept covers (λ q. q ≡ p) reach (best_in c (those covers reach) p (n ∙ e))

  -- the orders priced better do not cover the residual
  pub clean_up_short : IsCleanUp → 0 < L → in_range g f ≡ true → AllByRecursion (λ o. rests_on c o ≡ true → better c o.price f ≡ false) os → ahead c p os < L
  unfolding ahead depth
  clean_up_short e pos fr fa = ⊎_elim (λ h. h) (λ h. absurd (no h)) (cases_lt (ahead c p os) L)
    where
      -- p is within limit and range
      at_p : (in_limit r p ≡ true) × (in_range g p ≡ true)
      at_p = at_reach r g p os (in_reach e)

      go : (x : Option ℕ) → best (opposite c) (prices (is_better c p) os) ≡ x → L ≤ ahead c p os → ⊥
      go None n h =
          let a : AllByRecursion (λ q. ⊥) (prices (is_better c p) os) = subst (λ qs. AllByRecursion (λ q. ⊥) qs) (sym (best_none (opposite c) (prices (is_better c p) os) n)) tt in
          let z : ahead c p os ≡ 0 = total_none (λ o. only (is_better c p o) o.«open») os
          (all_map _ _ os (λ o k. none (is_better c p o) o.«open» k) (of_prices (is_better c p) (λ q. ⊥) os a)) in
          omega arith
        where
          none : (b : Bool) (n : ℕ) → (b ≡ true → ⊥) → only b n ≡ 0
          none true n k = absurd (k refl)
          none false n k = refl
      go (Some w) n h =
          let a : AllByRecursion (λ o. is_better c p o ≡ true → better (opposite c) o.price w ≡ false) os
          = of_prices (is_better c p) (λ q. better (opposite c) q w ≡ false) os (best_all (opposite c) (prices (is_better c p) os) w n) in
          let m : Among (λ o. (is_better c p o ≡ true) × (o.price ≡ w)) os
          = in_prices (is_better c p) (λ q. q ≡ w) os (best_in (opposite c) (prices (is_better c p) os) w n) in
          let deep : ahead c p os ≤ depth c w os
          = total_le (λ o. only (is_better c p o) o.«open») (λ o. only (is_up_to c w o) o.«open») os
          (all_map _ _ os (λ o k. only_le (is_better c p o) (is_up_to c w o) o.«open» (λ b.
          let ps : (rests_on c o ≡ true) × (better c o.price p ≡ true) = and_parts (rests_on c o) (better c o.price p) b in
          and_from (rests_on c o) (as_good c o.price w) ps.0 (not_worse c o.price w (k b)))) a) in
          let cw : covers w ≡ true = le-leb L (depth c w os) (omega arith) in
          meet (λ o. rests_on c o ≡ true → better c o.price f ≡ false) (λ o. (is_better c p o ≡ true) × (o.price ≡ w)) ⊥ os
          (λ o k b.
          let ps : (rests_on c o ≡ true) × (better c o.price p ≡ true) = and_parts (rests_on c o) (better c o.price p) b.0 in
          let wp : better c w p ≡ true = subst (λ x. better c x p ≡ true) b.1 ps.1 in
          let wf : better c w f ≡ false = subst (λ x. better c x f ≡ false) b.1 (k ps.0) in
          reached w wp wf cw m) fa m
        where
          reached : (w : ℕ) → better c w p ≡ true → better c w f ≡ false → covers w ≡ true → Among (λ o. (is_better c p o ≡ true) × (o.price ≡ w)) os → ⊥
          reached w wp wf cw m =
              let il : in_limit r w ≡ true = limit_nearer r w p wp at_p.0 in
              let ir : in_range g w ≡ true = range_between c g f w p wf wp fr at_p.1 in
              let m₁ : Among (λ o. (is_reached r g o ≡ true) × ((covers o.price ≡ true) × (o.price ≡ w))) os
              = among_map _ _ os (λ o b.
              let rs : rests_on c o ≡ true = (and_parts (rests_on c o) (better c o.price p) b.0).0 in (
                and_from (is_contra r o) (in_range g o.price) (and_from (rests_on c o) (in_limit r o.price) rs (subst (λ x. in_limit r x ≡ true) (sym b.1) il))
                    (subst (λ x. in_range g x ≡ true) (sym b.1) ir),
                (subst (λ x. covers x ≡ true) (sym b.1) cw, b.1),
              )) m in
              let m₂ : Among (λ q. q ≡ w) (those covers reach)
              = among_those covers (λ q. q ≡ w) reach (to_prices (is_reached r g) (λ q. (covers q ≡ true) × (q ≡ w)) os m₁) in
              meet (λ q. better c q p ≡ false) (λ q. q ≡ w) ⊥ (those covers reach)
              (λ q b e. false≢true (sym (subst (λ x. better c x p ≡ false) e b) ∙ wp)) (no_better e) m₂

      no : L ≤ ahead c p os → ⊥
      no h = go (best (opposite c) (prices (is_better c p) os)) refl h
