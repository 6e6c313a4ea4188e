-- Lists in order, and what passes a test at their front.
use Rattle.std.proofs.Common.{◌≡◌, ℕ, zero, suc, ◌+◌, Bool, true, false, cond, List, [], ◌∷◌, map, take, drop, filter, refl, sym, ap, ◌∙◌, arith}
use Rattle.std.specs.List.{AllByRecursion, prefix_len, sum_by}
use Rattle.std.proofs.ByRecursion.{All-weaker}
use Rattle.std.proofs.lemmas.List.Sums.{sum_by-cons}
use Rattle.replay.specs.Lists.{total, kept, those}
use Rattle.orderbook.proofs.Filed.{Sorted}

module _ {X : Type 0} where
  pub none_those : (t : X → Bool) (xs : List X) → AllByRecursion (λ x. t x ≡ false) xs → those t xs ≡ []
  none_those t [] a = refl
  none_those t (x ∷ xs) a = ap (λ b. kept b x (those t xs)) a.0 ∙ none_those t xs a.1

  -- in order, a test that fails behind what fails it passes at the front alone
  pub those_front : (lt : X → X → Bool) (w : X → Bool) → ((a b : X) → lt a b ≡ true → w a ≡ false → w b ≡ false) → (xs : List X) → Sorted lt xs → take (prefix_len w xs) xs ≡ those w xs
  those_front lt w stops [] s = refl
  those_front lt w stops (x ∷ xs) s = go (w x) refl (those_front lt w stops xs s.1)
    where
      go : (b : Bool) → w x ≡ b → take (prefix_len w xs) xs ≡ those w xs → take (cond b (1 + prefix_len w xs) 0) (x ∷ xs) ≡ kept b x (those w xs)
      go true e ih = let n : 1 + prefix_len w xs ≡ suc (prefix_len w xs) = omega arith in ap (λ m. take m (x ∷ xs)) n ∙ ap (λ l. x ∷ l) ih
      go false e ih = sym (none_those w xs (All-weaker (λ y. lt x y ≡ true) (λ y. w y ≡ false) (λ y h. stops x y h e) xs s.0))

  pub sorted_drop : (lt : X → X → Bool) (n : ℕ) (xs : List X) → Sorted lt xs → Sorted lt (drop n xs)
  sorted_drop lt zero xs s = s
  sorted_drop lt (suc n) [] s = tt
  sorted_drop lt (suc n) (x ∷ xs) s = sorted_drop lt n xs s.1

  -- a test that only what passes another passes
  pub filter_those : (w q : X → Bool) → ((x : X) → w x ≡ false → q x ≡ false) → (xs : List X) → filter q (those w xs) ≡ those q xs
  filter_those w q k [] = refl
  filter_those w q k (x ∷ xs) = go (w x) refl (filter_those w q k xs)
    where
      inner : (d : Bool) → filter q (those w xs) ≡ those q xs → cond d (x ∷ filter q (those w xs)) (filter q (those w xs)) ≡ kept d x (those q xs)
      inner true ih = ap (λ l. x ∷ l) ih
      inner false ih = ih

      go : (b : Bool) → w x ≡ b → filter q (those w xs) ≡ those q xs → filter q (kept b x (those w xs)) ≡ kept (q x) x (those q xs)
      go true e ih = inner (q x) ih
      go false e ih = ih ∙ ap (λ d. kept d x (those q xs)) (sym (k x e))

  pub total_sum_by : (f : X → ℕ) (xs : List X) → sum_by f xs ≡ total f xs
  total_sum_by f [] = refl
  total_sum_by f (x ∷ xs) = sum_by-cons f x xs ∙ ap (λ n. f x + n) (total_sum_by f xs)

module _ {X Y : Type 0} (f : X → Y) where
  pub prefix_len-map : (p : Y → Bool) (xs : List X) → prefix_len p (map f xs) ≡ prefix_len (λ x. p (f x)) xs
  prefix_len-map p [] = refl
  prefix_len-map p (x ∷ xs) = ap (λ n. cond (p (f x)) (1 + n) 0) (prefix_len-map p xs)

  pub filter-map : (p : Y → Bool) (xs : List X) → filter p (map f xs) ≡ map f (filter (λ x. p (f x)) xs)
  filter-map p [] = refl
  filter-map p (x ∷ xs) = go (p (f x)) (filter-map p xs)
    where
      go : (b : Bool) → filter p (map f xs) ≡ map f (filter (λ x. p (f x)) xs) → cond b (f x ∷ filter p (map f xs)) (filter p (map f xs)) ≡ map f (cond b (x ∷ filter (λ x. p (f x)) xs) (filter (λ x. p (f x)) xs))
      go true ih = ap (λ l. f x ∷ l) ih
      go false ih = ih
