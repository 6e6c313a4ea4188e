-- Laws of filing, over records of any kind.
use Rattle.std.proofs.Common.{◌≡◌, ℕ, suc, ◌+◌, Bool, true, false, cond, List, [], ◌∷◌, map, length, filter, sym, refl, ap, ◌∙◌, arith}
use Rattle.std.specs.List.{AllByRecursion}
use Rattle.std.proofs.ByRecursion.{All-weaker, all_kept_by}
use Rattle.std.proofs.lemmas.Bool.{both_ways}
use Rattle.market.specs.Files.{filed}
use Rattle.replay.specs.Lists.{total}

module _ {X : Type 0} (lt : X → X → Bool) where
  pub total_filed : (f : X → ℕ) (x : X) (xs : List X) → total f (filed lt x xs) ≡ f x + total f xs
  total_filed f x [] = refl
  total_filed f x (y ∷ ys) = go (lt x y) (total_filed f x ys)
    where
      go : (b : Bool) → total f (filed lt x ys) ≡ f x + total f ys → total f (cond b (x ∷ y ∷ ys) (y ∷ filed lt x ys)) ≡ f x + (f y + total f ys)
      go true ih = refl
      go false ih = omega arith

  pub all_filed : (P : X → Type 0) (x : X) (xs : List X) → P x → AllByRecursion P xs → AllByRecursion P (filed lt x xs)
  all_filed P x [] h a = (h, tt)
  all_filed P x (y ∷ ys) h a = go (lt x y) (all_filed P x ys h a.1)
    where
      go : (b : Bool) → AllByRecursion P (filed lt x ys) → AllByRecursion P (cond b (x ∷ y ∷ ys) (y ∷ filed lt x ys))
      go true ih = (h, a)
      go false ih = (a.0, ih)

  -- before all that it precedes
  pub filed_first : (x : X) (xs : List X) → AllByRecursion (λ y. lt x y ≡ true) xs → filed lt x xs ≡ x ∷ xs
  filed_first x [] a = refl
  filed_first x (y ∷ ys) a = ap (λ b. cond b (x ∷ y ∷ ys) (y ∷ filed lt x ys)) a.0

  -- strictly in order
  abbrev pub Sorted : List X → Type 0
  Sorted [] = Unit {0}
  Sorted (x ∷ xs) = AllByRecursion (λ y. lt x y ≡ true) xs × Sorted xs

  -- a filter that drops x
  pub kept_drop : (keep : X → Bool) (x : X) (xs : List X) → keep x ≡ false → filter keep (filed lt x xs) ≡ filter keep xs
  kept_drop keep x [] e = ap (λ b. cond b (x ∷ []) []) e
  kept_drop keep x (y ∷ ys) e = go (lt x y) (kept_drop keep x ys e)
    where
      go : (b : Bool) → filter keep (filed lt x ys) ≡ filter keep ys → filter keep (cond b (x ∷ y ∷ ys) (y ∷ filed lt x ys)) ≡ filter keep (y ∷ ys)
      go true ih = ap (λ b. cond b (x ∷ filter keep (y ∷ ys)) (filter keep (y ∷ ys))) e
      go false ih = ap (λ l. cond (keep y) (y ∷ l) l) ih

  module _ (trans : (x y z : X) → lt x y ≡ true → lt y z ≡ true → lt x z ≡ true) where
    -- a filter that keeps x
    pub kept_filed : (keep : X → Bool) (x : X) (xs : List X) → keep x ≡ true → Sorted xs → filter keep (filed lt x xs) ≡ filed lt x (filter keep xs)
    kept_filed keep x [] e s = ap (λ b. cond b (x ∷ []) []) e
    kept_filed keep x (y ∷ ys) e s = go (lt x y) refl (keep y) refl (kept_filed keep x ys e s.1)
      where
        go : (b : Bool) → lt x y ≡ b → (k : Bool) → keep y ≡ k → filter keep (filed lt x ys) ≡ filed lt x (filter keep ys)
            → filter keep (cond b (x ∷ y ∷ ys) (y ∷ filed lt x ys)) ≡ filed lt x (cond k (y ∷ filter keep ys) (filter keep ys))
        go true h k j ih =
            ap (λ b. cond b (x ∷ filter keep (y ∷ ys)) (filter keep (y ∷ ys))) e
            ∙ sym (filed_first x (filter keep (y ∷ ys)) (all_kept_by keep (λ z. lt x z ≡ true) (y ∷ ys) (h, All-weaker (λ z. lt y z ≡ true) (λ z. lt x z ≡ true) (λ z. trans x y z h) ys s.0)))
            ∙ ap (λ b. filed lt x (cond b (y ∷ filter keep ys) (filter keep ys))) j
        go false h true j ih =
            ap (λ b. cond b (y ∷ filter keep (filed lt x ys)) (filter keep (filed lt x ys))) j
            ∙ ap (λ l. y ∷ l) ih
            ∙ ap (λ b. cond b (x ∷ y ∷ filter keep ys) (y ∷ filed lt x (filter keep ys))) (sym h)
        go false h false j ih = ap (λ b. cond b (y ∷ filter keep (filed lt x ys)) (filter keep (filed lt x ys))) j ∙ ih

    -- two records that are not alike may be filed in either order
    pub filed_swap : (x y : X) (zs : List X) → lt x y ≡ true → lt y x ≡ false → filed lt x (filed lt y zs) ≡ filed lt y (filed lt x zs)
    filed_swap x y [] h k =
        ap (λ b. cond b (x ∷ y ∷ []) (y ∷ x ∷ [])) h ∙ ap (λ b. cond b (y ∷ x ∷ []) (x ∷ y ∷ [])) (sym k)
    filed_swap x y (z ∷ zs) h k = go (lt x z) refl (lt y z) refl (filed_swap x y zs h k)
      where
        go : (a : Bool) → lt x z ≡ a → (b : Bool) → lt y z ≡ b → filed lt x (filed lt y zs) ≡ filed lt y (filed lt x zs)
            → filed lt x (cond b (y ∷ z ∷ zs) (z ∷ filed lt y zs)) ≡ filed lt y (cond a (x ∷ z ∷ zs) (z ∷ filed lt x zs))
        go true i true j ih =
            ap (λ b. cond b (x ∷ y ∷ z ∷ zs) (y ∷ filed lt x (z ∷ zs))) h
            ∙ ap (λ b. x ∷ cond b (y ∷ z ∷ zs) (z ∷ filed lt y zs)) (sym j)
            ∙ ap (λ b. cond b (y ∷ x ∷ z ∷ zs) (x ∷ filed lt y (z ∷ zs))) (sym k)
        go true i false j ih =
            ap (λ b. cond b (x ∷ z ∷ filed lt y zs) (z ∷ filed lt x (filed lt y zs))) i
            ∙ ap (λ b. x ∷ cond b (y ∷ z ∷ zs) (z ∷ filed lt y zs)) (sym j)
            ∙ ap (λ b. cond b (y ∷ x ∷ z ∷ zs) (x ∷ filed lt y (z ∷ zs))) (sym k)
        go false i true j ih = absurd (both_ways (lt x z) i (trans x y z h j))
        go false i false j ih =
            ap (λ b. cond b (x ∷ z ∷ filed lt y zs) (z ∷ filed lt x (filed lt y zs))) i
            ∙ ap (λ l. z ∷ l) ih
            ∙ ap (λ b. cond b (y ∷ z ∷ filed lt x zs) (z ∷ filed lt y (filed lt x zs))) (sym j)

-- a map that keeps the order
pub map_filed : {X Y : Type 0} (lt : X → X → Bool) (lt' : Y → Y → Bool) (f : X → Y) → ((a b : X) → lt a b ≡ lt' (f a) (f b)) → (x : X) (xs : List X)
    → map f (filed lt x xs) ≡ filed lt' (f x) (map f xs)
map_filed lt lt' f k x [] = refl
map_filed lt lt' f k x (y ∷ ys) = go (lt x y) (k x y) (map_filed lt lt' f k x ys)
  where
    go : (b : Bool) → b ≡ lt' (f x) (f y) → map f (filed lt x ys) ≡ filed lt' (f x) (map f ys)
        → map f (cond b (x ∷ y ∷ ys) (y ∷ filed lt x ys)) ≡ cond (lt' (f x) (f y)) (f x ∷ f y ∷ map f ys) (f y ∷ filed lt' (f x) (map f ys))
    go true e ih = ap (λ b. cond b (f x ∷ f y ∷ map f ys) (f y ∷ filed lt' (f x) (map f ys))) e
    go false e ih = ap (λ l. f y ∷ l) ih ∙ ap (λ b. cond b (f x ∷ f y ∷ map f ys) (f y ∷ filed lt' (f x) (map f ys))) e

pub length_filed : {X : Type 0} (lt : X → X → Bool) (x : X) (xs : List X) → length (filed lt x xs) ≡ length xs + 1
length_filed lt x [] = refl
length_filed lt x (y ∷ ys) = go (lt x y) (length_filed lt x ys)
  where
    go : (b : Bool) → length (filed lt x ys) ≡ length ys + 1 → length (cond b (x ∷ y ∷ ys) (y ∷ filed lt x ys)) ≡ suc (length ys) + 1
    go true ih = omega arith
    go false ih = omega arith
