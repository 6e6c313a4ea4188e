-- The first stop that passes a test, and what is left without it.
use Rattle.std.proofs.Common.{◌≡◌, ℕ, zero, suc, ◌+◌, ◌≤◌, Bool, true, false, cond, not, leb, ltb, is_some, get_or, Option, List, [], ◌∷◌, length, Some, None, filter, sym, refl, ap, ◌∙◌, one-add, arith}
use Rattle.std.specs.List.{list_all, position, prefix_len, remove, slice_get, AllByRecursion}
use Rattle.std.proofs.lemmas.Bool.{and_from, both_ways, lt-ltb, le-ltb, ltb-false, leb-true, leb-false}
use Rattle.std.proofs.lemmas.List.Folds.{list_all_at}
use Rattle.std.proofs.lemmas.List.Quantifiers.{position-Some}
use Rattle.market.specs.declared.words.Stop.{Stop}
use Rattle.stops.specs.Stops.{first_by, without_by, without_first}

-- where `position` finds none, none passes
module _ {X : Type 0} (t : X → Bool) where
  past_all : (xs : List X) → length xs ≤ prefix_len (λ x. not (t x)) xs → AllByRecursion (λ x. t x ≡ false) xs
  past_all [] h = tt
  past_all (x ∷ xs) h = go (t x) refl h (past_all xs)
    where
      go : (b : Bool) → t x ≡ b → suc (length xs) ≤ cond (not b) (1 + prefix_len (λ x. not (t x)) xs) 0 → (length xs ≤ prefix_len (λ x. not (t x)) xs → AllByRecursion (λ x. t x ≡ false) xs) → AllByRecursion (λ x. t x ≡ false) (x ∷ xs)
      go true e k ih = absurd (omega arith)
      go false e k ih = (e, ih (omega arith))

  pub unfound : (xs : List X) → None ≡ position t xs → AllByRecursion (λ x. t x ≡ false) xs
  unfound xs e = go (ltb (prefix_len (λ x. not (t x)) xs) (length xs)) refl e
    where
      go : (b : Bool) → ltb (prefix_len (λ x. not (t x)) xs) (length xs) ≡ b → None ≡ cond b (Some (prefix_len (λ x. not (t x)) xs)) None → AllByRecursion (λ x. t x ≡ false) xs
      go true h k = absurd (let z : ◌≡◌ {A = ℕ} 0 1 = cc in omega arith)
      go false h k = past_all xs (ltb-false (prefix_len (λ x. not (t x)) xs) (length xs) h)

-- a number is above all where none is at or above it
module _ {X : Type 0} (f : X → ℕ) (n : ℕ) where
  all_below : (xs : List X) → AllByRecursion (λ x. leb n (f x) ≡ false) xs → list_all (λ x. ltb (f x) n) xs ≡ true
  all_below [] h = refl
  all_below (x ∷ xs) h = and_from (ltb (f x) n) (list_all (λ x. ltb (f x) n) xs) (lt-ltb (f x) n (leb-false n (f x) h.0)) (all_below xs h.1)

  pub none_above : (xs : List X) (o : Option ℕ) (r : Bool) → o ≡ position (λ x. leb n (f x)) xs → is_some o ≡ not r → r ≡ list_all (λ x. ltb (f x) n) xs
  none_above xs None true e h = sym (all_below xs (unfound (λ x. leb n (f x)) xs e))
  none_above xs None false e h = absurd (both_ways false refl h)
  none_above [] (Some i) r e h = absurd (let z : ◌≡◌ {A = ℕ} 0 1 = cc in omega arith)
  none_above (x ∷ xs) (Some i) true e h = absurd (both_ways true h refl)
  none_above (x ∷ xs) (Some i) false e h =
      let at = position-Some (λ x. leb n (f x)) (x ∷ xs) i x (sym e) in
      sym (list_all_at (λ x. ltb (f x) n) (x ∷ xs) i x at.0 (le-ltb (f (get_or (x ∷ xs) i x)) n (leb-true n (f (get_or (x ∷ xs) i x)) at.1)))

module _ (t : Stop → Bool) where
  abbrev pub past : Stop → Bool
  past s = not (t s)

  -- by its place
  first_nth : (ss : List Stop) → slice_get ss (prefix_len past ss) ≡ first_by t ss
  first_nth [] = refl
  first_nth (x ∷ xs) = go (t x) (first_nth xs)
    where
      go : (b : Bool) → slice_get xs (prefix_len past xs) ≡ first_by t xs → slice_get (x ∷ xs) (cond (not b) (1 + prefix_len past xs) 0) ≡ cond b (Some x) (first_by t xs)
      go true ih = refl
      go false ih = rw one-add ih

  without_removed : (ss : List Stop) → remove ss (prefix_len past ss) ≡ without_by t ss
  without_removed [] = refl
  without_removed (x ∷ xs) = go (t x) (without_removed xs)
    where
      go : (b : Bool) → remove xs (prefix_len past xs) ≡ without_by t xs → remove (x ∷ xs) (cond (not b) (1 + prefix_len past xs) 0) ≡ cond b xs (x ∷ without_by t xs)
      go true ih = refl
      go false ih = rw one-add (ap (λ (l : List Stop). x ∷ l) ih)

  -- where `position` finds one, and where it finds none
  pub placed : (ss : List Stop) (i : ℕ) → Some i ≡ position t ss → (slice_get ss i ≡ first_by t ss) × (remove ss i ≡ without_by t ss)
  placed ss i e = go (ltb (prefix_len past ss) (length ss)) e
    where
      go : (b : Bool) → Some i ≡ cond b (Some (prefix_len past ss)) None → (slice_get ss i ≡ first_by t ss) × (remove ss i ≡ without_by t ss)
      go true k = let q : i ≡ prefix_len past ss = cc in (ap (slice_get ss) q ∙ first_nth ss, ap (remove ss) q ∙ without_removed ss)
      go false k = absurd (let z : ◌≡◌ {A = ℕ} 0 1 = cc in omega arith)

  pub none_first : (ss : List Stop) → AllByRecursion (λ u. t u ≡ false) ss → first_by t ss ≡ None
  none_first [] h = refl
  none_first (u ∷ us) h = ap (λ (b : Bool). cond b (Some u) (first_by t us)) h.0 ∙ none_first us h.1

  pub unplaced : (ss : List Stop) → None ≡ position t ss → first_by t ss ≡ None
  unplaced ss e = none_first ss (unfound t ss e)

  -- one more taken
  pub kept_more : (ss : List Stop) (s : Stop) → first_by t ss ≡ Some s → filter t ss ≡ s ∷ filter t (without_by t ss)
  kept_more [] s e = absurd (let z : ◌≡◌ {A = ℕ} 0 1 = cc in omega arith)
  kept_more (x ∷ xs) s e = go (t x) refl (kept_more xs s) e
    where
      go : (b : Bool) → t x ≡ b → (first_by t xs ≡ Some s → filter t xs ≡ s ∷ filter t (without_by t xs)) → cond b (Some x) (first_by t xs) ≡ Some s
          → cond b (x ∷ filter t xs) (filter t xs) ≡ s ∷ filter t (cond b xs (x ∷ without_by t xs))
      go true h ih k = let q : x ≡ s = cc in ap (λ (z : Stop). z ∷ filter t xs) q
      go false h ih k = ih k ∙ ap (λ (b : Bool). s ∷ cond b (x ∷ filter t (without_by t xs)) (filter t (without_by t xs))) (sym h)

  pub without_more : (k : ℕ) (ss : List Stop) → without_first (suc k) t ss ≡ without_first k t (without_by t ss)
  without_more zero [] = refl
  without_more (suc k) [] = refl
  without_more k (x ∷ xs) = go k (t x) refl (without_more k xs)
    where
      go : (m : ℕ) (b : Bool) → t x ≡ b → without_first (suc m) t xs ≡ without_first m t (without_by t xs) → cond b (without_first m t xs) (x ∷ without_first (suc m) t xs) ≡ without_first m t (cond b xs (x ∷ without_by t xs))
      go m true h ih = refl
      go zero false h ih = ap (λ (l : List Stop). x ∷ l) ih
      go (suc m) false h ih = ap (λ (l : List Stop). x ∷ l) ih ∙ ap (λ (b : Bool). cond b (without_first m t (without_by t xs)) (x ∷ without_first (suc m) t (without_by t xs))) (sym h)

  -- none passes
  pub record Untaken (ss : List Stop) : Type 0 where
    pub kept : filter t ss ≡ []
    pub same : without_by t ss ≡ ss
    pub whole : (k : ℕ) → without_first k t ss ≡ ss

  pub untaken : (ss : List Stop) → first_by t ss ≡ None → Untaken ss
  untaken [] e = record { kept = refl; same = refl; whole = none }
    where
      none : (k : ℕ) → without_first k t [] ≡ []
      none zero = refl
      none (suc k) = refl
  untaken (x ∷ xs) e = go (t x) refl (untaken xs) e
    where
      go : (b : Bool) → t x ≡ b → (first_by t xs ≡ None → Untaken xs) → cond b (Some x) (first_by t xs) ≡ None → Untaken (x ∷ xs)
      go true h ih k = absurd (let z : ◌≡◌ {A = ℕ} 0 1 = cc in omega arith)
      go false h ih k =
          let r = ih k in
          record { kept = ap (λ (b : Bool). cond b (x ∷ filter t xs) (filter t xs)) h ∙ r.kept; same = ap (λ (b : Bool). cond b xs (x ∷ without_by t xs)) h ∙ ap (λ (l : List Stop). x ∷ l) r.same; whole = each }
        where
          each : (k : ℕ) → without_first k t (x ∷ xs) ≡ x ∷ xs
          each zero = refl
          each (suc m) = ap (λ (b : Bool). cond b (without_first m t xs) (x ∷ without_first (suc m) t xs)) h ∙ ap (λ (l : List Stop). x ∷ l) ((ih k).whole (suc m))

  -- all that pass are gone once so many are
  pub all_gone : (ss : List Stop) (k : ℕ) → length (filter t ss) ≤ k → without_first k t ss ≡ filter past ss
  all_gone [] zero h = refl
  all_gone [] (suc k) h = refl
  all_gone (x ∷ xs) k h = go k (t x) refl (all_gone xs) h
    where
      go : (m : ℕ) (b : Bool) → t x ≡ b → ((j : ℕ) → length (filter t xs) ≤ j → without_first j t xs ≡ filter past xs) → length (cond b (x ∷ filter t xs) (filter t xs)) ≤ m → without_first m t (x ∷ xs) ≡ cond (not b) (x ∷ filter past xs) (filter past xs)
      go zero true e ih l = absurd (omega arith)
      go (suc m) true e ih l = ap (λ (b : Bool). cond b (without_first m t xs) (x ∷ without_first (suc m) t xs)) e ∙ ih m (omega arith)
      go zero false e ih l = ap (λ (z : List Stop). x ∷ z) (ih zero l)
      go (suc m) false e ih l = ap (λ (b : Bool). cond b (without_first m t xs) (x ∷ without_first (suc m) t xs)) e ∙ ap (λ (z : List Stop). x ∷ z) (ih (suc m) l)
