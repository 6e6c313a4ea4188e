-- What filing a record does. Assumes nothing.
use Rattle.std.proofs.Common.{◌≡◌, ℕ, zero, suc, ◌+◌, ◌-◌, ◌<◌, ◌≤◌, Bool, true, false, cond, not, List, [], ◌∷◌, ◌++◌, length, get_or, take, drop, sym, refl, ap, ◌∙◌, subst, ⊎_elim, one-add, arith}
use Rattle.std.specs.List.Sorted.{IsPermutation}
use Rattle.std.specs.List.{insert, remove, AllByRecursion}
use Rattle.std.proofs.lemmas.List.Edits.{length-insert, length-remove}
use Rattle.std.proofs.lemmas.List.{take_at, get_or-take, length-take-le}
use Rattle.std.proofs.ByRecursion.{All-weaker, All-append, All-take, All-drop}
use Rattle.std.proofs.lemmas.List.Sorted.{IsPermutation-refl, IsPermutation-cons, IsPermutation-trans, IsPermutation-swap}
use Rattle.std.proofs.lemmas.List.Sums.{prefix_len-le-length}
use Rattle.std.proofs.lemmas.Bool.{cases_Bool, both_ways}
use Rattle.market.specs.Files.{Strict, filed, ahead, InOrder, Filing, Removal}

module _ {X : Type 0} (before : X → X → Bool) where
  pub ahead_within : (x : X) (xs : List X) → ahead before x xs ≤ length xs
  ahead_within x xs = prefix_len-le-length (λ z. not (before x z)) xs

  -- filing is insertion at that place
  pub filed_is : (x : X) (xs : List X) → filed before x xs ≡ insert xs (ahead before x xs) x
  filed_is x [] = refl
  filed_is x (y ∷ ys) =
      elim (before x y) as (λ b. cond b (x ∷ y ∷ ys) (y ∷ filed before x ys) ≡ insert (y ∷ ys) (cond (not b) (1 + ahead before x ys) 0) x)
      [ true ↦ refl | false ↦ rw one-add (ap (λ l. y ∷ l) (filed_is x ys)) ]

  -- a permutation, whatever the order
  pub filed_same : (x : X) (xs : List X) → IsPermutation (x ∷ xs) (filed before x xs)
  filed_same x [] = IsPermutation-refl (x ∷ [])
  filed_same x (y ∷ ys) =
      elim (before x y) as (λ b. IsPermutation (x ∷ y ∷ ys) (cond b (x ∷ y ∷ ys) (y ∷ filed before x ys))) [
        | true ↦ IsPermutation-refl (x ∷ y ∷ ys)
        | false ↦ IsPermutation-trans _ _ _ (IsPermutation-swap (x ∷ y ∷ ys) (y ∷ x ∷ ys) 0 1 (omega arith) (omega arith) refl) (IsPermutation-cons y _ _ (filed_same x ys))
      ]

  -- what holds of x and of each record holds of each record once x is filed
  all_filed : (P : X → Type 0) (x : X) (xs : List X) → P x → AllByRecursion P xs → AllByRecursion P (filed before x xs)
  all_filed P x [] h a = (h, tt)
  all_filed P x (y ∷ ys) h a =
      elim (before x y) as (λ b. AllByRecursion P (cond b (x ∷ y ∷ ys) (y ∷ filed before x ys)))
      [ true ↦ (h, a) | false ↦ (a.0, all_filed P x ys h a.1) ]

  -- at that place, however it was found
  pub inserted : (x : X) (xs ys : List X) (at : ℕ) → ys ≡ insert xs at x → at ≡ ahead before x xs → ys ≡ filed before x xs
  inserted x xs ys at e place = e ∙ ap (λ n. insert xs n x) place ∙ sym (filed_is x xs)

  pub length_filed : (x : X) (xs : List X) → length (filed before x xs) ≡ length xs + 1
  length_filed x xs = ap length (filed_is x xs) ∙ length-insert xs (ahead before x xs) x (ahead_within x xs)

  -- the file, with one record more, is the front of what `insert_in_order` leaves
  pub front_filed : (x : X) (items after : List X) (len : ℕ) → len < length items → after ≡ filed before x (take len items) ++ drop (len + 1) items → take (len + 1) after ≡ filed before x (take len items)
  front_filed x items after len h e = ap (take (len + 1)) e ∙ take_at (filed before x (take len items)) (drop (len + 1) items) (len + 1) (length_filed x (take len items) ∙ ap (λ n. n + 1) (length-take-le len items (omega arith)))

  module _ (strict : Strict before) where
    -- what does not precede y does not precede x, which precedes y
    behind : (x y z : X) → before x y ≡ true → before z y ≡ false → before z x ≡ false
    behind x y z e no' = ⊎_elim (λ t. absurd (both_ways _ no' (strict.transitive z x y t e))) (λ f. f) (cases_Bool (before z x))

    pub filed_sorted : (x : X) (xs : List X) → InOrder before xs → InOrder before (filed before x xs)
    filed_sorted x [] h = (tt, tt)
    filed_sorted x (y ∷ ys) h =
        ⊎_elim
        (λ (e : before x y ≡ true). subst (λ b. InOrder before (cond b (x ∷ y ∷ ys) (y ∷ filed before x ys))) (sym e) ((strict.asymmetric x y e, All-weaker (λ z. before z y ≡ false) (λ z. before z x ≡ false) (λ z. behind x y z e) ys h.0), h))
        (λ (e : before x y ≡ false). subst (λ b. InOrder before (cond b (x ∷ y ∷ ys) (y ∷ filed before x ys))) (sym e) (all_filed (λ z. before z y ≡ false) x ys e h.0, filed_sorted x ys h.1))
        (cases_Bool (before x y))

    -- what filing owes of the file that it leaves
    pub in_file : (x : X) (xs ys : List X) → ys ≡ filed before x xs → Filing before x xs ys
    in_file x xs ys e = subst (Filing before x xs) (sym e) (record { ordered = filed_sorted x xs; whole = filed_same x xs })

    pub filing : (x : X) (items after : List X) (held : ℕ) → held < length items → after ≡ filed before x (take held items) ++ drop (held + 1) items → Filing before x (take held items) (take (held + 1) after)
    filing x items after held h e = in_file x (take held items) (take (held + 1) after) (front_filed x items after held h e)

-- what removal leaves
module _ {X : Type 0} where
  removed_ordered : (before : X → X → Bool) (xs : List X) (i : ℕ) → InOrder before xs → InOrder before (remove xs i)
  removed_ordered before [] zero h = tt
  removed_ordered before [] (suc i) h = tt
  removed_ordered before (x ∷ xs) zero h = h.1
  removed_ordered before (x ∷ xs) (suc i) h =
      (All-append (λ y. before y x ≡ false) (take i xs) (drop (suc i) xs) (All-take (λ y. before y x ≡ false) i xs h.0) (All-drop (λ y. before y x ≡ false) (suc i) xs h.0), removed_ordered before xs i h.1)

  removed_whole : (xs : List X) (i : ℕ) (x : X) → i < length xs → x ≡ get_or xs i x → IsPermutation xs (x ∷ remove xs i)
  removed_whole [] i x h e = absurd (omega arith)
  removed_whole (y ∷ ys) zero x h e = subst (λ z. IsPermutation (y ∷ ys) (z ∷ ys)) (sym e) (IsPermutation-refl (y ∷ ys))
  removed_whole (y ∷ ys) (suc i) x h e =
      IsPermutation-trans _ _ _ (IsPermutation-cons y _ _ (removed_whole ys i x (omega arith) e)) (IsPermutation-swap (y ∷ x ∷ remove ys i) (x ∷ y ∷ remove ys i) 0 1 (omega arith) (omega arith) refl)

  module _ (x : X) (items after : List X) (held at : ℕ) (there : at < held) (within : held ≤ length items) (e : after ≡ remove (take held items) at ++ (x ∷ drop held items)) where
    pub front_removed : take (held - 1) after ≡ remove (take held items) at
    front_removed =
        let n = length-take-le held items within in
        let long = length-remove (take held items) at (omega arith) in
        ap (take (held - 1)) e ∙ take_at (remove (take held items) at) (x ∷ drop held items) (held - 1) (omega arith)

    -- what `remove_at` owes of the file that it leaves
    pub removal : x ≡ get_or items at x → Removal x (take held items) (take (held - 1) after)
    removal is =
        let n = length-take-le held items within in
        let first : x ≡ get_or (take held items) at x = is ∙ sym (get_or-take held items at x there) in
        subst (Removal x (take held items)) (sym front_removed) (record { ordered = λ before. removed_ordered before (take held items) at; whole = removed_whole (take held items) at x (omega arith) first })
