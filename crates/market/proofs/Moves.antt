-- What a turn of a part of a slice leaves. Assumes nothing.
use Rattle.std.proofs.Common.{◌≡◌, ℕ, suc, ◌+◌, ◌-◌, ◌<◌, ◌≤◌, List, [], ◌∷◌, ◌++◌, length, get_or, take, drop, set, sym, refl, ap, ◌∙◌, subst, append_assoc, arith, drop-cons}
use borrow.Rule.Slice.PartMut.{put_mid}
use Rattle.std.specs.List.{between, insert, remove}
use Rattle.std.proofs.lemmas.List.{take_more_set, take-set-le, drop-set-lt, drop-drop, drop_at, take_at, drop-append-le, take-take, length-take-le, length_push, get_or-take}
use Rattle.std.proofs.lemmas.Slice.{between_is}

module _ {X : Type 0} (items : List X) (len at : ℕ) where
  -- the part from `at`, once x is written behind the file
  written : (x : X) → at ≤ len → len < length items → between at (len + 1) (set items len x) ≡ drop at (take len items) ++ x ∷ []
  written x h lt =
      let long = length-take-le len items (omega arith) in
      between_is (set items len x) at (len + 1) ∙ ap (drop at) (take_more_set items len x lt) ∙ drop-append-le at (take len items) (x ∷ []) (omega arith)

  pub turned_in : (x : X) (part : List X) → at ≤ len → len < length items → part ≡ drop (length (between at (len + 1) (set items len x)) - 1) (between at (len + 1) (set items len x)) ++ take (length (between at (len + 1) (set items len x)) - 1) (between at (len + 1) (set items len x)) → put_mid at (len + 1 - at) (set items len x) part ≡ insert (take len items) at x ++ drop (len + 1) items
  turned_in x part h lt e =
      let B : List X = drop at (take len items) in
      let n : length (B ++ x ∷ []) - 1 ≡ length B = omega (arith, length_push B x) in
      let e' : part ≡ drop (length (B ++ x ∷ []) - 1) (B ++ x ∷ []) ++ take (length (B ++ x ∷ []) - 1) (B ++ x ∷ []) = subst (λ l. part ≡ drop (length l - 1) l ++ take (length l - 1) l) (written x h lt) e in
      let front : part ≡ x ∷ B = e' ∙ ap (λ m. drop m (B ++ x ∷ []) ++ take m (B ++ x ∷ [])) n ∙ ap (λ l. l ++ take (length B) (B ++ x ∷ [])) (drop_at B (x ∷ []) (length B) refl) ∙ ap (λ l. x ∷ l) (take_at B (x ∷ []) (length B) refl) in
      let back : drop (len + 1 - at) (drop at (set items len x)) ≡ drop (len + 1) items = drop-drop (len + 1 - at) at (set items len x) ∙ (let s : at + (len + 1 - at) ≡ len + 1 = omega arith in ap (λ m. drop m (set items len x)) s) ∙ drop-set-lt (len + 1) items len x (omega arith) in
      ap (λ l. l ++ (part ++ drop (len + 1 - at) (drop at (set items len x)))) (take-set-le at items len x h ∙ sym (take-take at len items h)) ∙ ap (λ l. take at (take len items) ++ (part ++ l)) back ∙ ap (λ l. take at (take len items) ++ (l ++ drop (len + 1) items)) front ∙ sym (append_assoc (take at (take len items)) (x ∷ B) (drop (len + 1) items))

  -- the part from `at`, turned by one to the left
  pub turned_out : (x : X) (part : List X) → at < len → len ≤ length items → x ≡ get_or items at x → part ≡ drop 1 (between at len items) ++ take 1 (between at len items) → put_mid at (len - at) items part ≡ remove (take len items) at ++ (x ∷ drop len items)
  turned_out x part h le is e =
      let long = length-take-le len items le in
      let first : get_or (take len items) at x ≡ x = get_or-take len items at x h ∙ sym is in
      let cut : between at len items ≡ x ∷ drop (suc at) (take len items) = between_is items at len ∙ drop-cons (take len items) at x (omega arith) ∙ ap (λ y. y ∷ drop (suc at) (take len items)) first in
      let front : part ≡ drop (suc at) (take len items) ++ x ∷ [] = subst (λ l. part ≡ drop 1 l ++ take 1 l) cut e in
      let back : drop (len - at) (drop at items) ≡ drop len items = drop-drop (len - at) at items ∙ (let s : at + (len - at) ≡ len = omega arith in ap (λ m. drop m items) s) in
      let F : List X = take at (take len items) in
      let B : List X = drop (suc at) (take len items) in
      ap (λ l. l ++ (part ++ drop (len - at) (drop at items))) (sym (take-take at len items (omega arith)))
      ∙ ap (λ l. F ++ (part ++ l)) back
      ∙ ap (λ l. F ++ (l ++ drop len items)) front
      ∙ ap (λ l. F ++ l) (append_assoc B (x ∷ []) (drop len items))
      ∙ sym (append_assoc F B (x ∷ drop len items))
