-- Where a text is cut, in the library's words. Assumes nothing.
use Rattle.std.proofs.Common.{◌≡◌, ℕ, ◌+◌, ◌-◌, ◌<◌, true, false, cond, not, eqb, List, [], ◌∷◌, length, take, drop, Some, None, sym, refl, ap, ◌∙◌, add-one, add_comm, arith}
use Rattle.std.specs.List.{count_by, position, position_or_len}
use Rattle.std.proofs.lemmas.Bool.Decides.{nat_tests}
use Rattle.std.proofs.lemmas.List.{take_rest, take_all, drop_all, length-drop}
use Rattle.std.proofs.lemmas.List.Sums.{prefix_len-le-length}
use Rattle.std.proofs.lemmas.List.Recursion.{is_count_by}
use Rattle.text.specs.Cuts.{up_to, past, marks}

module _ (m : ℕ) where
  -- where the first mark stands, or the end
  abbrev pub place : List ℕ → ℕ
  place xs = position_or_len (λ c. eqb c m) xs

  pub marks_is : (xs : List ℕ) → count_by (λ c. eqb c m) xs ≡ marks m xs
  marks_is xs = sym (is_count_by (marks m) (λ c. eqb c m) refl (λ c cs. refl) xs)

  pub up_to_is : (xs : List ℕ) → take (place xs) xs ≡ up_to m xs
  up_to_is [] = refl
  up_to_is (c ∷ cs) = elim (eqb c m) as (λ b. take (cond (not b) (1 + place cs) 0) (c ∷ cs) ≡ cond b [] (c ∷ up_to m cs)) [ true ↦ refl | false ↦ rw (add_comm 1 (place cs), add-one) (ap (λ l. c ∷ l) (up_to_is cs)) ]

  pub past_is : (xs : List ℕ) → drop (place xs + 1) xs ≡ past m xs
  past_is [] = refl
  past_is (c ∷ cs) = elim (eqb c m) as (λ b. drop (cond (not b) (1 + place cs) 0 + 1) (c ∷ cs) ≡ cond b cs (past m cs)) [ true ↦ refl | false ↦ rw (add-one, add_comm 1 (place cs)) (past_is cs) ]

  -- what is behind a mark is less than all
  pub past_less : (xs : List ℕ) → 0 < length xs → length (past m xs) < length xs
  past_less xs h = rw (← past_is xs) (simp length-drop (omega arith))

  module _ (xs : List ℕ) where
    place_found : (n : ℕ) → Some n ≡ position (λ c. eqb c m) xs → n ≡ place xs
    place_found n e = grind (arith, nat_tests)

    place_none : None ≡ position (λ c. eqb c m) xs → place xs ≡ length xs
    place_none e = grind (arith, nat_tests, prefix_len-le-length (λ c. not (eqb c m)) xs)

    pub found_front : (n : ℕ) → Some n ≡ position (λ c. eqb c m) xs → take n xs ≡ up_to m xs
    found_front n e = ap (λ k. take k xs) (place_found n e) ∙ up_to_is xs

    pub found_past : (n : ℕ) → Some n ≡ position (λ c. eqb c m) xs → take (length xs - (n + 1)) (drop (n + 1) xs) ≡ past m xs
    found_past n e = take_rest xs (n + 1) ∙ ap (λ k. drop (k + 1) xs) (place_found n e) ∙ past_is xs

    pub whole_front : None ≡ position (λ c. eqb c m) xs → xs ≡ up_to m xs
    whole_front e = let n = place_none e in sym (take_all (place xs) xs (omega arith)) ∙ up_to_is xs

    pub end_past : None ≡ position (λ c. eqb c m) xs → take (length xs - length xs) (drop (length xs) xs) ≡ past m xs
    end_past e = let n = place_none e in take_rest xs (length xs) ∙ drop_all (length xs) xs (omega arith) ∙ sym (drop_all (place xs + 1) xs (omega arith)) ∙ past_is xs
