-- Two numbers compared one after the other: a strict order if the first comparison is one.
use Rattle.std.specs.Prelude.{◌≡◌, ℕ, Bool, true, false, ◌&&◌, ◌==◌, nat_lt}
use Rattle.std.proofs.Common.{sym, ap, ◌∙◌, ⊎_elim, arith}
use Rattle.std.proofs.lemmas.Bool.{cases_Bool, both_ways, or_cases, or_from, or_left, or_right, and_parts, and_from, and_left, and_right, ltb-true, lt-ltb, le-ltb, eqb-true, eq-eqb, ne_eqb}
use Rattle.market.specs.Files.{Strict, by_turns}

pub lower_asymmetric : (p q : ℕ) → nat_lt p q ≡ true → nat_lt q p ≡ false
lower_asymmetric p q e = le-ltb q p (omega (arith, ltb-true p q e))

pub lower_transitive : (p q r : ℕ) → nat_lt p q ≡ true → nat_lt q r ≡ true → nat_lt p r ≡ true
lower_transitive p q r e f = lt-ltb p r (omega (arith, ltb-true p q e, ltb-true q r f))

module _ (first : ℕ → ℕ → Bool) (asym : (p q : ℕ) → first p q ≡ true → first q p ≡ false) where
  -- of two equal numbers neither comes first
  level : (p q : ℕ) → p ≡ q → first p q ≡ false
  level p q e =
      ⊎_elim
      (λ (t : first p q ≡ true). absurd (both_ways (first p p) (asym p p (ap (first p) e ∙ t)) (ap (first p) e ∙ t)))
      (λ (f : first p q ≡ false). f)
      (cases_Bool (first p q))

  by_turns_asymmetric : (p n q m : ℕ) → by_turns first p n q m ≡ true → by_turns first q m p n ≡ false
  by_turns_asymmetric p n q m e =
      ⊎_elim
      (λ (t : first p q ≡ true). or_from (first q p) (q == p && nat_lt m n) (asym p q t) (and_left (q == p) (nat_lt m n) (ne_eqb q p (λ s. both_ways (first p q) (level p q (sym s)) t))))
      (λ (t : (p == q && nat_lt n m) ≡ true).
      let both = and_parts (p == q) (nat_lt n m) t in
      or_from (first q p) (q == p && nat_lt m n) (level q p (sym (eqb-true p q both.0))) (and_right (q == p) (nat_lt m n) (lower_asymmetric n m both.1)))
      (or_cases (first p q) (p == q && nat_lt n m) e)

  module _ (trans : (p q r : ℕ) → first p q ≡ true → first q r ≡ true → first p r ≡ true) where
    by_turns_transitive : (p n q m r l : ℕ) → by_turns first p n q m ≡ true → by_turns first q m r l ≡ true → by_turns first p n r l ≡ true
    by_turns_transitive p n q m r l e f =
        ⊎_elim
        (λ (t : first p q ≡ true).
        ⊎_elim
        (λ (u : first q r ≡ true). or_left (first p r) (p == r && nat_lt n l) (trans p q r t u))
        (λ (u : (q == r && nat_lt m l) ≡ true). or_left (first p r) (p == r && nat_lt n l) (ap (first p) (sym (eqb-true q r (and_parts (q == r) (nat_lt m l) u).0)) ∙ t))
        (or_cases (first q r) (q == r && nat_lt m l) f))
        (λ (t : (p == q && nat_lt n m) ≡ true).
        let a = and_parts (p == q) (nat_lt n m) t in
        let same : p ≡ q = eqb-true p q a.0 in
        ⊎_elim
        (λ (u : first q r ≡ true). or_left (first p r) (p == r && nat_lt n l) (ap (λ z. first z r) same ∙ u))
        (λ (u : (q == r && nat_lt m l) ≡ true).
        let b = and_parts (q == r) (nat_lt m l) u in
        or_right (first p r) (p == r && nat_lt n l) (and_from (p == r) (nat_lt n l) (eq-eqb p r (same ∙ eqb-true q r b.0)) (lower_transitive n m l a.1 b.1)))
        (or_cases (first q r) (q == r && nat_lt m l) f))
        (or_cases (first p q) (p == q && nat_lt n m) e)

    -- records of which each has two such numbers
    pub by_turns_strict : {X : Type 0} (one two : X → ℕ) → Strict (λ x y. by_turns first (one x) (two x) (one y) (two y))
    by_turns_strict one two =
        record {
          asymmetric = λ x y. by_turns_asymmetric (one x) (two x) (one y) (two y);
          transitive = λ x y z. by_turns_transitive (one x) (two x) (one y) (two y) (one z) (two z);
        }
