-- The numbers in line, as a list.
use Rattle.std.proofs.Common.{◌≡◌, ℕ, zero, suc, ◌+◌, ◌<◌, Bool, true, false, not, eqb, List, [], ◌∷◌, ◌++◌, length, get_or, drop, Some, None, sym, refl, ap, ◌∙◌, subst, arith}
use Rattle.std.specs.List.{position, remove, AllByRecursion}
use Rattle.std.proofs.lemmas.Bool.{ne_eqb, eqb-true, eqb-false}
use Rattle.std.proofs.lemmas.List.Quantifiers.{position-Some}
use Rattle.stops.proofs.Firsts.{unfound}
use Rattle.replay.specs.Lists.{kept}
use Rattle.replay.specs.Moves.{without}
use Rattle.trading.specs.Waiting.{Once}

-- somebody leaves -------------------------------------------------------------------------------------------------------
pub without_none : (n : ℕ) (ms : List ℕ) → AllByRecursion (λ m. eqb m n ≡ false) ms → without n ms ≡ ms
without_none n [] a = refl
without_none n (m ∷ ms) a = ap (λ b. kept (not b) m (without n ms)) a.0 ∙ ap (λ l. m ∷ l) (without_none n ms a.1)

-- who is not in line
pub nobody_out : (n : ℕ) (ms : List ℕ) → None ≡ position (λ m. eqb m n) ms → ms ≡ without n ms
nobody_out n ms e = sym (without_none n ms (unfound (λ m. eqb m n) ms e))

removed : (n p : ℕ) (ms : List ℕ) → p < length ms → eqb (get_or ms p 0) n ≡ true → ((k : ℕ) → k < p → eqb (get_or ms k 0) n ≡ false) → Once ms → remove ms p ≡ without n ms
removed n p [] lt at before o = absurd (omega arith)
removed n zero (m ∷ ms) lt at before o =
    let is : m ≡ n = eqb-true m n at in
    sym (ap (λ b. kept (not b) m (without n ms)) at ∙ without_none n ms (subst (λ k. AllByRecursion (λ j. eqb j k ≡ false) ms) is o.0))
removed n (suc p) (m ∷ ms) lt at before o =
    ap (λ l. m ∷ l) (removed n p ms (omega arith) at (λ k h. before (suc k) (omega arith)) o.1)
    ∙ sym (ap (λ b. kept (not b) m (without n ms)) (before 0 (omega arith)))

-- who is, by the place
pub somebody_out : (n p : ℕ) (ms : List ℕ) → Some p ≡ position (λ m. eqb m n) ms → Once ms → remove ms p ≡ without n ms
somebody_out n p ms e o = let h = position-Some (λ m. eqb m n) ms p 0 (sym e) in removed n p ms h.0 h.1 h.2 o

pub drop_removed : (g p i : ℕ) (ms : List ℕ) → i ≡ g + p → drop g (remove ms i) ≡ remove (drop g ms) p
drop_removed zero p i ms e = let q : i ≡ p = omega arith in ap (remove ms) q
drop_removed (suc g) p zero ms e = absurd (omega arith)
drop_removed (suc g) zero (suc i) [] e = refl
drop_removed (suc g) (suc p) (suc i) [] e = refl
drop_removed (suc g) p (suc i) (m ∷ ms) e = drop_removed g p i ms (omega arith)

-- those who stay ---------------------------------------------------------------------------------------------------------
pub all_without : (n : ℕ) (Q : ℕ → Type 0) (ms : List ℕ) → AllByRecursion (λ m. (m ≡ n → ⊥) → Q m) ms → AllByRecursion Q (without n ms)
all_without n Q [] a = tt
all_without n Q (m ∷ ms) a = go (eqb m n) refl (all_without n Q ms a.1)
  where
    go : (b : Bool) → eqb m n ≡ b → AllByRecursion Q (without n ms) → AllByRecursion Q (kept (not b) m (without n ms))
    go true e ih = ih
    go false e ih = (a.0 (eqb-false m n e), ih)

still : (n : ℕ) (Q : ℕ → Type 0) (ms : List ℕ) → AllByRecursion Q ms → AllByRecursion Q (without n ms)
still n Q [] a = tt
still n Q (m ∷ ms) a = go (eqb m n) (still n Q ms a.1)
  where
    go : (b : Bool) → AllByRecursion Q (without n ms) → AllByRecursion Q (kept (not b) m (without n ms))
    go true ih = ih
    go false ih = (a.0, ih)

pub once_without : (n : ℕ) (ms : List ℕ) → Once ms → Once (without n ms)
once_without n [] o = tt
once_without n (m ∷ ms) o = go (eqb m n) (once_without n ms o.1)
  where
    go : (b : Bool) → Once (without n ms) → Once (kept (not b) m (without n ms))
    go true ih = ih
    go false ih = (still n (λ k. eqb k m ≡ false) ms o.0, ih)

-- one more ---------------------------------------------------------------------------------------------------------------
pub once_push : (n : ℕ) (ms : List ℕ) → AllByRecursion (λ m. m ≡ n → ⊥) ms → Once ms → Once (ms ++ n ∷ [])
once_push n [] a o = (tt, tt)
once_push n (m ∷ ms) a o = (last ms o.0, once_push n ms a.1 o.1)
  where
    last : (ks : List ℕ) → AllByRecursion (λ k. eqb k m ≡ false) ks → AllByRecursion (λ k. eqb k m ≡ false) (ks ++ n ∷ [])
    last [] h = (ne_eqb n m (λ e. a.0 (sym e)), tt)
    last (k ∷ ks) h = (h.0, last ks h.1)
