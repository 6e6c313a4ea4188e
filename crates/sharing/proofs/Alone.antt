-- A law on gifts that no two gifts of one quantity can both keep leaves one answer. Assumes nothing.
use Rattle.std.proofs.Common.{◌≡◌, ℕ, zero, suc, ◌+◌, ◌%◌, ◌<◌, ◌≤◌, true, ◌⊎◌, List, [], ◌∷◌, length, get_or, sym, refl, ◌∙◌, subst, inl, inr, ⊎_elim, arith}
use Rattle.std.specs.List.{AllZip, AllByRecursion}
use Rattle.std.proofs.lemmas.List.{ext_get_or}
use Rattle.std.proofs.lemmas.Bool.{cases_lt, cases_order, cond-true}
use Rattle.sharing.specs.Shares.{lot, total, zeros, shareable, guarded, LawfulRule}
use Rattle.sharing.specs.Turns.{KeepsOrder, TakesTurns, Gives, Alone}

pub at_all : (gs : List ℕ) → AllByRecursion (λ gift. gift % lot ≡ 0) gs → (i : ℕ) → get_or gs i 0 % lot ≡ 0
at_all [] h i = refl
at_all (g ∷ gs) h zero = h.0
at_all (g ∷ gs) h (suc i) = at_all gs h.1 i

pub at_each : (gs row : List ℕ) → AllZip (λ gift entry. gift ≤ entry) gs row → (i : ℕ) → get_or gs i 0 ≤ get_or row i 0
at_each [] [] h i = omega arith
at_each [] (a ∷ row) h i = absurd h
at_each (g ∷ gs) [] h i = absurd h
at_each (g ∷ gs) (a ∷ row) h zero = h.0
at_each (g ∷ gs) (a ∷ row) h (suc i) = at_each gs row h.1 i

-- somewhere the first has more, or nowhere
more : (xs ys : List ℕ) → length xs ≡ length ys → ((j : ℕ) × (get_or ys j 0 < get_or xs j 0)) ⊎ ((j : ℕ) → get_or xs j 0 ≤ get_or ys j 0)
more [] [] e = inr (λ j. omega arith)
more [] (y ∷ ys) e = absurd (omega arith)
more (x ∷ xs) [] e = absurd (omega arith)
more (x ∷ xs) (y ∷ ys) e =
    ⊎_elim
    (λ (s : y < x). inl (0, s))
    (λ (s : x ≤ y). ⊎_elim (λ (m : (j : ℕ) × (get_or ys j 0 < get_or xs j 0)). inl (suc m.0, m.1)) (λ (n : (j : ℕ) → get_or xs j 0 ≤ get_or ys j 0). inr (nowhere s n)) (more xs ys (omega arith)))
    (cases_lt y x)
  where
    nowhere : x ≤ y → ((j : ℕ) → get_or xs j 0 ≤ get_or ys j 0) → (j : ℕ) → get_or (x ∷ xs) j 0 ≤ get_or (y ∷ ys) j 0
    nowhere s n zero = s
    nowhere s n (suc j) = n j

at_most : (xs ys : List ℕ) → length xs ≡ length ys → ((j : ℕ) → get_or xs j 0 ≤ get_or ys j 0) → total xs ≤ total ys
at_most [] [] e n = omega arith
at_most [] (y ∷ ys) e n = absurd (omega arith)
at_most (x ∷ xs) [] e n = absurd (omega arith)
at_most (x ∷ xs) (y ∷ ys) e n = let z : x ≤ y = n 0 in omega (arith, at_most xs ys (omega arith) (λ j. n (suc j)))

less : (xs ys : List ℕ) → length xs ≡ length ys → ((j : ℕ) → get_or xs j 0 ≤ get_or ys j 0) → (i : ℕ) → get_or xs i 0 < get_or ys i 0 → total xs < total ys
less [] [] e n i s = absurd (omega arith)
less [] (y ∷ ys) e n i s = absurd (omega arith)
less (x ∷ xs) [] e n i s = absurd (omega arith)
less (x ∷ xs) (y ∷ ys) e n zero s = omega (arith, at_most xs ys (omega arith) (λ j. n (suc j)))
less (x ∷ xs) (y ∷ ys) e n (suc i) s = let z : x ≤ y = n 0 in omega (arith, less xs ys (omega arith) (λ j. n (suc j)) i s)

-- two gifts that both keep the law: neither is less somewhere, since the other would be less elsewhere
module _ (law : List ℕ → List ℕ → Type 0)
    (clash : (row gs hs : List ℕ) (q : ℕ) → Gives row q gs → Gives row q hs → law row gs → law row hs → (i j : ℕ) → get_or gs i 0 < get_or hs i 0 → get_or hs j 0 < get_or gs j 0 → ⊥) where
  never_less : (row gs hs : List ℕ) (q : ℕ) → Gives row q gs → Gives row q hs → law row gs → law row hs → (i : ℕ) → get_or gs i 0 < get_or hs i 0 → ⊥
  never_less row gs hs q g h k l i s =
      ⊎_elim
      (λ (m : (j : ℕ) × (get_or hs j 0 < get_or gs j 0)). clash row gs hs q g h k l i m.0 s m.1)
      (λ (n : (j : ℕ) → get_or gs j 0 ≤ get_or hs j 0). omega (arith, less gs hs (g.size ∙ sym h.size) n i s, g.whole, h.whole))
      (more gs hs (g.size ∙ sym h.size))

  one_answer : (row gs hs : List ℕ) (q : ℕ) → Gives row q gs → Gives row q hs → law row gs → law row hs → gs ≡ hs
  one_answer row gs hs q g h k l = ext_get_or 0 gs hs (g.size ∙ sym h.size) (λ i _. at i)
    where
      at : (i : ℕ) → get_or gs i 0 ≡ get_or hs i 0
      at i =
          ⊎_elim
          (λ (same : get_or gs i 0 ≡ get_or hs i 0). same)
          (⊎_elim (λ (s : get_or gs i 0 < get_or hs i 0). absurd (never_less row gs hs q g h k l i s)) (λ (s : get_or hs i 0 < get_or gs i 0). absurd (never_less row hs gs q h g l k i s)))
          (cases_order (get_or gs i 0) (get_or hs i 0))

  -- a way to share out that keeps the law is the only one
  pub alone_by : (share : List ℕ → ℕ → List ℕ) → LawfulRule (guarded share) → ((row : List ℕ) (q : ℕ) → law row (share row q)) → (row : List ℕ) (q : ℕ) → shareable row q ≡ true → Alone law row q (share row q)
  alone_by share owes keeps row q e =
      let is : guarded share row q ≡ share row q = cond-true (shareable row q) (share row q) (zeros row) e in
      let gives : Gives row q (share row q) =
      subst (Gives row q) is (record { size = owes.size row q; whole = owes.whole row q e; within = owes.within row q; lots = owes.lots row q }) in
      record { gives = gives; keeps = keeps row q; alone = λ other g k. one_answer row other (share row q) q g gives k (keeps row q) }

pub turns_clash : (row gs hs : List ℕ) (q : ℕ) → Gives row q gs → Gives row q hs → TakesTurns row gs → TakesTurns row hs → (i j : ℕ) → get_or gs i 0 < get_or hs i 0 → get_or hs j 0 < get_or gs j 0 → ⊥
turns_clash row gs hs q g h k l i j s t =
    let a = k i j (omega (arith, at_each hs row h.within i)) in
    let b = l j i (omega (arith, at_each gs row g.within j)) in
    let up : get_or gs i 0 + lot ≤ get_or hs i 0 = omega (arith, at_all gs g.lots i, at_all hs h.lots i) in
    let down : get_or hs j 0 + lot ≤ get_or gs j 0 = omega (arith, at_all gs g.lots j, at_all hs h.lots j) in
    ⊎_elim
    (λ (same : i ≡ j). let u : get_or hs i 0 < get_or gs i 0 = subst (λ x. get_or hs x 0 < get_or gs x 0) (sym same) t in omega arith)
    (⊎_elim (λ (before : i < j). omega (arith, a.1 before)) (λ (behind : j < i). omega (arith, b.1 behind)))
    (cases_order i j)

pub order_clash : (row gs hs : List ℕ) (q : ℕ) → Gives row q gs → Gives row q hs → KeepsOrder row gs → KeepsOrder row hs → (i j : ℕ) → get_or gs i 0 < get_or hs i 0 → get_or hs j 0 < get_or gs j 0 → ⊥
order_clash row gs hs q g h k l i j s t =
    ⊎_elim
    (λ (same : i ≡ j). let u : get_or hs i 0 < get_or gs i 0 = subst (λ x. get_or hs x 0 < get_or gs x 0) (sym same) t in omega arith)
    (⊎_elim
    (λ (before : i < j). omega (arith, k i j (omega (arith, at_each hs row h.within i)) before))
    (λ (behind : j < i). omega (arith, l j i (omega (arith, at_each gs row g.within j)) behind)))
    (cases_order i j)
