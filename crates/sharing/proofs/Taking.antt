-- Time priority keeps the order of the row, and rounds take turns; nothing else does. Assumes nothing.
use Rattle.std.proofs.Common.{◌≡◌, ℕ, zero, suc, ◌+◌, ◌-◌, ◌/◌, ◌<◌, ◌≤◌, min, true, List, [], ◌∷◌, length, get_or, sym, refl, ◌∙◌, subst, ⊎_elim, arith}
use Rattle.std.proofs.Math.ListN.{get_or-map}
use Rattle.std.proofs.lemmas.List.{length-map}
use Rattle.std.proofs.lemmas.Bool.{cases_lt}
use Rattle.sharing.specs.Shares.{lot, total, zeros, shareable}
use Rattle.sharing.specs.Turns.{pointwise, round, rounds, in_rounds, in_row_order, KeepsOrder, TakesTurns, Alone}
use Rattle.sharing.specs.Keeps.{rounds_size, point_size, time_lawful, rotation_lawful}
use Rattle.sharing.proofs.Alone.{alone_by, turns_clash, order_clash}
use Rattle.sharing.proofs.Levels.{whole_round, not_spent, spent_last}

-- place by place ------------------------------------------------------------------------------------------------------
at_zeros : (row : List ℕ) (i : ℕ) → get_or (zeros row) i 0 ≡ 0
at_zeros [] i = refl
at_zeros (a ∷ rest) zero = refl
at_zeros (a ∷ rest) (suc i) = at_zeros rest i

at_whole : (row : List ℕ) (i : ℕ) → get_or (whole_round row) i 0 ≡ min lot (get_or row i 0)
at_whole row i = get_or-map (min lot) row i 0

at_point : (f : ℕ → ℕ → ℕ) → f 0 0 ≡ 0 → (xs ys : List ℕ) → length ys ≡ length xs → (i : ℕ) → get_or (pointwise f xs ys) i 0 ≡ f (get_or xs i 0) (get_or ys i 0)
at_point f z [] [] e i = sym z
at_point f z [] (y ∷ ys) e i = absurd (omega arith)
at_point f z (x ∷ xs) [] e i = absurd (omega arith)
at_point f z (x ∷ xs) (y ∷ ys) e zero = refl
at_point f z (x ∷ xs) (y ∷ ys) e (suc i) = at_point f z xs ys (omega arith) i

-- rounds take turns ------------------------------------------------------------------------------------------------
at_round : (row : List ℕ) (q j : ℕ) → get_or (round row q) j 0 ≤ min lot q
at_round [] q j = omega arith
at_round (a ∷ rest) q zero = omega arith
at_round (a ∷ rest) q (suc j) = omega (arith, at_round rest (q - min lot (min a q)) j)

round_turns : (row : List ℕ) (q : ℕ) → TakesTurns row (round row q)
round_turns [] q i j h = absurd (omega arith)
round_turns (a ∷ rest) q zero zero h = (omega arith, λ k. absurd (omega arith))
round_turns (a ∷ rest) q zero (suc j) h = let r = at_round rest (q - min lot (min a q)) j in (omega arith, λ k. omega arith)
round_turns (a ∷ rest) q (suc i) zero h = (omega arith, λ k. absurd (omega arith))
round_turns (a ∷ rest) q (suc i) (suc j) h = let t = round_turns rest (q - min lot (min a q)) i j h in (t.0, λ k. t.1 (omega arith))

zeros_turns : (row : List ℕ) → TakesTurns row (zeros row)
zeros_turns row i j h = let z = at_zeros row j in (omega arith, λ k. omega arith)

-- a whole round, and then rounds that take turns
later_turns : (row later : List ℕ) → length later ≡ length row → TakesTurns (pointwise ◌-◌ row (whole_round row)) later → TakesTurns row (pointwise ◌+◌ (whole_round row) later)
later_turns row later e turns i j h =
    let gi = at_point ◌+◌ refl (whole_round row) later (e ∙ sym (length-map row _)) i in
    let gj = at_point ◌+◌ refl (whole_round row) later (e ∙ sym (length-map row _)) j in
    let oi = at_point ◌-◌ refl row (whole_round row) (length-map row _) i in
    let wi = at_whole row i in
    let wj = at_whole row j in
    let t = turns i j (omega arith) in
    (omega (arith, t.0), λ k. omega (arith, t.1 k))

pub rounds_turns : (k : ℕ) (row : List ℕ) (q : ℕ) → TakesTurns row (rounds k row q)
rounds_turns zero row q = zeros_turns row
rounds_turns (suc k) row q =
    ⊎_elim
    (λ (s : total (round row q) < q). subst (λ g. TakesTurns row (pointwise ◌+◌ g (rounds k (pointwise ◌-◌ row g) (q - total g)))) (sym (not_spent row q s))
    (later_turns row (rounds k (pointwise ◌-◌ row (whole_round row)) (q - total (whole_round row))) (rounds_size k (pointwise ◌-◌ row (whole_round row)) _ ∙ point_size ◌-◌ row (whole_round row)) (rounds_turns k (pointwise ◌-◌ row (whole_round row)) (q - total (whole_round row)))))
    (λ (s : q ≤ total (round row q)). subst (TakesTurns row) (sym (spent_last k row q s)) (round_turns row q))
    (cases_lt (total (round row q)) q)

pub rounds_alone : (row : List ℕ) (q : ℕ) → shareable row q ≡ true → Alone TakesTurns row q (in_rounds row q)
rounds_alone = alone_by TakesTurns turns_clash in_rounds rotation_lawful (λ row q. rounds_turns (q / lot) row q)

-- time priority keeps the order of the row ----------------------------------------------------------------------------
at_order : (row : List ℕ) (q j : ℕ) → get_or (in_row_order row q) j 0 ≤ q
at_order [] q j = omega arith
at_order (a ∷ rest) q zero = omega arith
at_order (a ∷ rest) q (suc j) = omega (arith, at_order rest (q - min a q) j)

order_kept : (row : List ℕ) (q : ℕ) → KeepsOrder row (in_row_order row q)
order_kept [] q i j h k = absurd (omega arith)
order_kept (a ∷ rest) q zero zero h k = absurd (omega arith)
order_kept (a ∷ rest) q zero (suc j) h k = omega (arith, at_order rest (q - min a q) j)
order_kept (a ∷ rest) q (suc i) zero h k = absurd (omega arith)
order_kept (a ∷ rest) q (suc i) (suc j) h k = order_kept rest (q - min a q) i j h (omega arith)

pub order_alone : (row : List ℕ) (q : ℕ) → shareable row q ≡ true → Alone KeepsOrder row q (in_row_order row q)
order_alone = alone_by KeepsOrder order_clash in_row_order time_lawful order_kept
