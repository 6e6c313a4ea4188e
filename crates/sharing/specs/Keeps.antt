-- Proofs, not definitions: both rules keep what every rule owes. They stand here since the rules' impls cite them.
use Rattle.std.specs.Prelude.{◌≡◌, ℕ, zero, suc, ◌+◌, ◌-◌, ◌*◌, ◌/◌, ◌%◌, ◌<◌, ◌≤◌, min, Bool, true, false, cond, ◌&&◌, List, [], ◌∷◌, length, ◌==◌, nat_le, refl}
use Rattle.std.proofs.Common.{sym, ap, subst, ◌∙◌, arith}
use Rattle.std.specs.List.{AllZip, AllByRecursion}
use Rattle.std.proofs.lemmas.List.{length-replicate}
use Rattle.std.proofs.lemmas.Bool.{and_parts, and_from, leb-true, le-leb, eqb-true, eq-eqb, cond-true, cond-false}
use Rattle.sharing.specs.Shares.{lot, most_shares, most_entries, total, zeros, whole_lots, all_lawful, lawful_row, shareable, guarded, LawfulRule}
use Rattle.sharing.specs.Turns.{in_row_order, by_time, pointwise, round, rounds, in_rounds, by_rotation}

-- a row and a quantity that can be shared out, taken apart ------------------------------------------------------------
pub record Lots (bound n : ℕ) : Type 0 where
  pub least : lot ≤ n
  pub most : n ≤ bound
  pub lots : n % lot ≡ 0

pub lots_parts : (bound n : ℕ) → whole_lots bound n ≡ true → Lots bound n
lots_parts bound n e =
    let x : ((nat_le lot n && nat_le n bound) ≡ true) × ((n % lot == 0) ≡ true) = and_parts (nat_le lot n && nat_le n bound) (n % lot == 0) e in
    let y : (nat_le lot n ≡ true) × (nat_le n bound ≡ true) = and_parts (nat_le lot n) (nat_le n bound) x.0 in
    record { least = leb-true lot n y.0; most = leb-true n bound y.1; lots = eqb-true (n % lot) 0 x.1 }

pub lawful_each : (row : List ℕ) → all_lawful row ≡ true → AllByRecursion (Lots most_shares) row
lawful_each [] e = tt
lawful_each (a ∷ rest) e =
    let x : (whole_lots most_shares a ≡ true) × (all_lawful rest ≡ true) = and_parts (whole_lots most_shares a) (all_lawful rest) e in
    (lots_parts most_shares a x.0, lawful_each rest x.1)

pub record LawfulRow (row : List ℕ) : Type 0 where
  pub some : 1 ≤ length row
  pub few : length row ≤ most_entries
  pub each : AllByRecursion (Lots most_shares) row

pub row_parts : (row : List ℕ) → lawful_row row ≡ true → LawfulRow row
row_parts row e =
    let x : ((nat_le 1 (length row) && nat_le (length row) most_entries) ≡ true) × (all_lawful row ≡ true) = and_parts (nat_le 1 (length row) && nat_le (length row) most_entries) (all_lawful row) e in
    let y : (nat_le 1 (length row) ≡ true) × (nat_le (length row) most_entries ≡ true) = and_parts (nat_le 1 (length row)) (nat_le (length row) most_entries) x.0 in
    record { some = leb-true 1 (length row) y.0; few = leb-true (length row) most_entries y.1; each = lawful_each row x.1 }

pub record Shareable (row : List ℕ) (q : ℕ) : Type 0 where
  pub entries : LawfulRow row
  pub quantity : Lots (total row) q

pub shareable_parts : (row : List ℕ) (q : ℕ) → shareable row q ≡ true → Shareable row q
shareable_parts row q e =
    let x : (lawful_row row ≡ true) × (whole_lots (total row) q ≡ true) = and_parts (lawful_row row) (whole_lots (total row) q) e in
    record { entries = row_parts row x.0; quantity = lots_parts (total row) q x.1 }

-- and put together, for a caller that knows its row
pub lots_from : (bound n : ℕ) → Lots bound n → whole_lots bound n ≡ true
lots_from bound n h =
    and_from (nat_le lot n && nat_le n bound) (n % lot == 0) (and_from (nat_le lot n) (nat_le n bound) (le-leb lot n h.least) (le-leb n bound h.most)) (eq-eqb (n % lot) 0 h.lots)

pub lawful_from : (row : List ℕ) → AllByRecursion (Lots most_shares) row → all_lawful row ≡ true
lawful_from [] h = refl
lawful_from (a ∷ rest) h = and_from (whole_lots most_shares a) (all_lawful rest) (lots_from most_shares a h.0) (lawful_from rest h.1)

pub row_from : (row : List ℕ) → LawfulRow row → lawful_row row ≡ true
row_from row h =
    and_from (nat_le 1 (length row) && nat_le (length row) most_entries) (all_lawful row) (and_from (nat_le 1 (length row)) (nat_le (length row) most_entries) (le-leb 1 (length row) h.some) (le-leb (length row) most_entries h.few)) (lawful_from row h.each)

pub shareable_from : (row : List ℕ) (q : ℕ) → Shareable row q → shareable row q ≡ true
shareable_from row q h = and_from (lawful_row row) (whole_lots (total row) q) (row_from row h.entries) (lots_from (total row) q h.quantity)

-- a way to share out that is asked only where it can be ---------------------------------------------------------------
abbrev pub Whole : ℕ → Type 0
Whole a = a % lot ≡ 0

abbrev pub Part : ℕ → ℕ → Type 0
Part g a = (g % lot ≡ 0) × (g ≤ a)

pub wholes : (row : List ℕ) → AllByRecursion (Lots most_shares) row → AllByRecursion Whole row
wholes [] h = tt
wholes (a ∷ rest) h = (h.0.lots, wholes rest h.1)

parts_within : (gs row : List ℕ) → AllZip Part gs row → AllZip (λ gift entry. gift ≤ entry) gs row
parts_within [] [] h = tt
parts_within [] (a ∷ row) h = absurd h
parts_within (g ∷ gs) [] h = absurd h
parts_within (g ∷ gs) (a ∷ row) h = (h.0.1, parts_within gs row h.1)

parts_lots : (gs row : List ℕ) → AllZip Part gs row → AllByRecursion (λ gift. gift % lot ≡ 0) gs
parts_lots [] [] h = tt
parts_lots [] (a ∷ row) h = absurd h
parts_lots (g ∷ gs) [] h = absurd h
parts_lots (g ∷ gs) (a ∷ row) h = (h.0.0, parts_lots gs row h.1)

pub zeros_size : (row : List ℕ) → length (zeros row) ≡ length row
zeros_size row = length-replicate (length row) 0

zeros_parts : (row : List ℕ) → AllZip Part (zeros row) row
zeros_parts [] = tt
zeros_parts (a ∷ rest) = ((refl, omega arith), zeros_parts rest)

-- what is left to show of a way to share out
pub record Keeps (share : List ℕ → ℕ → List ℕ) : Type 0 where
  pub size : (row : List ℕ) (q : ℕ) → length (share row q) ≡ length row
  pub parts : (row : List ℕ) (q : ℕ) → AllByRecursion Whole row → Whole q → AllZip Part (share row q) row
  pub whole : (row : List ℕ) (q : ℕ) → AllByRecursion Whole row → Whole q → q ≤ total row → total (share row q) ≡ q

module _ (share : List ℕ → ℕ → List ℕ) (k : Keeps share) where
  at_size : (row : List ℕ) (q : ℕ) (b : Bool) → length (cond b (share row q) (zeros row)) ≡ length row
  at_size row q true = k.size row q
  at_size row q false = zeros_size row

  at_parts : (row : List ℕ) (q : ℕ) (b : Bool) → shareable row q ≡ b → AllZip Part (cond b (share row q) (zeros row)) row
  at_parts row q true e = let s = shareable_parts row q e in k.parts row q (wholes row s.entries.each) s.quantity.lots
  at_parts row q false e = zeros_parts row

  at_whole : (row : List ℕ) (q : ℕ) → shareable row q ≡ true → total (guarded share row q) ≡ q
  at_whole row q e =
      let s = shareable_parts row q e in
      ap total (cond-true (shareable row q) (share row q) (zeros row) e) ∙ k.whole row q (wholes row s.entries.each) s.quantity.lots s.quantity.most

  pub guarded_lawful : LawfulRule (guarded share)
  guarded_lawful = record {
    size = λ row q. at_size row q (shareable row q);
    whole = at_whole;
    within = λ row q. parts_within (guarded share row q) row (at_parts row q (shareable row q) refl);
    lots = λ row q. parts_lots (guarded share row q) row (at_parts row q (shareable row q) refl);
    other = λ row q e. cond-false (shareable row q) (share row q) (zeros row) e;
  }

-- time priority -------------------------------------------------------------------------------------------------------
order_size : (row : List ℕ) (q : ℕ) → length (in_row_order row q) ≡ length row
order_size [] q = refl
order_size (a ∷ rest) q = ap suc (order_size rest (q - min a q))

order_parts : (row : List ℕ) (q : ℕ) → AllByRecursion Whole row → Whole q → AllZip Part (in_row_order row q) row
order_parts [] q h e = tt
order_parts (a ∷ rest) q h e = let w : a % lot ≡ 0 = h.0 in ((omega arith, omega arith), order_parts rest (q - min a q) h.1 (omega arith))

order_whole : (row : List ℕ) (q : ℕ) → q ≤ total row → total (in_row_order row q) ≡ q
order_whole [] q h = omega arith
order_whole (a ∷ rest) q h = let i = order_whole rest (q - min a q) (omega arith) in omega arith

pub time_lawful : LawfulRule by_time
time_lawful = guarded_lawful in_row_order (record { size = order_size; parts = order_parts; whole = λ row q h e. order_whole row q })

-- rotation ------------------------------------------------------------------------------------------------------------
pub round_size : (row : List ℕ) (q : ℕ) → length (round row q) ≡ length row
round_size [] q = refl
round_size (a ∷ rest) q = ap suc (round_size rest (q - min lot (min a q)))

round_parts : (row : List ℕ) (q : ℕ) → AllByRecursion Whole row → Whole q → AllZip Part (round row q) row
round_parts [] q h e = tt
round_parts (a ∷ rest) q h e =
    let w : a % lot ≡ 0 = h.0 in ((omega arith, omega arith), round_parts rest (q - min lot (min a q)) h.1 (omega arith))

-- a round gives no more than the quantity, and at least a lot where some is left and somebody is open
pub round_most : (row : List ℕ) (q : ℕ) → total (round row q) ≤ q
round_most [] q = omega arith
round_most (a ∷ rest) q = omega (arith, round_most rest (q - min lot (min a q)))

round_least : (row : List ℕ) (q : ℕ) → AllByRecursion Whole row → Whole q → 0 < q → q ≤ total row → lot ≤ total (round row q)
round_least [] q h e l m = absurd (omega arith)
round_least (a ∷ rest) q h e l m = go a h.0 m (λ n. round_least rest q h.1 e l n)
  where
    go : (a : ℕ) → Whole a → q ≤ a + total rest → (q ≤ total rest → lot ≤ total (round rest q)) → lot ≤ min lot (min a q) + total (round rest (q - min lot (min a q)))
    go zero w m i =
        let z : q - min lot (min 0 q) ≡ q = omega arith in
        subst (λ x. lot ≤ min lot (min 0 q) + total (round rest x)) (sym z) (omega (arith, i (omega arith)))
    go (suc a) w m i = omega arith

pub point_size : (f : ℕ → ℕ → ℕ) (xs ys : List ℕ) → length (pointwise f xs ys) ≡ length xs
point_size f [] ys = refl
point_size f (x ∷ xs) [] = refl
point_size f (x ∷ xs) (y ∷ ys) = ap suc (point_size f xs ys)

-- what a round leaves open
open_whole : (row gs : List ℕ) → AllZip Part gs row → AllByRecursion Whole row → AllByRecursion Whole (pointwise ◌-◌ row gs)
open_whole [] gs z h = tt
open_whole (a ∷ row) [] z h = absurd z
open_whole (a ∷ row) (g ∷ gs) z h = (omega (arith, h.0, z.0.0, z.0.1), open_whole row gs z.1 h.1)

open_total : (row gs : List ℕ) → AllZip Part gs row → total (pointwise ◌-◌ row gs) + total gs ≡ total row
open_total [] [] z = refl
open_total [] (g ∷ gs) z = absurd z
open_total (a ∷ row) [] z = absurd z
open_total (a ∷ row) (g ∷ gs) z = omega (arith, z.0.1, open_total row gs z.1)

-- what a round gives and what is given later
both_parts : (row gs hs : List ℕ) → AllZip Part gs row → AllZip Part hs (pointwise ◌-◌ row gs) → AllZip Part (pointwise ◌+◌ gs hs) row
both_parts [] [] hs z y = tt
both_parts [] (g ∷ gs) hs z y = absurd z
both_parts (a ∷ row) [] hs z y = absurd z
both_parts (a ∷ row) (g ∷ gs) [] z y = absurd y
both_parts (a ∷ row) (g ∷ gs) (h ∷ hs) z y = ((omega (arith, z.0.0, y.0.0), omega (arith, z.0.1, y.0.1)), both_parts row gs hs z.1 y.1)

both_total : (row gs hs : List ℕ) → AllZip Part gs row → AllZip Part hs (pointwise ◌-◌ row gs) → total (pointwise ◌+◌ gs hs) ≡ total gs + total hs
both_total [] [] [] z y = refl
both_total [] [] (h ∷ hs) z y = absurd y
both_total [] (g ∷ gs) hs z y = absurd z
both_total (a ∷ row) [] hs z y = absurd z
both_total (a ∷ row) (g ∷ gs) [] z y = absurd y
both_total (a ∷ row) (g ∷ gs) (h ∷ hs) z y = omega (arith, both_total row gs hs z.1 y.1)

pub zeros_total : (row : List ℕ) → total (zeros row) ≡ 0
zeros_total [] = refl
zeros_total (a ∷ rest) = omega (arith, zeros_total rest)

parts_total : (row gs : List ℕ) → AllZip Part gs row → total gs % lot ≡ 0
parts_total [] [] z = refl
parts_total [] (g ∷ gs) z = absurd z
parts_total (a ∷ row) [] z = absurd z
parts_total (a ∷ row) (g ∷ gs) z = omega (arith, z.0.0, parts_total row gs z.1)

pub rounds_size : (k : ℕ) (row : List ℕ) (q : ℕ) → length (rounds k row q) ≡ length row
rounds_size zero row q = zeros_size row
rounds_size (suc k) row q = point_size ◌+◌ (round row q) _ ∙ round_size row q

rounds_parts : (k : ℕ) (row : List ℕ) (q : ℕ) → AllByRecursion Whole row → Whole q → AllZip Part (rounds k row q) row
rounds_parts zero row q h e = zeros_parts row
rounds_parts (suc k) row q h e =
    let g : List ℕ = round row q in
    let z : AllZip Part g row = round_parts row q h e in
    both_parts row g _ z (rounds_parts k (pointwise ◌-◌ row g) (q - total g) (open_whole row g z h) (omega (arith, parts_total row g z, round_most row q)))

-- enough rounds spend the quantity
rounds_whole : (k : ℕ) (row : List ℕ) (q : ℕ) → AllByRecursion Whole row → Whole q → q ≤ total row → q ≤ lot * k → total (rounds k row q) ≡ q
rounds_whole zero row q h e m l = omega (arith, zeros_total row)
rounds_whole (suc k) row q h e m l =
    let g : List ℕ = round row q in
    let z : AllZip Part g row = round_parts row q h e in
    let n : total g ≤ q = round_most row q in
    let w : total g % lot ≡ 0 = parts_total row g z in
    let h' : AllByRecursion Whole (pointwise ◌-◌ row g) = open_whole row g z h in
    let e' : (q - total g) % lot ≡ 0 = omega arith in
    let least : q - total g ≤ lot * k = go row q h e m l in
    both_total row g _ z (rounds_parts k (pointwise ◌-◌ row g) (q - total g) h' e')
    ∙ omega (arith, n, rounds_whole k (pointwise ◌-◌ row g) (q - total g) h' e' (omega (arith, open_total row g z)) least)
  where
    go : (row : List ℕ) (q : ℕ) → AllByRecursion Whole row → Whole q → q ≤ total row → q ≤ lot * suc k → q - total (round row q) ≤ lot * k
    go row zero h e m l = omega arith
    go row (suc q) h e m l = omega (arith, round_least row (suc q) h e (omega arith) m)

pub rotation_lawful : LawfulRule by_rotation
rotation_lawful = guarded_lawful in_rounds (record {
  size = λ row q. rounds_size (q / lot) row q;
  parts = λ row q. rounds_parts (q / lot) row q;
  whole = λ row q h e m. rounds_whole (q / lot) row q h e m (omega arith);
})
