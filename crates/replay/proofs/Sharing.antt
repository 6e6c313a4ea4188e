-- What a lawful rule gives for a row of the book.
use Rattle.std.proofs.Common.{◌≡◌, ℕ, ◌+◌, ◌%◌, ◌≤◌, true, ◌&&◌, eqb, leb, List, [], ◌∷◌, length, sym, refl, ap, ◌∙◌, subst}
use Rattle.std.specs.List.{AllZip, AllByRecursion}
use Rattle.std.proofs.lemmas.Bool.{and_from, eq-eqb, le-leb}
use Rattle.sharing.specs.Shares.{LawfulRule, lot, most_shares, most_entries, whole_lots, all_lawful, lawful_row, shareable}
use Rattle.sharing.specs.Shares.{total as sum}
use Rattle.replay.specs.Lists.{total}
use Rattle.replay.specs.Days.{Rule}

-- lawful shares: whole lots, 100 at least and 1,000,000 at most
abbrev pub LawfulShares : ℕ → Type 0
LawfulShares n = (n % 100 ≡ 0) × (100 ≤ n) × (n ≤ 1000000)

abbrev pub LawfulRow : List ℕ → Type 0
LawfulRow row = (1 ≤ length row) × (length row ≤ 512) × AllByRecursion LawfulShares row

abbrev pub Gift : ℕ → ℕ → Type 0
Gift g n = (g % 100 ≡ 0) × (g ≤ n)

pub sum_total : (ns : List ℕ) → sum ns ≡ total (λ n. n) ns
sum_total [] = refl
sum_total (n ∷ ns) = ap (λ x. n + x) (sum_total ns)

whole_lots_lem : (most n : ℕ) → n % 100 ≡ 0 → 100 ≤ n → n ≤ most → whole_lots most n ≡ true
whole_lots_lem most n e l m = and_from (leb lot n && leb n most) (eqb (n % lot) 0) (and_from (leb lot n) (leb n most) (le-leb lot n l) (le-leb n most m)) (eq-eqb (n % lot) 0 e)

all_lawful_lem : (row : List ℕ) → AllByRecursion LawfulShares row → all_lawful row ≡ true
all_lawful_lem [] a = refl
all_lawful_lem (n ∷ row) a = and_from (whole_lots most_shares n) (all_lawful row) (whole_lots_lem most_shares n a.0.0 a.0.1 a.0.2) (all_lawful_lem row a.1)

can_share : (row : List ℕ) (q : ℕ) → LawfulRow row → q % 100 ≡ 0 → 100 ≤ q → q ≤ total (λ n. n) row → shareable row q ≡ true
can_share row q h e l m =
    and_from (lawful_row row) (whole_lots (sum row) q)
    (and_from (leb 1 (length row) && leb (length row) most_entries) (all_lawful row)
    (and_from (leb 1 (length row)) (leb (length row) most_entries) (le-leb 1 (length row) h.0) (le-leb (length row) most_entries h.1))
    (all_lawful_lem row h.2))
    (whole_lots_lem (sum row) q e l (subst (λ x. q ≤ x) (sym (sum_total row)) m))

both : (gs row : List ℕ) → AllZip (λ g n. g ≤ n) gs row → AllByRecursion (λ g. g % lot ≡ 0) gs → AllZip Gift gs row
both [] [] z a = tt
both [] (n ∷ row) z a = absurd z
both (g ∷ gs) [] z a = absurd z
both (g ∷ gs) (n ∷ row) z a = ((a.0, z.0), both gs row z.1 a.1)

pub gifts_fit : (gifts : Rule) → LawfulRule gifts → (row : List ℕ) (q : ℕ) → AllZip Gift (gifts row q) row
gifts_fit gifts lawful row q = both (gifts row q) row (lawful.within row q) (lawful.lots row q)

pub gifts_sum : (gifts : Rule) → LawfulRule gifts → (row : List ℕ) (q : ℕ) → LawfulRow row → q % 100 ≡ 0 → 100 ≤ q → q ≤ total (λ n. n) row
    → total (λ g. g) (gifts row q) ≡ q
gifts_sum gifts lawful row q h e l m = sym (sum_total (gifts row q)) ∙ lawful.whole row q (can_share row q h e l m)
