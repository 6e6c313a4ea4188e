-- Rounds by levels: after whole rounds every entry has been given shares up to the same level. Assumes nothing.
use Rattle.std.proofs.Common.{◌≡◌, ℕ, zero, suc, ◌+◌, ◌-◌, ◌*◌, ◌/◌, ◌%◌, ◌<◌, ◌≤◌, min, Bool, true, false, cond, not, ◌&&◌, eqb, ltb, List, [], ◌∷◌, length, map, sym, refl, ap, ◌∙◌, subst, ⊎_elim, mul_assoc, suc-mul, lt_of_mul-lt-mul_right, mul-le-mul_left, le-mul_of_pos_right, div-mul-le_self, mul_left_comm, arith}
use native.Mathlib.Nat.{lt-div-mul-add}
use Rattle.std.specs.List.{AllByRecursion, list_any}
use Rattle.std.proofs.lemmas.List.{length-map}
use Rattle.std.proofs.lemmas.Bool.{cases_lt, cases_eq, cases_Bool, false≢true, eqb-true, eq-eqb, or_cases, or_left, or_right}
use Rattle.std.proofs.lemmas.Bool.Decides.{nat_tests}
use Rattle.sharing.specs.Shares.{lot, most_shares, total, zeros}
use Rattle.sharing.specs.Levels.{above, least_above, last_round}
use Rattle.sharing.specs.Turns.{pointwise, round, rounds, in_rounds}
use Rattle.sharing.specs.Keeps.{Lots, Shareable, Whole, wholes, zeros_size, zeros_total, round_most, round_size, rounds_size, point_size}

-- what whole rounds up to a level have given, and what they leave open
abbrev up_to : ℕ → List ℕ → List ℕ
up_to l row = map (λ a. min a l) row

abbrev beyond : ℕ → List ℕ → List ℕ
beyond l row = map (λ a. a - l) row

-- a round that the quantity pays for
abbrev pub whole_round : List ℕ → List ℕ
whole_round row = map (min lot) row

-- whole rounds up to the level l, and k rounds after them
abbrev pub after : ℕ → ℕ → List ℕ → ℕ → List ℕ
after l k row q = pointwise ◌+◌ (up_to l row) (rounds k (beyond l row) q)

both : (x y : ℕ) (xs ys : List ℕ) → x ≡ y → xs ≡ ys → x ∷ xs ≡ y ∷ ys
both x y xs ys e f = ap (λ z. z ∷ xs) e ∙ ap (λ zs. y ∷ zs) f

-- one whole round -----------------------------------------------------------------------------------------------------
pays : (row : List ℕ) (q : ℕ) → total (whole_round row) ≤ q → round row q ≡ whole_round row
pays [] q h = refl
pays (a ∷ rest) q h = both _ _ _ _ (omega arith) (pays rest (q - min lot (min a q)) (omega arith))

-- what does not spend the quantity is a whole round
pub not_spent : (row : List ℕ) (q : ℕ) → total (round row q) < q → round row q ≡ whole_round row
not_spent [] q h = refl
not_spent (a ∷ rest) q h = both _ _ _ _ (omega arith) (not_spent rest (q - min lot (min a q)) (omega arith))

whole_total : (l : ℕ) (row : List ℕ) → Whole l → AllByRecursion Whole row → total (whole_round (beyond l row)) ≡ lot * above l row
whole_total l [] e h = refl
whole_total l (a ∷ rest) e h =
    let i = whole_total l rest e h.1 in
    let w : a % lot ≡ 0 = h.0 in
    grind (arith, nat_tests)

beyond_next : (l : ℕ) (row : List ℕ) → pointwise ◌-◌ (beyond l row) (whole_round (beyond l row)) ≡ beyond (l + lot) row
beyond_next l [] = refl
beyond_next l (a ∷ rest) = both _ _ _ _ (omega arith) (beyond_next l rest)

up_to_next : (l : ℕ) (row later : List ℕ) → length later ≡ length row → pointwise ◌+◌ (up_to l row) (pointwise ◌+◌ (whole_round (beyond l row)) later) ≡ pointwise ◌+◌ (up_to (l + lot) row) later
up_to_next l [] later e = refl
up_to_next l (a ∷ rest) [] e = absurd (omega arith)
up_to_next l (a ∷ rest) (x ∷ xs) e = both _ _ _ _ (omega arith) (up_to_next l rest xs (omega arith))

one_round : (k l q : ℕ) (row : List ℕ) → Whole l → AllByRecursion Whole row → lot * above l row ≤ q → after l (suc k) row q ≡ after (l + lot) k row (q - lot * above l row)
one_round k l q row e h p =
    let open' : List ℕ = beyond l row in
    let t : total (whole_round open') ≡ lot * above l row = whole_total l row e h in
    let r : round open' q ≡ whole_round open' = pays open' q (omega arith) in
    ap (λ g. pointwise ◌+◌ (up_to l row) (pointwise ◌+◌ g (rounds k (pointwise ◌-◌ open' g) (q - total g)))) r
    ∙ ap (λ b. pointwise ◌+◌ (up_to l row) (pointwise ◌+◌ (whole_round open') (rounds k b (q - total (whole_round open'))))) (beyond_next l row)
    ∙ up_to_next l row (rounds k (beyond (l + lot) row) (q - total (whole_round open'))) (rounds_size k (beyond (l + lot) row) _ ∙ length-map row _)
    ∙ ap (λ n. pointwise ◌+◌ (up_to (l + lot) row) (rounds k (beyond (l + lot) row) (q - n))) t

-- the last round ------------------------------------------------------------------------------------------------------
nothing : (gs row : List ℕ) → length gs ≡ length row → total gs ≡ 0 → gs ≡ zeros row
nothing [] [] e z = refl
nothing [] (a ∷ row) e z = absurd (omega arith)
nothing (g ∷ gs) [] e z = absurd (omega arith)
nothing (g ∷ gs) (a ∷ row) e z = both _ _ _ _ (omega arith) (nothing gs row (omega arith) (omega arith))

less_zeros : (row : List ℕ) → pointwise ◌-◌ row (zeros row) ≡ row
less_zeros [] = refl
less_zeros (a ∷ rest) = both _ _ _ _ (omega arith) (less_zeros rest)

plus_zeros : (gs row : List ℕ) → length row ≡ length gs → pointwise ◌+◌ gs (zeros row) ≡ gs
plus_zeros [] row e = refl
plus_zeros (g ∷ gs) [] e = refl
plus_zeros (g ∷ gs) (a ∷ row) e = both _ _ _ _ (omega arith) (plus_zeros gs row (omega arith))

round_within : (row : List ℕ) (q : ℕ) → total (round row q) ≤ total row
round_within [] q = omega arith
round_within (a ∷ rest) q = omega (arith, round_within rest (q - min lot (min a q)))

less_total : (row gs : List ℕ) → total (pointwise ◌-◌ row gs) ≤ total row
less_total [] gs = omega arith
less_total (a ∷ row) [] = omega arith
less_total (a ∷ row) (g ∷ gs) = omega (arith, less_total row gs)

-- a round that gives nothing is followed by none that does
idle : (k : ℕ) (row : List ℕ) (q : ℕ) → total (round row q) ≡ 0 → rounds k row q ≡ zeros row
idle zero row q z = refl
idle (suc k) row q z =
    let none : round row q ≡ zeros row = nothing (round row q) row (round_size row q) z in
    let same : q - total (zeros row) ≡ q = omega (arith, zeros_total row) in
    ap (λ g. pointwise ◌+◌ g (rounds k (pointwise ◌-◌ row g) (q - total g))) none
    ∙ ap (λ r. pointwise ◌+◌ (zeros row) (rounds k r (q - total (zeros row)))) (less_zeros row)
    ∙ ap (λ n. pointwise ◌+◌ (zeros row) (rounds k row n)) same
    ∙ ap (λ r. pointwise ◌+◌ (zeros row) r) (idle k row q z)
    ∙ plus_zeros (zeros row) row (sym (zeros_size row))

last_of_all : (k : ℕ) (row : List ℕ) (q : ℕ) → total (round (pointwise ◌-◌ row (round row q)) (q - total (round row q))) ≡ 0 → rounds (suc k) row q ≡ round row q
last_of_all k row q z =
    let g : List ℕ = round row q in
    ap (λ r. pointwise ◌+◌ g r) (idle k (pointwise ◌-◌ row g) (q - total g) z)
    ∙ plus_zeros g (pointwise ◌-◌ row g) (point_size ◌-◌ row g ∙ sym (round_size row q))

-- a round that spends the quantity is the last
pub spent_last : (k : ℕ) (row : List ℕ) (q : ℕ) → q ≤ total (round row q) → rounds (suc k) row q ≡ round row q
spent_last k row q s = last_of_all k row q (omega (arith, round_most (pointwise ◌-◌ row (round row q)) (q - total (round row q))))

rounds_last : (k : ℕ) (row : List ℕ) (q : ℕ) → q ≤ lot * k → (total (round row q) < q → total row ≡ 0) → rounds k row q ≡ round row q
rounds_last zero row q h over = sym (nothing (round row q) row (round_size row q) (omega (arith, round_most row q)))
rounds_last (suc k) row q h over =
    let g : List ℕ = round row q in
    ⊎_elim
    (λ (s : total g < q). last_of_all k row q (omega (arith, over s, less_total row g, round_within (pointwise ◌-◌ row g) (q - total g))))
    (λ (s : q ≤ total g). spent_last k row q s)
    (cases_lt (total g) q)

none_beyond : (l : ℕ) (row : List ℕ) → above l row ≡ 0 → total (beyond l row) ≡ 0
none_beyond l [] e = refl
none_beyond l (a ∷ rest) e =
    ⊎_elim (λ (s : l < a). absurd (grind (arith, nat_tests))) (λ (s : a ≤ l). let i = none_beyond l rest (grind (arith, nat_tests)) in omega arith) (cases_lt l a)

last_is : (l : ℕ) (row : List ℕ) (q : ℕ) → last_round l row q ≡ pointwise ◌+◌ (up_to l row) (round (beyond l row) q)
last_is l [] q = refl
last_is l (a ∷ rest) q = ap (λ r. (min a l + min lot (min (a - l) q)) ∷ r) (last_is l rest (q - min lot (min (a - l) q)))

pub last_after : (k l q : ℕ) (row : List ℕ) → Whole l → AllByRecursion Whole row → q ≤ lot * k → (0 < above l row → q < lot * above l row) → last_round l row q ≡ after l k row q
last_after k l q row e h f over =
    let t : total (whole_round (beyond l row)) ≡ lot * above l row = whole_total l row e h in
    let full : total (round (beyond l row) q) < q → total (beyond l row) ≡ 0 =
    λ s. none_beyond l row (
    ⊎_elim
    (λ (some : 0 < above l row). absurd (omega (arith, over some, ap total (not_spent (beyond l row) q s))))
    (λ (none : above l row ≤ 0). omega arith)
    (cases_lt 0 (above l row))
    ) in
    last_is l row q ∙ sym (ap (λ r. pointwise ◌+◌ (up_to l row) r) (rounds_last k (beyond l row) q f full))

-- many rounds at once -------------------------------------------------------------------------------------------------
above_same : (l m : ℕ) (row : List ℕ) → l ≤ m → m < least_above l row → above m row ≡ above l row
above_same l m [] h b = refl
above_same l m (a ∷ rest) h b =
    ⊎_elim
    (λ (s : l < a). let i = above_same l m rest h (grind (arith, nat_tests)) in grind (arith, nat_tests))
    (λ (s : a ≤ l). let i = above_same l m rest h (grind (arith, nat_tests)) in grind (arith, nat_tests))
    (cases_lt l a)

after_same : (l l' k k' q q' : ℕ) (row : List ℕ) → l ≡ l' → k ≡ k' → q ≡ q' → after l k row q ≡ after l' k' row q'
after_same l l' k k' q q' row e f g = ap (λ n. after n k row q) e ∙ ap (λ n. after l' n row q) f ∙ ap (λ n. after l' k' row n) g

jump : (m k l q : ℕ) (row : List ℕ) → Whole l → AllByRecursion Whole row → l + lot * m ≤ least_above l row → m * (lot * above l row) ≤ q → after l (m + k) row q ≡ after (l + lot * m) k row (q - m * (lot * above l row))
jump zero k l q row e h b p = after_same _ _ _ _ _ _ row (omega arith) (omega arith) (omega arith)
jump (suc m) k l q row e h b p =
    let c : ℕ = lot * above l row in
    let s : suc m * c ≡ m * c + c = suc-mul m c in
    let same : above (l + lot * m) row ≡ above l row = above_same l (l + lot * m) row (omega arith) (omega arith) in
    after_same l l (suc m + k) (m + suc k) q q row refl (omega arith) refl
    ∙ jump m (suc k) l q row e h (omega arith) (omega arith)
    ∙ one_round k (l + lot * m) (q - m * c) row (omega arith) h (omega arith)
    ∙ after_same _ _ k k _ _ row (omega arith) refl (omega arith)

-- the least entry above a level ---------------------------------------------------------------------------------------
abbrev has : ℕ → List ℕ → Bool
has x row = list_any (eqb x) row

has_all : (P : ℕ → Type 0) (x : ℕ) (row : List ℕ) → AllByRecursion P row → has x row ≡ true → P x
has_all P x [] h e = absurd (false≢true e)
has_all P x (a ∷ rest) h e =
    ⊎_elim (λ (same : eqb x a ≡ true). subst P (sym (eqb-true x a same)) h.0) (λ (more : has x rest ≡ true). has_all P x rest h.1 more) (or_cases (eqb x a) (has x rest) e)

least_none : (l : ℕ) (row : List ℕ) → above l row ≡ 0 → least_above l row ≡ most_shares
least_none l [] e = refl
least_none l (a ∷ rest) e =
    ⊎_elim (λ (s : l < a). absurd (grind (arith, nat_tests))) (λ (s : a ≤ l). let i = least_none l rest (grind (arith, nat_tests)) in grind (arith, nat_tests)) (cases_lt l a)

least_over : (l : ℕ) (row : List ℕ) → l < most_shares → l < least_above l row
least_over l [] h = h
least_over l (a ∷ rest) h = let i = least_over l rest h in grind (arith, nat_tests)

under_most : (l : ℕ) (row : List ℕ) → AllByRecursion (Lots most_shares) row → 0 < above l row → l < most_shares
under_most l [] h some = absurd (omega arith)
under_most l (a ∷ rest) h some =
    ⊎_elim (λ (s : l < a). omega (arith, h.0.most)) (λ (s : a ≤ l). under_most l rest h.1 (grind (arith, nat_tests))) (cases_lt l a)

least_has : (l : ℕ) (row : List ℕ) → AllByRecursion (Lots most_shares) row → 0 < above l row → has (least_above l row) row ≡ true
least_has l [] h some = absurd (omega arith)
least_has l (a ∷ rest) h some =
    let later : least_above l (a ∷ rest) ≡ least_above l rest → 0 < above l rest → has (least_above l (a ∷ rest)) (a ∷ rest) ≡ true =
    λ e u. or_right (eqb (least_above l (a ∷ rest)) a) (has (least_above l (a ∷ rest)) rest) (ap (λ x. has x rest) e ∙ least_has l rest h.1 u) in
    ⊎_elim
    (λ (s : l < a). ⊎_elim
    (λ (t : least_above l rest < a). later (grind (arith, nat_tests)) (⊎_elim (λ (u : 0 < above l rest). u) (λ (u : above l rest ≤ 0). absurd (omega (arith, least_none l rest (omega arith), h.0.most))) (cases_lt 0 (above l rest))))
    (λ (t : a ≤ least_above l rest). or_left (eqb (least_above l (a ∷ rest)) a) (has (least_above l (a ∷ rest)) rest) (eq-eqb (least_above l (a ∷ rest)) a (grind (arith, nat_tests))))
    (cases_lt (least_above l rest) a))
    (λ (s : a ≤ l). later (grind (arith, nat_tests)) (grind (arith, nat_tests)))
    (cases_lt l a)

pub least_most : (l : ℕ) (row : List ℕ) → least_above l row ≤ most_shares
least_most l [] = omega arith
least_most l (a ∷ rest) = let i = least_most l rest in grind (arith, nat_tests)

pub record Least (l : ℕ) (row : List ℕ) : Type 0 where
  pub over : l < least_above l row
  pub lawful : Lots most_shares (least_above l row)
  pub held : has (least_above l row) row ≡ true

pub least_is : (l : ℕ) (row : List ℕ) → AllByRecursion (Lots most_shares) row → 0 < above l row → Least l row
least_is l row h some =
    let i : has (least_above l row) row ≡ true = least_has l row h some in
    record { over = least_over l row (under_most l row h some); lawful = has_all (Lots most_shares) (least_above l row) row h i; held = i }

-- how many different entries are above a level
abbrev pub kinds : ℕ → List ℕ → ℕ
kinds l [] = 0
kinds l (a ∷ rest) = cond (ltb l a && not (has a rest)) 1 0 + kinds l rest

kinds_le : (l m : ℕ) (row : List ℕ) → l ≤ m → kinds m row ≤ kinds l row
kinds_le l m [] h = omega arith
kinds_le l m (a ∷ rest) h = let i = kinds_le l m rest h in grind (arith, nat_tests)

pub kinds_less : (l m : ℕ) (row : List ℕ) → l < m → has m row ≡ true → kinds m row < kinds l row
kinds_less l m [] h e = absurd (false≢true e)
kinds_less l m (a ∷ rest) h e =
    ⊎_elim
    (λ (same : m ≡ a). ⊎_elim
    (λ (t : has m rest ≡ true). let i = kinds_less l m rest h t in let u : has a rest ≡ true = ap (λ x. has x rest) (sym same) ∙ t in grind (arith, nat_tests))
    (λ (t : has m rest ≡ false). let i = kinds_le l m rest (omega arith) in let u : has a rest ≡ false = ap (λ x. has x rest) (sym same) ∙ t in grind (arith, nat_tests))
    (cases_Bool (has m rest)))
    (λ (other : m ≡ a → ⊥).
    let t : has m rest ≡ true = ⊎_elim (λ (same : eqb m a ≡ true). absurd (other (eqb-true m a same))) (λ (more : has m rest ≡ true). more) (or_cases (eqb m a) (has m rest) e) in
    let i = kinds_less l m rest h t in
    grind (arith, nat_tests))
    (cases_eq m a)

-- the loop: from a level to the next, and the rounds that are left then ----------------------------------------------
pub cost_is : (d m n : ℕ) → d ≡ lot * m → d * n ≡ m * (lot * n)
cost_is d m n e = ap (λ x. x * n) e ∙ mul_assoc lot m n ∙ mul_left_comm lot m n

start_plus : (row later : List ℕ) → length later ≡ length row → pointwise ◌+◌ (up_to 0 row) later ≡ later
start_plus [] [] e = refl
start_plus [] (x ∷ xs) e = absurd (omega arith)
start_plus (a ∷ rest) [] e = absurd (omega arith)
start_plus (a ∷ rest) (x ∷ xs) e = both _ _ _ _ (omega arith) (start_plus rest xs (omega arith))

start_beyond : (row : List ℕ) → beyond 0 row ≡ row
start_beyond [] = refl
start_beyond (a ∷ rest) = both _ _ _ _ (omega arith) (start_beyond rest)

pub after_none : (k q : ℕ) (row : List ℕ) → after 0 k row q ≡ rounds k row q
after_none k q row = ap (λ r. pointwise ◌+◌ (up_to 0 row) (rounds k r q)) (start_beyond row) ∙ start_plus row (rounds k row q) (rounds_size k row q)

-- what is kept between two levels: rounds of what is left, after whole rounds up to the level l, give what the quantity q gives
pub record Stands (row : List ℕ) (q l left : ℕ) : Type 0 where
  pub each : AllByRecursion (Lots most_shares) row
  pub rounds : ℕ
  pub enough : left ≤ lot * rounds
  pub same : after l rounds row left ≡ in_rounds row q
  pub within : l + left ≤ q
  pub lots : Whole l

pub stands_first : (row : List ℕ) (q : ℕ) → Shareable row q → Stands row q 0 q
stands_first row q h = record { each = h.entries.each; rounds = q / lot; enough = omega (arith, h.quantity.lots); same = after_none (q / lot) q row; within = omega arith; lots = refl }

pub none_left : (row : List ℕ) (q l left : ℕ) → Stands row q l left → above l row ≡ 0 → last_round l row left ≡ in_rounds row q
none_left row q l left s z = last_after s.rounds l left row s.lots (wholes row s.each) s.enough (λ some. absurd (omega arith)) ∙ s.same

module _ (row : List ℕ) (q l left n least : ℕ) (s : Stands row q l left) (some : 0 < n) (count : n ≡ above l row) (next : least ≡ least_above l row) where
  pub is_next : Least l row
  is_next = least_is l row s.each (omega arith)

  pub next_level : (least - l) * n ≤ left → Stands row q least (left - (least - l) * n)
  next_level pays' =
      let k : ℕ = s.rounds in
      let m : ℕ = (least - l) / lot in
      let whole = s.lots in
      let f = s.enough in
      let d : least - l ≡ lot * m = omega (arith, is_next.lawful.lots, is_next.over) in
      let c : (least - l) * n ≡ m * (lot * above l row) = cost_is (least - l) m n d ∙ ap (λ x. m * (lot * x)) count in
      let once : least - l ≤ (least - l) * n = le-mul_of_pos_right (least - l) some in
      record {
        each = s.each;
        rounds = k - m;
        enough = omega arith;
        same = after_same least (l + lot * m) (k - m) (k - m) (left - (least - l) * n) (left - m * (lot * above l row)) row (omega (arith, is_next.over)) refl (omega arith)
            ∙ sym (jump m (k - m) l left row s.lots (wholes row s.each) (omega (arith, is_next.over)) (omega arith))
            ∙ after_same l l (m + (k - m)) k left left row refl (omega arith) refl
            ∙ s.same;
        within = omega (arith, s.within, is_next.over);
        lots = ap (λ x. x % lot) next ∙ is_next.lawful.lots;
      }

  pub last_level : left < (least - l) * n → (m : ℕ) → m ≡ left / (lot * n) → last_round (l + lot * m) row (left - lot * m * n) ≡ in_rounds row q
  last_level over m d =
      let k : ℕ = s.rounds in
      let whole = s.lots in
      let f = s.enough in
      let u : ℕ = lot * n in
      let m₀ : ℕ = (least - l) / lot in
      let d₀ : least - l ≡ lot * m₀ = omega (arith, is_next.lawful.lots, is_next.over) in
      let c₀ : (least - l) * n ≡ m₀ * u = cost_is (least - l) m₀ n d₀ in
      let c : lot * m * n ≡ m * u = cost_is (lot * m) m n refl in
      let is-u : u ≡ lot * above l row = ap (λ x. lot * x) count in
      let at-u : m * u ≡ m * (lot * above l row) = ap (λ x. m * x) is-u in
      let d' : m * u ≡ left / u * u = ap (λ x. x * u) d in
      let b : left / u * u ≤ left = div-mul-le_self left u in
      let b' : left < left / u * u + u = lt-div-mul-add {a = left} {b = u} (omega arith) in
      let fewer : m < m₀ = lt_of_mul-lt-mul_right u (omega arith) in
      let once : m * lot ≤ m * u = mul-le-mul_left {m = lot} {n = u} m (omega arith) in
      let same : above (l + lot * m) row ≡ above l row = above_same l (l + lot * m) row (omega arith) (omega (arith, is_next.over)) in
      last_after (k - m) (l + lot * m) (left - lot * m * n) row (omega arith) (wholes row s.each) (omega arith) (λ _. omega arith)
      ∙ after_same (l + lot * m) (l + lot * m) (k - m) (k - m) (left - lot * m * n) (left - m * (lot * above l row)) row refl refl (omega arith)
      ∙ sym (jump m (k - m) l left row s.lots (wholes row s.each) (omega (arith, is_next.over)) (omega arith))
      ∙ after_same l l (m + (k - m)) k left left row refl (omega arith) refl
      ∙ s.same
