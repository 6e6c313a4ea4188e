-- A line taken apart at its tabs and put together again. Assumes nothing.
use Rattle.std.proofs.Common.{◌≡◌, ℕ, zero, suc, ◌+◌, ◌<◌, Bool, true, false, cond, eqb, List, [], ◌∷◌, ◌++◌, length, get_or, sym, refl, ap, ◌∙◌, append-nil, arith}
use Rattle.std.specs.Char.{is_ascii_digit}
use Rattle.std.specs.Str.{all_ascii_digits}
use Rattle.std.proofs.lemmas.Bool.Decides.{nat_tests}
use Rattle.std.proofs.lemmas.Bool.{eq-eqb, ne_eqb}
use Rattle.text.specs.Cuts.{up_to, past, marks, field_at}
use Rattle.text.specs.Written.{tabbed}

-- a text with no mark in it, alone and before a mark
module _ (m : ℕ) where
  pub up_to_free : (xs ys : List ℕ) → marks m xs ≡ 0 → up_to m (xs ++ m ∷ ys) ≡ xs
  up_to_free [] ys e = ap (λ b. cond b [] (m ∷ up_to m ys)) (eq-eqb m m refl)
  up_to_free (x ∷ xs) ys e = go (eqb x m) (up_to_free xs ys) e
    where
      go : (b : Bool) → (marks m xs ≡ 0 → up_to m (xs ++ m ∷ ys) ≡ xs) → cond b (1 + marks m xs) (marks m xs) ≡ 0 → cond b [] (x ∷ up_to m (xs ++ m ∷ ys)) ≡ x ∷ xs
      go true ih none = absurd (omega arith)
      go false ih none = ap (λ l. x ∷ l) (ih none)

  pub past_free : (xs ys : List ℕ) → marks m xs ≡ 0 → past m (xs ++ m ∷ ys) ≡ ys
  past_free [] ys e = ap (λ b. cond b ys (past m ys)) (eq-eqb m m refl)
  past_free (x ∷ xs) ys e = go (eqb x m) (past_free xs ys) e
    where
      go : (b : Bool) → (marks m xs ≡ 0 → past m (xs ++ m ∷ ys) ≡ ys) → cond b (1 + marks m xs) (marks m xs) ≡ 0 → cond b (xs ++ m ∷ ys) (past m (xs ++ m ∷ ys)) ≡ ys
      go true ih none = absurd (omega arith)
      go false ih none = ih none

  pub up_to_all : (xs : List ℕ) → marks m xs ≡ 0 → up_to m xs ≡ xs
  up_to_all [] e = refl
  up_to_all (x ∷ xs) e = go (eqb x m) (up_to_all xs) e
    where
      go : (b : Bool) → (marks m xs ≡ 0 → up_to m xs ≡ xs) → cond b (1 + marks m xs) (marks m xs) ≡ 0 → cond b [] (x ∷ up_to m xs) ≡ x ∷ xs
      go true ih none = absurd (omega arith)
      go false ih none = ap (λ l. x ∷ l) (ih none)

  pub marks_append : (xs ys : List ℕ) → marks m (xs ++ ys) ≡ marks m xs + marks m ys
  marks_append [] ys = omega arith
  marks_append (x ∷ xs) ys =
      let ih = marks_append xs ys in
      elim (eqb x m) as (λ b. cond b (1 + marks m (xs ++ ys)) (marks m (xs ++ ys)) ≡ cond b (1 + marks m xs) (marks m xs) + marks m ys) [ true ↦ omega arith | false ↦ ih ]

  -- a text with a mark is what stands before it, the mark, and what stands behind it
  pub at_mark : (xs : List ℕ) (n : ℕ) → marks m xs ≡ suc n → (xs ≡ up_to m xs ++ m ∷ past m xs) × (marks m (past m xs) ≡ n)
  at_mark [] n e = absurd (omega arith)
  at_mark (x ∷ xs) n e = go (eqb x m) refl (at_mark xs n) e
    where
      go : (b : Bool) → eqb x m ≡ b → (marks m xs ≡ suc n → (xs ≡ up_to m xs ++ m ∷ past m xs) × (marks m (past m xs) ≡ n)) → cond b (1 + marks m xs) (marks m xs) ≡ suc n → (x ∷ xs ≡ cond b [] (x ∷ up_to m xs) ++ m ∷ cond b xs (past m xs)) × (marks m (cond b xs (past m xs)) ≡ n)
      go true is ih some = (ap (λ y. y ∷ xs) (let same : x ≡ m = grind (arith, nat_tests) in same), omega arith)
      go false is ih some = let i = ih some in (ap (λ l. x ∷ l) i.0, i.1)

  -- digits hold no mark below them
  pub digits_free : (ds : List ℕ) → m < 48 → all_ascii_digits ds ≡ true → marks m ds ≡ 0
  digits_free [] h e = refl
  digits_free (d ∷ ds) h e =
      let digit : is_ascii_digit d ≡ true = grind (arith, nat_tests) in
      let others : all_ascii_digits ds ≡ true = grind (arith, nat_tests) in
      let other : (d ≡ m → ⊥) = λ same. grind (arith, nat_tests) in
      ap (λ b. cond b (1 + marks m ds) (marks m ds)) (ne_eqb d m other) ∙ digits_free ds h others

-- fields that hold no mark
abbrev pub Free : ℕ → List (List ℕ) → Type 0
Free m [] = Unit {0}
Free m (f ∷ fs) = (marks m f ≡ 0) × Free m fs

-- each field of a joined line is found again
pub field_found : (k : ℕ) (f : List ℕ) (fs : List (List ℕ)) → Free 9 (f ∷ fs) → k < length (f ∷ fs) → field_at k (f ++ tabbed fs) ≡ get_or (f ∷ fs) k []
field_found zero f [] p h = ap (up_to 9) (append-nil f) ∙ up_to_all 9 f p.0
field_found zero f (g ∷ gs) p h = up_to_free 9 f (g ++ tabbed gs) p.0
field_found (suc k) f [] p h = absurd (omega arith)
field_found (suc k) f (g ∷ gs) p h = ap (field_at k) (past_free 9 f (g ++ tabbed gs) p.0) ∙ field_found k g gs p.1 (omega arith)

pub tabs_found : (fs : List (List ℕ)) → Free 9 fs → marks 9 (tabbed fs) ≡ length fs
tabs_found [] p = refl
tabs_found (f ∷ fs) p = omega (arith, marks_append 9 f (tabbed fs), tabs_found fs p.1, p.0)

pub lines_free : (fs : List (List ℕ)) → Free 10 fs → marks 10 (tabbed fs) ≡ 0
lines_free [] p = refl
lines_free (f ∷ fs) p = omega (arith, marks_append 10 f (tabbed fs), lines_free fs p.1, p.0)

-- the first n fields of what is left of a line
abbrev pub fields_from : ℕ → List ℕ → List (List ℕ)
fields_from zero rest = []
fields_from (suc n) rest = up_to 9 rest ∷ fields_from n (past 9 rest)

-- a line is its fields, joined by tabs
pub fields_joined : (n : ℕ) (line : List ℕ) → marks 9 line ≡ n → line ≡ up_to 9 line ++ tabbed (fields_from n (past 9 line))
fields_joined zero line e = sym (append-nil (up_to 9 line) ∙ up_to_all 9 line e)
fields_joined (suc n) line e =
    let i = at_mark 9 line n e in
    i.0 ∙ ap (λ l. up_to 9 line ++ 9 ∷ l) (fields_joined n (past 9 line) i.1)
