-- What was read of a text's first line, and the lines behind it. Assumes nothing.
use Rattle.std.proofs.Common.{◌≡◌, ℕ, ◌+◌, ◌-◌, ◌<◌, ◌≤◌, true, false, cond, eqb, List, [], ◌∷◌, ◌++◌, length, drop, is_ok, is_err, Ok, Err, Result, sym, refl, ap, ◌∙◌, ⊎_elim, append_assoc, arith}
use Rattle.std.proofs.lemmas.List.{length-drop, drop_all}
use Rattle.std.proofs.lemmas.Bool.Decides.{nat_tests}
use Rattle.std.proofs.lemmas.Bool.{ne_eqb, cases_lt}
use Rattle.text.specs.declared.refusal.Refusal.TheVariants.{EmptyText}
use Rattle.text.specs.declared.record.Record.{Record}
use Rattle.text.specs.declared.fault.LineFault.{LineFault}
use Rattle.text.specs.declared.read.Fault.{Fault}
use Rattle.text.specs.Cuts.{line_of, rest_of, next_of}
use Rattle.text.specs.Reading.{fault_at, record_in, read_as, read_of}
use Rattle.text.specs.Inspection.{on_first, lines_of, shown_as, shown_from, one, good_in, refused_in}
use Rattle.text.proofs.Marks.{place, past_is}

pub some_left : (text : List ℕ) → false ≡ eqb (length text) 0 → 0 < length text
some_left text e = grind (arith, nat_tests)

module _ (text : List ℕ) (some : 0 < length text) where
  not_empty : read_of text ≡ read_as (record_in (line_of text)) text
  not_empty = ap (λ b. cond b (Err (record { cause = EmptyText; field = 0; next = 0 })) (read_as (record_in (line_of text)) text)) (ne_eqb (length text) 0 (λ none. omega arith))

  pub read_good : (x : Record × List ℕ) → Ok x ≡ read_of text → (record_in (line_of text) ≡ Ok x.0) × (x.1 ≡ rest_of text)
  read_good x e = go (record_in (line_of text)) (e ∙ not_empty)
    where
      go : (r : Result Record LineFault) → Ok x ≡ read_as r text → (r ≡ Ok x.0) × (x.1 ≡ rest_of text)
      go (Ok r) found = let same : ◌≡◌ {A = Record × List ℕ} x (r, rest_of text) = cc in (ap (λ (y : Record × List ℕ). Ok y.0) (sym same), ap (λ (y : Record × List ℕ). y.1) same)
      go (Err f) found = cc

  pub read_bad : (f : Fault) → Err f ≡ read_of text → (record_in (line_of text) ≡ Err (fault_at f.cause f.field)) × (f.next ≡ next_of text)
  read_bad f e = go (record_in (line_of text)) (e ∙ not_empty)
    where
      go : (r : Result Record LineFault) → Err f ≡ read_as r text → (r ≡ Err (fault_at f.cause f.field)) × (f.next ≡ next_of text)
      go (Ok r) found = cc
      go (Err g) found = let same : f ≡ record { cause = g.cause; field = g.field; next = next_of text } = cc in (ap (λ (y : Fault). Err (fault_at y.cause y.field)) (sym same), ap (λ (y : Fault). y.next) same)

-- the lines of a text: its first line, and those of the rest
pub lines_more : (text : List ℕ) → 0 < length text → lines_of text ≡ line_of text ∷ lines_of (rest_of text)
lines_more [] some = absurd (omega arith)
lines_more (c ∷ []) some = elim (eqb c 10) as (λ b. cond b ([] ∷ []) (on_first c []) ≡ cond b [] (c ∷ []) ∷ lines_of (cond b [] [])) [ true ↦ refl | false ↦ refl ]
lines_more (c ∷ d ∷ cs) some =
    let i = lines_more (d ∷ cs) (omega arith) in
    elim (eqb c 10) as (λ b. cond b ([] ∷ lines_of (d ∷ cs)) (on_first c (lines_of (d ∷ cs))) ≡ cond b [] (c ∷ line_of (d ∷ cs)) ∷ lines_of (cond b (d ∷ cs) (rest_of (d ∷ cs)))) [ true ↦ refl | false ↦ ap (on_first c) i ]

-- what is left from where the next line begins
drop_back : (n : ℕ) (xs : List ℕ) → drop (length xs - length (drop n xs)) xs ≡ drop n xs
drop_back n xs =
    ⊎_elim
    (λ (long : length xs < n). drop_all (length xs - length (drop n xs)) xs (simp length-drop (omega arith)) ∙ sym (drop_all n xs (omega arith)))
    (λ (short : n ≤ length xs). ap (λ k. drop k xs) (let same : length xs - length (drop n xs) ≡ n = simp length-drop (omega arith) in same))
    (cases_lt (length xs) n)

pub next_rest : (text : List ℕ) (next : ℕ) → next ≡ next_of text → drop next text ≡ rest_of text
next_rest text next e =
    ap (λ k. drop k text) (e ∙ ap (λ l. length text - length l) (sym (past_is 10 text))) ∙ drop_back (place 10 text + 1) text ∙ past_is 10 text

-- one line more
module _ (text : List ℕ) (some : 0 < length text) (rest : List ℕ) (is : rest ≡ rest_of text) where
  ahead : lines_of text ≡ line_of text ∷ lines_of rest
  ahead = lines_more text some ∙ ap (λ l. line_of text ∷ lines_of l) (sym is)

  pub shown_more : (n m : ℕ) (out after all : List ℕ) → m ≡ n + 1 → after ≡ out ++ shown_as n (record_in (line_of text)) → out ++ shown_from n (lines_of text) ≡ all → after ++ shown_from m (lines_of rest) ≡ all
  shown_more n m out after all next e inv =
      ap (λ k. after ++ shown_from k (lines_of rest)) next ∙ ap (λ l. l ++ shown_from (n + 1) (lines_of rest)) e ∙ append_assoc out (shown_as n (record_in (line_of text))) (shown_from (n + 1) (lines_of rest)) ∙ ap (λ ls. out ++ shown_from n ls) (sym ahead) ∙ inv

  pub good_more : good_in (lines_of text) ≡ one (is_ok (record_in (line_of text))) + good_in (lines_of rest)
  good_more = ap good_in ahead

  pub refused_more : refused_in (lines_of text) ≡ one (is_err (record_in (line_of text))) + refused_in (lines_of rest)
  refused_more = ap refused_in ahead

-- each line is counted once
pub counted : {A E : Type 0} (r : Result A E) → one (is_ok r) + one (is_err r) ≡ 1
counted (Ok a) = refl
counted (Err e) = refl
