-- Bytes that are put one after the other, and bytes that wait.
use Rattle.std.proofs.Common.{◌≡◌, ℕ, Bool, true, false, ◌+◌, ◌≤◌, List, [], ◌++◌, length, take, drop, refl, sym, ap, ◌∙◌, subst, append_assoc, arith}
use Rattle.std.proofs.lemmas.List.{append-nil, take-append-le, drop-append-le, drop-drop, length-append, length-drop}
use Rattle.std.proofs.Math.Seq.{take-add}
use Rattle.std.specs.Io.KnownBytes.{Appends}
use Rattle.streams.specs.Sinks.{SinkState, Took, behind}
use Rattle.streams.proofs.Known.{appends_none, appends_more, keeps_same}

unlike : {A : Type 0} → true ≡ false → A
unlike h = absurd (let z : ◌≡◌ {A = ℕ} 0 1 = cc in omega arith)

pub took_none : (a : SinkState) → Took a a []
took_none a =
    record {
      count = 0;
      within = omega arith;
      front = appends_none a.arrived a.arrived (keeps_same a.arrived);
      rest = λ _. sym (append-nil a.owed);
      lasts = λ t. (t, refl);
    }

module _ {a b c : SinkState} (xs ys : List ℕ) (p : Took a b xs) (q : Took b c ys) where
  front_same : take p.count (a.owed ++ (xs ++ ys)) ≡ take p.count (a.owed ++ xs)
  front_same = ap (take p.count) (sym (append_assoc a.owed xs ys)) ∙ take-append-le p.count (a.owed ++ xs) ys p.within

  longer : p.count ≤ length (a.owed ++ (xs ++ ys))
  longer = omega (arith, ap length (append_assoc a.owed xs ys), length-append (a.owed ++ xs) ys, p.within)

  -- the first put broke it, so the second took nothing
  stopped : b.broken ≡ true → Took a c (xs ++ ys)
  stopped e =
      let l = q.lasts e in
      record {
        count = p.count;
        within = longer;
        front =
            subst (Appends a.arrived c.arrived) (append-nil (take p.count (a.owed ++ xs)) ∙ sym front_same)
            (appends_more a.arrived b.arrived c.arrived (take p.count (a.owed ++ xs)) [] p.front (subst (λ n. Appends b.arrived c.arrived (take n (b.owed ++ ys))) l.1 q.front));
        rest = λ f. unlike (sym l.0 ∙ f);
        lasts = λ t. (l.0, (p.lasts t).1);
      }

  went_on : b.broken ≡ false → Took a c (xs ++ ys)
  went_on e =
      let all = a.owed ++ (xs ++ ys) in
      let tail : b.owed ++ ys ≡ drop p.count all = ap (λ l. l ++ ys) (p.rest e) ∙ sym (drop-append-le p.count (a.owed ++ xs) ys p.within) ∙ ap (drop p.count) (append_assoc a.owed xs ys) in
      record {
        count = p.count + q.count;
        within = omega (arith, longer, q.within, ap length tail, length-drop p.count all);
        front =
            subst (Appends a.arrived c.arrived) (ap (λ l. l ++ take q.count (b.owed ++ ys)) (sym front_same) ∙ ap (λ l. take p.count all ++ take q.count l) tail ∙ sym (take-add p.count q.count all))
            (appends_more a.arrived b.arrived c.arrived (take p.count (a.owed ++ xs)) (take q.count (b.owed ++ ys)) p.front q.front);
        rest = λ f. q.rest f ∙ ap (drop q.count) tail ∙ drop-drop q.count p.count all;
        lasts = λ t. unlike (sym (p.lasts t).0 ∙ e);
      }

  pub took_more : Took a c (xs ++ ys)
  took_more = go b.broken refl
    where
      go : (broken : Bool) → b.broken ≡ broken → Took a c (xs ++ ys)
      go true e = stopped e
      go false e = went_on e

-- what waited was passed on, and then some bytes
pub passed : {a b : SinkState} (waited left xs : List ℕ) → left ≡ [] → Took a b (waited ++ xs) → Took (behind a waited) (behind b left) xs
passed {a} {b} waited left xs e p =
    let all : a.owed ++ (waited ++ xs) ≡ (a.owed ++ waited) ++ xs = sym (append_assoc a.owed waited xs) in
    record {
      count = p.count;
      within = omega (arith, p.within, ap length all);
      front = subst (λ l. Appends a.arrived b.arrived (take p.count l)) all p.front;
      rest = λ f. ap (λ l. b.owed ++ l) e ∙ append-nil b.owed ∙ p.rest f ∙ ap (drop p.count) all;
      lasts = p.lasts;
    }

-- nothing waited
pub direct : {a b : SinkState} (waited left xs : List ℕ) → waited ≡ [] → left ≡ [] → Took a b xs → Took (behind a waited) (behind b left) xs
direct {a} {b} waited left xs none e p = passed waited left xs e (subst (λ l. Took a b (l ++ xs)) (sym none) p)

-- some bytes more wait
pub waits : (a : SinkState) (waited left xs : List ℕ) → left ≡ waited ++ xs → Took (behind a waited) (behind a left) xs
waits a waited left xs e =
    record {
      count = 0;
      within = omega arith;
      front = appends_none a.arrived a.arrived (keeps_same a.arrived);
      rest = λ _. ap (λ l. a.owed ++ l) e ∙ sym (append_assoc a.owed waited xs);
      lasts = λ t. (t, refl);
    }

-- what waited was passed on, and the sink is handed back
pub handed : {a b : SinkState} (waited : List ℕ) → Took a b (waited ++ []) → Took (behind a waited) b []
handed {a} {b} waited p = subst (λ l. Took (behind a waited) (record b { owed = l }) []) (append-nil b.owed) (passed waited [] [] refl p)

pub nothing_waits : (a : SinkState) → behind a [] ≡ a
nothing_waits a = ap (λ (l : List ℕ). record a { owed = l }) (append-nil a.owed)
