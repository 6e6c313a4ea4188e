-- The laws of a day hold of every text.
use Rattle.std.proofs.Common.{◌≡◌, ℕ, suc, ◌+◌, ◌≤◌, Bool, true, false, cond, not, ◌&&◌, nat_lt, List, [], ◌∷◌, ◌++◌, length, map, take, ⊎_elim, Result, Ok, Err, sym, refl, ap, ◌∙◌, subst, append_assoc, arith}
use Rattle.std.proofs.lemmas.List.{append-nil}
use Rattle.std.proofs.lemmas.List.Elements.{filter_map-append}
use Rattle.std.proofs.lemmas.Bool.Decides.{nat_tests}
use Rattle.std.specs.List.{AllZip}
use Rattle.market.specs.declared.words.TapeLine.{TapeLine}
use Rattle.sharing.specs.Shares.{LawfulRule}
use Rattle.text.specs.Inspection.{lines_of}
use Rattle.text.specs.declared.fault.LineFault.{LineFault}
use Rattle.text.specs.declared.printed.Printed.{Printed}
use Rattle.text.specs.declared.printed.Printed.TheVariants.{Accepted, Tape, Refused}
use Rattle.text.specs.declared.printed.Printed.TheVariants as shown
use Rattle.replay.specs.Days.{Day, Phase, Loading, Closed, new_day, Rule, Outcome, Answer}
use Rattle.replay.specs.Days as days
use Rattle.replay.specs.Calls.{is_phase, handed, step, after_calls}
use Rattle.replay.specs.Questions.{Totals, totals}
use Rattle.replay.specs.Lists.{total}
use Rattle.replay.specs.SharesAddUp.{print_of}
use Rattle.replay.specs.StopsUnseen.{SameLine, Pair, same, loads, enters, Pairs, SameSeen, AllSeen}
use Rattle.playback.specs.declared.call.Call.{Call}
use Rattle.playback.specs.Stages.{call_of}
use Rattle.playback.specs.Laws.{ListLaws}
use Rattle.playback.proofs.Lawful.{list_laws}
use Rattle.session.specs.Hearing.{heard, calls_among}
use Rattle.session.specs.Transcripts.{spoken, totals_line, closing, said, said_of, too_long, printed, transcript}
use Rattle.session.specs.Above.{tape_line, tape_in, Stands}
use Rattle.session.specs.Refusals.{refusals_in}
use Rattle.session.specs.Laws.{calls_of, last_day, brought, Alike, SamePrinted, equal, on_tape, totalled, TextLaws}
use Rattle.session.proofs.Said.{tape_said, tape_after}
use Rattle.session.proofs.Along.{Along, along_at}
use Rattle.session.proofs.Numbered.{all_said}
use Rattle.session.proofs.Standing.{stands_all}
use Rattle.session.proofs.Refusing.{refused_printed}
use Rattle.session.proofs.Phases.{behind, call_phase}

-- a text that is not too long is played
pub played : (gifts : Rule) (room free : ℕ) (text : List ℕ) → length text ≤ 32768 → transcript gifts room free text ≡ printed gifts room free 1 new_day (heard text)
played gifts room free text h = ap (λ b. cond b (too_long ∷ []) (printed gifts room free 1 new_day (heard text))) short
  where
    short : nat_lt 32768 (length text) ≡ false
    short = grind (arith, nat_tests)

-- the tape ---------------------------------------------------------------------------------------------------------------
tape_printed : (gifts : Rule) (room free n : ℕ) (d : Day) (xs : List (Result Call LineFault))
    → (after_calls gifts room d (map (call_of free) (calls_among xs))).tape ≡ d.tape ++ tape_in (printed gifts room free n d xs)
unfolding printed after_calls
tape_printed gifts room free n d [] = sym (append-nil d.tape)
tape_printed gifts room free n d (Ok c ∷ xs) =
    let r : Outcome = step gifts room d (call_of free c) in
    let later : List Printed = printed gifts room free (n + 1) r.day xs in
    tape_printed gifts room free (n + 1) r.day xs
    ∙ ap (λ ls. ls ++ tape_in later) (tape_after gifts room d (call_of free c))
    ∙ append_assoc d.tape (handed d r.day) (tape_in later)
    ∙ ap (λ ls. d.tape ++ (ls ++ tape_in later)) (sym (tape_said n d r))
    ∙ ap (λ ls. d.tape ++ ls) (sym (filter_map-append tape_line (said n d r) later))
tape_printed gifts room free n d (Err f ∷ xs) = tape_printed gifts room free (n + 1) d xs

taped : (gifts : Rule) (room free : ℕ) (text : List ℕ) → (last_day gifts room free text).tape ≡ tape_in (printed gifts room free 1 new_day (heard text))
unfolding new_day
taped gifts room free text = tape_printed gifts room free 1 new_day (heard text)

-- place by place ----------------------------------------------------------------------------------------------------------
zip_append : {A : Type 0} (R : A → A → Type 0) (ps ps' qs qs' : List A) → AllZip R ps ps' → AllZip R qs qs' → AllZip R (ps ++ qs) (ps' ++ qs')
zip_append R [] [] qs qs' a b = b
zip_append R [] (p ∷ ps) qs qs' a b = absurd a
zip_append R (p ∷ ps) [] qs qs' a b = absurd a
zip_append R (p ∷ ps) (p' ∷ ps') qs qs' a b = (a.0, zip_append R ps ps' qs qs' a.1 b)

-- the prints of two tapes that are alike come to the same shares
print_alike : (N : ℕ → Bool) (l m : TapeLine) → SameLine N l m → print_of l ≡ print_of m
print_alike N l m h = ⊎_elim (λ e. ap print_of e) (λ x. ap print_of x.4 ∙ sym (ap print_of x.5)) h

prints_alike : (N : ℕ → Bool) (ls ms : List TapeLine) → AllZip (SameLine N) ls ms → total print_of ls ≡ total print_of ms
prints_alike N [] [] a = refl
prints_alike N [] (m ∷ ms) a = absurd a
prints_alike N (l ∷ ls) [] a = absurd a
prints_alike N (l ∷ ls) (m ∷ ms) a = ap (λ n. n + total print_of ls) (print_alike N l m a.0) ∙ ap (λ n. print_of m + n) (prints_alike N ls ms a.1)

-- unelected stops --------------------------------------------------------------------------------------------------------
module _ (gifts : Rule) (N : ℕ → Bool) (room free : ℕ) where
  pairs_of : (d e : Day) (xs ys : List (Result Call LineFault)) → Alike gifts N room free d e xs ys → Pairs gifts N room d e (map (call_of free) (calls_among xs)) (map (call_of free) (calls_among ys))
  pairs_of d e [] [] a = tt
  pairs_of d e [] (y ∷ ys) a = absurd a
  pairs_of d e (x ∷ xs) [] a = absurd a
  pairs_of d e (Ok c ∷ xs) (Ok c' ∷ ys) a = (a.0, pairs_of (step gifts room d (call_of free c)).day (step gifts room e (call_of free c')).day xs ys a.1)
  pairs_of d e (Ok c ∷ xs) (Err f ∷ ys) a = absurd a.0
  pairs_of d e (Err f ∷ xs) (Ok c ∷ ys) a = absurd a.0
  pairs_of d e (Err f ∷ xs) (Err f' ∷ ys) a = pairs_of d e xs ys a.1

  pair_phase : {d e : Day} {c c' : days.Call} → Pair N room d e c c' → (f : Phase) → behind f c ≡ behind f c'
  pair_phase same f = refl
  pair_phase (loads h) f = refl
  pair_phase (enters h) f = refl

  zip_equal : (ps : List Printed) → AllZip (SamePrinted N) ps ps
  zip_equal [] = tt
  zip_equal (p ∷ ps) = (equal, zip_equal ps)

  zip_tape : (ls ks : List TapeLine) → AllZip (SameLine N) ls ks → AllZip (SamePrinted N) (map Tape ls) (map Tape ks)
  zip_tape [] [] a = tt
  zip_tape [] (k ∷ ks) a = absurd a
  zip_tape (l ∷ ls) [] a = absurd a
  zip_tape (l ∷ ls) (k ∷ ks) a = (on_tape a.0, zip_tape ls ks a.1)

  -- printed shares are those of the P lines after each of some calls
  abbrev Adds : Day → List days.Call → Type 0
  Adds d cs = (k : ℕ) → (totals (after_calls gifts room d (take k cs))).printed ≡ total print_of (after_calls gifts room d (take k cs)).tape

  zip_totals : (t u : Totals) → t.printed ≡ u.printed → SamePrinted N (totals_line t) (totals_line u)
  zip_totals t u e = subst (λ p. SamePrinted N (totals_line t) (shown.Totals u.accepted p u.cancelled u.«open»)) e totalled

  zip_closing : (f f' : Phase) (d e : Day) → f ≡ f' → d.phase ≡ e.phase → (totals d).printed ≡ (totals e).printed → AllZip (SamePrinted N) (closing f d) (closing f' e)
  zip_closing f f' d e p q t =
      subst (λ b. AllZip (SamePrinted N) (closing f d) (cond b (totals_line (totals e) ∷ []) [])) (λ i. is_phase Closed (q i) && not (is_phase Closed (p i))) (go (is_phase Closed d.phase && not (is_phase Closed f)))
    where
      go : (b : Bool) → AllZip (SamePrinted N) (cond b (totals_line (totals d) ∷ []) []) (cond b (totals_line (totals e) ∷ []) [])
      go true = (zip_totals (totals d) (totals e) t, tt)
      go false = tt

  zip_said : (n : ℕ) (d e : Day) (r r' : Outcome) → d.phase ≡ e.phase → r.day.phase ≡ r'.day.phase → (totals r.day).printed ≡ (totals r'.day).printed → SameSeen N d e r r' → AllZip (SamePrinted N) (said n d r) (said n e r')
  zip_said n d e r r' p q t s =
      zip_append (SamePrinted N) (spoken n r.answer ++ map Tape (handed d r.day)) (spoken n r'.answer ++ map Tape (handed e r'.day)) _ _
      (zip_append (SamePrinted N) (spoken n r.answer) (spoken n r'.answer) _ _ (subst (λ a. AllZip (SamePrinted N) (spoken n r.answer) (spoken n a)) s.answer (zip_equal (spoken n r.answer))) (zip_tape (handed d r.day) (handed e r'.day) s.lines))
      (zip_closing d.phase e.phase r.day r'.day p q t)

  zipped : (n : ℕ) (d e : Day) (xs ys : List (Result Call LineFault)) → d.phase ≡ e.phase → AllZip (SameLine N) d.tape e.tape → Adds d (map (call_of free) (calls_among xs)) → Adds e (map (call_of free) (calls_among ys)) → Alike gifts N room free d e xs ys
      → AllSeen gifts N room d e (map (call_of free) (calls_among xs)) (map (call_of free) (calls_among ys)) → AllZip (SamePrinted N) (printed gifts room free n d xs) (printed gifts room free n e ys)
  unfolding printed after_calls
  zipped n d e [] [] p l h k a s = tt
  zipped n d e [] (y ∷ ys) p l h k a s = absurd a
  zipped n d e (x ∷ xs) [] p l h k a s = absurd a
  zipped n d e (Ok c ∷ xs) (Err f ∷ ys) p l h k a s = absurd a.0
  zipped n d e (Err f ∷ xs) (Ok c ∷ ys) p l h k a s = absurd a.0
  zipped n d e (Err f ∷ xs) (Err f' ∷ ys) p l h k a s =
      zip_append (SamePrinted N) (said_of gifts room free n d (Err f)) (said_of gifts room free n e (Err f')) _ _
      (subst (λ g. AllZip (SamePrinted N) (said_of gifts room free n d (Err f)) (said_of gifts room free n e (Err g))) a.0 (zip_equal (said_of gifts room free n d (Err f))))
      (zipped (n + 1) d e xs ys p l h k a.1 s)
  zipped n d e (Ok c ∷ xs) (Ok c' ∷ ys) p l h k a s =
      let r : Outcome = step gifts room d (call_of free c) in
      let r' : Outcome = step gifts room e (call_of free c') in
      let q : r.day.phase ≡ r'.day.phase = call_phase gifts room d (call_of free c) ∙ ap (λ f. behind f (call_of free c)) p ∙ pair_phase a.0 e.phase ∙ sym (call_phase gifts room e (call_of free c')) in
      let m : AllZip (SameLine N) r.day.tape r'.day.tape
      = subst (λ ls. AllZip (SameLine N) ls r'.day.tape) (sym (tape_after gifts room d (call_of free c)))
      (subst (λ ls. AllZip (SameLine N) (d.tape ++ handed d r.day) ls) (sym (tape_after gifts room e (call_of free c'))) (zip_append (SameLine N) d.tape e.tape (handed d r.day) (handed e r'.day) l s.0.lines)) in
      let t : (totals r.day).printed ≡ (totals r'.day).printed = h 1 ∙ prints_alike N r.day.tape r'.day.tape m ∙ sym (k 1) in
      zip_append (SamePrinted N) (said n d r) (said n e r') _ _ (zip_said n d e r r' p q t s.0) (zipped (n + 1) r.day r'.day xs ys q m (λ i. h (suc i)) (λ i. k (suc i)) a.1 s.1)

none_yet : (N : ℕ → Bool) → AllZip (SameLine N) new_day.tape new_day.tape
unfolding new_day
none_yet N = tt

-- the laws ---------------------------------------------------------------------------------------------------------------
pub text_laws : (gifts : Rule) → LawfulRule gifts → (room free : ℕ) (text : List ℕ) → TextLaws gifts room free text
text_laws gifts h room free text =
    let laws : ListLaws gifts room (calls_of free text) = list_laws gifts h room (calls_of free text) in
    record {
      calls = laws;
      tape = λ short. ap tape_in (played gifts room free text short) ∙ sym (taped gifts room free text);
      invisible = λ text' N short short' alike x y.
          subst (λ ps. AllZip (SamePrinted N) ps (transcript gifts room free text')) (sym (played gifts room free text short))
          (subst (λ ps. AllZip (SamePrinted N) (printed gifts room free 1 new_day (heard text)) ps) (sym (played gifts room free text' short'))
          (zipped gifts N room free 1 new_day new_day (heard text) (heard text') refl (none_yet N) (λ k. (laws.add_up k).0.printed) (λ k. ((list_laws gifts h room (calls_of free text')).add_up k).0.printed) alike
          (laws.invisible N (calls_of free text') (pairs_of gifts N room free new_day new_day (heard text) (heard text') alike) x y)));
      stands = λ above below p short e.
          along_at (Stands room free (brought gifts room free text)) [] above below p
          (subst (λ ps. Along (Stands room free (brought gifts room free text)) [] ps) (sym (played gifts room free text short) ∙ e) (stands_all gifts h room free (heard text) (all_said Loading (lines_of text))));
      refused = λ short. ap refusals_in (played gifts room free text short) ∙ refused_printed gifts room free 1 new_day (heard text);
    }
