-- What stands in lent places once one call more is noted there.
use Rattle.std.proofs.Common.{◌≡◌, ℕ, suc, ◌+◌, ◌-◌, ◌<◌, ◌≤◌, Bool, true, false, cond, ◌&&◌, ltb, leb, List, [], ◌∷◌, ◌++◌, map, length, take, drop, set, Result, refl, sym, ap, ◌∙◌, subst, append_assoc, arith}
use Rattle.std.proofs.lemmas.Bool.{and_parts, ltb-true, eqb-true, eq-eqb, ne_eqb}
use Rattle.std.specs.List.{take-map}
use Rattle.std.proofs.lemmas.List.{append-nil, length-append, length-drop, length-map, map-append, map-set, drop-drop}
use Rattle.std.proofs.Math.Nat.{sub-zero}
use Rattle.std.proofs.Math.Seq.{take-append_seam, drop-append-add}
use Rattle.market.specs.declared.words.TapeLine.{TapeLine}
use Rattle.replay.specs.Days.{Answer}
use Rattle.replay.specs.History.{joined}
use Rattle.playback.specs.declared.places.Places.{Places}
use Rattle.playback.specs.declared.reply.Reply.{Reply}
use Rattle.playback.specs.declared.reply.CallRefusal.{CallRefusal}
use Rattle.playback.specs.declared.reply.View.{View}
use Rattle.playback.specs.Fitting.{has_room, fitting, fitting_in, Holds, Continued, SameLent}
use Rattle.playback.specs.Lent.{over}
use Rattle.playback.specs.Replies.{answer_of}
use Rattle.playback.specs.Seen.{Follows, Seen, lines_seen}

true_not_false : true ≡ false → ⊥
true_not_false e = cc

-- one more is written behind the front
over_push : {A : Type 0} (ks ls : List A) (x : A) → length ks < length ls → set (over ks ls) (length ks) x ≡ over (ks ++ x ∷ []) ls
over_push [] [] x h = absurd (omega arith)
over_push [] (l ∷ ls) x h = refl
over_push (k ∷ ks) [] x h = absurd (omega arith)
over_push (k ∷ ks) (l ∷ ls) x h = ap (λ y. k ∷ y) (over_push ks ls x (omega arith))

-- several more
over_append : {A : Type 0} (ks ts ls : List A) → take (length ks) (over ks ls) ++ ts ++ drop (length ks + length ts) (over ks ls) ≡ over (ks ++ ts) ls
over_append ks ts ls =
    (λ i. (take-append_seam ks (drop (length ks) ls)) i ++ ts ++ (drop-append-add ks (drop (length ks) ls) (length ts) ∙ drop-drop (length ts) (length ks) ls) i)
    ∙ ap (λ n. ks ++ ts ++ drop n ls) (sym (length-append ks ts))

-- places that are left behind the front
left : {A : Type 0} (ks ls : List A) → length (over ks ls) - length ks ≡ length ls - length ks
left ks ls = omega (arith, length-append ks (drop (length ks) ls), length-drop (length ks) ls)

joined_push : (xs : List Seen) (x : Seen) → joined (lines_seen (xs ++ x ∷ [])) ≡ joined (lines_seen xs) ++ x.lines
joined_push [] x = append-nil x.lines
joined_push (y ∷ xs) x = ap (λ l. y.lines ++ l) (joined_push xs x) ∙ sym (append_assoc y.lines (joined (lines_seen xs)) x.lines)

-- a list that fits whole
fitting_whole : (r v l : ℕ) (xs : List Seen) → length (fitting r v l xs) ≡ length xs → fitting r v l xs ≡ xs
unfolding fitting
fitting_whole r v l [] e = refl
fitting_whole r v l (x ∷ xs) e = go (has_room r v l (length x.lines)) (fitting_whole (r - 1) (v - 1) (l - length x.lines) xs) e
  where
    go : (b : Bool) → (length (fitting (r - 1) (v - 1) (l - length x.lines) xs) ≡ length xs → fitting (r - 1) (v - 1) (l - length x.lines) xs ≡ xs) → length (cond b (x ∷ fitting (r - 1) (v - 1) (l - length x.lines) xs) []) ≡ length (x ∷ xs) → cond b (x ∷ fitting (r - 1) (v - 1) (l - length x.lines) xs) [] ≡ x ∷ xs
    go true ih e = ap (λ y. x ∷ y) (ih (omega arith))
    go false ih e = absurd (omega arith)

fitting_short : (r v l : ℕ) (xs : List Seen) (x : Seen) → (length (fitting r v l xs) ≡ length xs → ⊥) → fitting r v l (xs ++ x ∷ []) ≡ fitting r v l xs
unfolding fitting
fitting_short r v l [] x n = absurd (n refl)
fitting_short r v l (y ∷ xs) x n = go (has_room r v l (length y.lines)) (fitting_short (r - 1) (v - 1) (l - length y.lines) xs x) n
  where
    go : (b : Bool) → ((length (fitting (r - 1) (v - 1) (l - length y.lines) xs) ≡ length xs → ⊥) → fitting (r - 1) (v - 1) (l - length y.lines) (xs ++ x ∷ []) ≡ fitting (r - 1) (v - 1) (l - length y.lines) xs) → (length (cond b (y ∷ fitting (r - 1) (v - 1) (l - length y.lines) xs) []) ≡ length (y ∷ xs) → ⊥)
        → cond b (y ∷ fitting (r - 1) (v - 1) (l - length y.lines) (xs ++ x ∷ [])) [] ≡ cond b (y ∷ fitting (r - 1) (v - 1) (l - length y.lines) xs) []
    go true ih n = ap (λ z. y ∷ z) (ih (λ e. n (ap suc e)))
    go false ih n = refl

fitting_length : (r v l : ℕ) (xs : List Seen) → length (fitting r v l xs) ≤ length xs
unfolding fitting
fitting_length r v l [] = omega arith
fitting_length r v l (x ∷ xs) = go (has_room r v l (length x.lines)) (fitting_length (r - 1) (v - 1) (l - length x.lines) xs)
  where
    go : (b : Bool) → length (fitting (r - 1) (v - 1) (l - length x.lines) xs) ≤ length xs → length (cond b (x ∷ fitting (r - 1) (v - 1) (l - length x.lines) xs) []) ≤ length (x ∷ xs)
    go true ih = omega arith
    go false ih = omega arith

abbrev room_left : ℕ → ℕ → ℕ → List Seen → Seen → Bool
room_left r v l xs x = has_room (r - length xs) (v - length xs) (l - length (joined (lines_seen xs))) (length x.lines)

-- a list that fits whole, and one call more
fitting_end : (r v l : ℕ) (xs : List Seen) (x : Seen) → length (fitting r v l xs) ≡ length xs → fitting r v l (xs ++ x ∷ []) ≡ xs ++ cond (room_left r v l xs x) (x ∷ []) []
unfolding fitting
fitting_end r v l [] x e = λ i. cond (has_room ((sym (sub-zero r)) i) ((sym (sub-zero v)) i) ((sym (sub-zero l)) i) (length x.lines)) (x ∷ []) []
fitting_end r v l (y ∷ xs) x e = go (has_room r v l (length y.lines)) (fitting_end (r - 1) (v - 1) (l - length y.lines) xs x) e
  where
    go : (b : Bool)
        → (length (fitting (r - 1) (v - 1) (l - length y.lines) xs) ≡ length xs → fitting (r - 1) (v - 1) (l - length y.lines) (xs ++ x ∷ []) ≡ xs ++ cond (room_left (r - 1) (v - 1) (l - length y.lines) xs x) (x ∷ []) [])
        → length (cond b (y ∷ fitting (r - 1) (v - 1) (l - length y.lines) xs) []) ≡ length (y ∷ xs)
        → cond b (y ∷ fitting (r - 1) (v - 1) (l - length y.lines) (xs ++ x ∷ [])) [] ≡ (y ∷ xs) ++ cond (room_left r v l (y ∷ xs) x) (x ∷ []) []
    go true ih e =
        let p : (r - 1) - length xs ≡ r - length (y ∷ xs) = omega arith in
        let q : (v - 1) - length xs ≡ v - length (y ∷ xs) = omega arith in
        let s : (l - length y.lines) - length (joined (lines_seen xs)) ≡ l - length (joined (lines_seen (y ∷ xs))) = omega (arith, length-append y.lines (joined (lines_seen xs))) in
        ap (λ z. y ∷ z) (ih (omega arith)) ∙ (λ i. y ∷ (xs ++ cond (has_room (p i) (q i) (s i) (length x.lines)) (x ∷ []) []))
    go false ih e = absurd (omega arith)

module _ {o s : Places} {xs : List Seen} (h : Holds o xs s) (x : Seen) where
  abbrev kept : List Seen
  kept = fitting_in o xs

  abbrev answers : List Answer
  answers = map (λ (y : Seen). y.answer) kept

  abbrev views : List View
  views = map (λ (y : Seen). y.view) kept

  abbrev tape : List TapeLine
  tape = joined (lines_seen kept)

  counted : s.count ≡ length answers
  counted = h.count ∙ sym (length-map kept (λ (y : Seen). y.answer))

  viewed : s.count ≡ length views
  viewed = h.count ∙ sym (length-map kept (λ (y : Seen). y.view))

  places_left : length s.replies.now - s.count ≡ length o.replies.now - length kept
  places_left = omega (arith, left answers (map answer_of o.replies.now), ap length h.replies, length-map s.replies.now answer_of, length-map o.replies.now answer_of, counted, h.count)

  views_left : length s.views.now - s.count ≡ length o.views.now - length kept
  views_left = omega (arith, left views o.views.now, ap length h.views, viewed, h.count)

  tape_left : length s.tape.now - s.used ≡ length o.tape.now - length tape
  tape_left = omega (arith, left tape o.tape.now, ap length h.tape, h.used)

  abbrev test : Bool
  test = has_room (length s.replies.now - s.count) (length s.views.now - s.count) (length s.tape.now - s.used) (length x.lines)

  all_kept : s.whole ≡ true → kept ≡ xs
  all_kept w = fitting_whole _ _ _ xs (eqb-true _ _ (sym h.whole ∙ w))

  at_end : s.whole ≡ true → fitting_in o (xs ++ x ∷ []) ≡ xs ++ cond test (x ∷ []) []
  at_end w =
      fitting_end _ _ _ xs x (eqb-true _ _ (sym h.whole ∙ w))
      ∙ (λ i. xs ++ cond (has_room (length o.replies.now - length (sym (all_kept w) i)) (length o.views.now - length (sym (all_kept w) i)) (length o.tape.now - length (joined (lines_seen (sym (all_kept w) i)))) (length x.lines)) (x ∷ []) [])
      ∙ (λ i. xs ++ cond (has_room ((sym places_left) i) ((sym views_left) i) ((sym tape_left) i) (length x.lines)) (x ∷ []) [])

  -- where it has no room, nothing more is kept
  stays : (s.whole && test) ≡ false → fitting_in o (xs ++ x ∷ []) ≡ kept
  stays n = go s.whole refl n
    where
      go : (b : Bool) → s.whole ≡ b → (b && test) ≡ false → fitting_in o (xs ++ x ∷ []) ≡ kept
      go true w n = at_end w ∙ ap (λ b. xs ++ cond b (x ∷ []) []) n ∙ append-nil xs ∙ sym (all_kept w)
      go false w n = fitting_short _ _ _ xs x (λ e. true_not_false (sym (eq-eqb _ _ e) ∙ sym h.whole ∙ w))

  grows : s.whole ≡ true → test ≡ true → fitting_in o (xs ++ x ∷ []) ≡ kept ++ x ∷ []
  grows w y = at_end w ∙ ap (λ b. xs ++ cond b (x ∷ []) []) y ∙ ap (λ l. l ++ x ∷ []) (sym (all_kept w))

  -- nothing more was written
  pub left_out : (s.whole && test) ≡ false → {t : Places} → t.replies.now ≡ s.replies.now → t.views.now ≡ s.views.now → t.tape.now ≡ s.tape.now → t.count ≡ s.count → t.used ≡ s.used → t.whole ≡ false → SameLent s t → Holds o (xs ++ x ∷ []) t
  left_out n r v l k u w z =
      let e : fitting_in o (xs ++ x ∷ []) ≡ kept = stays n in
      record {
        replies = ap (map answer_of) r ∙ h.replies ∙ ap (λ ys. over (map (λ (y : Seen). y.answer) ys) (map answer_of o.replies.now)) (sym e);
        views = v ∙ h.views ∙ ap (λ ys. over (map (λ (y : Seen). y.view) ys) o.views.now) (sym e);
        tape = l ∙ h.tape ∙ ap (λ ys. over (joined (lines_seen ys)) o.tape.now) (sym e);
        count = k ∙ h.count ∙ ap (λ (ys : List Seen). length ys) (sym e);
        used = u ∙ h.used ∙ ap (λ ys. length (joined (lines_seen ys))) (sym e);
        whole = w ∙ sym (ne_eqb (length (fitting_in o (xs ++ x ∷ []))) (length (xs ++ x ∷ [])) (λ q. omega (arith, ap (λ (ys : List Seen). length ys) e, length-append xs (x ∷ []), fitting_length (length o.replies.now) (length o.views.now) (length o.tape.now) xs)));
        lent = (z.0 ∙ h.lent.0, z.1 ∙ h.lent.1, z.2 ∙ h.lent.2);
      }

  -- the call was written behind the others
  pub written_down : (s.whole && test) ≡ true → {t : Places} (r : Result Reply CallRefusal) → x.answer ≡ answer_of r
      → t.replies.now ≡ set s.replies.now s.count r → t.views.now ≡ set s.views.now s.count x.view → t.tape.now ≡ take s.used s.tape.now ++ x.lines ++ drop (s.used + length x.lines) s.tape.now
      → t.count ≡ s.count + 1 → t.used ≡ s.used + length x.lines → t.whole ≡ s.whole → SameLent s t → Holds o (xs ++ x ∷ []) t
  written_down y r a er ev el k u w z =
      let both : (s.whole ≡ true) × (test ≡ true) = and_parts s.whole test y in
      let room : (ltb 0 (length s.replies.now - s.count) ≡ true) × (ltb 0 (length s.views.now - s.count) ≡ true) = and_parts _ _ (and_parts _ (leb (length x.lines) (length s.tape.now - s.used)) both.1).0 in
      let e : fitting_in o (xs ++ x ∷ []) ≡ kept ++ x ∷ [] = grows both.0 both.1 in
      let more : fitting_in o (xs ++ x ∷ []) ≡ xs ++ x ∷ [] = e ∙ ap (λ l. l ++ x ∷ []) (all_kept both.0) in
      let in_replies : length answers < length (map answer_of o.replies.now) = omega (arith, ltb-true _ _ room.0, places_left, h.count, counted, length-map o.replies.now answer_of) in
      let in_views : length views < length o.views.now = omega (arith, ltb-true _ _ room.1, views_left, h.count, viewed) in
      record {
        replies =
            ap (map answer_of) er ∙ map-set answer_of s.replies.now s.count r ∙ (λ i. set (h.replies i) (counted i) ((sym a) i)) ∙ over_push answers (map answer_of o.replies.now) x.answer in_replies
            ∙ ap (λ l. over l (map answer_of o.replies.now)) (sym (ap (map (λ (y : Seen). y.answer)) e ∙ map-append (λ (y : Seen). y.answer) kept (x ∷ [])));
        views =
            ev ∙ (λ i. set (h.views i) (viewed i) x.view) ∙ over_push views o.views.now x.view in_views ∙ ap (λ l. over l o.views.now) (sym (ap (map (λ (y : Seen). y.view)) e ∙ map-append (λ (y : Seen). y.view) kept (x ∷ [])));
        tape =
            el ∙ (λ i. take (h.used i) (h.tape i) ++ x.lines ++ drop (h.used i + length x.lines) (h.tape i)) ∙ over_append tape x.lines o.tape.now
            ∙ ap (λ l. over l o.tape.now) (sym (ap (λ ys. joined (lines_seen ys)) e ∙ joined_push kept x));
        count = omega (arith, k, h.count, ap (λ (ys : List Seen). length ys) e, length-append kept (x ∷ []));
        used = omega (arith, u, h.used, ap (λ ys. length (joined (lines_seen ys))) e, ap (λ (l : List TapeLine). length l) (joined_push kept x), length-append tape x.lines);
        whole = w ∙ both.0 ∙ sym (eq-eqb _ _ (ap (λ (ys : List Seen). length ys) more));
        lent = (z.0 ∙ h.lent.0, z.1 ∙ h.lent.1, z.2 ∙ h.lent.2);
      }

-- places follow a list by what fits of it
pub held : (o : Places) (ys xs : List Seen) (s t : Places) → Holds o ys s → Follows Continued s xs t → Holds o (ys ++ xs) t
held o ys [] s t h e = subst (λ l. Holds o l t) (sym (append-nil ys)) (subst (λ p. Holds o ys p) (sym e) h)
held o ys (x ∷ xs) s t h f = subst (λ l. Holds o l t) (append_assoc ys (x ∷ []) xs) (held o (ys ++ x ∷ []) xs f.0 t (f.1 o ys h) f.2)

-- places in which nothing is noted
pub holds_none : (o s : Places) → s.replies.now ≡ o.replies.now → s.views.now ≡ o.views.now → s.tape.now ≡ o.tape.now → s.count ≡ 0 → s.used ≡ 0 → s.whole ≡ true → SameLent o s → Holds o [] s
unfolding fitting
holds_none o s r v l k u w z = record { replies = ap (map answer_of) r; views = v; tape = l; count = k; used = u; whole = w; lent = z }

-- what is noted there
module _ {o p : Places} {xs : List Seen} (h : Holds o xs p) where
  pub noted_answers : map answer_of (take p.count p.replies.now) ≡ map (λ (y : Seen). y.answer) (fitting_in o xs)
  noted_answers =
      let said : List Answer = map (λ (y : Seen). y.answer) (fitting_in o xs) in
      sym (take-map answer_of p.count p.replies.now) ∙ (λ i. take ((h.count ∙ sym (length-map (fitting_in o xs) (λ (y : Seen). y.answer))) i) (h.replies i)) ∙ take-append_seam said (drop (length said) (map answer_of o.replies.now))

  pub noted_views : take p.count p.views.now ≡ map (λ (y : Seen). y.view) (fitting_in o xs)
  noted_views =
      let vs : List View = map (λ (y : Seen). y.view) (fitting_in o xs) in
      (λ i. take ((h.count ∙ sym (length-map (fitting_in o xs) (λ (y : Seen). y.view))) i) (h.views i)) ∙ take-append_seam vs (drop (length vs) o.views.now)

  pub noted_tape : take p.used p.tape.now ≡ joined (lines_seen (fitting_in o xs))
  noted_tape =
      let ls : List TapeLine = joined (lines_seen (fitting_in o xs)) in
      (λ i. take (h.used i) (h.tape i)) ∙ take-append_seam ls (drop (length ls) o.tape.now)
