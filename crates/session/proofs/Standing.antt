-- Each printed line of a text against those above it: one walk along the text.
use Rattle.std.proofs.Common.{◌≡◌, ℕ, suc, ◌+◌, ◌<◌, ◌≤◌, Bool, true, false, cond, not, ◌&&◌, ◌⊎◌, inl, inr, ⊎_elim, List, [], ◌∷◌, ◌++◌, length, map, Some, None, Option, Result, Ok, Err, sym, refl, ap, ◌∙◌, subst, append_assoc, arith}
use Rattle.std.specs.List.{AllByRecursion}
use Rattle.std.proofs.lemmas.List.{append-nil}
use Rattle.std.proofs.lemmas.Bool.{and_parts, false≢true}
use Rattle.std.proofs.lemmas.List.Elements.{filter_map-append}
use Rattle.market.specs.declared.words.TapeLine.{TapeLine}
use Rattle.market.specs.declared.refusal.Refusal.{Refusal}
use Rattle.market.specs.declared.refusal.Refusal.TheVariants.{Class, Column, LastSale, Price, Shares, RollFull, TapeShort, LocksBook, StopFileFull, Member, NoSuchOrder, OtherMember, NothingOpen, OutsideQuote, NotPaused}
use Rattle.market.specs.Refusals.{number_of}
use Rattle.sharing.specs.Shares.{LawfulRule}
use Rattle.text.specs.declared.fault.LineFault.{LineFault}
use Rattle.text.specs.declared.printed.Layer.{Layer}
use Rattle.text.specs.declared.printed.Layer.TheVariants as layers
use Rattle.text.specs.declared.printed.Printed.{Printed}
use Rattle.text.specs.declared.printed.Printed.TheVariants.{Accepted, Tape, Refused}
use Rattle.text.specs.Refusals.{code_of}
use Rattle.replay.specs.Lists.{only, total, beyond}
use Rattle.replay.specs.Days.{Day, Phase, Loading, Trading, Closed, new_day, Rule, Call, Outcome}
use Rattle.replay.specs.Days as days
use Rattle.replay.specs.Calls.{refusal, checks, is_phase, handed, became, decided, perform, step, after_calls}
use Rattle.replay.specs.Questions.{Totals, totals}
use Rattle.replay.specs.SharesAddUp.{print_of, cancel_of, Conserved, brings, if_performed, brought_in}
use Rattle.replay.proofs.Lists.{beyond_append, append_none, length_append, all_push, all_append, all_map}
use Rattle.replay.proofs.Runs.{Sound}
use Rattle.replay.proofs.Calls.{calls_sound, new_sound}
use Rattle.replay.proofs.Accepted.{shares_add_up}
use Rattle.replay.proofs.Places.{roll_holds}
use Rattle.replay.proofs.RefusalsGiven.{causes}
use Rattle.replay.proofs.Queue.{never_short}
use Rattle.playback.specs.declared.call.Call.{Call as Asked}
use Rattle.playback.specs.Stages.{call_of}
use Rattle.playback.proofs.OneMore.{after_more, brought_more}
use Rattle.session.specs.Hearing.{calls_among}
use Rattle.session.specs.Transcripts.{layer_of, spoken, totals_line, closing, said, printed}
use Rattle.session.specs.Above.{tape_line, tape_in, number_on, numbers_in, line_refused, lines_refused, NoTotals, Unclosed, ByMarket, Meets, AddsUp, Stands}
use Rattle.session.proofs.Along.{Along, along_append}
use Rattle.session.proofs.Said.{tape_pieces, tape_said, tape_after, numbers_said, lines_said}
use Rattle.session.proofs.Counting.{brings_order, said_first, became_count}
use Rattle.session.proofs.Numbered.{Lettered, Said, lent_lines, known, no_column, closed_refuses}

-- a refused call prints its refusal, and nothing else
no_closing : (f : Phase) (e : Day) → f ≡ e.phase → closing f e ≡ []
no_closing f e h = ap (λ g. closing g e) h ∙ go (is_phase Closed e.phase)
  where
    go : (b : Bool) → cond (b && not b) (totals_line (totals e) ∷ []) [] ≡ []
    go true = refl
    go false = refl

pub said_refused : (n : ℕ) (d : Day) (k : ℕ) → said n d (record { answer = days.Refused k; day = d }) ≡ Refused n (layer_of k) k 0 ∷ []
said_refused n d k =
    ap (λ ps. (Refused n (layer_of k) k 0 ∷ map Tape (handed d d)) ++ ps) (no_closing d.phase d refl)
    ∙ append-nil _
    ∙ ap (λ ls. Refused n (layer_of k) k 0 ∷ map Tape ls) (ap (beyond d.tape) (sym (append_none d.tape)) ∙ beyond_append d.tape [])

no_totals : (ls : List TapeLine) → Unclosed (map Tape ls)
no_totals [] = tt
no_totals (l ∷ ls) = (tt, no_totals ls)

closed_phase : (p : Phase) → is_phase Closed p ≡ true → p ≡ Closed
closed_phase Loading e = absurd (false≢true e)
closed_phase Trading e = absurd (false≢true e)
closed_phase Closed e = refl

market_layer : (r : Refusal) → layer_of (number_of r) ≡ layers.Market
market_layer = elim [ Class ↦ refl | Column ↦ refl | LastSale ↦ refl | Price ↦ refl | Shares ↦ refl | RollFull ↦ refl | TapeShort ↦ refl | LocksBook ↦ refl | StopFileFull ↦ refl | Member ↦ refl | NoSuchOrder ↦ refl | OtherMember ↦ refl | NothingOpen ↦ refl | OutsideQuote ↦ refl | NotPaused ↦ refl ]

-- a closed day takes no order
none_brought : (gifts : Rule) (room : ℕ) (d : Day) (cs : List Call) → d.phase ≡ Closed → brought_in gifts room d cs ≡ 0
unfolding brought_in step
none_brought gifts room d [] e = refl
none_brought gifts room d (c ∷ cs) e =
    let x : refusal (checks room d c) ≡ Some 21 = closed_refuses room d c e in
    ap (λ y. if_performed y (brings c) + brought_in gifts room (decided y d (perform gifts d c)).day cs) x ∙ omega (arith, none_brought gifts room d cs e)

module _ (gifts : Rule) (lawful : LawfulRule gifts) (room free whole : ℕ) where
  -- the calls that led to a day, and what is still to come in
  pub record Led (d : Day) (cs : List Call) : Type 0 where
    pub past : List Call
    pub reached : d ≡ after_calls gifts room new_day past
    pub brought : brought_in gifts room new_day past + brought_in gifts room d cs ≡ whole

  led_more : {d : Day} {c : Call} {cs : List Call} → Led d (c ∷ cs) → Led (step gifts room d c).day cs
  unfolding brought_in
  led_more {d} {c} {cs} l = record {
    past = l.past ++ c ∷ [];
    reached = ap (λ e. (step gifts room e c).day) l.reached ∙ sym (after_more gifts room new_day l.past c);
    brought = omega (arith, l.brought, brought_more gifts room new_day l.past c, ap (λ e. if_performed (refusal (checks room e c)) (brings c)) l.reached);
  }

  -- what stands above line n, and the day behind it
  pub record Shown (n : ℕ) (above : List Printed) (d : Day) : Type 0 where
    pub numbers : length (numbers_in above) ≡ length d.roll
    pub tape : tape_in above ≡ d.tape
    pub unclosed : Unclosed above ⊎ (d.phase ≡ Closed)
    pub lines : AllByRecursion (λ m. m < n) (lines_refused above)

  later : (n : ℕ) (ms : List ℕ) → AllByRecursion (λ m. m < n) ms → AllByRecursion (λ m. m < n + 1) ms
  later n ms a = all_map _ _ ms (λ m h. omega arith) a

  shown_refused : (n : ℕ) (above : List Printed) (d : Day) (layer : Layer) (k field : ℕ) → Shown n above d → Shown (n + 1) (above ++ Refused n layer k field ∷ []) d
  shown_refused n above d layer k field s = record {
    numbers = ap length (filter_map-append number_on above (Refused n layer k field ∷ []) ∙ append-nil (numbers_in above)) ∙ s.numbers;
    tape = filter_map-append tape_line above (Refused n layer k field ∷ []) ∙ append-nil (tape_in above) ∙ s.tape;
    unclosed = ⊎_elim (λ u. inl (all_push NoTotals above (Refused n layer k field) u tt)) (λ e. inr e) s.unclosed;
    lines = subst (AllByRecursion (λ m. m < n + 1)) (sym (filter_map-append line_refused above (Refused n layer k field ∷ [])))
        (all_push (λ m. m < n + 1) (lines_refused above) n (later n (lines_refused above) s.lines) (omega arith));
  }

  -- the number of a refused call
  meets : (n : ℕ) (above : List Printed) (d : Day) (c : Asked) (cs : List Call) (k : ℕ) → Led d cs → Shown n above d → Lettered c → refusal (checks room d (call_of free c)) ≡ Some k → Meets room free above (layer_of k) k 0
  meets n above d c cs k l s h e = ⊎_elim
      (λ z. let v : Meets room free above layers.Session 21 0 = (refl, refl) in subst (λ j. Meets room free above (layer_of j) j 0) (sym z) v)
      (λ x. subst (λ y. Meets room free above y k 0) (sym (ap layer_of x.1 ∙ market_layer x.0)) (by_market x.0 x.1, refl)) (known room d (call_of free c) k e)
    where
      less : (a b : ℕ) → (b ≤ a → ⊥) → a < b
      less a b h = omega arith

      full : (length d.roll < 512 → ⊥) → length d.roll ≡ 512
      full h =
          let most : length d.roll ≤ 512 = subst (λ e. length e.roll ≤ 512) (sym l.reached) (roll_holds.kept gifts lawful room l.past).most in
          omega arith

      some_same : {j : ℕ} → ◌≡◌ {A = Option ℕ} (Some k) (Some j) → k ≡ j
      some_same e = cc

      layers_apart : (r : Refusal) → k ≡ number_of r → k ≡ 21 → layers.Session ≡ layers.Market
      layers_apart r i j = sym (ap layer_of j) ∙ ap layer_of i ∙ market_layer r

      other : ◌≡◌ {A = Layer} layers.Session layers.Market → ⊥
      other e = cc

      by_market : (r : Refusal) → k ≡ number_of r → ByMarket room free above k
      by_market r i = record {
        refusal = r;
        number = i;
        trading = ⊎_elim (λ u. u) (λ f. absurd (other (layers_apart r i (some_same (sym e ∙ closed_refuses room d (call_of free c) f))))) s.unclosed;
        column = λ z. no_column room free d c h (e ∙ ap Some z);
        roll = λ z. s.numbers ∙ full (λ small. roll_holds.room_left room d (call_of free c) small (e ∙ ap Some z));
        tape = λ z. less free 2049 (λ big. never_short gifts lawful room l.past (call_of free c) (lent_lines free c big) (ap (λ y. refusal (checks room y (call_of free c))) (sym l.reached) ∙ e ∙ ap Some z));
        file = λ z. less room 512 (λ big. (causes room d).file_holds (call_of free c) big (e ∙ ap Some z));
      }

  along_tape : (above : List Printed) (ls : List TapeLine) → Unclosed above → Along (Stands room free whole) above (map Tape ls)
  along_tape above [] u = tt
  along_tape above (l ∷ ls) u = (u, along_tape (above ++ Tape l ∷ []) ls (all_push NoTotals above (Tape l) u tt))

  -- the totals of a day that has closed
  adds_up : (above : List Printed) (d : Day) (cs : List Call) → Led d cs → tape_in above ≡ d.tape → d.phase ≡ Closed → let t : Totals = totals d in AddsUp whole above t.accepted t.printed t.cancelled t.«open»
  adds_up above d cs l e f =
      let x : Conserved d × ((totals d).accepted ≡ brought_in gifts room new_day l.past)
      = subst (λ y. Conserved y × ((totals y).accepted ≡ brought_in gifts room new_day l.past)) (sym l.reached) (shares_add_up gifts lawful room l.past) in
      record {
        accepted = omega (arith, x.1, l.brought, none_brought gifts room d cs f);
        printed = x.0.printed ∙ ap (total print_of) (sym e);
        cancelled = x.0.cancelled ∙ ap (total cancel_of) (sym e);
        sum = x.0.sum;
      }

  -- a call's turn
  record Turned (n : ℕ) (above ps : List Printed) (d : Day) : Type 0 where
    pub along : Along (Stands room free whole) above ps
    pub shown : Shown (n + 1) (above ++ ps) d

  -- what is said first of a performed call: the next number, or nothing
  along_first : (above ps : List Printed) (d : Day) (b : Bool) → ps ≡ cond b (Accepted (suc (length d.roll)) ∷ []) [] → Unclosed above → length (numbers_in above) ≡ length d.roll
      → Along (Stands room free whole) above ps × Unclosed ps
  along_first above ps d b e u h = subst (λ qs. Along (Stands room free whole) above qs × Unclosed qs) (sym e) (go b)
    where
      go : (b : Bool) → Along (Stands room free whole) above (cond b (Accepted (suc (length d.roll)) ∷ []) []) × Unclosed (cond b (Accepted (suc (length d.roll)) ∷ []) [])
      go true = (((u, ap suc (sym h)), tt), (tt, tt))
      go false = (tt, tt)

  -- the totals of a day that has just closed
  along_closing : (above : List Printed) (f : Phase) (d : Day) (cs : List Call) → Led d cs → tape_in above ≡ d.tape → Unclosed above
      → Along (Stands room free whole) above (closing f d) × (Unclosed (above ++ closing f d) ⊎ (d.phase ≡ Closed))
  along_closing above f d cs l e u = go (is_phase Closed d.phase && not (is_phase Closed f)) refl
    where
      go : (b : Bool) → (is_phase Closed d.phase && not (is_phase Closed f)) ≡ b
          → Along (Stands room free whole) above (cond b (totals_line (totals d) ∷ []) []) × (Unclosed (above ++ cond b (totals_line (totals d) ∷ []) []) ⊎ (d.phase ≡ Closed))
      go true h = let shut : d.phase ≡ Closed = closed_phase d.phase (and_parts (is_phase Closed d.phase) (not (is_phase Closed f)) h).0 in (((u, adds_up above d cs l e shut), tt), inr shut)
      go false h = (tt, inl (subst Unclosed (sym (append-nil above)) u))

  -- all that is printed of a performed call
  along_said : (n : ℕ) (above : List Printed) (d : Day) (r : Outcome) (cs : List Call) (b : Bool) → spoken n r.answer ≡ cond b (Accepted (suc (length d.roll)) ∷ []) [] → Led r.day cs → r.day.tape ≡ d.tape ++ handed d r.day
      → Shown n above d → Unclosed above → Along (Stands room free whole) above (said n d r) × (Unclosed (above ++ said n d r) ⊎ (r.day.phase ≡ Closed))
  along_said n above d r cs b first l more s u =
      let x : Along (Stands room free whole) above (spoken n r.answer) × Unclosed (spoken n r.answer) = along_first above (spoken n r.answer) d b first u s.numbers in
      let ps : List Printed = spoken n r.answer ++ map Tape (handed d r.day) in
      let v : Unclosed (above ++ spoken n r.answer) = all_append NoTotals above (spoken n r.answer) u x.1 in
      let w : Unclosed (above ++ ps) = all_append NoTotals above ps u (all_append NoTotals (spoken n r.answer) (map Tape (handed d r.day)) x.1 (no_totals (handed d r.day))) in
      let t : tape_in (above ++ ps) ≡ r.day.tape = filter_map-append tape_line above ps ∙ ap (λ ls. ls ++ tape_in ps) s.tape ∙ ap (λ ls. d.tape ++ ls) (tape_pieces n r.answer (handed d r.day)) ∙ sym more in
      let z : Along (Stands room free whole) (above ++ ps) (closing d.phase r.day) × (Unclosed ((above ++ ps) ++ closing d.phase r.day) ⊎ (r.day.phase ≡ Closed)) = along_closing (above ++ ps) d.phase r.day cs l t w in (
        along_append (Stands room free whole) above ps (closing d.phase r.day)
            (along_append (Stands room free whole) above (spoken n r.answer) (map Tape (handed d r.day)) x.0 (along_tape (above ++ spoken n r.answer) (handed d r.day) v)) z.0,
        subst (λ qs. Unclosed qs ⊎ (r.day.phase ≡ Closed)) (append_assoc above ps (closing d.phase r.day)) z.1,
      )

  shown_said : (n : ℕ) (above : List Printed) (d : Day) (r : Outcome) (b : Bool) → spoken n r.answer ≡ cond b (Accepted (suc (length d.roll)) ∷ []) [] → length r.day.roll ≡ length d.roll + only b 1 → r.day.tape ≡ d.tape ++ handed d r.day
      → Shown n above d → Unclosed (above ++ said n d r) ⊎ (r.day.phase ≡ Closed) → Shown (n + 1) (above ++ said n d r) r.day
  shown_said n above d r b first count more s u = record {
    numbers = ap length (filter_map-append number_on above (said n d r)) ∙ length_append (numbers_in above) (numbers_in (said n d r)) ∙ omega (arith, s.numbers, count, ap length (numbers_said n d r), ap (λ ps. length (numbers_in ps)) first, one b);
    tape = filter_map-append tape_line above (said n d r) ∙ ap (λ ls. ls ++ tape_in (said n d r)) s.tape ∙ ap (λ ls. d.tape ++ ls) (tape_said n d r) ∙ sym more;
    unclosed = u;
    lines = subst (AllByRecursion (λ m. m < n + 1)) (sym (filter_map-append line_refused above (said n d r) ∙ ap (λ ms. lines_refused above ++ ms) (lines_said n d r ∙ ap lines_refused first ∙ none b) ∙ append-nil (lines_refused above)))
        (later n (lines_refused above) s.lines);
  }
    where
      one : (b : Bool) → length (numbers_in (cond b (Accepted (suc (length d.roll)) ∷ []) [])) ≡ only b 1
      one true = refl
      one false = refl

      none : (b : Bool) → lines_refused (cond b (Accepted (suc (length d.roll)) ∷ []) []) ≡ []
      none true = refl
      none false = refl

  performed : (n : ℕ) (above : List Printed) (d : Day) (c : Call) (cs : List Call) → refusal (checks room d c) ≡ None → Sound d → Led (became gifts d c) cs → (became gifts d c).tape ≡ d.tape ++ handed d (became gifts d c) → Shown n above d
      → Turned n above (said n d (perform gifts d c)) (perform gifts d c).day
  unfolding perform
  performed n above d c cs none sound l more s =
      let r : Outcome = perform gifts d c in
      let u : Unclosed above = ⊎_elim (λ u. u) (λ f. absurd (differ (sym none ∙ closed_refuses room d c f))) s.unclosed in
      let x : Along (Stands room free whole) above (said n d r) × (Unclosed (above ++ said n d r) ⊎ (r.day.phase ≡ Closed)) = along_said n above d r cs (brings_order c) (said_first n d c r.day) l more s u in
      record { along = x.0; shown = shown_said n above d r (brings_order c) (said_first n d c r.day) (became_count gifts lawful room d c none sound) more s x.1 }
    where
      differ : ◌≡◌ {A = Option ℕ} None (Some 21) → ⊥
      differ e = cc

  turned : (n : ℕ) (above : List Printed) (d : Day) (c : Asked) (cs : List Call) → Led d (call_of free c ∷ cs) → Shown n above d → Lettered c
      → Turned n above (said n d (step gifts room d (call_of free c))) (step gifts room d (call_of free c)).day
  unfolding step perform
  turned n above d c cs l s h = go (refusal (checks room d (call_of free c))) refl (led_more l) (tape_after gifts room d (call_of free c))
    where
      go : (x : Option ℕ) → refusal (checks room d (call_of free c)) ≡ x → Led (decided x d (perform gifts d (call_of free c))).day cs → (decided x d (perform gifts d (call_of free c))).day.tape ≡ d.tape ++ handed d (decided x d (perform gifts d (call_of free c))).day
          → Turned n above (said n d (decided x d (perform gifts d (call_of free c)))) (decided x d (perform gifts d (call_of free c))).day
      go None e m t = performed n above d (call_of free c) cs e (subst Sound (sym l.reached) (calls_sound gifts lawful room l.past new_day (new_sound gifts lawful))) m t s
      go (Some k) e m t =
          let line : Printed = Refused n (layer_of k) k 0 in
          let t : Turned n above (line ∷ []) d = record { along = ((s.lines, meets n above d c (call_of free c ∷ cs) k l s h e), tt); shown = shown_refused n above d (layer_of k) k 0 s } in
          subst (λ ps. Turned n above ps d) (sym (said_refused n d k)) t

  pub walk : (n : ℕ) (above : List Printed) (d : Day) (xs : List (Result Asked LineFault)) → Led d (map (call_of free) (calls_among xs)) → Shown n above d → AllByRecursion Said xs
      → Along (Stands room free whole) above (printed gifts room free n d xs)
  unfolding printed
  walk n above d [] l s a = tt
  walk n above d (Ok c ∷ xs) l s a =
      let t : Turned n above (said n d (step gifts room d (call_of free c))) (step gifts room d (call_of free c)).day = turned n above d c (map (call_of free) (calls_among xs)) l s a.0 in
      along_append (Stands room free whole) above (said n d (step gifts room d (call_of free c))) _ t.along (walk (n + 1) _ _ xs (led_more l) t.shown a.1)
  walk n above d (Err f ∷ xs) l s a =
      let line : Printed = Refused n layers.Text (code_of f.cause) f.field in
      along_append (Stands room free whole) above (line ∷ []) _ ((s.lines, a.0), tt) (walk (n + 1) (above ++ line ∷ []) d xs l (shown_refused n above d layers.Text (code_of f.cause) f.field s) a.1)

-- a text begins with nothing above it
pub stands_all : (gifts : Rule) → LawfulRule gifts → (room free : ℕ) (xs : List (Result Asked LineFault)) → AllByRecursion Said xs
    → Along (Stands room free (brought_in gifts room new_day (map (call_of free) (calls_among xs)))) [] (printed gifts room free 1 new_day xs)
unfolding new_day after_calls brought_in
stands_all gifts lawful room free xs a =
    walk gifts lawful room free (brought_in gifts room new_day (map (call_of free) (calls_among xs))) 1 [] new_day xs
    (record { past = []; reached = refl; brought = omega arith }) (record { numbers = refl; tape = refl; unclosed = inl tt; lines = tt }) a
