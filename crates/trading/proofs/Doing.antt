-- From a check and a move to what a call did.
use Rattle.std.proofs.Common.{◌≡◌, ℕ, suc, ◌+◌, ◌*◌, ◌<◌, ◌≤◌, Bool, true, false, not, ◌&&◌, eqb, ltb, leb, List, [], ◌∷◌, ◌++◌, length, take, drop, Some, None, sym, refl, ap, ◌∙◌, arith, take-append-drop}
use Rattle.std.proofs.lemmas.List.{length-take-le}
use Rattle.std.proofs.lemmas.Bool.{leb-false, ltb-false, eqb-false}
use Rattle.std.proofs.lemmas.Bool.Decides.{nat_tests}
use Rattle.market.specs.declared.words.Kind.{Kind}
use Rattle.market.specs.declared.words.Kind.TheVariants.{Limit, Market, ImmediateOrCancel, Stop as StopKind}
use Rattle.market.specs.declared.words.Place.TheVariants.{Book, Line}
use Rattle.market.specs.declared.words.Order.{Order}
use Rattle.market.specs.Orders.{put}
use Rattle.market.specs.declared.words.Stop.{Stop}
use Rattle.market.specs.declared.words.TapeLine.{TapeLine}
use Rattle.market.specs.Bounds.{is_price, is_shares}
use Rattle.replay.specs.Days.{Day, Phase, Rule, Outcome, Call, Answer, Refused}
use Rattle.replay.specs.Rolls.{is_stop, filed}
use Rattle.replay.specs.Runs.{busy, start_place}
use Rattle.replay.specs.Refusals.{bad_price, bad_shares, tape_short, stop_file_full, no_such_order, other_member, nothing_open, outside_quote, not_paused}
use Rattle.replay.specs.Calls.{Check, check, refusal, order_checks, outside, checks, became, answered, perform, decided, step}
use Rattle.replay.specs.History.{bare}
use Rattle.replay.specs.StopFile.{stop_of, file_of}
use Rattle.replay.proofs.FileOfRoll.{file_count, file_push, file_other}
use Rattle.replay.proofs.Lists.{length_push}
use Rattle.replay.proofs.Calls.{refusal_none}
use Rattle.trading.specs.declared.board.Board.{Board}
use Rattle.trading.specs.Boards.{orders_of, waiting_of, day_of}
use Rattle.trading.specs.Shows.{Shows}
use Rattle.trading.specs.Deeds.{Filed, Did, with_stop, may_add}

module _ (gifts : Rule) (room : ℕ) where
  step_refused : (d : Day) (c : Call) (k : ℕ) → refusal (checks room d c) ≡ Some k → step gifts room d c ≡ record { answer = Refused k; day = d }
  unfolding step
  step_refused d c k e = ap (λ x. decided x d (perform gifts d c)) e

  step_done : (d : Day) (c : Call) → refusal (checks room d c) ≡ None → step gifts room d c ≡ record { answer = answered d c (became gifts d c); day = became gifts d c }
  unfolding step perform
  step_done d c e = ap (λ x. decided x d (perform gifts d c)) e

  -- a refused call
  pub did_refused : (b : Board) {f : Phase} {ss ss' : List Stop} {ls ls' : List TapeLine} {b' : Board} {a : Answer} {k : ℕ} (c : Call)
      → refusal (checks room (day_of f b) c) ≡ Some k → a ≡ Refused k → Filed ss b → b' ≡ b → ss' ≡ ss → ls' ≡ ls → Did gifts room (day_of f b) c a (day_of f b') ss' ls ls'
  did_refused b {f} {ss} {ss'} {ls} {ls'} {b'} {a} {k} c e h fl p q r =
      let s : step gifts room (day_of f b) c ≡ record { answer = Refused k; day = day_of f b } = step_refused (day_of f b) c k e in
      record {
        answer = h ∙ sym (ap (λ (o : Outcome). o.answer) s);
        day = ap (day_of f) p ∙ sym (ap (λ (o : Outcome). bare o.day) s);
        file = q ∙ fl ∙ ap (λ (x : Board). file_of (orders_of x)) (sym p);
        lines = r ∙ sym (ap (λ (o : Outcome). o.day.tape ++ drop (length o.day.tape) ls) s);
      }

  -- a performed call
  pub did_done : (b : Board) {f f' : Phase} {b' : Board} {ss' : List Stop} {ls ls' new : List TapeLine} {a : Answer} (c : Call)
      → refusal (checks room (day_of f b) c) ≡ None → a ≡ answered (day_of f b) c (became gifts (day_of f b) c) → Shows f' b' new (became gifts (day_of f b) c) → ss' ≡ file_of (became gifts (day_of f b) c).roll
      → ls' ≡ new ++ drop (length new) ls → Did gifts room (day_of f b) c a (day_of f' b') ss' ls ls'
  did_done b {f} {f'} {b'} {ss'} {ls} {ls'} {new} {a} c e h s q r =
      let o : step gifts room (day_of f b) c ≡ record { answer = answered (day_of f b) c (became gifts (day_of f b) c); day = became gifts (day_of f b) c } = step_done (day_of f b) c e in
      record {
        answer = h ∙ sym (ap (λ (o : Outcome). o.answer) o);
        day = (λ i. record {
          roll = s.roll i;
          line = s.line i;
          paused = s.paused i;
          range = s.range i;
          last = s.last i;
          class = s.class i;
          column = s.column i;
          phase = s.phase i;
          tape = [];
          fills = [];
        }) ∙ sym (ap (λ (o : Outcome). bare o.day) o);
        file = q ∙ ap file_of (sym s.roll);
        lines = r ∙ ap (λ l. l ++ drop (length l) ls) s.tape ∙ sym (ap (λ (o : Outcome). o.day.tape ++ drop (length o.day.tape) ls) o);
      }

-- the lines that were written, and the others
pub lines_are : (k : ℕ) (old new : List TapeLine) → k ≤ length new → drop k new ≡ drop k old → new ≡ take k new ++ drop (length (take k new)) old
lines_are k old new h e = sym (take-append-drop k new) ∙ ap (λ l. take k new ++ l) e ∙ ap (λ m. take k new ++ drop m old) (sym (length-take-le k new h))

-- the stops of the file are counted as the definitions count them: n of them, and room for m
module _ (b : Board) {ss : List Stop} (fl : Filed ss b) {n : ℕ} (ne : n ≡ length ss) where
  pub counted : n ≡ filed (orders_of b)
  counted = ne ∙ ap length fl ∙ file_count (orders_of b)

  pub checks_stop : (room : ℕ) {m : ℕ} → m ≡ room → (cs : List Check) (k : Kind)
      → refusal (cs ++ check (is_stop k && leb m n) stop_file_full ∷ []) ≡ refusal (cs ++ check (is_stop k && leb room (filed (orders_of b))) stop_file_full ∷ [])
  checks_stop room {m} me cs k = ap (λ x. refusal (cs ++ check (is_stop k && leb m x) stop_file_full ∷ [])) counted ∙ ap (λ x. refusal (cs ++ check (is_stop k && leb x (filed (orders_of b))) stop_file_full ∷ [])) me

  pub checks_enter : (f : Phase) (room : ℕ) {m : ℕ} → m ≡ room → (free : ℕ) {x : ℕ} → x ≡ free → (cs : List Check) (k : Kind)
      → refusal (cs ++ check (is_stop k && leb m n) stop_file_full ∷ check (ltb x (4 * (length (waiting_of b) + n + 1))) tape_short ∷ [])
      ≡ refusal (cs ++ check (is_stop k && leb room (filed (orders_of b))) stop_file_full ∷ check (ltb free (4 * (busy (day_of f b) + 1))) tape_short ∷ [])
  unfolding busy
  checks_enter f room {m} me free xe cs k =
      ap (λ y. refusal (cs ++ check (is_stop k && leb m n) stop_file_full ∷ check (ltb y (4 * (length (waiting_of b) + n + 1))) tape_short ∷ [])) xe
      ∙ ap (λ x. refusal (cs ++ check (is_stop k && leb m x) stop_file_full ∷ check (ltb free (4 * (length (waiting_of b) + x + 1))) tape_short ∷ [])) counted
      ∙ ap (λ x. refusal (cs ++ check (is_stop k && leb x (filed (orders_of b))) stop_file_full ∷ check (ltb free (4 * (length (waiting_of b) + filed (orders_of b) + 1))) tape_short ∷ [])) me

  pub checks_floor : (f : Phase) (p q free : ℕ) {x : ℕ} → x ≡ free
      → refusal (check (not (is_price p)) bad_price ∷ check (not (is_shares q)) bad_shares ∷ check (outside p (orders_of b)) outside_quote ∷ check (ltb x (suc (4 * (length (waiting_of b) + n + 0)))) tape_short ∷ [])
      ≡ refusal (check (not (is_price p)) bad_price ∷ check (not (is_shares q)) bad_shares ∷ check (outside p (orders_of b)) outside_quote ∷ check (ltb free (suc (4 * (busy (day_of f b) + 0)))) tape_short ∷ [])
  unfolding busy
  checks_floor f p q free xe =
      ap (λ y. refusal (check (not (is_price p)) bad_price ∷ check (not (is_shares q)) bad_shares ∷ check (outside p (orders_of b)) outside_quote ∷ check (ltb y (suc (4 * (length (waiting_of b) + n + 0)))) tape_short ∷ [])) xe
      ∙ ap (λ x. refusal (check (not (is_price p)) bad_price ∷ check (not (is_shares q)) bad_shares ∷ check (outside p (orders_of b)) outside_quote ∷ check (ltb free (suc (4 * (length (waiting_of b) + x + 0)))) tape_short ∷ [])) counted

  pub checks_resume : (f : Phase) (free : ℕ) {x : ℕ} → x ≡ free
      → refusal (check (not b.paused) not_paused ∷ check (ltb x (4 * (length (waiting_of b) + n + 0))) tape_short ∷ []) ≡ refusal (check (not b.paused) not_paused ∷ check (ltb free (4 * (busy (day_of f b) + 0))) tape_short ∷ [])
  unfolding busy
  checks_resume f free xe = ap (λ y. refusal (check (not b.paused) not_paused ∷ check (ltb y (4 * (length (waiting_of b) + n + 0))) tape_short ∷ [])) xe ∙ ap (λ x. refusal (check (not b.paused) not_paused ∷ check (ltb free (4 * (length (waiting_of b) + x + 0))) tape_short ∷ [])) counted

-- what the free lines that passed are enough for
pub lines_enter : (k : Kind) (o : Order) (ss ss' : List Stop) (l free : ℕ) → ss' ≡ with_stop k o ss → ltb free (4 * (l + length ss + 1)) ≡ false → may_add k + (3 * l + 4 * length ss') ≤ free
lines_enter Limit o ss ss' l free e h = omega (arith, ap length e, ltb-false free (4 * (l + length ss + 1)) h)
lines_enter Market o ss ss' l free e h = omega (arith, ap length e, ltb-false free (4 * (l + length ss + 1)) h)
lines_enter ImmediateOrCancel o ss ss' l free e h = omega (arith, ap length e, ltb-false free (4 * (l + length ss + 1)) h)
lines_enter StopKind o ss ss' l free e h = omega (arith, ap length e, length_push ss (stop_of o), ltb-false free (4 * (l + length ss + 1)) h)

-- the file after an order came in is that of the roll with it
pub filed_in : (k : Kind) (o : Order) (t : Bool) (os : List Order) (ss ss' : List Stop) → ss ≡ file_of os → ss' ≡ with_stop k o ss → ss' ≡ file_of (os ++ put (start_place k t) o ∷ [])
filed_in Limit o true os ss ss' f e = e ∙ f ∙ sym (file_other os (put Line o) refl)
filed_in Limit o false os ss ss' f e = e ∙ f ∙ sym (file_other os (put Book o) refl)
filed_in Market o t os ss ss' f e = e ∙ f ∙ sym (file_other os (put Line o) refl)
filed_in ImmediateOrCancel o t os ss ss' f e = e ∙ f ∙ sym (file_other os (put Line o) refl)
filed_in StopKind o t os ss ss' f e = e ∙ ap (λ x. x ++ stop_of o ∷ []) f ∙ sym (file_push os o)

-- so many lines were written
pub counted_lines : (k : ℕ) (new : List TapeLine) {tape : List TapeLine} → k ≤ length new → take k new ≡ tape → k ≡ length tape
counted_lines k new h e = sym (length-take-le k new h) ∙ ap length e

pub shares_most : (q : ℕ) → not (is_shares q) ≡ false → q ≤ 1000000
shares_most q e = grind (arith, nat_tests)

-- what holds of calls that passed
pub record EnterPassed (q : ℕ) (d : Day) (short : Bool) : Type 0 where
  pub room : length d.roll < 512
  pub shares : q ≤ 1000000
  pub lines : short ≡ false

pub enter_passed : (k : Kind) (m p q : ℕ) (d : Day) (t short : Bool) → None ≡ refusal (order_checks k m p q d ++ check t stop_file_full ∷ check short tape_short ∷ []) → EnterPassed q d short
enter_passed k m p q d t short h =
    let a = refusal_none (order_checks k m p q d ++ check t stop_file_full ∷ check short tape_short ∷ []) (sym h) in
    record { room = leb-false 512 (length d.roll) a.1.1.1.0; shares = shares_most q a.1.0; lines = a.1.1.1.1.1.0 }

pub cancel_passed : (a b c : Bool) (free : ℕ) → None ≡ refusal (check a no_such_order ∷ check b other_member ∷ check c nothing_open ∷ check (eqb free 0) tape_short ∷ []) → 0 < free
cancel_passed a b c free h =
    let x = refusal_none (check a no_such_order ∷ check b other_member ∷ check c nothing_open ∷ check (eqb free 0) tape_short ∷ []) (sym h) in
    let ne : free ≡ 0 → ⊥ = eqb-false free 0 x.1.1.1.0 in
    omega arith
