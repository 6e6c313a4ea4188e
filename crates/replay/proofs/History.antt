-- What is on the tape already changes nothing: a call on a day with a history does what it does on the day without, after that history.
use Rattle.std.proofs.Common.{◌≡◌, ℕ, zero, suc, Bool, true, false, List, [], ◌∷◌, ◌++◌, length, Some, None, Option, sym, refl, ap, ◌∙◌, subst}
use Rattle.market.specs.declared.words.Side.{Side}
use Rattle.market.specs.declared.words.Kind.{Kind}
use Rattle.market.specs.declared.words.Kind.TheVariants.{Limit, Market, ImmediateOrCancel, Stop}
use Rattle.market.specs.declared.words.Place.{Place}
use Rattle.market.specs.declared.words.Place.TheVariants.{Line}
use Rattle.market.specs.declared.words.Order.{Order}
use Rattle.market.specs.declared.words.Range.{Range}
use Rattle.market.specs.declared.words.TapeLine.{TapeLine}
use Rattle.market.specs.Sides.{opposite}
use Rattle.replay.specs.Lists.{any, beyond}
use Rattle.replay.specs.Days.{Fill, Day, Rule, Call, Set, LoadLimit, LoadStop, Open, Enter, CancelOrder, FloorTrade, Resume, Close, Lines, Entered}
use Rattle.replay.specs.Rolls.{look, left, fresh}
use Rattle.replay.specs.Book.{is_contra}
use Rattle.replay.specs.Moves.{trade, leave, withdraw, rest, pause, elect, centre, admit, set_up, to, floored, resumed}
use Rattle.replay.specs.Runs.{first_price, clean_up, next_price, print_at, residual, settle_of, settle, elect_at, centre_if, run, run_of, turn_of, turn, turns, work, busy, start_place, join_of, join}
use Rattle.replay.specs.Calls.{after_calls, answers, tapes, refusal, decided, checks, became, answered, perform, step}
use Rattle.replay.specs.History.{bare, Bare, bare_calls, bare_answers, bare_tapes, joined, BareRun, HistoryUnread}
use Rattle.replay.proofs.Lists.{append_append, append_none}

beyond_both : {A : Type 0} (xs ys zs : List A) → beyond (xs ++ ys) (xs ++ zs) ≡ beyond ys zs
beyond_both [] ys zs = refl
beyond_both (x ∷ xs) ys zs = beyond_both xs ys zs

module _ (ts : List TapeLine) (fs : List Fill) where
  -- the day with a history before it
  abbrev after : Day → Day
  after d = record { roll = d.roll; line = d.line; paused = d.paused; range = d.range; last = d.last; class = d.class; column = d.column; phase = d.phase; tape = ts ++ d.tape; fills = fs ++ d.fills }

  -- a day whose tape grew by xs, and its fills by gs
  grown : (d : Day) (xs : List TapeLine) (gs : List Fill)
      → record { roll = d.roll; line = d.line; paused = d.paused; range = d.range; last = d.last; class = d.class; column = d.column; phase = d.phase; tape = (ts ++ d.tape) ++ xs; fills = (fs ++ d.fills) ++ gs }
      ≡ after (record { roll = d.roll; line = d.line; paused = d.paused; range = d.range; last = d.last; class = d.class; column = d.column; phase = d.phase; tape = d.tape ++ xs; fills = d.fills ++ gs })
  grown d xs gs =
      ap (λ t. record { roll = d.roll; line = d.line; paused = d.paused; range = d.range; last = d.last; class = d.class; column = d.column; phase = d.phase; tape = t; fills = (fs ++ d.fills) ++ gs }) (append_append ts d.tape xs)
      ∙ ap (λ f. record { roll = d.roll; line = d.line; paused = d.paused; range = d.range; last = d.last; class = d.class; column = d.column; phase = d.phase; tape = ts ++ (d.tape ++ xs); fills = f }) (append_append fs d.fills gs)

  -- the same where the fills stay
  taped : (d : Day) (xs : List TapeLine)
      → record { roll = d.roll; line = d.line; paused = d.paused; range = d.range; last = d.last; class = d.class; column = d.column; phase = d.phase; tape = (ts ++ d.tape) ++ xs; fills = fs ++ d.fills }
      ≡ after (record { roll = d.roll; line = d.line; paused = d.paused; range = d.range; last = d.last; class = d.class; column = d.column; phase = d.phase; tape = d.tape ++ xs; fills = d.fills })
  taped d xs =
      ap (λ t. record { roll = d.roll; line = d.line; paused = d.paused; range = d.range; last = d.last; class = d.class; column = d.column; phase = d.phase; tape = t; fills = fs ++ d.fills }) (append_append ts d.tape xs)

  module _ (gifts : Rule) where
    trade_after : (n : ℕ) (c : Side) (p : ℕ) (d : Day) → trade gifts n c p (after d) ≡ after (trade gifts n c p d)
    unfolding trade
    trade_after n c p d = let e : Day = trade gifts n c p d in
        grown (record { roll = e.roll; line = e.line; paused = e.paused; range = e.range; last = e.last; class = e.class; column = e.column; phase = e.phase; tape = d.tape; fills = d.fills }) _ _

    withdraw_after : (n : ℕ) (d : Day) → withdraw n (after d) ≡ after (withdraw n d)
    unfolding withdraw
    withdraw_after n d = let e : Day = withdraw n d in
        taped (record { roll = e.roll; line = e.line; paused = e.paused; range = e.range; last = e.last; class = e.class; column = e.column; phase = e.phase; tape = d.tape; fills = d.fills }) _

    elect_after : (p : ℕ) (d : Day) → elect p (after d) ≡ after (elect p d)
    unfolding elect
    elect_after p d = let e : Day = elect p d in
        taped (record { roll = e.roll; line = e.line; paused = e.paused; range = e.range; last = e.last; class = e.class; column = e.column; phase = e.phase; tape = d.tape; fills = d.fills }) _

    floored_after : (p q : ℕ) (d : Day) → floored p q (after d) ≡ after (floored p q d)
    unfolding floored
    floored_after p q d = let e : Day = floored p q d in
        taped (record { roll = e.roll; line = e.line; paused = e.paused; range = e.range; last = e.last; class = e.class; column = e.column; phase = e.phase; tape = d.tape; fills = d.fills }) _

    print_after : (r : Order) (x : Option ℕ) (d : Day) → print_at gifts r x (after d) ≡ after (print_at gifts r x d)
    print_after r None d = refl
    print_after r (Some p) d = trade_after r.number (opposite r.side) p d

    residual_after : (n : ℕ) (b : Bool) (k : Kind) (d : Day) → residual n b k (after d) ≡ after (residual n b k d)
    unfolding pause rest
    residual_after n true Limit d = refl
    residual_after n true Market d = refl
    residual_after n true Stop d = refl
    residual_after n true ImmediateOrCancel d = ap (pause true) (withdraw_after n d)
    residual_after n false Limit d = refl
    residual_after n false Market d = withdraw_after n d
    residual_after n false Stop d = withdraw_after n d
    residual_after n false ImmediateOrCancel d = withdraw_after n d

    settle_after : (r : Order) (d : Day) → settle r (after d) ≡ after (settle r d)
    unfolding settle leave
    settle_after r d = go (left r.number d.roll)
      where
        go : (l : ℕ) → settle_of l r.number (any (is_contra r) d.roll) r.kind (after d) ≡ after (settle_of l r.number (any (is_contra r) d.roll) r.kind d)
        go zero = refl
        go (suc l) = residual_after r.number (any (is_contra r) d.roll) r.kind d

    elect_at_after : (x : Option ℕ) (d : Day) → elect_at x (after d) ≡ after (elect_at x d)
    elect_at_after None d = refl
    elect_at_after (Some p) d = elect_after p d

    centre_if_after : (g : Option Range) (x : Option ℕ) (d : Day) → centre_if g x (after d) ≡ after (centre_if g x d)
    unfolding centre
    centre_if_after None None d = refl
    centre_if_after None (Some p) d = refl
    centre_if_after (Some g) x d = refl

    next_after : (a : Option ℕ) (r : Order) (d : Day) → next_price a r (after d) ≡ next_price a r d
    unfolding clean_up
    next_after None r d = refl
    next_after (Some p) r d = refl

    closing : Order → Option Range → Option ℕ → Option ℕ → Day → Day
    closing r g a b d = centre_if g a (elect_at b (elect_at a (settle r d)))

    closing_after : (r : Order) (g : Option Range) (a b : Option ℕ) (d : Day) → closing r g a b (after d) ≡ after (closing r g a b d)
    unfolding closing
    closing_after r g a b d =
        ap (λ e. centre_if g a (elect_at b (elect_at a e))) (settle_after r d) ∙ ap (λ e. centre_if g a (elect_at b e)) (elect_at_after a (settle r d))
        ∙ ap (centre_if g a) (elect_at_after b (elect_at a (settle r d))) ∙ centre_if_after g a (elect_at b (elect_at a (settle r d)))

    run_after : (r : Order) (d : Day) → run gifts r (after d) ≡ after (run gifts r d)
    unfolding run closing first_price
    run_after r d =
        let a : Option ℕ = first_price r d in
        let d₁ : Day = print_at gifts r a d in
        let b : Option ℕ = next_price a r d₁ in
        ap (λ e. closing r d.range a (next_price a r e) (print_at gifts r (next_price a r e) e)) (print_after r a d)
        ∙ ap (λ z. closing r d.range a z (print_at gifts r z (after d₁))) (next_after a r d₁)
        ∙ ap (closing r d.range a b) (print_after r b d₁)
        ∙ closing_after r d.range a b (print_at gifts r b d₁)

    turn_after : (d : Day) → turn gifts (after d) ≡ after (turn gifts d)
    unfolding turn leave
    turn_after d = go d.paused d.line
      where
        at : (n : ℕ) (x : Option Order) → run_of gifts n x (after d) ≡ after (run_of gifts n x d)
        at n None = refl
        at n (Some r) = run_after r d

        go : (b : Bool) (ns : List ℕ) → turn_of gifts b ns (after d) ≡ after (turn_of gifts b ns d)
        go true ns = refl
        go false [] = refl
        go false (n ∷ ns) = at n (look n d.roll)

    turns_after : (k : ℕ) (d : Day) → turns gifts k (after d) ≡ after (turns gifts k d)
    unfolding turns
    turns_after zero d = refl
    turns_after (suc k) d = ap (turns gifts k) (turn_after d) ∙ turns_after k (turn gifts d)

    work_after : (d : Day) → work gifts (after d) ≡ after (work gifts d)
    unfolding work busy
    work_after d = turns_after (busy d) d

    join_after : (o : Order) (d : Day) → join gifts o (after d) ≡ after (join gifts o d)
    unfolding join admit
    join_after o d = go d.paused o.kind (start_place o.kind (any (is_contra o) d.roll))
      where
        go : (b : Bool) (k : Kind) (w : Place) → join_of gifts b k o w (after d) ≡ after (join_of gifts b k o w d)
        go true ImmediateOrCancel w = withdraw_after o.number (admit o Line d)
        go true Limit w = work_after (admit o w d)
        go true Market w = work_after (admit o w d)
        go true Stop w = work_after (admit o w d)
        go false k w = work_after (admit o w d)

    became_after : (d : Day) (c : Call) → became gifts (after d) c ≡ after (became gifts d c)
    unfolding became set_up admit centre to resumed
    became_after d (Set k c p) = refl
    became_after d (LoadLimit s m p q) = refl
    became_after d (LoadStop s m p q) = refl
    became_after d Open = refl
    became_after d (Enter k s m p q f) = join_after (fresh k s m p q d.roll) d
    became_after d (CancelOrder m n f) = withdraw_after n d
    became_after d (FloorTrade p q f) = ap (λ e. work gifts (elect p e)) (floored_after p q d) ∙ ap (work gifts) (elect_after p (floored p q d)) ∙ work_after (elect p (floored p q d))
    became_after d (Resume f) = work_after (resumed d)
    became_after d Close = refl

    answered_after : (d e : Day) (c : Call) → answered (after d) c (after e) ≡ answered d c e
    unfolding answered
    answered_after d e (Set k c p) = refl
    answered_after d e (LoadLimit s m p q) = refl
    answered_after d e (LoadStop s m p q) = refl
    answered_after d e Open = refl
    answered_after d e (Enter k s m p q f) = ap (λ x. Entered (suc (length d.roll)) (length x)) (beyond_both ts d.tape e.tape)
    answered_after d e (CancelOrder m n f) = ap (λ x. Lines (length x)) (beyond_both ts d.tape e.tape)
    answered_after d e (FloorTrade p q f) = ap (λ x. Lines (length x)) (beyond_both ts d.tape e.tape)
    answered_after d e (Resume f) = ap (λ x. Lines (length x)) (beyond_both ts d.tape e.tape)
    answered_after d e Close = refl

    checks_after : (room : ℕ) (d : Day) (c : Call) → checks room (after d) c ≡ checks room d c
    unfolding checks busy
    checks_after room d (Set k c p) = refl
    checks_after room d (LoadLimit s m p q) = refl
    checks_after room d (LoadStop s m p q) = refl
    checks_after room d Open = refl
    checks_after room d (Enter k s m p q f) = refl
    checks_after room d (CancelOrder m n f) = refl
    checks_after room d (FloorTrade p q f) = refl
    checks_after room d (Resume f) = refl
    checks_after room d Close = refl

    -- a call after a history: the same answer, and the same day after that history
    pub step_after : (room : ℕ) (d : Day) (c : Call) → ((step gifts room (after d) c).day ≡ after (step gifts room d c).day) × ((step gifts room (after d) c).answer ≡ (step gifts room d c).answer)
    unfolding step perform
    step_after room d c =
        subst (λ x. ((decided (refusal x) (after d) (perform gifts (after d) c)).day ≡ after (step gifts room d c).day) × ((decided (refusal x) (after d) (perform gifts (after d) c)).answer ≡ (step gifts room d c).answer))
        (sym (checks_after room d c)) (go (refusal (checks room d c)))
      where
        go : (x : Option ℕ) → ((decided x (after d) (perform gifts (after d) c)).day ≡ after (decided x d (perform gifts d c)).day) × ((decided x (after d) (perform gifts (after d) c)).answer ≡ (decided x d (perform gifts d c)).answer)
        go None = (became_after d c, ap (answered (after d) c) (became_after d c) ∙ answered_after d (became gifts d c) c)
        go (Some k) = (refl, refl)

-- For the code, whose day keeps no tape: a call on the day without its history gives the answer, the lines, and the day again without history.
beyond_front : {A : Type 0} (xs ys : List A) → beyond xs (xs ++ ys) ≡ ys
beyond_front [] ys = refl
beyond_front (x ∷ xs) ys = beyond_front xs ys

with_history : (d : Day) → after d.tape d.fills (bare d) ≡ d
with_history d =
    ap (λ t. record { roll = d.roll; line = d.line; paused = d.paused; range = d.range; last = d.last; class = d.class; column = d.column; phase = d.phase; tape = t; fills = d.fills ++ [] }) (append_none d.tape)
    ∙ ap (λ f. record { roll = d.roll; line = d.line; paused = d.paused; range = d.range; last = d.last; class = d.class; column = d.column; phase = d.phase; tape = d.tape; fills = f }) (append_none d.fills)

pub step_bare : (gifts : Rule) (room : ℕ) (d : Day) (c : Call) → Bare gifts room d c
step_bare gifts room d c =
    let e : ((step gifts room (after d.tape d.fills (bare d)) c).day ≡ after d.tape d.fills (step gifts room (bare d) c).day) × ((step gifts room (after d.tape d.fills (bare d)) c).answer ≡ (step gifts room (bare d) c).answer)
    = step_after d.tape d.fills gifts room (bare d) c in
    let i : (step gifts room d c).day ≡ after d.tape d.fills (step gifts room (bare d) c).day = ap (λ x. (step gifts room x c).day) (sym (with_history d)) ∙ e.0 in
    record {
      answer = ap (λ x. (step gifts room x c).answer) (sym (with_history d)) ∙ e.1;
      lines = ap (λ (x : Day). beyond d.tape x.tape) i ∙ beyond_front d.tape (step gifts room (bare d) c).day.tape;
      tape = ap (λ (x : Day). x.tape) i;
      day = ap bare i;
    }

pub run_bare : (gifts : Rule) (room : ℕ) (cs : List Call) (d : Day) → BareRun gifts room d cs
unfolding after_calls answers tapes bare_calls bare_answers bare_tapes
run_bare gifts room [] d = record { day = refl; answers = refl; lines = refl; tape = sym (append_none d.tape) }
run_bare gifts room (c ∷ cs) d =
    let s : Bare gifts room d c = step_bare gifts room d c in
    let h : BareRun gifts room (step gifts room d c).day cs = run_bare gifts room cs (step gifts room d c).day in
    let b : Day = bare (step gifts room (bare d) c).day in
    record {
      day = h.day ∙ ap (λ x. bare_calls gifts room x cs) s.day;
      answers = ap (λ x. x ∷ answers gifts room (step gifts room d c).day cs) s.answer ∙ ap (λ x. (step gifts room (bare d) c).answer ∷ x) (h.answers ∙ ap (λ x. bare_answers gifts room x cs) s.day);
      lines = ap (λ x. x ∷ tapes gifts room (step gifts room d c).day cs) s.lines ∙ ap (λ x. (step gifts room (bare d) c).day.tape ∷ x) (h.lines ∙ ap (λ x. bare_tapes gifts room x cs) s.day);
      tape = h.tape ∙ ap (λ x. x ++ joined (bare_tapes gifts room (bare (step gifts room d c).day) cs)) s.tape
          ∙ append_append d.tape (step gifts room (bare d) c).day.tape (joined (bare_tapes gifts room (bare (step gifts room d c).day) cs))
          ∙ ap (λ x. d.tape ++ ((step gifts room (bare d) c).day.tape ++ joined (bare_tapes gifts room x cs))) s.day;
    }

pub history_unread : HistoryUnread
history_unread = run_bare
