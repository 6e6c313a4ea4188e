-- Calls on two days that differ only in hidden stops.
use Rattle.std.proofs.Common.{◌≡◌, ℕ, suc, ◌+◌, ◌≤◌, Bool, true, false, not, ◌&&◌, eqb, ltb, leb, List, [], ◌∷◌, ◌++◌, length, Some, None, Option, sym, refl, ap, ◌∙◌, subst, inl, inr, ⊎_elim, arith}
use Rattle.std.proofs.lemmas.Bool.{ne_eqb}
use Rattle.std.specs.List.{AllZip}
use Rattle.market.specs.declared.words.Side.{Side}
use Rattle.market.specs.declared.words.Side.TheVariants.{Buy, Sell}
use Rattle.market.specs.declared.words.Kind.{Kind}
use Rattle.market.specs.declared.words.Kind.TheVariants.{Limit, Market, ImmediateOrCancel, Stop}
use Rattle.market.specs.declared.words.Place.{Place}
use Rattle.market.specs.declared.words.Place.TheVariants.{Book, Line, StopFile, Nowhere}
use Rattle.market.specs.declared.words.Order.{Order}
use Rattle.market.specs.declared.words.TapeLine.TheVariants.{Floor}
use Rattle.market.specs.Orders.{rests_on, put}
use Rattle.market.specs.Ranges.{range_around}
use Rattle.sharing.specs.Shares.{LawfulRule}
use Rattle.replay.specs.Lists.{only, total, any, beyond}
use Rattle.replay.specs.Days.{Day, Phase, Loading, Trading, Closed, Rule, Call, Set, LoadLimit, LoadStop, Open, Enter, CancelOrder, FloorTrade, Resume, Close, Number, Lines, Entered, Outcome, new_day}
use Rattle.replay.specs.Rolls.{is_filed, look, price_of, fresh, filed, member_of, absent, open_of}
use Rattle.replay.specs.Book.{best, is_contra, prices}
use Rattle.replay.specs.Moves.{withdraw, elect, centre, line_with, admit, set_up, to, floored, resumed}
use Rattle.replay.specs.Runs.{turns, work, busy, start_place, join_of, join}
use Rattle.replay.specs.Calls.{refusal, decided, handed, resting_at, is_phase, checks, became, answered, perform, step, after_calls, column_of}
use Rattle.replay.specs.Questions.{quote, quote_of}
use Rattle.replay.specs.SharesAddUp.{print_of, cancel_of}
use Rattle.replay.specs.StopsUnseen.{SameLine, Named, Pair, same, loads, enters, Pairs, SameSeen, AllSeen, StopsUnseen}
use Rattle.replay.proofs.Lists.{total_push}
use Rattle.replay.proofs.Rolls.{Held}
use Rattle.replay.proofs.Runs.{Sound, elect_sound}
use Rattle.replay.proofs.Calls.{admit_fresh, same_sound, good_shares, start_held, step_sound, passed_stop, passed_enter, new_sound}
use Rattle.replay.proofs.Unseen.{Aside, Hidden, Alike, Rolls, Same, Twin, Quiet, Found, look_alike, blind_any, same_row, same_best, same_contra, zip_push, withdraw_twin, centre_twin, elect_twin, turns_twin, turns_back, quiet, all_front}
use Rattle.market.specs.Bounds.{is_shares}

module _ (N : ℕ → Bool) where
  same_length : (os us : List Order) → Rolls N os us → length os ≡ length us
  same_length [] [] z = refl
  same_length [] (u ∷ us) z = absurd z
  same_length (o ∷ os) [] z = absurd z
  same_length (o ∷ os) (u ∷ us) z = ap suc (same_length os us z.1)

  alike_place : (o u : Order) → Alike N o u → o.place ≡ u.place
  alike_place o u a = ⊎_elim (λ e. ap (λ (x : Order). x.place) e) (λ h. h.place) a

  same_filed : (os us : List Order) → Rolls N os us → filed os ≡ filed us
  same_filed [] [] z = refl
  same_filed [] (u ∷ us) z = absurd z
  same_filed (o ∷ os) [] z = absurd z
  same_filed (o ∷ os) (u ∷ us) z =
      let a : only (is_filed o.place) 1 ≡ only (is_filed u.place) 1 = ap (λ w. only (is_filed w) 1) (alike_place o u z.0) in
      let b : filed os ≡ filed us = same_filed os us z.1 in
      omega arith

  same_busy : (d e : Day) → Twin N d e → busy d ≡ busy e
  unfolding busy
  same_busy d e t = ap (λ x. length x + filed d.roll) t.line ∙ ap (λ x. length e.line + x) (same_filed d.roll e.roll t.roll)

  same_resting : (f : ℕ → Bool) (c : Side) (os us : List Order) → Rolls N os us → resting_at f c os ≡ resting_at f c us
  same_resting f c os us z = blind_any N (λ o. rests_on c o && f o.price) (λ o e. rw e refl) os us z

  same_fresh : (k : Kind) (s : Side) (m p q : ℕ) (os us : List Order) → Rolls N os us → fresh k s m p q os ≡ fresh k s m p q us
  unfolding fresh
  same_fresh k s m p q os us z = ap (λ n. record { number = suc n; member = m; side = s; kind = k; price = price_of k p; accepted = q; filled = 0; cancelled = 0; «open» = q; place = Nowhere }) (same_length os us z)

  zero_aside : (w : Place) (a b : ℕ) → Aside w → Held w a → Held w b → eqb a 0 ≡ eqb b 0
  zero_aside Book a b x h k = absurd x
  zero_aside Line a b x h k = absurd x
  zero_aside StopFile a b x h k = ne_eqb a 0 (λ e. omega arith) ∙ sym (ne_eqb b 0 (λ e. omega arith))
  zero_aside Nowhere a b x h k = ap (λ n. eqb n 0) (h ∙ sym k)

  -- what Cancel asks of the order
  same_asked : (n : ℕ) (os us : List Order) → Rolls N os us
      → (absent (look n os) ≡ absent (look n us)) × (member_of (look n os) ≡ member_of (look n us)) × (eqb (open_of (look n os)) 0 ≡ eqb (open_of (look n us)) 0)
  same_asked n os us z = go (look n os) (look n us) (look_alike N n os us z)
    where
      go : (x y : Option Order) → Found N x y → (absent x ≡ absent y) × (member_of x ≡ member_of y) × (eqb (open_of x) 0 ≡ eqb (open_of y) 0)
      go None None f = (refl, refl, refl)
      go None (Some u) f = absurd f
      go (Some o) None f = absurd f
      go (Some o) (Some u) (inl e) = (refl, ap (λ (x : Order). x.member) e, ap (λ (x : Order). eqb x.«open» 0) e)
      go (Some o) (Some u) (inr h) = (refl, h.member, zero_aside o.place o.«open» u.«open» h.aside h.held (subst (λ w. Held w u.«open») (sym h.place) h.held'))

  same_checks : (room : ℕ) (c : Call) (d e : Day) → Twin N d e → checks room d c ≡ checks room e c
  unfolding checks
  same_checks room c d e t = go c
    where
      phase : (f : Phase) → is_phase f d.phase ≡ is_phase f e.phase
      phase f = ap (is_phase f) t.phase

      len : length d.roll ≡ length e.roll
      len = same_length d.roll e.roll t.roll

      fil : filed d.roll ≡ filed e.roll
      fil = same_filed d.roll e.roll t.roll

      bus : busy d ≡ busy e
      bus = same_busy d e t

      crossed : (k : Kind) (s : Side) (m p q : ℕ) → any (is_contra (fresh k s m p q d.roll)) d.roll ≡ any (is_contra (fresh k s m p q e.roll)) e.roll
      crossed k s m p q = same_contra N (fresh k s m p q d.roll) d.roll e.roll t.roll ∙ ap (λ o. any (is_contra o) e.roll) (same_fresh k s m p q d.roll e.roll t.roll)

      go : (c : Call) → checks room d c ≡ checks room e c
      go (Set k c p) = rw (phase Loading)
      go (LoadLimit s m p q) = rw (phase Loading, len, crossed Limit s m p q)
      go (LoadStop s m p q) = rw (phase Loading, len, fil)
      go Open = rw (phase Loading)
      go (Enter k s m p q f) = rw (phase Trading, len, fil, bus)
      go (CancelOrder m n f) = let a = same_asked n d.roll e.roll t.roll in rw (phase Trading, a.0, a.1, a.2)
      go (FloorTrade p q f) = rw (phase Trading, same_resting (λ b. ltb p b) Buy d.roll e.roll t.roll, same_resting (λ b. ltb b p) Sell d.roll e.roll t.roll, bus)
      go (Resume f) = rw (bus, phase Trading, t.paused)
      go Close = rw (phase Trading)

  -- the calls -------------------------------------------------------------------------------------------------------------------------------
  zip_last : (os us : List Order) (o u : Order) → Rolls N os us → Alike N o u → Rolls N (os ++ (o ∷ [])) (us ++ (u ∷ []))
  zip_last os us o u z a = zip_push N (Alike N) os us o u z a

  admit_twin : (o u : Order) (w : Place) (d e : Day) → Twin N d e → Alike N (put w o) (put w u) → o.number ≡ u.number → Twin N (admit o w d) (admit u w e)
  unfolding admit
  admit_twin o u w d e t a n = record {
    roll = zip_last d.roll e.roll (put w o) (put w u) t.roll a;
    line = ap (λ x. line_with w x d.line) n ∙ ap (line_with w u.number) t.line;
    paused = t.paused;
    range = t.range;
    last = t.last;
    class = t.class;
    column = t.column;
    phase = t.phase;
    tape = t.tape;
  }

  -- accepted stops of one number, side and member, of any two prices and shares
  hidden_fresh : (s : Side) (m p q p' q' : ℕ) (os us : List Order) → Rolls N os us → N (suc (length os)) ≡ true → 100 ≤ q → 100 ≤ q'
      → Hidden N (put StopFile (fresh Stop s m p q os)) (put StopFile (fresh Stop s m p' q' us))
  unfolding fresh
  hidden_fresh s m p q p' q' os us z n h h' = record { number = ap suc (same_length os us z); named = n; member = refl; place = refl; aside = tt; held = h; held' = h' }

  fresh_number : (s : Side) (m p q : ℕ) (os : List Order) → (fresh Stop s m p q os).number ≡ suc (length os)
  unfolding fresh
  fresh_number s m p q os = refl

  module _ (gifts : Rule) (lawful : LawfulRule gifts) where
    work_twin : (d e : Day) → Sound d → Twin N d e → Quiet N (work gifts d) → Quiet N (work gifts e) → Twin N (work gifts d) (work gifts e)
    unfolding work
    work_twin d e s t x y =
        subst (λ k. Twin N (turns gifts (busy d) d) (turns gifts k e)) (same_busy d e t)
        (turns_twin N gifts lawful (busy d) d e s t x (subst (λ k. Quiet N (turns gifts k e)) (sym (same_busy d e t)) y))

    same_twin : (d e : Day) → Twin N d e → (p q : ℕ) → Twin N (floored p q d) (floored p q e)
    unfolding floored
    same_twin d e t p q = record {
      roll = t.roll;
      line = t.line;
      paused = refl;
      range = ap (λ x. range_around x d.column p) t.class ∙ ap (λ x. range_around e.class x p) t.column;
      last = refl;
      class = t.class;
      column = t.column;
      phase = t.phase;
      tape = zip_push N (Same N) d.tape e.tape (Floor p q) (Floor p q) t.tape (inl refl);
    }

    resume_twin : (d e : Day) → Twin N d e → Twin N (resumed d) (resumed e)
    unfolding resumed
    resume_twin d e t = record {
      roll = t.roll;
      line = t.line;
      paused = refl;
      range = ap (λ x. range_around x d.column d.last) t.class ∙ ap (λ x. range_around e.class x d.last) t.column ∙ ap (λ x. range_around e.class e.column x) t.last;
      last = t.last;
      class = t.class;
      column = t.column;
      phase = t.phase;
      tape = t.tape;
    }

    set_twin : (k : ℕ) (c : _) (p : ℕ) (d e : Day) → Twin N d e → Twin N (set_up k c p d) (set_up k c p e)
    unfolding set_up
    set_twin k c p d e t = record { roll = t.roll; line = t.line; paused = t.paused; range = t.range; last = refl; class = refl; column = refl; phase = t.phase; tape = t.tape }

    to_twin : (f : Phase) (d e : Day) → Twin N d e → Twin N (to f d) (to f e)
    unfolding to
    to_twin f d e t = record { roll = t.roll; line = t.line; paused = t.paused; range = t.range; last = t.last; class = t.class; column = t.column; phase = refl; tape = t.tape }

    work_back : (d : Day) → Quiet N (work gifts d) → Quiet N d
    unfolding work
    work_back d a = turns_back N gifts lawful (busy d) d a

    fresh_twin : (k : Kind) (s : Side) (m p q : ℕ) (w : Place) (d e : Day) → Twin N d e → Twin N (admit (fresh k s m p q d.roll) w d) (admit (fresh k s m p q e.roll) w e)
    fresh_twin k s m p q w d e t =
        let f : fresh k s m p q d.roll ≡ fresh k s m p q e.roll = same_fresh k s m p q d.roll e.roll t.roll in
        admit_twin (fresh k s m p q d.roll) (fresh k s m p q e.roll) w d e t (inl (ap (put w) f)) (ap (λ (o : Order). o.number) f)

    join_twin : (k : Kind) (s : Side) (m p q : ℕ) (d e : Day) → Sound d → not (is_shares q) ≡ false → leb 512 (length d.roll) ≡ false → Twin N d e
        → Quiet N (join gifts (fresh k s m p q d.roll) d) → Quiet N (join gifts (fresh k s m p q e.roll) e)
        → Twin N (join gifts (fresh k s m p q d.roll) d) (join gifts (fresh k s m p q e.roll) e)
    unfolding join fresh
    join_twin k s m p q d e sd bs l t x y =
        subst (λ z. Twin N A (join_of gifts e.paused k o' (start_place k z) e)) contra
        (subst (λ z. Twin N A (join_of gifts z k o' (start_place k (any (is_contra o) d.roll)) e)) t.paused
        (go d.paused k (any (is_contra o) d.roll) x
        (subst (λ z. Quiet N (join_of gifts z k o' (start_place k (any (is_contra o) d.roll)) e)) (sym t.paused)
        (subst (λ z. Quiet N (join_of gifts e.paused k o' (start_place k z) e)) (sym contra) y))))
      where
        o : Order
        o = fresh k s m p q d.roll

        o' : Order
        o' = fresh k s m p q e.roll

        A : Day
        A = join_of gifts d.paused k o (start_place k (any (is_contra o) d.roll)) d

        contra : any (is_contra o) d.roll ≡ any (is_contra o') e.roll
        contra = same_contra N o d.roll e.roll t.roll ∙ ap (λ z. any (is_contra z) e.roll) (same_fresh k s m p q d.roll e.roll t.roll)

        goes : (k : Kind) (w : Place) → Held w q → Quiet N (work gifts (admit (fresh k s m p q d.roll) w d)) → Quiet N (work gifts (admit (fresh k s m p q e.roll) w e))
            → Twin N (work gifts (admit (fresh k s m p q d.roll) w d)) (work gifts (admit (fresh k s m p q e.roll) w e))
        goes k w h x y = work_twin _ _ (admit_fresh k s m p q w d h bs l sd) (fresh_twin k s m p q w d e t) x y

        go : (b : Bool) (k : Kind) (c : Bool) → Quiet N (join_of gifts b k (fresh k s m p q d.roll) (start_place k c) d) → Quiet N (join_of gifts b k (fresh k s m p q e.roll) (start_place k c) e)
            → Twin N (join_of gifts b k (fresh k s m p q d.roll) (start_place k c) d) (join_of gifts b k (fresh k s m p q e.roll) (start_place k c) e)
        go true ImmediateOrCancel c x y = subst (λ n. Twin N (withdraw (suc (length d.roll)) (admit (fresh ImmediateOrCancel s m p q d.roll) Line d)) (withdraw n (admit (fresh ImmediateOrCancel s m p q e.roll) Line e)))
            (ap suc (same_length d.roll e.roll t.roll)) (withdraw_twin N (suc (length d.roll)) _ _ (fresh_twin ImmediateOrCancel s m p q Line d e t))
        go true Limit c x y = goes Limit (start_place Limit c) (start_held Limit c q (good_shares q bs).1) x y
        go true Market c x y = goes Market Line (good_shares q bs).1 x y
        go true Stop c x y = goes Stop StopFile (good_shares q bs).1 x y
        go false k c x y = goes k (start_place k c) (start_held k c q (good_shares q bs).1) x y

    floor_sound : (p q : ℕ) (d : Day) → Sound d → Sound (floored p q d)
    unfolding floored
    floor_sound p q d s = same_sound d _ refl refl (sym (total_push print_of d.tape (Floor p q) ∙ omega arith)) (sym (total_push cancel_of d.tape (Floor p q) ∙ omega arith)) s

    resume_sound : (d : Day) → Sound d → Sound (resumed d)
    unfolding resumed
    resume_sound d s = same_sound d _ refl refl refl refl s

    -- the same call on both days
    became_twin : (room : ℕ) (c : Call) (d e : Day) → Sound d → refusal (checks room d c) ≡ None → Twin N d e → Quiet N (became gifts d c) → Quiet N (became gifts e c)
        → Twin N (became gifts d c) (became gifts e c)
    unfolding became
    became_twin room (Set k c p) d e s r t x y = set_twin k (column_of c) p d e t
    became_twin room (LoadLimit sd m p q) d e s r t x y = fresh_twin Limit sd m p q Book d e t
    became_twin room (LoadStop sd m p q) d e s r t x y = fresh_twin Stop sd m p q StopFile d e t
    became_twin room Open d e s r t x y = centre_twin N (to Trading d) (to Trading e) (to_twin Trading d e t)
    became_twin room (Enter k sd m p q f) d e s r t x y =
        let h : (not (is_shares q) ≡ false) × (leb 512 (length d.roll) ≡ false) = passed_enter room d k sd m p q f r in
        join_twin k sd m p q d e s h.0 h.1 t x y
    became_twin room (CancelOrder m n f) d e s r t x y = withdraw_twin N n d e t
    became_twin room (FloorTrade p q f) d e s r t x y =
        work_twin _ _ (elect_sound p (floored p q d) (floor_sound p q d s))
        (elect_twin N p (floored p q d) (floored p q e) (same_twin d e t p q) (work_back _ x) (work_back _ y)) x y
    became_twin room (Resume f) d e s r t x y = work_twin _ _ (resume_sound d s) (resume_twin d e t) x y
    became_twin room Close d e s r t x y = to_twin Closed d e t

    -- what is seen -----------------------------------------------------------------------------------------------------------------------
    zip_beyond : {A : Type 0} (Q : A → A → Type 0) (xs ys us vs : List A) → AllZip Q xs ys → AllZip Q us vs → AllZip Q (beyond xs us) (beyond ys vs)
    zip_beyond Q [] [] us vs z w = w
    zip_beyond Q [] (y ∷ ys) us vs z w = absurd z
    zip_beyond Q (x ∷ xs) [] us vs z w = absurd z
    zip_beyond Q (x ∷ xs) (y ∷ ys) [] [] z w = tt
    zip_beyond Q (x ∷ xs) (y ∷ ys) [] (v ∷ vs) z w = absurd w
    zip_beyond Q (x ∷ xs) (y ∷ ys) (u ∷ us) [] z w = absurd w
    zip_beyond Q (x ∷ xs) (y ∷ ys) (u ∷ us) (v ∷ vs) z w = zip_beyond Q xs ys us vs z.1 w.1

    zip_length : {A : Type 0} (Q : A → A → Type 0) (xs ys : List A) → AllZip Q xs ys → length xs ≡ length ys
    zip_length Q [] [] z = refl
    zip_length Q [] (y ∷ ys) z = absurd z
    zip_length Q (x ∷ xs) [] z = absurd z
    zip_length Q (x ∷ xs) (y ∷ ys) z = ap suc (zip_length Q xs ys z.1)

    same_lines : (d e d' e' : Day) → Twin N d e → Twin N d' e' → AllZip (SameLine N) (handed d d') (handed e e')
    same_lines d e d' e' t t' = zip_beyond (SameLine N) d.tape e.tape d'.tape e'.tape t.tape t'.tape

    same_count : (d e d' e' : Day) → Twin N d e → Twin N d' e' → length (handed d d') ≡ length (handed e e')
    same_count d e d' e' t t' = zip_length (SameLine N) (handed d d') (handed e e') (same_lines d e d' e' t t')

    same_quote : (c : Side) (d e : Day) → Twin N d e → quote c d ≡ quote c e
    unfolding quote
    same_quote c d e t = ap (λ ps. quote_of c d.roll (best c ps)) (same_best N c d.roll e.roll t.roll) ∙ go (best c (prices (rests_on c) e.roll))
      where
        go : (x : Option ℕ) → quote_of c d.roll x ≡ quote_of c e.roll x
        go None = refl
        go (Some p) = ap (λ ns. Some (p, total (λ n. n) ns)) (same_row N c p d.roll e.roll t.roll)

    same_answer : (c : Call) (d e d' e' : Day) → Twin N d e → Twin N d' e' → answered d c d' ≡ answered e c e'
    unfolding answered
    same_answer (Set k c p) d e d' e' t t' = refl
    same_answer (LoadLimit s m p q) d e d' e' t t' = ap (λ n. Number (suc n)) (same_length d.roll e.roll t.roll)
    same_answer (LoadStop s m p q) d e d' e' t t' = ap (λ n. Number (suc n)) (same_length d.roll e.roll t.roll)
    same_answer Open d e d' e' t t' = refl
    same_answer (Enter k s m p q f) d e d' e' t t' =
        ap (λ n. Entered (suc n) (length (handed d d'))) (same_length d.roll e.roll t.roll) ∙ ap (Entered (suc (length e.roll))) (same_count d e d' e' t t')
    same_answer (CancelOrder m n f) d e d' e' t t' = ap Lines (same_count d e d' e' t t')
    same_answer (FloorTrade p q f) d e d' e' t t' = ap Lines (same_count d e d' e' t t')
    same_answer (Resume f) d e d' e' t t' = ap Lines (same_count d e d' e' t t')
    same_answer Close d e d' e' t t' = refl

    seen : (d e : Day) (r r' : Outcome) → Twin N d e → Twin N r.day r'.day → r.answer ≡ r'.answer → SameSeen N d e r r'
    seen d e r r' t t' a = record { answer = a; lines = same_lines d e r.day r'.day t t'; quotes = λ c. same_quote c r.day r'.day t'; pause = t'.paused; range = t'.range }

    -- alike days after a call with equal answers
    abbrev Same₁ : Outcome → Outcome → Type 0
    Same₁ r r' = Twin N r.day r'.day × (r.answer ≡ r'.answer)

    pub step_twin : (room : ℕ) (c : Call) (d e : Day) → Sound d → Twin N d e → Quiet N (step gifts room d c).day → Quiet N (step gifts room e c).day
        → Same₁ (step gifts room d c) (step gifts room e c)
    unfolding step perform
    step_twin room c d e s t x y =
        subst (λ z. Same₁ (step gifts room d c) (decided z e (perform gifts e c))) same_refusal
        (go (refusal (checks room d c)) refl x (subst (λ z. Quiet N (decided z e (perform gifts e c)).day) (sym same_refusal) y))
      where
        same_refusal : refusal (checks room d c) ≡ refusal (checks room e c)
        same_refusal = ap refusal (same_checks room c d e t)

        go : (z : Option ℕ) → refusal (checks room d c) ≡ z → Quiet N (decided z d (perform gifts d c)).day → Quiet N (decided z e (perform gifts e c)).day
            → Same₁ (decided z d (perform gifts d c)) (decided z e (perform gifts e c))
        go None r x y = let t' : Twin N (became gifts d c) (became gifts e c) = became_twin room c d e s r t x y in (t', same_answer c d e (became gifts d c) (became gifts e c) t t')
        go (Some k) r x y = (t, refl)

    stop_twin : (s : Side) (m p q p' q' : ℕ) (d e : Day) → N (suc (length d.roll)) ≡ true → not (is_shares q) ≡ false → not (is_shares q') ≡ false → Twin N d e
        → Twin N (admit (fresh Stop s m p q d.roll) StopFile d) (admit (fresh Stop s m p' q' e.roll) StopFile e)
    stop_twin s m p q p' q' d e n b b' t = admit_twin _ _ StopFile d e t
        (inr (hidden_fresh s m p q p' q' d.roll e.roll t.roll n (good_shares q b).1 (good_shares q' b').1)) (number p q p' q')
      where
        number : (p q p' q' : ℕ) → (fresh Stop s m p q d.roll).number ≡ (fresh Stop s m p' q' e.roll).number
        number p q p' q' = fresh_number s m p q d.roll ∙ ap suc (same_length d.roll e.roll t.roll) ∙ sym (fresh_number s m p' q' e.roll)

    -- a stop that enters is filed; then the line runs, if it can
    join_stop : (s : Side) (m p q : ℕ) (d : Day) → join gifts (fresh Stop s m p q d.roll) d ≡ work gifts (admit (fresh Stop s m p q d.roll) StopFile d)
    unfolding join fresh
    join_stop s m p q d = go d.paused
      where
        go : (b : Bool) → join_of gifts b Stop (fresh Stop s m p q d.roll) StopFile d ≡ work gifts (admit (fresh Stop s m p q d.roll) StopFile d)
        go true = refl
        go false = refl

    stops_run : (s : Side) (m p q p' q' : ℕ) (d e : Day) → Sound d → N (suc (length d.roll)) ≡ true → not (is_shares q) ≡ false → not (is_shares q') ≡ false → leb 512 (length d.roll) ≡ false → Twin N d e
        → Quiet N (join gifts (fresh Stop s m p q d.roll) d) → Quiet N (join gifts (fresh Stop s m p' q' e.roll) e)
        → Twin N (join gifts (fresh Stop s m p q d.roll) d) (join gifts (fresh Stop s m p' q' e.roll) e)
    stops_run s m p q p' q' d e sd n b b' l t x y =
        subst (λ z. Twin N z (join gifts (fresh Stop s m p' q' e.roll) e)) (sym (join_stop s m p q d))
        (subst (λ z. Twin N (work gifts (admit (fresh Stop s m p q d.roll) StopFile d)) z) (sym (join_stop s m p' q' e))
        (work_twin _ _ (admit_fresh Stop s m p q StopFile d (good_shares q b).1 b l sd) (stop_twin s m p q p' q' d e n b b' t)
        (subst (Quiet N) (join_stop s m p q d) x) (subst (Quiet N) (join_stop s m p' q' e) y)))

    accepted : (room : ℕ) (c : Call) (d : Day) → refusal (checks room d c) ≡ None → step gifts room d c ≡ perform gifts d c
    unfolding step
    accepted room c d r = ap (λ z. decided z d (perform gifts d c)) r

    -- two accepted calls
    both_twin : (room : ℕ) (c c' : Call) (d e : Day) → Named N room d e c c' → Quiet N (step gifts room d c).day → Quiet N (step gifts room e c').day
        → (Quiet N (became gifts d c) → Quiet N (became gifts e c') → Twin N (became gifts d c) (became gifts e c'))
        → (Twin N (became gifts d c) (became gifts e c') → answered d c (became gifts d c) ≡ answered e c' (became gifts e c'))
        → Same₁ (step gifts room d c) (step gifts room e c')
    unfolding perform
    both_twin room c c' d e n x y f g =
        let i : step gifts room d c ≡ perform gifts d c = accepted room c d n.taken in
        let j : step gifts room e c' ≡ perform gifts e c' = accepted room c' e n.taken' in
        let t : Twin N (became gifts d c) (became gifts e c') = f (subst (λ (z : Outcome). Quiet N z.day) i x) (subst (λ (z : Outcome). Quiet N z.day) j y) in
        subst (λ z. Same₁ z (step gifts room e c')) (sym i) (subst (λ z. Same₁ (perform gifts d c) z) (sym j) (t, g t))

    pub pair_twin : (room : ℕ) (c c' : Call) (d e : Day) → Sound d → Twin N d e → Pair N room d e c c' → Quiet N (step gifts room d c).day → Quiet N (step gifts room e c').day
        → Same₁ (step gifts room d c) (step gifts room e c')
    unfolding became answered
    pair_twin room c c' d e s t (same) x y = step_twin room c d e s t x y
    pair_twin room c c' d e s t (loads {s = sd} {m} {p} {q} {p'} {q'} n) x y =
        both_twin room (LoadStop sd m p q) (LoadStop sd m p' q') d e n x y
        (λ _ _. stop_twin sd m p q p' q' d e n.name (passed_stop room d sd m p q n.taken).0 (passed_stop room e sd m p' q' n.taken').0 t)
        (λ _. ap (λ k. Number (suc k)) (same_length d.roll e.roll t.roll))
    pair_twin room c c' d e s t (enters {s = sd} {m} {p} {q} {p'} {q'} {f} n) x y =
        let h : (not (is_shares q) ≡ false) × (leb 512 (length d.roll) ≡ false) = passed_enter room d Stop sd m p q f n.taken in
        both_twin room (Enter Stop sd m p q f) (Enter Stop sd m p' q' f) d e n x y
        (λ x y. stops_run sd m p q p' q' d e s n.name h.0 (passed_enter room e Stop sd m p' q' f n.taken').0 h.1 t x y)
        (λ t'. ap (λ k. Entered (suc k) (length (handed d (became gifts d (Enter Stop sd m p q f))))) (same_length d.roll e.roll t.roll)
        ∙ ap (Entered (suc (length e.roll))) (same_count d e (became gifts d (Enter Stop sd m p q f)) (became gifts e (Enter Stop sd m p' q' f)) t t'))

    -- the tape only grows
    join_back : (k : Kind) (s : Side) (m p q : ℕ) (d : Day) → Quiet N (join gifts (fresh k s m p q d.roll) d) → Quiet N d
    unfolding join fresh admit withdraw
    join_back k s m p q d a = go d.paused k (start_place k (any (is_contra (fresh k s m p q d.roll)) d.roll)) a
      where
        go : (b : Bool) (k : Kind) (w : Place) → Quiet N (join_of gifts b k (fresh k s m p q d.roll) w d) → Quiet N d
        go true ImmediateOrCancel w a = all_front N (quiet N) d.tape _ a
        go true Limit w a = work_back _ a
        go true Market w a = work_back _ a
        go true Stop w a = work_back _ a
        go false k w a = work_back _ a

    became_back : (c : Call) (d : Day) → Quiet N (became gifts d c) → Quiet N d
    unfolding became set_up to centre admit withdraw floored resumed elect
    became_back (Set k c p) d a = a
    became_back (LoadLimit s m p q) d a = a
    became_back (LoadStop s m p q) d a = a
    became_back Open d a = a
    became_back (Enter k s m p q f) d a = join_back k s m p q d a
    became_back (CancelOrder m n f) d a = all_front N (quiet N) d.tape _ a
    became_back (FloorTrade p q f) d a = all_front N (quiet N) d.tape _ (all_front N (quiet N) (d.tape ++ (Floor p q ∷ [])) _ (work_back _ a))
    became_back (Resume f) d a = work_back (resumed d) a
    became_back Close d a = a

    step_back : (room : ℕ) (c : Call) (d : Day) → Quiet N (step gifts room d c).day → Quiet N d
    unfolding step perform
    step_back room c d a = go (refusal (checks room d c)) a
      where
        go : (z : Option ℕ) → Quiet N (decided z d (perform gifts d c)).day → Quiet N d
        go None a = became_back c d a
        go (Some k) a = a

    calls_back : (room : ℕ) (cs : List Call) (d : Day) → Quiet N (after_calls gifts room d cs) → Quiet N d
    unfolding after_calls
    calls_back room [] d a = a
    calls_back room (c ∷ cs) d a = step_back room c d (calls_back room cs (step gifts room d c).day a)

    -- THE LAW: from two alike days
    pub blind : (room : ℕ) (cs cs' : List Call) (d e : Day) → Sound d → Twin N d e → Pairs gifts N room d e cs cs'
        → Quiet N (after_calls gifts room d cs) → Quiet N (after_calls gifts room e cs') → AllSeen gifts N room d e cs cs'
    unfolding after_calls
    blind room [] [] d e s t ps x y = tt
    blind room [] (c' ∷ cs') d e s t ps x y = absurd ps
    blind room (c ∷ cs) [] d e s t ps x y = absurd ps
    blind room (c ∷ cs) (c' ∷ cs') d e s t ps x y =
        let h : Same₁ (step gifts room d c) (step gifts room e c')
        = pair_twin room c c' d e s t ps.0 (calls_back room cs (step gifts room d c).day x) (calls_back room cs' (step gifts room e c').day y) in (
          seen d e (step gifts room d c) (step gifts room e c') t h.0 h.1,
          blind room cs cs' (step gifts room d c).day (step gifts room e c').day (step_sound gifts lawful room d c s) h.0 ps.1 x y,
        )

    new_twin : Twin N new_day new_day
    unfolding new_day
    new_twin = record { roll = tt; line = refl; paused = refl; range = refl; last = refl; class = refl; column = refl; phase = refl; tape = tt }

    pub blind_day : (room : ℕ) (cs cs' : List Call) → Pairs gifts N room new_day new_day cs cs' → Quiet N (after_calls gifts room new_day cs) → Quiet N (after_calls gifts room new_day cs')
        → AllSeen gifts N room new_day new_day cs cs'
    blind_day room cs cs' ps x y = blind room cs cs' new_day new_day (new_sound gifts lawful) new_twin ps x y

pub stops_unseen : StopsUnseen
stops_unseen gifts lawful room N cs cs' ps x y = blind_day N gifts lawful room cs cs' ps x y
