-- From its start the line of a call is worked off. What holds at the start, and every run keeps, holds after the call.
use Rattle.std.proofs.Common.{◌≡◌, ℕ, zero, suc, ◌<◌, Bool, true, false, not, leb, ◌⊎◌, List, [], ◌∷◌, length, Some, None, Option, sym, refl, ap, ◌∙◌, subst, inl, inr, arith}
use Rattle.std.specs.List.{AllByRecursion}
use Rattle.market.specs.declared.words.Side.{Side}
use Rattle.market.specs.declared.words.Kind.{Kind}
use Rattle.market.specs.declared.words.Kind.TheVariants.{Limit, Market, ImmediateOrCancel, Stop}
use Rattle.market.specs.declared.words.Place.{Place}
use Rattle.market.specs.declared.words.Place.TheVariants.{Book, Line, StopFile}
use Rattle.market.specs.declared.words.Order.{Order}
use Rattle.market.specs.declared.words.TapeLine.TheVariants.{Floor}
use Rattle.market.specs.Bounds.{is_shares, is_class, is_last_sale}
use Rattle.sharing.specs.Shares.{LawfulRule}
use Rattle.replay.specs.Lists.{any}
use Rattle.replay.specs.Days.{Day, Trading, Closed, Rule, Call, Set, LoadLimit, LoadStop, Open, Enter, CancelOrder, FloorTrade, Resume, Close, new_day}
use Rattle.replay.specs.Rolls.{look, left, place_of, fresh}
use Rattle.replay.specs.Book.{is_contra}
use Rattle.replay.specs.Moves.{withdraw, centre, admit, set_up, to, floored, resumed, without}
use Rattle.replay.specs.Runs.{run, run_of, turn_of, turn, turns, work, busy, start_place, join_of, join}
use Rattle.replay.specs.Calls.{refusal, decided, column_of, checks, became, perform, step, after_calls}
use Rattle.replay.specs.SharesAddUp.{print_of, cancel_of}
use Rattle.replay.specs.Starts.{comes_in, start_of, RunsFollow}
use Rattle.replay.proofs.Lists.{total_push}
use Rattle.replay.proofs.Rolls.{Held}
use Rattle.replay.proofs.Moves.{Waits}
use Rattle.replay.proofs.Runs.{Sound, Mid, waiter, starts, look_number, elect_sound, turn_sound, centre_sound}
use Rattle.replay.proofs.Calls.{Checked, checked_limit, checked_stop, checked_enter, checked_set, checked_floor, passed_limit, passed_stop, passed_enter, good_shares, start_held, admit_fresh, same_sound, withdraw_any, step_sound, calls_sound, new_sound}
use Rattle.replay.proofs.Keeps.{Placed, Keeps}
use Rattle.replay.proofs.Turns.{Idle}
use Rattle.replay.proofs.Filing.{work_rests_on}
use Rattle.replay.proofs.Idle.{step_idle, calls_idle, new_idle}

-- what is known of an order that comes to run
pub record Comes (r : Order) (d : Day) : Type 0 where
  pub mid : Mid r d
  pub some : 0 < left r.number d.roll
  pub on : d.paused ≡ false
  pub is : look r.number d.roll ≡ Some r
  pub waits : r.place ≡ Line
  pub behind : List ℕ
  pub line : d.line ≡ r.number ∷ behind

module _ (gifts : Rule) where
  -- where nobody may run
  still_idle : (c : Call) (d e : Day) → e.paused ≡ d.paused → e.line ≡ d.line → Idle d → e ≡ work gifts e
  still_idle c d e p l (inl x) = sym (work_rests_on gifts e (inl (p ∙ x)))
  still_idle c d e p l (inr x) = sym (work_rests_on gifts e (inr (l ∙ x)))

  comes : (d : Day) (k : Kind) (o : Order) (w : Place) → join_of gifts d.paused k o w d ≡ work gifts (comes_in d.paused k o w d)
  unfolding withdraw admit
  comes d k o w = go d.paused refl k
    where
      go : (b : Bool) → d.paused ≡ b → (k : Kind) → join_of gifts b k o w d ≡ work gifts (comes_in b k o w d)
      go true e ImmediateOrCancel = sym (work_rests_on gifts (withdraw o.number (admit o Line d)) (inl e))
      go true e Limit = refl
      go true e Market = refl
      go true e Stop = refl
      go false e k = refl

  pub became_start : (d : Day) (c : Call) → Idle d → became gifts d c ≡ work gifts (start_of d c)
  unfolding became start_of join fresh set_up to centre withdraw admit
  became_start d (Set k c p) i = still_idle (Set k c p) d _ refl refl i
  became_start d (LoadLimit s m p q) i = still_idle (LoadLimit s m p q) d _ refl refl i
  became_start d (LoadStop s m p q) i = still_idle (LoadStop s m p q) d _ refl refl i
  became_start d Open i = still_idle Open d _ refl refl i
  became_start d (Enter k s m p q f) i = comes d k (fresh k s m p q d.roll) (start_place k (any (is_contra (fresh k s m p q d.roll)) d.roll))
  became_start d (CancelOrder m n f) (inl x) = sym (work_rests_on gifts (withdraw n d) (inl x))
  became_start d (CancelOrder m n f) (inr x) = sym (work_rests_on gifts (withdraw n d) (inr (ap (without n) x)))
  became_start d (FloorTrade p q f) i = refl
  became_start d (Resume f) i = refl
  became_start d Close i = still_idle Close d _ refl refl i

  pub step_start : (room : ℕ) (d : Day) (c : Call) → refusal (checks room d c) ≡ None → Idle d → (step gifts room d c).day ≡ work gifts (start_of d c)
  unfolding step perform
  step_start room d c e i = ap (λ x. (decided x d (perform gifts d c)).day) e ∙ became_start d c i

module _ (gifts : Rule) (lawful : LawfulRule gifts) where
  -- the start is sound
  comes_sound : (k : Kind) (s : Side) (m p q : ℕ) (d : Day) → not (is_shares q) ≡ false → leb 512 (length d.roll) ≡ false → Sound d
      → (b : Bool) (c : Bool) → Sound (comes_in b k (fresh k s m p q d.roll) (start_place k c) d)
  unfolding fresh
  comes_sound k s m p q d e l sd b c = go k b
    where
      in_at : (k : Kind) (w : Place) → Held w q → Sound (admit (fresh k s m p q d.roll) w d)
      in_at k w h = admit_fresh k s m p q w d h e l sd

      go : (k : Kind) (b : Bool) → Sound (comes_in b k (fresh k s m p q d.roll) (start_place k c) d)
      go ImmediateOrCancel true = withdraw_any _ _ (in_at ImmediateOrCancel Line (good_shares q e).1)
      go Limit true = in_at Limit (start_place Limit c) (start_held Limit c q (good_shares q e).1)
      go Market true = in_at Market Line (good_shares q e).1
      go Stop true = in_at Stop StopFile (good_shares q e).1
      go k false = in_at k (start_place k c) (start_held k c q (good_shares q e).1)

  floored_sound : (p q : ℕ) (d : Day) → Sound d → Sound (floored p q d)
  unfolding floored
  floored_sound p q d s = same_sound d _ refl refl (sym (total_push print_of d.tape (Floor p q) ∙ omega arith)) (sym (total_push cancel_of d.tape (Floor p q) ∙ omega arith)) s

  pub start_sound : (room : ℕ) (d : Day) (c : Call) → refusal (checks room d c) ≡ None → Sound d → Sound (start_of d c)
  unfolding start_of set_up to floored resumed
  start_sound room d (Set k c p) e s = same_sound d _ refl refl refl refl s
  start_sound room d (LoadLimit sd m p q) e s =
      let h : (not (is_shares q) ≡ false) × (leb 512 (length d.roll) ≡ false) = let a = passed_limit room d sd m p q e in (a.0, a.1) in
      admit_fresh Limit sd m p q Book d (good_shares q h.0).1 h.0 h.1 s
  start_sound room d (LoadStop sd m p q) e s =
      let h : (not (is_shares q) ≡ false) × (leb 512 (length d.roll) ≡ false) = passed_stop room d sd m p q e in
      admit_fresh Stop sd m p q StopFile d (good_shares q h.0).1 h.0 h.1 s
  start_sound room d Open e s = centre_sound gifts lawful _ (same_sound d _ refl refl refl refl s)
  start_sound room d (Enter k sd m p q f) e s =
      let h : (not (is_shares q) ≡ false) × (leb 512 (length d.roll) ≡ false) = passed_enter room d k sd m p q f e in
      comes_sound k sd m p q d h.0 h.1 s d.paused (any (is_contra (fresh k sd m p q d.roll)) d.roll)
  start_sound room d (CancelOrder m n f) e s = withdraw_any n d s
  start_sound room d (FloorTrade p q f) e s = elect_sound p (floored p q d) (floored_sound p q d s)
  start_sound room d (Resume f) e s = same_sound d (resumed d) refl refl refl refl s
  start_sound room d Close e s = same_sound d _ refl refl refl refl s

  -- a law that every move keeps holds at the start
  module _ (I : Day → Type 0) (K : Keeps gifts lawful I) where
    placed : (k : Kind) (s : Side) (m p q : ℕ) (d : Day) (c : Bool) → any (is_contra (fresh k s m p q d.roll)) d.roll ≡ c → Placed gifts lawful k (start_place k c) (any (is_contra (fresh k s m p q d.roll)) d.roll)
    placed Limit s m p q d true f x = absurd (let z : ◌≡◌ {A = ℕ} 0 1 = cc in omega arith)
    placed Limit s m p q d false f x = (refl, f)
    placed Market s m p q d c f x = absurd (let z : ◌≡◌ {A = ℕ} 0 1 = cc in omega arith)
    placed ImmediateOrCancel s m p q d c f x = absurd (let z : ◌≡◌ {A = ℕ} 0 1 = cc in omega arith)
    placed Stop s m p q d c f x = absurd (let z : ◌≡◌ {A = ℕ} 0 1 = cc in omega arith)

    not_book : (b : Bool) → Placed gifts lawful Stop StopFile b
    not_book b x = absurd (let z : ◌≡◌ {A = ℕ} 0 1 = cc in omega arith)

    comes_holds : (k : Kind) (s : Side) (m p q : ℕ) (d : Day) → Checked k m p q → leb 512 (length d.roll) ≡ false → Sound d → I d
        → (b c : Bool) → any (is_contra (fresh k s m p q d.roll)) d.roll ≡ c → I (comes_in b k (fresh k s m p q d.roll) (start_place k c) d)
    unfolding fresh
    comes_holds k s m p q d h l sd i b c f = go b k h (placed k s m p q d c f)
      where
        go : (b : Bool) (k : Kind) → Checked k m p q → Placed gifts lawful k (start_place k c) (any (is_contra (fresh k s m p q d.roll)) d.roll) → I (comes_in b k (fresh k s m p q d.roll) (start_place k c) d)
        go true ImmediateOrCancel h pl = K.withdraw _ _ (admit_fresh ImmediateOrCancel s m p q Line d (good_shares q h.shares).1 h.shares l sd).counted (K.admit ImmediateOrCancel s m p q Line d sd h pl i)
        go true Limit h pl = K.admit Limit s m p q (start_place Limit c) d sd h pl i
        go true Market h pl = K.admit Market s m p q Line d sd h pl i
        go true Stop h pl = K.admit Stop s m p q StopFile d sd h pl i
        go false k h pl = K.admit k s m p q (start_place k c) d sd h pl i

    pub start_holds : (room : ℕ) (d : Day) (c : Call) → refusal (checks room d c) ≡ None → Sound d → I d → I (start_of d c)
    unfolding start_of
    start_holds room d (Set k c p) e s i = let h : (not (is_class k) ≡ false) × (not (is_last_sale p) ≡ false) = checked_set room d k c p e in K.set_up k (column_of c) p d h.0 h.1 i
    start_holds room d (LoadLimit sd m p q) e s i = K.admit Limit sd m p q Book d s (checked_limit room d sd m p q e) (λ _. (refl, (passed_limit room d sd m p q e).2)) i
    start_holds room d (LoadStop sd m p q) e s i = K.admit Stop sd m p q StopFile d s (checked_stop room d sd m p q e) (not_book _) i
    start_holds room d Open e s i = K.centre _ (K.to Trading d i)
    start_holds room d (Enter k sd m p q f) e s i =
        comes_holds k sd m p q d (checked_enter room d k sd m p q f e) (passed_enter room d k sd m p q f e).1 s i d.paused (any (is_contra (fresh k sd m p q d.roll)) d.roll) refl
    start_holds room d (CancelOrder m n f) e s i = K.withdraw n d s.counted i
    start_holds room d (FloorTrade p q f) e s i = K.elect p (floored p q d) (floored_sound p q d s) (K.floored p q d (checked_floor room d p q f e) i)
    start_holds room d (Resume f) e s i = K.resumed d i
    start_holds room d Close e s i = K.to Closed d i

  -- what is known of the first in line, or nobody runs
  pub turned : (Q : Day → Type 0) (d : Day) → Sound d → (((d.paused ≡ true) ⊎ (d.line ≡ [])) → Q d) → ((r : Order) → Comes r d → Q (run gifts r d)) → Q (turn gifts d)
  unfolding turn left
  turned Q d s still runs = go d.paused d.line refl refl s.line
    where
      go : (b : Bool) (ns : List ℕ) → d.paused ≡ b → d.line ≡ ns → AllByRecursion (Waits d.roll) ns → Q (turn_of gifts b ns d)
      go true ns x y a = still (inl x)
      go false [] x y a = still (inr y)
      go false (n ∷ ns) x y a =
          let w : (r : Order) × (look n d.roll ≡ Some r) × (r.place ≡ Line) = waiter d.roll n a.0 in
          let e : w.0.number ≡ n = look_number n d.roll w.0 w.1 in
          let h : Mid w.0 d × (0 < left w.0.number d.roll) = starts gifts lawful n w.0 d s w.1 w.2 in
          subst (λ z. Q (run_of gifts n z d)) (sym w.1)
          (runs w.0 (record { mid = h.0; some = h.1; on = x; is = subst (λ z. look z d.roll ≡ Some w.0) (sym e) w.1; waits = w.2; behind = ns; line = y ∙ ap (λ z. z ∷ ns) (sym e) }))

  -- the first in line runs, if trading is not paused
  pub first_turn : (Q : Order → Day → Day → Type 0) → ((r : Order) (d : Day) → Comes r d → Q r d (run gifts r d)) → (d : Day) → Sound d → (n : ℕ) (ns : List ℕ) (r : Order) → d.paused ≡ false → d.line ≡ n ∷ ns → look n d.roll ≡ Some r
      → Q r d (turn gifts d)
  unfolding turn
  first_turn Q runs d s n ns r e l i =
      let w : Waits d.roll n = (subst (AllByRecursion (Waits d.roll)) l s.line).0 in
      let p : r.place ≡ Line = ap place_of (sym i) ∙ w in
      let x : r.number ≡ n = look_number n d.roll r i in
      let h : Mid r d × (0 < left r.number d.roll) = starts gifts lawful n r d s i p in
      subst (λ b. Q r d (turn_of gifts b d.line d)) (sym e)
      (subst (λ xs. Q r d (turn_of gifts false xs d)) (sym l)
      (subst (λ z. Q r d (run_of gifts n z d)) (sym i)
      (runs r d (record { mid = h.0; some = h.1; on = e; is = subst (λ m. look m d.roll ≡ Some r) (sym x) i; waits = p; behind = ns; line = l ∙ ap (λ m. m ∷ ns) (sym x) }))))

  module _ (I : Day → Type 0) (runs : (r : Order) (d : Day) → Sound d → Comes r d → I d → I (run gifts r d)) where
    pub turns_keep : (k : ℕ) (d : Day) → Sound d → I d → I (turns gifts k d)
    unfolding turns
    turns_keep zero d s i = i
    turns_keep (suc k) d s i = turns_keep k (turn gifts d) (turn_sound gifts lawful d s) (turned I d s (λ _. i) (λ r f. runs r d s f i))

    pub work_keeps : (d : Day) → Sound d → I d → I (work gifts d)
    unfolding work
    work_keeps d s i = turns_keep (busy d) d s i

    -- what holds at the start holds after the call
    pub follows : (room : ℕ) (d : Day) (c : Call) → Sound d → Idle d → refusal (checks room d c) ≡ None → I (start_of d c) → I (step gifts room d c).day
    follows room d c s t e i = subst I (sym (step_start gifts room d c e t)) (work_keeps (start_of d c) (start_sound room d c e s) i)

    -- and after every list, if the start keeps it too
    module _ (room : ℕ) (begins : (d : Day) (c : Call) → Sound d → refusal (checks room d c) ≡ None → I d → I (start_of d c)) where
      step_keeps : (d : Day) (c : Call) → Sound d → Idle d → I d → I (step gifts room d c).day
      unfolding step
      step_keeps d c s t i = go (refusal (checks room d c)) refl
        where
          go : (x : Option ℕ) → refusal (checks room d c) ≡ x → I (step gifts room d c).day
          go None e = follows room d c s t e (begins d c s e i)
          go (Some k) e = subst (λ y. I (decided y d (perform gifts d c)).day) (sym e) i

      pub lists_keep : (cs : List Call) (d : Day) → Sound d → Idle d → I d → I (after_calls gifts room d cs)
      unfolding after_calls
      lists_keep [] d s t i = i
      lists_keep (c ∷ cs) d s t i = lists_keep cs (step gifts room d c).day (step_sound gifts lawful room d c s) (step_idle gifts lawful room d c s t) (step_keeps d c s t i)

-- the day after a list is sound and idle
pub sound_after : (gifts : Rule) → LawfulRule gifts → (room : ℕ) (cs : List Call) → Sound (after_calls gifts room new_day cs)
sound_after gifts lawful room cs = calls_sound gifts lawful room cs new_day (new_sound gifts lawful)

pub idle_after : (gifts : Rule) → LawfulRule gifts → (room : ℕ) (cs : List Call) → Idle (after_calls gifts room new_day cs)
idle_after gifts lawful room cs = calls_idle gifts lawful room cs new_day (new_sound gifts lawful) (new_idle gifts lawful)

pub runs_follow : RunsFollow
runs_follow gifts lawful room cs c e = step_start gifts room (after_calls gifts room new_day cs) c e (idle_after gifts lawful room cs)
