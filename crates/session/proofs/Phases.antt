-- Only Open and Close lead from phase to phase.
use Rattle.std.proofs.Common.{◌≡◌, ℕ, zero, suc, Bool, true, false, not, List, [], ◌∷◌, Some, None, Option, Result, Ok, Err, refl, ◌∙◌}
use Rattle.market.specs.declared.words.Kind.{Kind}
use Rattle.market.specs.declared.words.Kind.TheVariants.{Limit, Market, ImmediateOrCancel, Stop}
use Rattle.market.specs.declared.words.Order.{Order}
use Rattle.market.specs.declared.words.Range.{Range}
use Rattle.market.specs.declared.words.Place.{Place}
use Rattle.market.specs.declared.words.PricedOrder.{PricedOrder}
use Rattle.replay.specs.Days.{Day, Phase, Loading, Trading, Closed, Rule, Call}
use Rattle.replay.specs.Days as days
use Rattle.replay.specs.Lists.{any}
use Rattle.replay.specs.Rolls.{look, left}
use Rattle.replay.specs.Book.{is_contra}
use Rattle.replay.specs.Moves.{trade, leave, withdraw, rest, pause, centre, elect, admit, set_up, to, floored, resumed}
use Rattle.replay.specs.Runs.{print_at, residual, settle_of, settle, elect_at, centre_if, first_price, next_price, run, run_of, turn_of, turn, turns, busy, work, start_place, join_of, join}
use Rattle.replay.specs.Calls.{refusal, checks, is_phase, first_of, became, perform, decided, step}
use Rattle.playback.specs.Stages.{call_of}
use Rattle.text.specs.declared.fault.LineFault.{LineFault}
use Rattle.text.specs.declared.record.Record.{Record}
use Rattle.text.specs.declared.record.Record.TheVariants as records
use Rattle.session.specs.Hearing.{call_for, limit_call, stop_call, behind_open, behind_close, phase_after, hear, phase_behind}
use Rattle.session.specs.Transcripts.{day_behind}

-- the phase behind a call
abbrev pub behind : Phase → Call → Phase
behind f (days.Set k c p) = f
behind f (days.LoadLimit s m p q) = f
behind f (days.LoadStop s m p q) = f
behind f days.Open = behind_open f
behind f (days.Enter k s m p q n) = f
behind f (days.CancelOrder m n k) = f
behind f (days.FloorTrade p q n) = f
behind f (days.Resume n) = f
behind f days.Close = behind_close f

behind_limit : (free : ℕ) (f g : Phase) (o : PricedOrder) → behind f (call_of free (limit_call g o)) ≡ f
behind_limit free f Loading o = refl
behind_limit free f Trading o = refl
behind_limit free f Closed o = refl

behind_stop : (free : ℕ) (f g : Phase) (o : PricedOrder) → behind f (call_of free (stop_call g o)) ≡ f
behind_stop free f Loading o = refl
behind_stop free f Trading o = refl
behind_stop free f Closed o = refl

behind_record : (free : ℕ) (f : Phase) (r : Record) → behind f (call_of free (call_for f r)) ≡ phase_after f r
behind_record free f (records.Set k c p) = refl
behind_record free f (records.Limit o) = behind_limit free f f o
behind_record free f (records.ImmediateOrCancel o) = refl
behind_record free f (records.Stop o) = behind_stop free f f o
behind_record free f (records.Market s m q) = refl
behind_record free f (records.Cancel m n) = refl
behind_record free f (records.FloorTrade p q) = refl
behind_record free f records.Resume = refl
behind_record free f records.Open = refl
behind_record free f records.Close = refl

module _ (gifts : Rule) where
  print_phase : (r : Order) (x : Option ℕ) (d : Day) → (print_at gifts r x d).phase ≡ d.phase
  unfolding trade
  print_phase r None d = refl
  print_phase r (Some p) d = refl

  residual_phase : (n : ℕ) (b : Bool) (k : Kind) (d : Day) → (residual n b k d).phase ≡ d.phase
  unfolding pause withdraw rest
  residual_phase n true Limit d = refl
  residual_phase n true Market d = refl
  residual_phase n true Stop d = refl
  residual_phase n true ImmediateOrCancel d = refl
  residual_phase n false Limit d = refl
  residual_phase n false Market d = refl
  residual_phase n false Stop d = refl
  residual_phase n false ImmediateOrCancel d = refl

  settle_phase : (r : Order) (d : Day) → (settle r d).phase ≡ d.phase
  unfolding settle leave
  settle_phase r d = go (left r.number d.roll)
    where
      go : (l : ℕ) → (settle_of l r.number (any (is_contra r) d.roll) r.kind d).phase ≡ d.phase
      go zero = refl
      go (suc l) = residual_phase r.number (any (is_contra r) d.roll) r.kind d

  elect_phase : (x : Option ℕ) (d : Day) → (elect_at x d).phase ≡ d.phase
  unfolding elect
  elect_phase None d = refl
  elect_phase (Some p) d = refl

  centre_phase : (g : Option Range) (x : Option ℕ) (d : Day) → (centre_if g x d).phase ≡ d.phase
  unfolding centre
  centre_phase None None d = refl
  centre_phase None (Some p) d = refl
  centre_phase (Some g) x d = refl

  run_phase : (r : Order) (d : Day) → (run gifts r d).phase ≡ d.phase
  unfolding run
  run_phase r d =
      let a : Option ℕ = first_price r d in
      let b : Option ℕ = next_price a r (print_at gifts r a d) in
      centre_phase d.range a _ ∙ elect_phase b _ ∙ elect_phase a _ ∙ settle_phase r _ ∙ print_phase r b _ ∙ print_phase r a d

  turn_phase : (d : Day) → (turn gifts d).phase ≡ d.phase
  unfolding turn leave
  turn_phase d = go d.paused d.line
    where
      runs : (n : ℕ) (x : Option Order) → (run_of gifts n x d).phase ≡ d.phase
      runs n None = refl
      runs n (Some r) = run_phase r d

      go : (b : Bool) (ns : List ℕ) → (turn_of gifts b ns d).phase ≡ d.phase
      go true ns = refl
      go false [] = refl
      go false (n ∷ ns) = runs n (look n d.roll)

  turns_phase : (k : ℕ) (d : Day) → (turns gifts k d).phase ≡ d.phase
  unfolding turns
  turns_phase zero d = refl
  turns_phase (suc k) d = turns_phase k (turn gifts d) ∙ turn_phase d

  work_phase : (d : Day) → (work gifts d).phase ≡ d.phase
  unfolding work
  work_phase d = turns_phase (busy d) d

  join_phase : (o : Order) (d : Day) → (join gifts o d).phase ≡ d.phase
  unfolding join withdraw admit
  join_phase o d = go d.paused o.kind (start_place o.kind (any (is_contra o) d.roll))
    where
      go : (b : Bool) (k : Kind) (w : Place) → (join_of gifts b k o w d).phase ≡ d.phase
      go true ImmediateOrCancel w = refl
      go true Limit w = work_phase (admit o w d)
      go true Market w = work_phase (admit o w d)
      go true Stop w = work_phase (admit o w d)
      go false k w = work_phase (admit o w d)

  -- a call that performed keeps the phase: so does one that may be refused
  stays : (room : ℕ) (d : Day) (c : Call) → (became gifts d c).phase ≡ d.phase → (step gifts room d c).day.phase ≡ d.phase
  unfolding step perform
  stays room d c e = go (refusal (checks room d c))
    where
      go : (x : Option ℕ) → (decided x d (perform gifts d c)).day.phase ≡ d.phase
      go None = e
      go (Some k) = refl

  module _ (room : ℕ) (d : Day) where
    open_phase : (step gifts room d days.Open).day.phase ≡ behind_open d.phase
    unfolding step perform checks became centre to
    open_phase = go d.phase refl
      where
        go : (f : Phase) → d.phase ≡ f → (decided (first_of (not (is_phase Loading f)) 21 None) d (perform gifts d days.Open)).day.phase ≡ behind_open f
        go Loading e = refl
        go Trading e = e
        go Closed e = e

    close_phase : (step gifts room d days.Close).day.phase ≡ behind_close d.phase
    unfolding step perform checks became to
    close_phase = go d.phase refl
      where
        go : (f : Phase) → d.phase ≡ f → (decided (first_of (not (is_phase Trading f)) 21 None) d (perform gifts d days.Close)).day.phase ≡ behind_close f
        go Loading e = e
        go Trading e = refl
        go Closed e = e

    -- the phase behind a call, performed or refused
    pub call_phase : (c : Call) → (step gifts room d c).day.phase ≡ behind d.phase c
    unfolding became admit withdraw floored resumed set_up
    call_phase (days.Set k c p) = stays room d _ refl
    call_phase (days.LoadLimit s m p q) = stays room d _ refl
    call_phase (days.LoadStop s m p q) = stays room d _ refl
    call_phase days.Open = open_phase
    call_phase (days.Enter k s m p q f) = stays room d _ (join_phase _ d)
    call_phase (days.CancelOrder m n f) = stays room d _ refl
    call_phase (days.FloorTrade p q f) = stays room d _ (work_phase _ ∙ elect_phase (Some p) (floored p q d))
    call_phase (days.Resume f) = stays room d _ (work_phase (resumed d))
    call_phase days.Close = close_phase

    pub line_phase : (free : ℕ) (q : Result Record LineFault) → (day_behind gifts room free d (hear d.phase q)).phase ≡ phase_behind d.phase q
    line_phase free (Ok r) = call_phase (call_of free (call_for d.phase r)) ∙ behind_record free d.phase r
    line_phase free (Err e) = refl
