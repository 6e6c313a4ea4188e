-- A pause stays until a floor trade or Resume ends it, and nobody runs in it.
use Rattle.std.proofs.Common.{◌≡◌, ℕ, Bool, true, false, not, ◌&&◌, List, [], ◌∷◌, ◌++◌, Some, None, Option, sym, refl, ap, ◌∙◌, subst, inl}
use Rattle.std.proofs.lemmas.Bool.{false≢true}
use Rattle.std.specs.List.{AllByRecursion}
use Rattle.market.specs.declared.words.Kind.{Kind}
use Rattle.market.specs.declared.words.Kind.TheVariants.{Limit, Market, ImmediateOrCancel, Stop}
use Rattle.market.specs.declared.words.Place.{Place}
use Rattle.market.specs.declared.words.Place.TheVariants.{Line}
use Rattle.market.specs.declared.words.Order.{Order}
use Rattle.market.specs.declared.words.TapeLine.{TapeLine}
use Rattle.market.specs.declared.words.TapeLine.TheVariants.{Cancel}
use Rattle.replay.specs.Lists.{beyond}
use Rattle.replay.specs.Days.{Day, Rule, Call, Set, LoadLimit, LoadStop, Open, Enter, CancelOrder, FloorTrade, Resume, Close, new_day}
use Rattle.replay.specs.Rolls.{left}
use Rattle.replay.specs.Moves.{withdraw, elect, centre, admit, set_up, to, floored, resumed}
use Rattle.replay.specs.Calls.{refusal, decided, handed, checks, became, perform, step, after_calls}
use Rattle.replay.specs.Starts.{comes_in, start_of}
use Rattle.replay.specs.Pauses.{ends_pause, runs_orders, IsCancel, PauseStays}
use Rattle.replay.proofs.Lists.{append_none, beyond_append}
use Rattle.replay.proofs.Turns.{Idle}
use Rattle.replay.proofs.Filing.{work_rests_on}
use Rattle.replay.proofs.Starts.{step_start, idle_after}

-- from call to call ------------------------------------------------------------------------------------------------------------------------------------------
and_true : (b : Bool) → b ≡ (b && true)
and_true true = refl
and_true false = refl

and_false : (b : Bool) → false ≡ (b && false)
and_false true = refl
and_false false = refl

comes_paused : (b : Bool) (k : Kind) (o : Order) (w : Place) (d : Day) → (comes_in b k o w d).paused ≡ d.paused
unfolding withdraw admit
comes_paused true ImmediateOrCancel o w d = refl
comes_paused true Limit o w d = refl
comes_paused true Market o w d = refl
comes_paused true Stop o w d = refl
comes_paused false k o w d = refl

start_pause : (d : Day) (c : Call) → (start_of d c).paused ≡ (d.paused && not (ends_pause c))
unfolding start_of set_up to floored resumed centre withdraw admit elect
start_pause d (Set k c p) = and_true d.paused
start_pause d (LoadLimit s m p q) = and_true d.paused
start_pause d (LoadStop s m p q) = and_true d.paused
start_pause d Open = and_true d.paused
start_pause d (Enter k s m p q f) = comes_paused d.paused k _ _ d ∙ and_true d.paused
start_pause d (CancelOrder m n f) = and_true d.paused
start_pause d (FloorTrade p q f) = and_false d.paused
start_pause d (Resume f) = and_false d.paused
start_pause d Close = and_true d.paused

-- at the start of a call that does not end a pause
abbrev Struck : Day → Day → Type 0
Struck d e = (ls : List TapeLine) × (e.tape ≡ d.tape ++ ls) × AllByRecursion IsCancel ls

struck_none : (d e : Day) → e.tape ≡ d.tape → Struck d e
struck_none d e t = ([], t ∙ sym (append_none d.tape), tt)

struck_one : (n : ℕ) (d e : Day) → e.tape ≡ d.tape → Struck d (withdraw n e)
unfolding withdraw
struck_one n d e t = (Cancel n (left n e.roll) ∷ [], ap (λ xs. xs ++ (Cancel n (left n e.roll) ∷ [])) t, (tt, tt))

comes_struck : (b : Bool) (k : Kind) (o : Order) (w : Place) (d : Day) → Struck d (comes_in b k o w d)
unfolding admit
comes_struck true ImmediateOrCancel o w d = struck_one o.number d (admit o Line d) refl
comes_struck true Limit o w d = struck_none d (admit o w d) refl
comes_struck true Market o w d = struck_none d (admit o w d) refl
comes_struck true Stop o w d = struck_none d (admit o w d) refl
comes_struck false k o w d = struck_none d (admit o w d) refl

start_struck : (d : Day) (c : Call) → ends_pause c ≡ false → Struck d (start_of d c)
unfolding start_of set_up to centre admit
start_struck d (Set k c p) e = ([], sym (append_none d.tape), tt)
start_struck d (LoadLimit s m p q) e = ([], sym (append_none d.tape), tt)
start_struck d (LoadStop s m p q) e = ([], sym (append_none d.tape), tt)
start_struck d Open e = ([], sym (append_none d.tape), tt)
start_struck d (Enter k s m p q f) e = comes_struck d.paused k _ _ d
start_struck d (CancelOrder m n f) e = struck_one n d d refl
start_struck d (FloorTrade p q f) e = absurd (false≢true (sym e))
start_struck d (Resume f) e = absurd (false≢true (sym e))
start_struck d Close e = ([], sym (append_none d.tape), tt)

module _ (gifts : Rule) (room : ℕ) (d : Day) (c : Call) (i : Idle d) where
  -- a refused call leaves the pause as it is
  refused : (k : ℕ) → refusal (checks room d c) ≡ Some k → (step gifts room d c).day ≡ d
  unfolding step
  refused k e = ap (λ x. (decided x d (perform gifts d c)).day) e

  -- in a pause a call that does not end it is no more than its start
  in_pause : refusal (checks room d c) ≡ None → d.paused ≡ true → ends_pause c ≡ false → (step gifts room d c).day ≡ start_of d c
  in_pause e p f = step_start gifts room d c e i ∙ work_rests_on gifts (start_of d c) (inl (start_pause d c ∙ ap (λ b. b && not (ends_pause c)) p ∙ ap not f))

  ends : d.paused ≡ true → (step gifts room d c).day.paused ≡ false → (refusal (checks room d c) ≡ None) × (ends_pause c ≡ true)
  ends p x = go (refusal (checks room d c)) refl (ends_pause c) refl
    where
      go : (y : Option ℕ) → refusal (checks room d c) ≡ y → (b : Bool) → ends_pause c ≡ b → (y ≡ None) × (b ≡ true)
      go (Some k) e b f = absurd (false≢true (sym x ∙ ap (λ (z : Day). z.paused) (refused k e) ∙ p))
      go None e true f = (refl, refl)
      go None e false f = absurd (false≢true (sym x ∙ ap (λ (z : Day). z.paused) (in_pause e p f) ∙ start_pause d c ∙ ap (λ b. b && not (ends_pause c)) p ∙ ap not f))

  still : d.paused ≡ true → ends_pause c ≡ false → AllByRecursion IsCancel (handed d (step gifts room d c).day)
  still p f = go (refusal (checks room d c)) refl
    where
      none : beyond d.tape d.tape ≡ []
      none = ap (beyond d.tape) (sym (append_none d.tape)) ∙ beyond_append d.tape []

      go : (y : Option ℕ) → refusal (checks room d c) ≡ y → AllByRecursion IsCancel (handed d (step gifts room d c).day)
      go (Some k) e = subst (λ (z : Day). AllByRecursion IsCancel (handed d z)) (sym (refused k e)) (subst (λ xs. AllByRecursion IsCancel xs) (sym none) tt)
      go None e =
          let h : Struck d (start_of d c) = start_struck d c f in
          subst (λ (z : Day). AllByRecursion IsCancel (handed d z)) (sym (in_pause e p f)) (subst (λ xs. AllByRecursion IsCancel xs) (sym (ap (beyond d.tape) h.1 ∙ beyond_append d.tape h.0)) h.2)

  -- a call that runs nobody does not begin a pause
  became_paused : runs_orders c ≡ false → (became gifts d c).paused ≡ d.paused
  unfolding became set_up to centre withdraw admit
  became_paused f = of_call c f
    where
      of_call : (c : Call) → runs_orders c ≡ false → (became gifts d c).paused ≡ d.paused
      of_call (Set k c p) f = refl
      of_call (LoadLimit s m p q) f = refl
      of_call (LoadStop s m p q) f = refl
      of_call Open f = refl
      of_call (Enter k s m p q g) f = absurd (false≢true (sym f))
      of_call (CancelOrder m n g) f = refl
      of_call (FloorTrade p q g) f = absurd (false≢true (sym f))
      of_call (Resume g) f = absurd (false≢true (sym f))
      of_call Close f = refl

  begins : d.paused ≡ false → (step gifts room d c).day.paused ≡ true → (refusal (checks room d c) ≡ None) × (runs_orders c ≡ true)
  unfolding step perform
  begins p x = go (refusal (checks room d c)) refl (runs_orders c) refl
    where
      go : (y : Option ℕ) → refusal (checks room d c) ≡ y → (b : Bool) → runs_orders c ≡ b → (y ≡ None) × (b ≡ true)
      go (Some k) e b f = absurd (false≢true (sym p ∙ sym (ap (λ (z : Day). z.paused) (refused k e)) ∙ x))
      go None e true f = (refl, refl)
      go None e false f = absurd (false≢true (sym p ∙ sym (ap (λ y. (decided y d (perform gifts d c)).day.paused) e ∙ became_paused f) ∙ x))

pub pause_stays : PauseStays
pause_stays gifts lawful room cs c =
    let d : Day = after_calls gifts room new_day cs in
    let i : Idle d = idle_after gifts lawful room cs in
    record { ends = ends gifts room d c i; begins = begins gifts room d c i; start = start_pause d c; still = still gifts room d c i }
