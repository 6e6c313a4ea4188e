-- Trading is paused after a run exactly when shares of its order are left with an order of the other side within its limit.
use Rattle.std.proofs.Common.{◌≡◌, ℕ, zero, suc, ◌+◌, ◌-◌, ◌<◌, ◌≤◌, Bool, true, false, ◌&&◌, ◌||◌, eqb, ltb, List, [], ◌∷◌, ◌++◌, map, Some, None, Option, sym, refl, ap, ◌∙◌, inl, inr, arith}
use Rattle.std.proofs.lemmas.Bool.{false≢true, and_parts, lt-ltb, le-ltb}
use Rattle.market.specs.declared.words.Side.{Side}
use Rattle.market.specs.declared.words.Side.TheVariants.{Buy, Sell}
use Rattle.market.specs.declared.words.Kind.{Kind}
use Rattle.market.specs.declared.words.Kind.TheVariants.{Limit, Market, ImmediateOrCancel, Stop}
use Rattle.market.specs.declared.words.Place.{Place}
use Rattle.market.specs.declared.words.Place.TheVariants.{Nowhere, Book, Line, StopFile}
use Rattle.market.specs.declared.words.Order.{Order}
use Rattle.market.specs.declared.words.Range.{Range}
use Rattle.market.specs.declared.words.TapeLine.{TapeLine}
use Rattle.market.specs.declared.words.TapeLine.TheVariants.{Print, Cancel, Elect}
use Rattle.market.specs.Sides.{opposite, same_side, as_good}
use Rattle.market.specs.Orders.{is_book, in_limit, fill, cancel, put}
use Rattle.market.specs.Ranges.{in_range}
use Rattle.sharing.specs.Shares.{LawfulRule}
use Rattle.replay.specs.Lists.{total, any, those, beyond}
use Rattle.replay.specs.Days.{Day, Rule, Call, new_day}
use Rattle.replay.specs.Rolls.{is_filed, look, found, alter, here, left, open_of}
use Rattle.replay.specs.Book.{row, ahead, is_contra}
use Rattle.replay.specs.Moves.{low_of, high_of, deal, size, trade, leave, withdraw, rest, pause, elect, is_elected, called, centre}
use Rattle.replay.specs.Runs.{first_price, clean_up, if_left, next_price, print_at, residual, settle_of, settle, elect_at, centre_if, run, turn, turns, work, busy}
use Rattle.replay.specs.Calls.{refusal, handed, checks, after_calls}
use Rattle.replay.specs.SharesAddUp.{print_of}
use Rattle.replay.specs.Starts.{start_of}
use Rattle.replay.specs.Pauses.{PausedIfLeft, PauseOfRuns, RunsPause}
use Rattle.replay.proofs.Lists.{append_append, append_none, beyond_append, total_append, total_push}
use Rattle.replay.proofs.Rolls.{look_same, look_deal}
use Rattle.replay.proofs.Conservation.{Ready, fits}
use Rattle.replay.proofs.Runs.{Sound, turns_sound, Mid, Prints, numbers, fill_number, trade_ready, trade_mid, first_prints, next_prints, First, first_is_lem, clear_trade, trade_range}
use Rattle.replay.proofs.Keeps.{Moves, run_keeps}
use Rattle.replay.proofs.Turns.{Idle, elect_paused, empty, work_idle}
use Rattle.replay.proofs.Need.{paused_still}
use Rattle.replay.proofs.Starts.{Comes, step_start, start_sound, first_turn, sound_after, idle_after}

-- which contra orders rest ---------------------------------------------------------------------------------------------------------------------------
any_map : (t : Order → Bool) (f : Order → Order) (os : List Order) → ((o : Order) → t (f o) ≡ t o) → any t (map f os) ≡ any t os
any_map t f [] h = refl
any_map t f (o ∷ os) h = ap (λ b. b || any t (map f os)) (h o) ∙ ap (λ b. t o || b) (any_map t f os h)

any_alter : (t : Order → Bool) (n : ℕ) (f : Order → Order) (os : List Order) → ((o : Order) → look n os ≡ Some o → t (f o) ≡ t o) → any t (alter n f os) ≡ any t os
unfolding alter look
any_alter t n f [] h = refl
any_alter t n f (o ∷ os) h = go (eqb o.number n) h (any_alter t n f os)
  where
    go : (b : Bool) → ((x : Order) → found b o (look n os) ≡ Some x → t (f x) ≡ t x) → (((x : Order) → look n os ≡ Some x → t (f x) ≡ t x) → any t (alter n f os) ≡ any t os)
        → any t (here b f o os (alter n f os)) ≡ (t o || any t os)
    go true h ih = ap (λ b. b || any t os) (h o refl)
    go false h ih = ap (λ b. t o || b) (ih h)

not_opposite : (s : Side) → same_side s (opposite s) ≡ false
not_opposite Buy = refl
not_opposite Sell = refl

-- an order of r's own side is none
own_side : (r x : Order) → x.side ≡ r.side → is_contra r x ≡ false
own_side r x e = ap (λ b. (is_book x.place && b) && in_limit r x.price) (ap (λ s. same_side s (opposite r.side)) e ∙ not_opposite r.side) ∙ go (is_book x.place)
  where
    go : (b : Bool) → ((b && false) && in_limit r x.price) ≡ false
    go true = refl
    go false = refl

filed_off : (w : Place) → is_filed w ≡ true → is_book w ≡ false
filed_off Nowhere e = absurd (false≢true e)
filed_off Book e = absurd (false≢true e)
filed_off Line e = absurd (false≢true e)
filed_off StopFile e = refl

called_contra : (r : Order) (p : ℕ) (o : Order) → is_contra r (called (is_elected p o) o) ≡ is_contra r o
called_contra r p o = go (is_elected p o) refl
  where
    go : (b : Bool) → is_elected p o ≡ b → is_contra r (called b o) ≡ is_contra r o
    go true e = sym (ap (λ b. (b && same_side o.side (opposite r.side)) && in_limit r o.price) (filed_off o.place (and_parts (is_filed o.place) (as_good o.side p o.price) e).0))
    go false e = refl

elect_contra : (r : Order) (p : ℕ) (d : Day) → any (is_contra r) (elect p d).roll ≡ any (is_contra r) d.roll
unfolding elect
elect_contra r p d = any_map (is_contra r) (λ o. called (is_elected p o) o) d.roll (λ o. called_contra r p o)

some_inj : {x y : Order} → Some x ≡ Some y → x ≡ y
some_inj e = cc

-- the runner is none, wherever it goes
runner_contra : (r : Order) (d : Day) → Mid r d → (f : Order → Order) → ((o : Order) → (f o).side ≡ o.side) → any (is_contra r) (alter r.number f d.roll) ≡ any (is_contra r) d.roll
runner_contra r d m f h = any_alter (is_contra r) r.number f d.roll (λ o i.
    let e : o.side ≡ r.side = ap (λ (x : Order). x.side) (some_inj (sym i ∙ m.is)) ∙ m.side in
    own_side r (f o) (h o ∙ e) ∙ sym (own_side r o e))

cancel_side : (o : Order) → (cancel o).side ≡ o.side
cancel_side o = refl

rest_side : (o : Order) → (put Book o).side ≡ o.side
rest_side o = refl

-- what is left is settled ------------------------------------------------------------------------------------------------------------------------------
-- from d to e no contra order of r comes or goes, and nothing prints
pub record Quiet (r : Order) (d e : Day) : Type 0 where
  pub contra : any (is_contra r) e.roll ≡ any (is_contra r) d.roll
  pub prints : total print_of e.tape ≡ total print_of d.tape

leave_quiet : (r : Order) (d : Day) → Quiet r d (leave r.number d)
unfolding leave
leave_quiet r d = record { contra = refl; prints = refl }

pause_quiet : (r : Order) (d : Day) → Quiet r d (pause true d)
unfolding pause
pause_quiet r d = record { contra = refl; prints = refl }

withdraw_quiet : (r : Order) (d : Day) → Mid r d → Quiet r d (withdraw r.number d)
unfolding withdraw
withdraw_quiet r d m = record { contra = runner_contra r d m cancel cancel_side; prints = total_push print_of d.tape (Cancel r.number (left r.number d.roll)) ∙ omega arith }

rest_quiet : (r : Order) (d : Day) → Mid r d → Quiet r d (rest r.number d)
unfolding rest
rest_quiet r d m = record { contra = runner_contra r d m (put Book) rest_side; prints = refl }

stop_quiet : (r : Order) (d : Day) → Mid r d → Quiet r d (pause true (withdraw r.number d))
stop_quiet r d m =
    let a : Quiet r d (withdraw r.number d) = withdraw_quiet r d m in
    let b : Quiet r (withdraw r.number d) (pause true (withdraw r.number d)) = pause_quiet r (withdraw r.number d) in
    record { contra = b.contra ∙ a.contra; prints = b.prints ∙ a.prints }

-- an order of which shares are left pauses trading exactly if one is left for it
residual_pauses : (r : Order) (b : Bool) (k : Kind) (d : Day) → Mid r d → d.paused ≡ false → ((residual r.number b k d).paused ≡ b) × Quiet r d (residual r.number b k d)
unfolding pause withdraw rest
residual_pauses r true Limit d m e = (refl, pause_quiet r d)
residual_pauses r true Market d m e = (refl, pause_quiet r d)
residual_pauses r true Stop d m e = (refl, pause_quiet r d)
residual_pauses r true ImmediateOrCancel d m e = (refl, stop_quiet r d m)
residual_pauses r false Limit d m e = (e, rest_quiet r d m)
residual_pauses r false Market d m e = (e, withdraw_quiet r d m)
residual_pauses r false Stop d m e = (e, withdraw_quiet r d m)
residual_pauses r false ImmediateOrCancel d m e = (e, withdraw_quiet r d m)

settle_pauses : (r : Order) (d : Day) → Mid r d → d.paused ≡ false → ((settle r d).paused ≡ (ltb 0 (left r.number d.roll) && any (is_contra r) d.roll)) × Quiet r d (settle r d)
unfolding settle leave
settle_pauses r d m e = go (left r.number d.roll)
  where
    go : (l : ℕ) → ((settle_of l r.number (any (is_contra r) d.roll) r.kind d).paused ≡ (ltb 0 l && any (is_contra r) d.roll)) × Quiet r d (settle_of l r.number (any (is_contra r) d.roll) r.kind d)
    go zero = (e, leave_quiet r d)
    go (suc l) =
        let h : ((residual r.number (any (is_contra r) d.roll) r.kind d).paused ≡ any (is_contra r) d.roll) × Quiet r d (residual r.number (any (is_contra r) d.roll) r.kind d)
        = residual_pauses r (any (is_contra r) d.roll) r.kind d m e in
        (h.0 ∙ ap (λ b. b && any (is_contra r) d.roll) (sym (lt-ltb 0 (suc l) (omega arith))), h.1)

-- then each print elects, and a range is set: the pause stays
elect_quiet : (r : Order) (d : Day) (x : Option ℕ) (e : Day) → Quiet r d e → Quiet r d (elect_at x e)
unfolding elect
elect_quiet r d None e q = q
elect_quiet r d (Some p) e q = record { contra = elect_contra r p e ∙ q.contra; prints = prints p e ∙ q.prints }
  where
    none : (ns : List ℕ) → total print_of (map Elect ns) ≡ 0
    none [] = refl
    none (n ∷ ns) = omega (arith, none ns)

    prints : (p : ℕ) (e : Day) → total print_of (elect p e).tape ≡ total print_of e.tape
    prints p e = omega (arith, total_append print_of e.tape (map Elect (numbers (those (is_elected p) e.roll))), none (numbers (those (is_elected p) e.roll)))

centre_quiet : (r : Order) (d : Day) (g : Option Range) (x : Option ℕ) (e : Day) → Quiet r d e → Quiet r d (centre_if g x e)
unfolding centre
centre_quiet r d None None e q = q
centre_quiet r d None (Some p) e q = record { contra = q.contra; prints = q.prints }
centre_quiet r d (Some g) x e q = q

elect_at_paused : (x : Option ℕ) (d : Day) → (elect_at x d).paused ≡ d.paused
elect_at_paused None d = refl
elect_at_paused (Some p) d = elect_paused p d

centre_paused : (g : Option Range) (x : Option ℕ) (d : Day) → (centre_if g x d).paused ≡ d.paused
unfolding centre
centre_paused None None d = refl
centre_paused None (Some p) d = refl
centre_paused (Some g) x d = refl

-- the tape grows -----------------------------------------------------------------------------------------------------------------------------------------
module _ (ts : List TapeLine) where
  abbrev Grown : Day → Type 0
  Grown d = (ls : List TapeLine) × (d.tape ≡ ts ++ ls)

  longer : (xs ks : List TapeLine) → (ls : List TapeLine) × (xs ≡ ts ++ ls) → (ls : List TapeLine) × (xs ++ ks ≡ ts ++ ls)
  longer xs ks h = (h.0 ++ ks, ap (λ x. x ++ ks) h.1 ∙ append_append ts h.0 ks)

  grown_moves : (gifts : Rule) (lawful : LawfulRule gifts) → Moves gifts lawful Grown
  unfolding trade leave withdraw rest pause elect centre
  grown_moves gifts lawful = record {
    trade = λ r p d m k h. longer d.tape (Print r.number p (size r.number (opposite r.side) p d.roll) (low_of d.range) (high_of d.range) ∷ []) h;
    leave = λ r d m e h. h;
    withdraw = λ n d c h. longer d.tape (Cancel n (left n d.roll) ∷ []) h;
    rest = λ r d m w e c h. h;
    pause = λ d h. h;
    elect = λ p d s h. longer d.tape (map Elect (numbers (those (is_elected p) d.roll))) h;
    centre = λ d h. h;
  }

module _ (gifts : Rule) (lawful : LawfulRule gifts) where
  -- the prints of a run, before anything is settled --------------------------------------------------------------------------------------------------------
  module _ (r : Order) (Q : Day → Type 0) (trades : (p : ℕ) (d : Day) → Mid r d → Prints r p d → Q d → Q (trade gifts r.number (opposite r.side) p d)) where
    second : (x : Option ℕ) (d : Day) → ((p : ℕ) → x ≡ Some p → Prints r p d) → Mid r d → Q d → Mid r (print_at gifts r x d) × Q (print_at gifts r x d)
    second None d k m q = (m, q)
    second (Some p) d k m q = (trade_mid gifts lawful r p d m (k p refl), trades p d m (k p refl) q)

    pub printed : (d : Day) → Mid r d → 0 < left r.number d.roll → Q d
        → Mid r (print_at gifts r (next_price (first_price r d) r (print_at gifts r (first_price r d) d)) (print_at gifts r (first_price r d) d))
        × Q (print_at gifts r (next_price (first_price r d) r (print_at gifts r (first_price r d) d)) (print_at gifts r (first_price r d) d))
    printed d m pos q = go (first_price r d) refl
      where
        go : (a : Option ℕ) → first_price r d ≡ a
            → Mid r (print_at gifts r (next_price a r (print_at gifts r a d)) (print_at gifts r a d)) × Q (print_at gifts r (next_price a r (print_at gifts r a d)) (print_at gifts r a d))
        go None e = (m, q)
        go (Some p) e =
            let c : Side = opposite r.side in
            let f : First gifts lawful r p d = first_is_lem gifts lawful r p d e in
            let k : Prints r p d = first_prints gifts lawful r p d pos e in
            let d₁ : Day = trade gifts r.number c p d in
            second (if_left (left r.number d₁.roll) (clean_up r d₁)) d₁
            (next_prints gifts lawful r p d₁ (clear_trade gifts lawful c p r.number p d f.clear) (ap (λ g. in_range g p) (trade_range gifts lawful r.number c p d) ∙ f.range))
            (trade_mid gifts lawful r p d m k) (trades p d m k q)

  -- what it got and what it has left are what it had; trading goes on
  abbrev Getting : Order → ℕ → Day → Type 0
  Getting r n d = (total print_of d.tape + left r.number d.roll ≡ n) × (d.paused ≡ false)

  trade_getting : (r : Order) (n p : ℕ) (d : Day) → Mid r d → Prints r p d → Getting r n d → Getting r n (trade gifts r.number (opposite r.side) p d)
  unfolding trade left
  trade_getting r n p d m k h =
      let c : Side = opposite r.side in
      let os : List Order = d.roll in
      let q : ℕ = size r.number c p os in
      let gs : List ℕ = gifts (row c p os) (q - ahead c p os) in
      let ready : Ready r.number m.runner c p os = trade_ready gifts lawful r p d m k in
      let u : q ≤ m.runner.«open» = (fits gifts lawful r.number m.runner c p d ready m.books).under in
      let a : open_of (look r.number os) ≡ m.runner.«open» = ap open_of m.is in
      let b : open_of (look r.number (alter r.number (fill q) (deal c p os gs))) ≡ m.runner.«open» - q
      = ap open_of (look_same r.number (fill q) (deal c p os gs) m.runner (fill_number q) (look_deal r.number c p os gs m.runner m.is (ap is_book ready.waits))) in
      (omega (arith, total_push print_of d.tape (Print r.number p q (low_of d.range) (high_of d.range)), u, a, b, h.0), h.1)

  run_pauses : (r : Order) (d : Day) → Comes r d → PausedIfLeft r d (run gifts r d)
  unfolding run left
  run_pauses r d k =
      let e : Day = run gifts r d in
      let n : ℕ = total print_of d.tape + left r.number d.roll in
      let a : Option ℕ = first_price r d in
      let d₁ : Day = print_at gifts r a d in
      let b : Option ℕ = next_price a r d₁ in
      let d₂ : Day = print_at gifts r b d₁ in
      let h : Mid r d₂ × Getting r n d₂ = printed r (Getting r n) (trade_getting r n) d k.mid k.some (refl, k.on) in
      let s : ((settle r d₂).paused ≡ (ltb 0 (left r.number d₂.roll) && any (is_contra r) d₂.roll)) × Quiet r d₂ (settle r d₂) = settle_pauses r d₂ h.0 h.1.1 in
      let q : Quiet r d₂ e = centre_quiet r d₂ d.range a _ (elect_quiet r d₂ b _ (elect_quiet r d₂ a _ s.1)) in
      let p : e.paused ≡ (settle r d₂).paused = centre_paused d.range a _ ∙ elect_at_paused b _ ∙ elect_at_paused a (settle r d₂) in
      let g : Grown d.tape e = run_keeps gifts lawful (Grown d.tape) (grown_moves d.tape gifts lawful) r d k.mid k.some ([], sym (append_none d.tape)) in
      let o : left r.number d.roll ≡ r.«open» = ap open_of k.is in
      let t : total print_of e.tape ≡ total print_of d.tape + total print_of g.0 = ap (total print_of) g.1 ∙ total_append print_of d.tape g.0 in
      let x : handed d e ≡ g.0 = ap (beyond d.tape) g.1 ∙ beyond_append d.tape g.0 in
      let w : total print_of g.0 + left r.number d₂.roll ≡ r.«open» = omega (arith, t, q.prints, h.1.0, o) in
      p ∙ s.0 ∙ ap (λ y. ltb 0 (left r.number d₂.roll) && y) (sym q.contra) ∙ ap (λ y. y && any (is_contra r) e.roll) (same (left r.number d₂.roll) (total print_of g.0) r.«open» w ∙ ap (λ y. ltb (total print_of y) r.«open») (sym x))
    where
      same : (l t o : ℕ) → t + l ≡ o → ltb 0 l ≡ ltb t o
      same zero t o e = le-ltb 0 0 (omega arith) ∙ sym (le-ltb t o (omega arith))
      same (suc l) t o e = lt-ltb 0 (suc l) (omega arith) ∙ sym (lt-ltb t o (omega arith))

  -- the turns of a call ------------------------------------------------------------------------------------------------------------------------------------
  -- turns after turns
  more : (j k : ℕ) (d : Day) → turns gifts j (turns gifts k d) ≡ turns gifts (k + j) d
  unfolding turns
  more j zero d = let e : j ≡ 0 + j = omega arith in ap (λ n. turns gifts n d) e
  more j (suc k) d = let e : suc (k + j) ≡ suc k + j = omega arith in more j k (turn gifts d) ∙ ap (λ n. turns gifts n d) e

  idle_turns : (k : ℕ) (d : Day) → Idle d → turns gifts k d ≡ d
  idle_turns k d (inl e) = paused_still gifts k d e
  idle_turns k d (inr e) = empty gifts k d e

  -- once it is paused, the line rests
  rests : (k : ℕ) (d : Day) → Sound d → (turns gifts k d).paused ≡ true → work gifts d ≡ turns gifts k d
  unfolding work
  rests k d s e =
      let b : ℕ = busy d in
      let i : Idle (turns gifts b d) = work_idle gifts lawful d s in
      let n : b + k ≡ k + b = omega arith in
      sym (idle_turns k (turns gifts b d) i) ∙ more k b d ∙ ap (λ n. turns gifts n d) n ∙ sym (more b k d) ∙ paused_still gifts b (turns gifts k d) e

  pub of_runs : (room : ℕ) (d : Day) (c : Call) → Sound d → Idle d → refusal (checks room d c) ≡ None → PauseOfRuns gifts room d c
  of_runs room d c s i e = record {
    run = λ k. first_turn gifts lawful PausedIfLeft run_pauses (turns gifts k (start_of d c)) (turns_sound gifts lawful k (start_of d c) (start_sound gifts lawful room d c e s));
    over = λ k x. step_start gifts room d c e i ∙ rests k (start_of d c) (start_sound gifts lawful room d c e s) x;
  }

pub runs_pause : RunsPause
runs_pause gifts lawful room cs c e = of_runs gifts lawful room (after_calls gifts room new_day cs) c (sound_after gifts lawful room cs) (idle_after gifts lawful room cs) e
