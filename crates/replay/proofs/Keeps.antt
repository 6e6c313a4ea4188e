-- A law of the day that every move keeps holds after every list of calls: the one induction for all such laws.
use Rattle.std.proofs.Common.{◌≡◌, ℕ, zero, suc, ◌<◌, Bool, true, false, not, leb, List, [], ◌∷◌, length, Some, None, Option, sym, refl, ap, ◌∙◌, subst, arith}
use Rattle.std.specs.List.{AllByRecursion}
use Rattle.market.specs.declared.words.Side.{Side}
use Rattle.market.specs.declared.words.Kind.{Kind}
use Rattle.market.specs.declared.words.Kind.TheVariants.{Limit, Market, ImmediateOrCancel, Stop}
use Rattle.market.specs.declared.words.Place.{Place}
use Rattle.market.specs.declared.words.Place.TheVariants.{Book, Line, StopFile}
use Rattle.market.specs.declared.words.Column.{Column}
use Rattle.market.specs.declared.words.Order.{Order}
use Rattle.market.specs.declared.words.Range.{Range}
use Rattle.market.specs.declared.words.TapeLine.TheVariants.{Floor}
use Rattle.market.specs.Sides.{opposite}
use Rattle.market.specs.Ranges.{in_range}
use Rattle.sharing.specs.Shares.{LawfulRule}
use Rattle.replay.specs.Lists.{any}
use Rattle.replay.specs.Days.{Day, Phase, Trading, Closed, Rule, Call, Set, LoadLimit, LoadStop, Open, Enter, CancelOrder, FloorTrade, Resume, Close, new_day}
use Rattle.replay.specs.Rolls.{look, left, fresh}
use Rattle.replay.specs.Book.{is_contra}
use Rattle.replay.specs.Moves.{trade, leave, withdraw, rest, pause, elect, centre, admit, set_up, to, floored, resumed}
use Rattle.replay.specs.Runs.{first_price, clean_up, if_left, next_price, print_at, residual, settle_of, settle, elect_at, centre_if, run, run_of, turn_of, turn, turns, work, busy, start_place, join_of, join}
use Rattle.replay.specs.Calls.{refusal, column_of, checks, became, perform, step, after_calls}
use Rattle.replay.specs.SharesAddUp.{print_of, cancel_of}
use Rattle.replay.proofs.Lists.{total_push}
use Rattle.replay.proofs.Rolls.{Held}
use Rattle.replay.proofs.Moves.{Waits}
use Rattle.replay.proofs.Runs.{Sound, Mid, Prints, Counted, numbers, waiter, First, first_is_lem, Clear, clear_trade, trade_range, trade_mid, first_prints, next_prints, mid_waits, starts, settle_sound, elect_sound, turn_sound}
use Rattle.replay.proofs.Calls.{Checked, checked_limit, checked_stop, checked_enter, checked_set, checked_floor, decided_keeps, passed_limit, passed_enter, good_shares, start_held, admit_fresh, same_sound, step_sound, new_sound}
use Rattle.market.specs.Bounds.{is_price, is_shares, is_class, is_last_sale}

module _ (gifts : Rule) (lawful : LawfulRule gifts) where
  -- an order comes in at a place: at the book only a limit order that meets no contra order within its limit
  abbrev pub Placed : Kind → Place → Bool → Type 0
  Placed k w b = w ≡ Book → (k ≡ Limit) × (b ≡ false)

  -- every move keeps I
  pub record Keeps (I : Day → Type 0) : Type 0 where
    pub trade : (r : Order) (p : ℕ) (d : Day) → Mid r d → Prints r p d → I d → I (trade gifts r.number (opposite r.side) p d)
    pub leave : (r : Order) (d : Day) → Mid r d → left r.number d.roll ≡ 0 → I d → I (leave r.number d)
    pub withdraw : (n : ℕ) (d : Day) → Counted 1 (numbers d.roll) → I d → I (withdraw n d)
    pub rest : (r : Order) (d : Day) → Mid r d → Waits d.roll r.number → r.kind ≡ Limit → any (is_contra r) d.roll ≡ false → I d → I (rest r.number d)
    pub pause : (d : Day) → I d → I (pause true d)
    pub elect : (p : ℕ) (d : Day) → Sound d → I d → I (elect p d)
    pub centre : (d : Day) → I d → I (centre d)
    pub admit : (k : Kind) (s : Side) (m p q : ℕ) (w : Place) (d : Day) → Sound d → Checked k m p q → Placed k w (any (is_contra (fresh k s m p q d.roll)) d.roll) → I d → I (admit (fresh k s m p q d.roll) w d)
    pub floored : (p q : ℕ) (d : Day) → not (is_price p) ≡ false → I d → I (floored p q d)
    pub resumed : (d : Day) → I d → I (resumed d)
    pub set_up : (k : ℕ) (c : Column) (p : ℕ) (d : Day) → not (is_class k) ≡ false → not (is_last_sale p) ≡ false → I d → I (set_up k c p d)
    pub to : (f : Phase) (d : Day) → I d → I (to f d)

  -- every move of a run keeps I
  pub record Moves (I : Day → Type 0) : Type 0 where
    pub trade : (r : Order) (p : ℕ) (d : Day) → Mid r d → Prints r p d → I d → I (trade gifts r.number (opposite r.side) p d)
    pub leave : (r : Order) (d : Day) → Mid r d → left r.number d.roll ≡ 0 → I d → I (leave r.number d)
    pub withdraw : (n : ℕ) (d : Day) → Counted 1 (numbers d.roll) → I d → I (withdraw n d)
    pub rest : (r : Order) (d : Day) → Mid r d → Waits d.roll r.number → r.kind ≡ Limit → any (is_contra r) d.roll ≡ false → I d → I (rest r.number d)
    pub pause : (d : Day) → I d → I (pause true d)
    pub elect : (p : ℕ) (d : Day) → Sound d → I d → I (elect p d)
    pub centre : (d : Day) → I d → I (centre d)

  pub moves : (I : Day → Type 0) → Keeps I → Moves I
  moves I K = record { trade = K.trade; leave = K.leave; withdraw = K.withdraw; rest = K.rest; pause = K.pause; elect = K.elect; centre = K.centre }

  -- every run, and every change by a call, keeps I
  pub record Lasts (I : Day → Type 0) : Type 0 where
    pub run : (r : Order) (d : Day) → Mid r d → 0 < left r.number d.roll → I d → I (run gifts r d)
    pub withdraw : (n : ℕ) (d : Day) → Counted 1 (numbers d.roll) → I d → I (withdraw n d)
    pub centre : (d : Day) → I d → I (centre d)
    pub admit : (k : Kind) (s : Side) (m p q : ℕ) (w : Place) (d : Day) → Sound d → Checked k m p q → Placed k w (any (is_contra (fresh k s m p q d.roll)) d.roll) → I d → I (admit (fresh k s m p q d.roll) w d)
    pub floor : (p q : ℕ) (d : Day) → not (is_price p) ≡ false → Sound d → Sound (floored p q d) → I d → I (elect p (floored p q d))
    pub resumed : (d : Day) → I d → I (resumed d)
    pub set_up : (k : ℕ) (c : Column) (p : ℕ) (d : Day) → not (is_class k) ≡ false → not (is_last_sale p) ≡ false → I d → I (set_up k c p d)
    pub to : (f : Phase) (d : Day) → I d → I (to f d)

  module _ (I : Day → Type 0) (K : Moves I) where
    residual_keeps : (r : Order) (b : Bool) (k : Kind) (d : Day) → r.kind ≡ k → any (is_contra r) d.roll ≡ b → Mid r d → Waits d.roll r.number → I d → I (residual r.number b k d)
    residual_keeps r true Limit d e a m w i = K.pause d i
    residual_keeps r true Market d e a m w i = K.pause d i
    residual_keeps r true Stop d e a m w i = K.pause d i
    residual_keeps r true ImmediateOrCancel d e a m w i = K.pause _ (K.withdraw r.number d m.counted i)
    residual_keeps r false Limit d e a m w i = K.rest r d m w e a i
    residual_keeps r false Market d e a m w i = K.withdraw r.number d m.counted i
    residual_keeps r false Stop d e a m w i = K.withdraw r.number d m.counted i
    residual_keeps r false ImmediateOrCancel d e a m w i = K.withdraw r.number d m.counted i

    settle_keeps : (r : Order) (d : Day) → Mid r d → I d → I (settle r d)
    unfolding settle
    settle_keeps r d m i = go (left r.number d.roll) refl
      where
        go : (l : ℕ) → left r.number d.roll ≡ l → I (settle_of l r.number (any (is_contra r) d.roll) r.kind d)
        go zero e = K.leave r d m e i
        go (suc l) e = residual_keeps r (any (is_contra r) d.roll) r.kind d refl refl m (mid_waits gifts lawful r d m (omega arith)) i

    elect_at_keeps : (x : Option ℕ) (d : Day) → Sound d → I d → I (elect_at x d)
    elect_at_keeps None d s i = i
    elect_at_keeps (Some p) d s i = K.elect p d s i

    centre_if_keeps : (g : Option Range) (x : Option ℕ) (d : Day) → I d → I (centre_if g x d)
    centre_if_keeps None None d i = i
    centre_if_keeps None (Some p) d i = K.centre d i
    centre_if_keeps (Some g) x d i = i

    next_keeps : (r : Order) (f : ℕ) (d : Day) → Mid r d → I d → Clear gifts lawful (opposite r.side) f d.roll → in_range d.range f ≡ true
        → (x : Option ℕ) → if_left (left r.number d.roll) (clean_up r d) ≡ x → Mid r (print_at gifts r x d) × I (print_at gifts r x d)
    next_keeps r f d m i cl fr None e = (m, i)
    next_keeps r f d m i cl fr (Some p) e = let k : Prints r p d = next_prints gifts lawful r f d cl fr p e in (trade_mid gifts lawful r p d m k, K.trade r p d m k i)

    pub run_keeps : (r : Order) (d : Day) → Mid r d → 0 < left r.number d.roll → I d → I (run gifts r d)
    unfolding run
    run_keeps r d m pos i = go (first_price r d) refl
      where
        go : (a : Option ℕ) → first_price r d ≡ a
            → I (centre_if d.range a (elect_at (next_price a r (print_at gifts r a d)) (elect_at a (settle r (print_at gifts r (next_price a r (print_at gifts r a d)) (print_at gifts r a d))))))
        go None e = centre_if_keeps d.range None _ (settle_keeps r d m i)
        go (Some p) e =
            let c : Side = opposite r.side in
            let f : First gifts lawful r p d = first_is_lem gifts lawful r p d e in
            let k : Prints r p d = first_prints gifts lawful r p d pos e in
            let d₁ : Day = trade gifts r.number c p d in
            let b : Option ℕ = if_left (left r.number d₁.roll) (clean_up r d₁) in
            let h : Mid r (print_at gifts r b d₁) × I (print_at gifts r b d₁)
            = next_keeps r p d₁ (trade_mid gifts lawful r p d m k) (K.trade r p d m k i) (clear_trade gifts lawful c p r.number p d f.clear) (ap (λ g. in_range g p) (trade_range gifts lawful r.number c p d) ∙ f.range) b refl in
            let s : Sound (settle r (print_at gifts r b d₁)) = settle_sound gifts lawful r _ h.0 in
            centre_if_keeps d.range (Some p) _ (elect_at_keeps b _ (elect_sound p _ s) (K.elect p _ s (settle_keeps r _ h.0 h.1)))

  pub lasts : (I : Day → Type 0) → Keeps I → Lasts I
  lasts I K = record {
    run = run_keeps I (moves I K);
    withdraw = K.withdraw;
    centre = K.centre;
    admit = K.admit;
    floor = λ p q d e s t i. K.elect p _ t (K.floored p q d e i);
    resumed = K.resumed;
    set_up = K.set_up;
    to = K.to;
  }

  -- the line runs
  module _ (I : Day → Type 0) (runs : (r : Order) (d : Day) → Mid r d → 0 < left r.number d.roll → I d → I (run gifts r d)) where
    turn_lasts : (d : Day) → Sound d → I d → I (turn gifts d)
    unfolding turn left
    turn_lasts d s i = go d.paused d.line s.line
      where
        go : (b : Bool) (ns : List ℕ) → AllByRecursion (Waits d.roll) ns → I (turn_of gifts b ns d)
        go true ns a = i
        go false [] a = i
        go false (n ∷ ns) a =
            let x : (r : Order) × (look n d.roll ≡ Some r) × (r.place ≡ Line) = waiter d.roll n a.0 in
            let y : Mid x.0 d × (0 < left x.0.number d.roll) = starts gifts lawful n x.0 d s x.1 x.2 in
            subst (λ y. I (run_of gifts n y d)) (sym x.1) (runs x.0 d y.0 y.1 i)

    turns_lasts : (k : ℕ) (d : Day) → Sound d → I d → I (turns gifts k d)
    unfolding turns
    turns_lasts zero d s i = i
    turns_lasts (suc k) d s i = turns_lasts k (turn gifts d) (turn_sound gifts lawful d s) (turn_lasts d s i)

    pub works : (d : Day) → Sound d → I d → I (work gifts d)
    unfolding work
    works d s i = turns_lasts (busy d) d s i

  -- an order comes in
  module _ (I : Day → Type 0) (runs : (r : Order) (d : Day) → Mid r d → 0 < left r.number d.roll → I d → I (run gifts r d))
      (withdraws : (n : ℕ) (d : Day) → Counted 1 (numbers d.roll) → I d → I (withdraw n d))
      (admits : (k : Kind) (s : Side) (m p q : ℕ) (w : Place) (d : Day) → Sound d → Checked k m p q → Placed k w (any (is_contra (fresh k s m p q d.roll)) d.roll) → I d → I (admit (fresh k s m p q d.roll) w d)) where
    pub joins : (k : Kind) (s : Side) (m p q : ℕ) (d : Day) → Checked k m p q → leb 512 (length d.roll) ≡ false → Sound d → I d → I (join gifts (fresh k s m p q d.roll) d)
    unfolding join fresh
    joins k s m p q d ch l sd i = go d.paused k ch (any (is_contra (fresh k s m p q d.roll)) d.roll) refl
      where
        contra : Kind → Bool
        contra k = any (is_contra (fresh k s m p q d.roll)) d.roll

        e : not (is_shares q) ≡ false
        e = ch.shares

        off : (k : Kind) (w : Place) → Checked k m p q → Held w q → Placed k w (contra k) → I (work gifts (admit (fresh k s m p q d.roll) w d))
        off k w ch h pl = works I runs _ (admit_fresh k s m p q w d h e l sd) (admits k s m p q w d sd ch pl i)

        placed : (k : Kind) (c : Bool) → contra k ≡ c → Placed k (start_place k c) (contra k)
        placed Limit true f x = absurd (not_book x)
          where
            not_book : Line ≡ Book → ⊥
            not_book x = let z : ◌≡◌ {A = ℕ} 0 1 = cc in omega arith
        placed Limit false f x = (refl, f)
        placed Market c f x = absurd (let z : ◌≡◌ {A = ℕ} 0 1 = cc in omega arith)
        placed ImmediateOrCancel c f x = absurd (let z : ◌≡◌ {A = ℕ} 0 1 = cc in omega arith)
        placed Stop c f x = absurd (let z : ◌≡◌ {A = ℕ} 0 1 = cc in omega arith)

        waiting : {A : Type 0} → Line ≡ Book → A
        waiting x = absurd (let z : ◌≡◌ {A = ℕ} 0 1 = cc in omega arith)

        go : (b : Bool) (k : Kind) → Checked k m p q → (c : Bool) → contra k ≡ c → I (join_of gifts b k (fresh k s m p q d.roll) (start_place k c) d)
        go true ImmediateOrCancel ch c f = withdraws (suc (length d.roll)) _ (admit_fresh ImmediateOrCancel s m p q Line d (good_shares q e).1 e l sd).counted (admits ImmediateOrCancel s m p q Line d sd ch (λ x. waiting x) i)
        go true Limit ch c f = off Limit (start_place Limit c) ch (start_held Limit c q (good_shares q e).1) (placed Limit c f)
        go true Market ch c f = off Market Line ch (good_shares q e).1 (placed Market c f)
        go true Stop ch c f = off Stop StopFile ch (good_shares q e).1 (placed Stop c f)
        go false k ch c f = off k (start_place k c) ch (start_held k c q (good_shares q e).1) (placed k c f)

  module _ (I : Day → Type 0) (K : Lasts I) where
    work_lasts : (d : Day) → Sound d → I d → I (work gifts d)
    work_lasts d s i = works I K.run d s i

    -- calls
    join_lasts : (k : Kind) (s : Side) (m p q : ℕ) (d : Day) → Checked k m p q → leb 512 (length d.roll) ≡ false → Sound d → I d → I (join gifts (fresh k s m p q d.roll) d)
    join_lasts k s m p q d ch l sd i = joins I K.run K.withdraw K.admit k s m p q d ch l sd i

    filed_book : {A : Type 0} → StopFile ≡ Book → A
    filed_book x = absurd (let z : ◌≡◌ {A = ℕ} 0 1 = cc in omega arith)

    became_lasts : (room : ℕ) (d : Day) (c : Call) → refusal (checks room d c) ≡ None → Sound d → I d → I (became gifts d c)
    unfolding became floored resumed
    became_lasts room d (Set k c p) e s i = let h = checked_set room d k c p e in K.set_up k (column_of c) p d h.0 h.1 i
    became_lasts room d (LoadLimit sd m p q) e s i = K.admit Limit sd m p q Book d s (checked_limit room d sd m p q e) (λ _. (refl, (passed_limit room d sd m p q e).2)) i
    became_lasts room d (LoadStop sd m p q) e s i = K.admit Stop sd m p q StopFile d s (checked_stop room d sd m p q e) (λ x. filed_book x) i
    became_lasts room d Open e s i = K.centre _ (K.to Trading d i)
    became_lasts room d (Enter k sd m p q f) e s i =
        let h : (not (is_shares q) ≡ false) × (leb 512 (length d.roll) ≡ false) = passed_enter room d k sd m p q f e in
        join_lasts k sd m p q d (checked_enter room d k sd m p q f e) h.1 s i
    became_lasts room d (CancelOrder m n f) e s i = K.withdraw n d s.counted i
    became_lasts room d (FloorTrade p q f) e s i =
        let s₁ : Sound (floored p q d) = same_sound d _ refl refl (sym (total_push print_of d.tape (Floor p q) ∙ omega arith)) (sym (total_push cancel_of d.tape (Floor p q) ∙ omega arith)) s in
        work_lasts _ (elect_sound p (floored p q d) s₁) (K.floor p q d (checked_floor room d p q f e) s s₁ i)
    became_lasts room d (Resume f) e s i = work_lasts _ (same_sound d (resumed d) refl refl refl refl s) (K.resumed d i)
    became_lasts room d Close e s i = K.to Closed d i

    pub step_lasts : (room : ℕ) (d : Day) (c : Call) → Sound d → I d → I (step gifts room d c).day
    unfolding step perform
    step_lasts room d c s i = decided_keeps I (refusal (checks room d c)) d (perform gifts d c) i (λ e. became_lasts room d c e s i)

    pub calls_last : (room : ℕ) (cs : List Call) (d : Day) → Sound d → I d → I (after_calls gifts room d cs)
    unfolding after_calls
    calls_last room [] d s i = i
    calls_last room (c ∷ cs) d s i = calls_last room cs (step gifts room d c).day (step_sound gifts lawful room d c s) (step_lasts room d c s i)

    -- the law holds after every list of calls from a new day
    pub always_lasts : I new_day → (room : ℕ) (cs : List Call) → I (after_calls gifts room new_day cs)
    always_lasts i room cs = calls_last room cs new_day (new_sound gifts lawful) i

  pub always : (I : Day → Type 0) → Keeps I → I new_day → (room : ℕ) (cs : List Call) → I (after_calls gifts room new_day cs)
  always I K i room cs = always_lasts I (lasts I K) i room cs
