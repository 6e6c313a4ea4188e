-- A range in force stays through a call, and every print lies within it.
use Rattle.std.proofs.Common.{◌≡◌, ℕ, zero, suc, ◌<◌, ◌≤◌, Bool, true, false, leb, List, [], ◌∷◌, ◌++◌, map, Some, None, Option, sym, refl, ap, ◌∙◌, subst}
use Rattle.std.proofs.lemmas.Bool.{and_parts, leb-true}
use Rattle.std.specs.List.{AllByRecursion}
use Rattle.market.specs.declared.words.Side.{Side}
use Rattle.market.specs.declared.words.Kind.{Kind}
use Rattle.market.specs.declared.words.Kind.TheVariants.{Limit, Market, ImmediateOrCancel, Stop}
use Rattle.market.specs.declared.words.Place.{Place}
use Rattle.market.specs.declared.words.Place.TheVariants.{Line}
use Rattle.market.specs.declared.words.Order.{Order}
use Rattle.market.specs.declared.words.Range.{Range}
use Rattle.market.specs.declared.words.TapeLine.{TapeLine}
use Rattle.market.specs.declared.words.TapeLine.TheVariants.{Print, Cancel, Elect, Floor}
use Rattle.market.specs.Sides.{opposite}
use Rattle.market.specs.Ranges.{in_range}
use Rattle.sharing.specs.Shares.{LawfulRule}
use Rattle.replay.specs.Lists.{those, any, beyond}
use Rattle.replay.specs.Days.{Day, Rule, Call, Set, LoadLimit, LoadStop, Open, Enter, CancelOrder, FloorTrade, Resume, Close, new_day}
use Rattle.replay.specs.Rolls.{left, fresh}
use Rattle.replay.specs.Book.{is_contra}
use Rattle.replay.specs.Moves.{low_of, high_of, size, trade, leave, withdraw, rest, pause, elect, is_elected, centre, admit, set_up, to, floored, resumed}
use Rattle.replay.specs.Runs.{first_price, clean_up, if_left, next_price, print_at, residual, settle_of, settle, elect_at, centre_if, run, start_place}
use Rattle.replay.specs.Calls.{refusal, handed, checks, step, after_calls}
use Rattle.replay.specs.Bounds.{FineRange, Bounds}
use Rattle.replay.specs.RangeStays.{range_for, Shows, PricedIn, Stays, RangeStays}
use Rattle.replay.specs.Starts.{comes_in, start_of}
use Rattle.replay.proofs.Lists.{append_append, append_none, beyond_append, all_append, all_map}
use Rattle.replay.proofs.Runs.{Sound, Mid, Prints, First, first_is_lem, first_prints, next_prints, clear_trade, trade_range}
use Rattle.replay.proofs.Turns.{Idle}
use Rattle.replay.proofs.Keeps.{lasts, step_lasts}
use Rattle.replay.proofs.Bounds.{bounds_keeps, always_bounded}
use Rattle.replay.proofs.Starts.{follows, sound_after, idle_after}

-- A print with range g in force, of an order that N allows: it shows g and lies within it.
module _ (g : Range) (N : ℕ → Type 0) where
  abbrev pub Within : TapeLine → Type 0
  Within (Print n p q l h) = N n × (l ≡ g.low) × (h ≡ g.high) × (g.low ≤ p) × (p ≤ g.high)
  Within (Cancel n q) = Unit {0}
  Within (Elect n) = Unit {0}
  Within (Floor p q) = Unit {0}

  shows : (x : TapeLine) → Within x → Shows g.low g.high x
  shows (Print n p q l h) w = (w.1, w.2)
  shows (Cancel n q) w = w
  shows (Elect n) w = w
  shows (Floor p q) w = w

  priced : (x : TapeLine) → Within x → PricedIn g.low g.high x
  priced (Print n p q l h) w = (w.3, w.4)
  priced (Cancel n q) w = w
  priced (Elect n) w = w
  priced (Floor p q) w = w

  pub all_shown : (ls : List TapeLine) → AllByRecursion Within ls → AllByRecursion (Shows g.low g.high) ls
  all_shown ls a = all_map _ _ ls shows a

  pub all_priced : (ls : List TapeLine) → AllByRecursion Within ls → AllByRecursion (PricedIn g.low g.high) ls
  all_priced ls a = all_map _ _ ls priced a

  module _ (ts : List TapeLine) where
    -- since ts every print is such a one
    abbrev pub Since : List TapeLine → Type 0
    Since xs = (ls : List TapeLine) × (xs ≡ ts ++ ls) × AllByRecursion Within ls

    since_more : (xs ks : List TapeLine) → AllByRecursion Within ks → Since xs → Since (xs ++ ks)
    since_more xs ks a h = (h.0 ++ ks, ap (λ x. x ++ ks) h.1 ∙ append_append ts h.0 ks, all_append Within h.0 ks h.2 a)

    abbrev pub Shown : Day → Type 0
    Shown d = (d.range ≡ Some g) × Since d.tape

    elections : (ns : List ℕ) → AllByRecursion Within (map Elect ns)
    elections [] = tt
    elections (n ∷ ns) = (tt, elections ns)

    withdraw_shown : (n : ℕ) (d : Day) → Shown d → Shown (withdraw n d)
    unfolding withdraw
    withdraw_shown n d h = (h.0, since_more d.tape (Cancel n (left n d.roll) ∷ []) (tt, tt) h.1)

    elect_shown : (p : ℕ) (d : Day) → Shown d → Shown (elect p d)
    unfolding elect
    elect_shown p d h = (h.0, since_more d.tape (map Elect (map (λ o. o.number) (those (is_elected p) d.roll))) (elections (map (λ o. o.number) (those (is_elected p) d.roll))) h.1)

    residual_shown : (n : ℕ) (b : Bool) (k : Kind) (d : Day) → Shown d → Shown (residual n b k d)
    unfolding pause rest
    residual_shown n true Limit d h = h
    residual_shown n true Market d h = h
    residual_shown n true Stop d h = h
    residual_shown n true ImmediateOrCancel d h = withdraw_shown n d h
    residual_shown n false Limit d h = h
    residual_shown n false Market d h = withdraw_shown n d h
    residual_shown n false Stop d h = withdraw_shown n d h
    residual_shown n false ImmediateOrCancel d h = withdraw_shown n d h

    settle_shown : (r : Order) (d : Day) → Shown d → Shown (settle r d)
    unfolding settle leave
    settle_shown r d h = go (left r.number d.roll)
      where
        go : (l : ℕ) → Shown (settle_of l r.number (any (is_contra r) d.roll) r.kind d)
        go zero = h
        go (suc l) = residual_shown r.number (any (is_contra r) d.roll) r.kind d h

    elect_at_shown : (x : Option ℕ) (d : Day) → Shown d → Shown (elect_at x d)
    elect_at_shown None d h = h
    elect_at_shown (Some p) d h = elect_shown p d h

    -- what is in range of the range in force lies within it
    inside : (x : Option Range) (p : ℕ) → x ≡ Some g → in_range x p ≡ true → (g.low ≤ p) × (p ≤ g.high)
    inside x p e h =
        let k : (leb g.low p ≡ true) × (leb p g.high ≡ true) = and_parts (leb g.low p) (leb p g.high) (subst (λ y. in_range y p ≡ true) e h) in
        (leb-true g.low p k.0, leb-true p g.high k.1)

    module _ (gifts : Rule) (lawful : LawfulRule gifts) where
      trade_shown : (r : Order) (p : ℕ) (d : Day) → N r.number → Prints r p d → Shown d → Shown (trade gifts r.number (opposite r.side) p d)
      unfolding trade
      trade_shown r p d n k h =
          let w : (g.low ≤ p) × (p ≤ g.high) = inside d.range p h.0 k.range in
          (h.0, since_more d.tape (Print r.number p (size r.number (opposite r.side) p d.roll) (low_of d.range) (high_of d.range) ∷ []) ((n, ap low_of h.0, ap high_of h.0, w.0, w.1), tt) h.1)

      second_shown : (r : Order) (d : Day) → N r.number → (x : Option ℕ) → ((p : ℕ) → x ≡ Some p → Prints r p d) → Shown d → Shown (print_at gifts r x d)
      second_shown r d n None k h = h
      second_shown r d n (Some p) k h = trade_shown r p d n (k p refl) h

      pub run_shown : (r : Order) (d : Day) → N r.number → Mid r d → 0 < left r.number d.roll → Shown d → Shown (run gifts r d)
      unfolding run
      run_shown r d n m pos h =
          let a : Option ℕ = first_price r d in
          let d₁ : Day = print_at gifts r a d in
          let b : Option ℕ = next_price a r d₁ in
          subst (λ x. Shown (centre_if x a (elect_at b (elect_at a (settle r (print_at gifts r b d₁)))))) (sym h.0) (go a refl)
        where
          go : (a : Option ℕ) → first_price r d ≡ a
              → Shown (elect_at (next_price a r (print_at gifts r a d)) (elect_at a (settle r (print_at gifts r (next_price a r (print_at gifts r a d)) (print_at gifts r a d)))))
          go None e = settle_shown r d h
          go (Some p) e =
              let c : Side = opposite r.side in
              let f : First gifts lawful r p d = first_is_lem gifts lawful r p d e in
              let d₁ : Day = trade gifts r.number c p d in
              let b : Option ℕ = if_left (left r.number d₁.roll) (clean_up r d₁) in
              elect_at_shown b _ (elect_shown p _ (settle_shown r _ (second_shown r d₁ n b
              (next_prints gifts lawful r p d₁ (clear_trade gifts lawful c p r.number p d f.clear) (ap (λ g. in_range g p) (trade_range gifts lawful r.number c p d) ∙ f.range))
              (trade_shown r p d n (first_prints gifts lawful r p d pos e) h))))

      comes_shown : (b : Bool) (k : Kind) (o : Order) (w : Place) (d : Day) → Shown d → Shown (comes_in b k o w d)
      unfolding admit
      comes_shown true ImmediateOrCancel o w d h = withdraw_shown o.number (admit o Line d) h
      comes_shown true Limit o w d h = h
      comes_shown true Market o w d h = h
      comes_shown true Stop o w d h = h
      comes_shown false k o w d h = h

      start_shown : (d : Day) (c : Call) → range_for d c ≡ Some g → Since d.tape → Shown (start_of d c)
      unfolding start_of set_up to floored resumed admit centre
      start_shown d (Set k c p) w h = (w, h)
      start_shown d (LoadLimit sd m p q) w h = (w, h)
      start_shown d (LoadStop sd m p q) w h = (w, h)
      start_shown d Open w h = (w, h)
      start_shown d (Enter k sd m p q f) w h =
          comes_shown d.paused k (fresh k sd m p q d.roll) (start_place k (any (is_contra (fresh k sd m p q d.roll)) d.roll)) d (w, h)
      start_shown d (CancelOrder m n f) w h = withdraw_shown n d (w, h)
      start_shown d (FloorTrade p q f) w h = elect_shown p (floored p q d) (w, since_more d.tape (Floor p q ∷ []) (tt, tt) h)
      start_shown d (Resume f) w h = (w, h)
      start_shown d Close w h = (w, h)

    shown_lines : (e : Day) → Shown e → AllByRecursion Within (beyond ts e.tape)
    shown_lines e h = subst (λ xs. AllByRecursion Within xs) (sym (ap (beyond ts) h.1.1 ∙ beyond_append ts h.1.0)) h.1.2

-- a range in force starts at 1 or higher
pub low_in_force : (g : Range) (d : Day) → d.range ≡ Some g → Bounds d → 1 ≤ g.low
low_in_force g d e b = let f : FineRange (Some g) = subst FineRange e b.range in f.0

step_shown : (gifts : Rule) (lawful : LawfulRule gifts) (room : ℕ) (d : Day) (c : Call) (g : Range) → Sound d → Idle d → Bounds d → refusal (checks room d c) ≡ None → range_for d c ≡ Some g
    → Stays g (handed d (step gifts room d c).day) (step gifts room d c).day.range
step_shown gifts lawful room d c g s i b e w =
    let N : ℕ → Type 0 = λ _. Unit {0} in
    let f : Day = (step gifts room d c).day in
    let h : Shown g N d.tape f = follows gifts lawful (Shown g N d.tape) (λ r x _ k y. run_shown g N d.tape gifts lawful r x tt k.mid k.some y) room d c s i e
    (start_shown g N d.tape gifts lawful d c w ([], sym (append_none d.tape), tt)) in
    let a : AllByRecursion (Within g N) (beyond d.tape f.tape) = shown_lines g N d.tape f h in
    record {
      low = low_in_force g f h.0 (step_lasts gifts lawful Bounds (lasts gifts lawful Bounds (bounds_keeps gifts lawful)) room d c s b);
      stays = h.0;
      shown = all_shown g N _ a;
      within = all_priced g N _ a;
    }

pub range_stays : RangeStays
range_stays gifts lawful room cs c g e w =
    step_shown gifts lawful room (after_calls gifts room new_day cs) c g (sound_after gifts lawful room cs) (idle_after gifts lawful room cs) (always_bounded gifts lawful room cs) e w
