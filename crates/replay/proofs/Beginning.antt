-- Where no range is in force, the first run that prints sets it, and its order does not print again.
use Rattle.std.proofs.Common.{◌≡◌, ℕ, zero, suc, ◌<◌, ◌≤◌, Bool, true, false, ◌⊎◌, List, [], ◌∷◌, ◌++◌, map, Some, None, Option, sym, refl, ap, ◌∙◌, subst, inl, inr}
use Rattle.std.proofs.lemmas.Bool.{false≢true}
use Rattle.std.specs.List.{AllByRecursion}
use Rattle.market.specs.declared.words.Side.{Side}
use Rattle.market.specs.declared.words.Kind.{Kind}
use Rattle.market.specs.declared.words.Kind.TheVariants.{Limit, Market, ImmediateOrCancel, Stop}
use Rattle.market.specs.declared.words.Place.{Place}
use Rattle.market.specs.declared.words.Place.TheVariants.{Line}
use Rattle.market.specs.declared.words.Column.{Column}
use Rattle.market.specs.declared.words.Order.{Order}
use Rattle.market.specs.declared.words.Range.{Range}
use Rattle.market.specs.declared.words.TapeLine.{TapeLine}
use Rattle.market.specs.declared.words.TapeLine.TheVariants.{Print, Cancel, Elect, Floor}
use Rattle.market.specs.Sides.{opposite}
use Rattle.market.specs.Ranges.{in_range, range_around}
use Rattle.sharing.specs.Shares.{LawfulRule}
use Rattle.replay.specs.Lists.{those, any, beyond}
use Rattle.replay.specs.Days.{Day, Rule, Call, Set, LoadLimit, LoadStop, Open, Enter, CancelOrder, FloorTrade, Resume, Close, new_day}
use Rattle.replay.specs.Rolls.{look, left, fresh}
use Rattle.replay.specs.Book.{is_contra}
use Rattle.replay.specs.Moves.{low_of, high_of, size, trade, leave, withdraw, rest, pause, elect, is_elected, centre, admit, set_up, to, floored, resumed}
use Rattle.replay.specs.Runs.{first_price, clean_up, if_left, next_price, print_at, residual, settle_of, settle, elect_at, centre_if, run, start_place}
use Rattle.replay.specs.Calls.{refusal, decided, column_of, handed, checks, became, perform, step, after_calls}
use Rattle.replay.specs.Starts.{comes_in, start_of}
use Rattle.replay.specs.RangeStays.{range_for, OfOther, NoPrint, Rangeless, Begins, RangeBegins}
use Rattle.replay.proofs.Lists.{append_append, append_none, beyond_append, all_append}
use Rattle.replay.proofs.Runs.{Sound, Mid, Prints, First, first_is_lem, first_prints, next_prints, clear_trade, trade_range, trade_mid}
use Rattle.replay.proofs.Keeps.{moves, run_keeps}
use Rattle.replay.proofs.Turns.{Idle}
use Rattle.replay.proofs.Starts.{Comes, start_holds, follows, sound_after, idle_after}
use Rattle.replay.proofs.Outs.{is_done, Done, Out, done_keeps, out_elect, out_centre, settle_out}
use Rattle.replay.specs.Bounds.{Bounds}
use Rattle.replay.proofs.Bounds.{bounds_keeps, always_bounded, resting_price, resting_priced, range_some}
use Rattle.replay.proofs.Ranges.{Within, Shown, all_shown, all_priced, run_shown, low_in_force}

some_inj : {x y : Order} → Some x ≡ Some y → x ≡ y
some_inj e = cc

within_any : (g : Range) (N : ℕ → Type 0) (ls : List TapeLine) → AllByRecursion NoPrint ls → AllByRecursion (Within g N) ls
within_any g N [] a = tt
within_any g N (Print n p q l h ∷ ls) a = absurd a.0
within_any g N (Cancel n q ∷ ls) a = (tt, within_any g N ls a.1)
within_any g N (Elect n ∷ ls) a = (tt, within_any g N ls a.1)
within_any g N (Floor p q ∷ ls) a = (tt, within_any g N ls a.1)

-- prints of others than n
abbrev Others : ℕ → ℕ → Type 0
Others n m = m ≡ n → ⊥

all_others : (g : Range) (n : ℕ) (ls : List TapeLine) → AllByRecursion (Within g (Others n)) ls → AllByRecursion (OfOther n) ls
all_others g n [] a = tt
all_others g n (Print m p q l h ∷ ls) a = (a.0.0, all_others g n ls a.1)
all_others g n (Cancel m q ∷ ls) a = (tt, all_others g n ls a.1)
all_others g n (Elect m ∷ ls) a = (tt, all_others g n ls a.1)
all_others g n (Floor p q ∷ ls) a = (tt, all_others g n ls a.1)

module _ (k : ℕ) (c : Column) where
  -- no range in force, last sale l, and no print since ts
  module _ (ts : List TapeLine) (l : ℕ) where
    abbrev Silent : List TapeLine → Type 0
    Silent xs = (ls : List TapeLine) × (xs ≡ ts ++ ls) × AllByRecursion NoPrint ls

    silent_more : (xs ks : List TapeLine) → AllByRecursion NoPrint ks → Silent xs → Silent (xs ++ ks)
    silent_more xs ks a h = (h.0 ++ ks, ap (λ x. x ++ ks) h.1 ∙ append_append ts h.0 ks, all_append NoPrint h.0 ks h.2 a)

    pub record Quiet (d : Day) : Type 0 where
      pub none : d.range ≡ None
      pub sale : d.last ≡ l
      pub class : d.class ≡ k
      pub column : d.column ≡ c
      pub silent : Silent d.tape

    elections : (ns : List ℕ) → AllByRecursion NoPrint (map Elect ns)
    elections [] = tt
    elections (n ∷ ns) = (tt, elections ns)

    withdraw_quiet : (n : ℕ) (d : Day) → Quiet d → Quiet (withdraw n d)
    unfolding withdraw
    withdraw_quiet n d h = record { none = h.none; sale = h.sale; class = h.class; column = h.column; silent = silent_more d.tape (Cancel n (left n d.roll) ∷ []) (tt, tt) h.silent }

    elect_quiet : (p : ℕ) (d : Day) → Quiet d → Quiet (elect p d)
    unfolding elect
    elect_quiet p d h =
        let ns : List ℕ = map (λ o. o.number) (those (is_elected p) d.roll) in
        record { none = h.none; sale = h.sale; class = h.class; column = h.column; silent = silent_more d.tape (map Elect ns) (elections ns) h.silent }

    pause_quiet : (d : Day) → Quiet d → Quiet (pause true d)
    unfolding pause
    pause_quiet d h = record { none = h.none; sale = h.sale; class = h.class; column = h.column; silent = h.silent }

    rest_quiet : (n : ℕ) (d : Day) → Quiet d → Quiet (rest n d)
    unfolding rest
    rest_quiet n d h = record { none = h.none; sale = h.sale; class = h.class; column = h.column; silent = h.silent }

    leave_quiet : (n : ℕ) (d : Day) → Quiet d → Quiet (leave n d)
    unfolding leave
    leave_quiet n d h = record { none = h.none; sale = h.sale; class = h.class; column = h.column; silent = h.silent }

    residual_quiet : (n : ℕ) (b : Bool) (k : Kind) (d : Day) → Quiet d → Quiet (residual n b k d)
    residual_quiet n true Limit d h = pause_quiet d h
    residual_quiet n true Market d h = pause_quiet d h
    residual_quiet n true Stop d h = pause_quiet d h
    residual_quiet n true ImmediateOrCancel d h = pause_quiet (withdraw n d) (withdraw_quiet n d h)
    residual_quiet n false Limit d h = rest_quiet n d h
    residual_quiet n false Market d h = withdraw_quiet n d h
    residual_quiet n false Stop d h = withdraw_quiet n d h
    residual_quiet n false ImmediateOrCancel d h = withdraw_quiet n d h

    settle_quiet : (r : Order) (d : Day) → Quiet d → Quiet (settle r d)
    unfolding settle
    settle_quiet r d h = go (left r.number d.roll)
      where
        go : (m : ℕ) → Quiet (settle_of m r.number (any (is_contra r) d.roll) r.kind d)
        go zero = leave_quiet r.number d h
        go (suc m) = residual_quiet r.number (any (is_contra r) d.roll) r.kind d h

    elect_at_quiet : (x : Option ℕ) (d : Day) → Quiet d → Quiet (elect_at x d)
    elect_at_quiet None d h = h
    elect_at_quiet (Some p) d h = elect_quiet p d h

    -- the range is set from the last sale
    centre_shown : (g : Range) (N : ℕ → Type 0) (d : Day) → range_around k c l ≡ Some g → Quiet d → Shown g N ts (centre d)
    unfolding centre
    centre_shown g N d e h = (
      ap (λ x. range_around x d.column d.last) h.class ∙ ap (λ x. range_around k x d.last) h.column ∙ ap (λ x. range_around k c x) h.sale ∙ e,
      (h.silent.0, h.silent.1, within_any g N h.silent.0 h.silent.2),
    )

  module _ (gifts : Rule) (lawful : LawfulRule gifts) where
    -- the line of a print without a range
    abbrev shown_at : Order → ℕ → Day → TapeLine
    shown_at r p d = Print r.number p (size r.number (opposite r.side) p d.roll) 0 0

    trade_quiet : (ts : List TapeLine) (l : ℕ) (r : Order) (p : ℕ) (d : Day) → Quiet ts l d → Quiet (d.tape ++ (shown_at r p d ∷ [])) p (trade gifts r.number (opposite r.side) p d)
    unfolding trade
    trade_quiet ts l r p d h = record {
      none = h.none;
      sale = refl;
      class = h.class;
      column = h.column;
      silent = (
        [],
        ap (λ x. d.tape ++ (Print r.number p (size r.number (opposite r.side) p d.roll) (low_of x) (high_of x) ∷ [])) h.none ∙ sym (append_none (d.tape ++ (shown_at r p d ∷ []))),
        tt,
      );
    }

    trade_tape : (ts : List TapeLine) (l : ℕ) (r : Order) (p : ℕ) (d : Day) → Quiet ts l d → (trade gifts r.number (opposite r.side) p d).tape ≡ d.tape ++ (shown_at r p d ∷ [])
    unfolding trade
    trade_tape ts l r p d h = ap (λ x. d.tape ++ (Print r.number p (size r.number (opposite r.side) p d.roll) (low_of x) (high_of x) ∷ [])) h.none

    module _ (ts : List TapeLine) where
      pub record Begun (d : Day) : Type 0 where
        pub before : List TapeLine
        pub runner : ℕ
        pub earlier : List TapeLine
        pub price : ℕ
        pub shares : ℕ
        pub range : Range
        pub silent : AllByRecursion NoPrint before
        pub first : AllByRecursion (Rangeless runner) earlier
        pub around : range_around k c price ≡ Some range
        pub shown : Shown range (Others runner) (ts ++ (before ++ (earlier ++ (Print runner price shares 0 0 ∷ [])))) d
        pub out : Out runner d

      price_range : (r : Order) (p : ℕ) (d : Day) (l : ℕ) → Prints r p d → Bounds d → Quiet ts l d → (g : Range) × (range_around k c p ≡ Some g)
      price_range r p d l m b h = range_some k c p (subst (λ x. (1 ≤ x) × (x ≤ 3)) h.class b.class)
          (resting_priced (opposite r.side) p d.roll m.some b.orders) (resting_price (opposite r.side) p d.roll m.some b.orders)

      -- a run with one print
      one : (r : Order) (p : ℕ) (d : Day) (l : ℕ) → Prints r p d → Bounds d → Quiet ts l d → Mid r (trade gifts r.number (opposite r.side) p d) → Begun (centre (elect p (settle r (trade gifts r.number (opposite r.side) p d))))
      one r p d l m b h mid =
          let g : (g : Range) × (range_around k c p ≡ Some g) = price_range r p d l m b h in
          let t : List TapeLine = d.tape ++ (shown_at r p d ∷ []) in
          let d₁ : Day = trade gifts r.number (opposite r.side) p d in
          let e : Day = elect p (settle r d₁) in
          let s : Shown g.0 (Others r.number) t (centre e) = centre_shown t p g.0 (Others r.number) e g.1 (elect_quiet t p p (settle r d₁) (settle_quiet t p r d₁ (trade_quiet ts l r p d h))) in
          record {
            before = h.silent.0;
            runner = r.number;
            earlier = [];
            price = p;
            shares = size r.number (opposite r.side) p d.roll;
            range = g.0;
            silent = h.silent.2;
            first = tt;
            around = g.1;
            shown = subst (λ x. Shown g.0 (Others r.number) x (centre e)) (ap (λ x. x ++ (shown_at r p d ∷ [])) h.silent.1 ∙ append_append ts h.silent.0 (shown_at r p d ∷ [])) s;
            out = out_centre r.number e (out_elect r.number p (settle r d₁) (settle_out r d₁ mid));
          }

      -- a run with two
      two : (r : Order) (p q : ℕ) (d : Day) (l : ℕ) → Quiet ts l d → Prints r q (trade gifts r.number (opposite r.side) p d) → Bounds (trade gifts r.number (opposite r.side) p d)
          → Mid r (trade gifts r.number (opposite r.side) p d)
          → Begun (centre (elect q (elect p (settle r (trade gifts r.number (opposite r.side) q (trade gifts r.number (opposite r.side) p d))))))
      two r p q d l h m b mid =
          let d₁ : Day = trade gifts r.number (opposite r.side) p d in
          let d₂ : Day = trade gifts r.number (opposite r.side) q d₁ in
          let u : List TapeLine = d.tape ++ (shown_at r p d ∷ []) in
          let h₁ : Quiet u p d₁ = trade_quiet ts l r p d h in
          let t : List TapeLine = d₁.tape ++ (shown_at r q d₁ ∷ []) in
          let g : (g : Range) × (range_around k c q ≡ Some g)
          = range_some k c q (subst (λ x. (1 ≤ x) × (x ≤ 3)) h₁.class b.class) (resting_priced (opposite r.side) q d₁.roll m.some b.orders) (resting_price (opposite r.side) q d₁.roll m.some b.orders) in
          let e : Day = elect q (elect p (settle r d₂)) in
          let s : Shown g.0 (Others r.number) t (centre e)
          = centre_shown t q g.0 (Others r.number) e g.1 (elect_quiet t q q (elect p (settle r d₂)) (elect_quiet t q p (settle r d₂) (settle_quiet t q r d₂ (trade_quiet u p r q d₁ h₁)))) in
          record {
            before = h.silent.0;
            runner = r.number;
            earlier = shown_at r p d ∷ [];
            price = q;
            shares = size r.number (opposite r.side) q d₁.roll;
            range = g.0;
            silent = h.silent.2;
            first = ((refl, refl, refl), tt);
            around = g.1;
            shown = subst (λ x. Shown g.0 (Others r.number) x (centre e))
                (ap (λ x. x ++ (shown_at r q d₁ ∷ [])) (trade_tape ts l r p d h ∙ ap (λ x. x ++ (shown_at r p d ∷ [])) h.silent.1)
                ∙ ap (λ x. x ++ (shown_at r q d₁ ∷ [])) (append_append ts h.silent.0 (shown_at r p d ∷ []))
                ∙ append_append ts (h.silent.0 ++ (shown_at r p d ∷ [])) (shown_at r q d₁ ∷ [])
                ∙ ap (λ x. ts ++ x) (append_append h.silent.0 (shown_at r p d ∷ []) (shown_at r q d₁ ∷ []))) s;
            out = out_centre r.number e (out_elect r.number q (elect p (settle r d₂)) (out_elect r.number p (settle r d₂) (settle_out r d₂ (trade_mid gifts lawful r q d₁ mid m))));
          }

      abbrev Still : Day → Type 0
      Still d = (l : ℕ) × Quiet ts l d

      begins : (r : Order) (d : Day) (l : ℕ) → Mid r d → 0 < left r.number d.roll → Bounds d → Quiet ts l d → Still (run gifts r d) ⊎ Begun (run gifts r d)
      unfolding run
      begins r d l m pos bd h = go (first_price r d) refl
        where
          go : (a : Option ℕ) → first_price r d ≡ a
              → Still (centre_if d.range a (elect_at (next_price a r (print_at gifts r a d)) (elect_at a (settle r (print_at gifts r (next_price a r (print_at gifts r a d)) (print_at gifts r a d))))))
              ⊎ Begun (centre_if d.range a (elect_at (next_price a r (print_at gifts r a d)) (elect_at a (settle r (print_at gifts r (next_price a r (print_at gifts r a d)) (print_at gifts r a d))))))
          go None e = inl (l, subst (λ x. Quiet ts l (centre_if x None (settle r d))) (sym h.none) (settle_quiet ts l r d h))
          go (Some p) e =
              let s : Side = opposite r.side in
              let f : First gifts lawful r p d = first_is_lem gifts lawful r p d e in
              let z : Prints r p d = first_prints gifts lawful r p d pos e in
              let d₁ : Day = trade gifts r.number s p d in
              let m₁ : Mid r d₁ = trade_mid gifts lawful r p d m z in
              let b₁ : Bounds d₁ = (bounds_keeps gifts lawful).trade r p d m z bd in
              let y : (q : ℕ) → if_left (left r.number d₁.roll) (clean_up r d₁) ≡ Some q → Prints r q d₁
              = next_prints gifts lawful r p d₁ (clear_trade gifts lawful s p r.number p d f.clear) (ap (λ g. in_range g p) (trade_range gifts lawful r.number s p d) ∙ f.range) in
              inr (subst (λ x. Begun (centre_if x (Some p) (elect_at (if_left (left r.number d₁.roll) (clean_up r d₁)) (elect_at (Some p) (settle r (print_at gifts r (if_left (left r.number d₁.roll) (clean_up r d₁)) d₁)))))) (sym h.none)
              (next (if_left (left r.number d₁.roll) (clean_up r d₁)) y b₁ z m₁))
            where
              next : (b : Option ℕ) → ((q : ℕ) → b ≡ Some q → Prints r q (trade gifts r.number (opposite r.side) p d)) → Bounds (trade gifts r.number (opposite r.side) p d) → Prints r p d
                  → Mid r (trade gifts r.number (opposite r.side) p d)
                  → Begun (centre (elect_at b (elect p (settle r (print_at gifts r b (trade gifts r.number (opposite r.side) p d))))))
              next None y b₁ z m₁ = one r p d l z bd h m₁
              next (Some q) y b₁ z m₁ = two r p q d l h (y q refl) b₁ m₁

      abbrev Either : Day → Type 0
      Either d = Bounds d × (Still d ⊎ Begun d)

      -- who comes to run once it has begun is another
      run_begun : (r : Order) (d : Day) → Comes r d → Begun d → Begun (run gifts r d)
      run_begun r d k x = go x.out
        where
          go : Out x.runner d → Begun (run gifts r d)
          go (inl e) = absurd (false≢true (sym k.on ∙ e))
          go (inr o) = record {
            before = x.before;
            runner = x.runner;
            earlier = x.earlier;
            price = x.price;
            shares = x.shares;
            range = x.range;
            silent = x.silent;
            first = x.first;
            around = x.around;
            shown = run_shown x.range (Others x.runner) _ gifts lawful r d other k.mid k.some x.shown;
            out = inr (run_keeps gifts lawful (λ d. Done x.runner d.roll) (moves gifts lawful (λ d. Done x.runner d.roll) (done_keeps x.runner gifts lawful)) r d k.mid k.some o);
          }
            where
              other : r.number ≡ x.runner → ⊥
              other e =
                  let s : r ≡ o.0 = some_inj (sym (subst (λ m. look m d.roll ≡ Some r) e k.is) ∙ o.1) in
                  false≢true (ap is_done (sym k.waits) ∙ ap (λ (y : Order). is_done y.place) s ∙ o.2)

      run_either : (r : Order) (d : Day) → Sound d → Comes r d → Either d → Either (run gifts r d)
      run_either r d s k h = (run_keeps gifts lawful Bounds (moves gifts lawful Bounds (bounds_keeps gifts lawful)) r d k.mid k.some h.0, go h.1)
        where
          go : Still d ⊎ Begun d → Still (run gifts r d) ⊎ Begun (run gifts r d)
          go (inl x) = begins r d x.0 k.mid k.some h.0 x.1
          go (inr x) = inr (run_begun r d k x)

module _ (gifts : Rule) (lawful : LawfulRule gifts) (room : ℕ) (d : Day) (s : Sound d) (i : Idle d) (b : Bounds d) where
  -- no print yet, and no range
  abbrev Calm : Day → Type 0
  Calm e = (l : ℕ) × Quiet d.class d.column d.tape l e

  same_calm : (e : Day) → e.range ≡ None → e.class ≡ d.class → e.column ≡ d.column → e.tape ≡ d.tape → Calm e
  same_calm e w k c t = (e.last, record { none = w; sale = refl; class = k; column = c; silent = ([], t ∙ sym (append_none d.tape), tt) })

  withdraw_calm : (n : ℕ) (e : Day) → Calm e → Calm (withdraw n e)
  withdraw_calm n e h = (h.0, withdraw_quiet d.class d.column d.tape h.0 n e h.1)

  comes_calm : (a : Bool) (k : Kind) (o : Order) (w : Place) → d.range ≡ None → Calm (comes_in a k o w d)
  unfolding admit
  comes_calm true ImmediateOrCancel o w e = withdraw_calm o.number (admit o Line d) (same_calm (admit o Line d) e refl refl refl)
  comes_calm true Limit o w e = same_calm (admit o w d) e refl refl refl
  comes_calm true Market o w e = same_calm (admit o w d) e refl refl refl
  comes_calm true Stop o w e = same_calm (admit o w d) e refl refl refl
  comes_calm false k o w e = same_calm (admit o w d) e refl refl refl

  -- what is seen of the call
  abbrev Seen : Day → Type 0
  Seen e = (AllByRecursion NoPrint (handed d e) × (e.range ≡ None)) ⊎ Begins d.class d.column (handed d e) e.range

  silent_seen : (e : Day) → e.range ≡ None → Silent d.class d.column d.tape 0 e.tape → Seen e
  silent_seen e w x = inl (subst (λ xs. AllByRecursion NoPrint xs) (sym (ap (beyond d.tape) x.1 ∙ beyond_append d.tape x.0)) x.2, w)

  begun_seen : (e : Day) → Bounds e → Begun d.class d.column gifts lawful d.tape e → Seen e
  begun_seen e f x =
      let p : TapeLine = Print x.runner x.price x.shares 0 0 in
      let ls : List TapeLine = x.shown.1.0 in
      inr (record {
        before = x.before;
        runner = x.runner;
        earlier = x.earlier;
        price = x.price;
        shares = x.shares;
        later = ls;
        range = x.range;
        lines = ap (beyond d.tape) (x.shown.1.1 ∙ append_append d.tape (x.before ++ (x.earlier ++ (p ∷ []))) ls) ∙ beyond_append d.tape ((x.before ++ (x.earlier ++ (p ∷ []))) ++ ls)
            ∙ append_append x.before (x.earlier ++ (p ∷ [])) ls ∙ ap (λ xs. x.before ++ xs) (append_append x.earlier (p ∷ []) ls);
        silent = x.silent;
        first = x.first;
        around = x.around;
        low = low_in_force x.range e x.shown.0 f;
        others = all_others x.range x.runner ls x.shown.1.2;
        shown = all_shown x.range (Others x.runner) ls x.shown.1.2;
        within = all_priced x.range (Others x.runner) ls x.shown.1.2;
        stays = x.shown.0;
      })

  either_seen : (e : Day) → Either d.class d.column gifts lawful d.tape e → Seen e
  either_seen e h = go h.1
    where
      go : Still d.class d.column gifts lawful d.tape e ⊎ Begun d.class d.column gifts lawful d.tape e → Seen e
      go (inl x) = silent_seen e x.1.none x.1.silent
      go (inr x) = begun_seen e h.0 x

  runs_seen : (c : Call) → refusal (checks room d c) ≡ None → Calm (start_of d c) → Seen (step gifts room d c).day
  runs_seen c e h = either_seen (step gifts room d c).day
      (follows gifts lawful (Either d.class d.column gifts lawful d.tape) (run_either d.class d.column gifts lawful d.tape) room d c s i e
      (start_holds gifts lawful Bounds (bounds_keeps gifts lawful) room d c e s b, inl h))

  step_seen : (c : Call) → refusal (checks room d c) ≡ None → range_for d c ≡ None → Seen (step gifts room d c).day
  unfolding step perform became set_up to floored resumed admit centre start_of
  step_seen (Set k c p) e w = subst (λ x. Seen (decided x d (perform gifts d (Set k c p))).day) (sym e) (silent_seen (set_up k (column_of c) p d) w ([], sym (append_none d.tape), tt))
  step_seen (LoadLimit sd m p q) e w = runs_seen (LoadLimit sd m p q) e (same_calm _ w refl refl refl)
  step_seen (LoadStop sd m p q) e w = runs_seen (LoadStop sd m p q) e (same_calm _ w refl refl refl)
  step_seen Open e w = runs_seen Open e (same_calm _ w refl refl refl)
  step_seen (Enter k sd m p q f) e w = runs_seen (Enter k sd m p q f) e (comes_calm d.paused k (fresh k sd m p q d.roll) (start_place k (any (is_contra (fresh k sd m p q d.roll)) d.roll)) w)
  step_seen (CancelOrder m n f) e w = runs_seen (CancelOrder m n f) e (withdraw_calm n d (same_calm d w refl refl refl))
  step_seen (FloorTrade p q f) e w =
      let h : Quiet d.class d.column d.tape p (floored p q d) = record { none = w; sale = refl; class = refl; column = refl; silent = (Floor p q ∷ [], refl, (tt, tt)) } in
      runs_seen (FloorTrade p q f) e (p, elect_quiet d.class d.column d.tape p p (floored p q d) h)
  step_seen (Resume f) e w = runs_seen (Resume f) e (same_calm (resumed d) w refl refl refl)
  step_seen Close e w = runs_seen Close e (same_calm _ w refl refl refl)

pub range_begins : RangeBegins
range_begins gifts lawful room cs c e w =
    step_seen gifts lawful room (after_calls gifts room new_day cs) (sound_after gifts lawful room cs) (idle_after gifts lawful room cs) (always_bounded gifts lawful room cs) c e w
