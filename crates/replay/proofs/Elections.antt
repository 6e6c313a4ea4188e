-- A filed stop is elected by the first print or floor trade that reaches its price, before the next run, and by nothing else.
use Rattle.std.proofs.Common.{◌≡◌, ℕ, zero, suc, ◌-◌, ◌<◌, ◌≤◌, Bool, true, false, cond, ◌&&◌, ◌||◌, eqb, ◌⊎◌, List, [], ◌∷◌, ◌++◌, map, Some, None, Option, sym, refl, ap, ◌∙◌, subst, inl, inr, ⊎_elim, arith}
use Rattle.std.proofs.lemmas.Bool.{false≢true, eq-eqb, ne_eqb, eqb-true, eqb-false, cases_eq}
use Rattle.std.specs.List.{AllByRecursion}
use Rattle.market.specs.declared.words.Side.{Side}
use Rattle.market.specs.declared.words.Kind.{Kind}
use Rattle.market.specs.declared.words.Kind.TheVariants.{Limit, Market, ImmediateOrCancel, Stop}
use Rattle.market.specs.declared.words.Place.{Place}
use Rattle.market.specs.declared.words.Place.TheVariants.{Book, Line, StopFile, Nowhere}
use Rattle.market.specs.declared.words.Order.{Order}
use Rattle.market.specs.declared.words.Range.{Range}
use Rattle.market.specs.declared.words.TapeLine.{TapeLine}
use Rattle.market.specs.declared.words.TapeLine.TheVariants.{Print, Cancel, Elect, Floor}
use Rattle.market.specs.Sides.{opposite, as_good}
use Rattle.market.specs.Orders.{is_book, fill, cancel, put}
use Rattle.market.specs.Ranges.{in_range}
use Rattle.sharing.specs.Shares.{LawfulRule}
use Rattle.replay.specs.Lists.{those, kept, any, beyond}
use Rattle.replay.specs.Days.{Day, Rule, new_day}
use Rattle.replay.specs.Rolls.{is_filed, look, found, alter, left, fresh, place_of}
use Rattle.replay.specs.Book.{is_contra}
use Rattle.replay.specs.Moves.{low_of, high_of, deal, size, trade, leave, withdraw, rest, pause, elect, is_elected, called, centre, admit, floored, resumed, set_up, to}
use Rattle.replay.specs.Runs.{first_price, next_price, print_at, residual, settle_of, settle, elect_at, centre_if, run, clean_up, if_left}
use Rattle.replay.specs.Calls.{handed, after_calls}
use Rattle.replay.specs.Elections.{ElectedByFirst}
use Rattle.replay.proofs.Lists.{append_append, append_none, beyond_append}
use Rattle.replay.proofs.Course.{Course, Asleep, Due, Over, Amiss, whether, next, course, course_at, fate}
use Rattle.replay.proofs.Rolls.{Good, Held, look_deal}
use Rattle.replay.proofs.Conservation.{find_all}
use Rattle.replay.proofs.Runs.{Sound, Mid, Counted, numbers, fill_number, called_number, elect_sound, settle_sound, trade_mid, first_prints, next_prints, First, first_is_lem, Clear, clear_trade, trade_range}
use Rattle.replay.proofs.Calls.{calls_sound, new_sound, put_number}
use Rattle.replay.proofs.Keeps.{Keeps, Lasts, moves, run_keeps, calls_last}
use Rattle.replay.proofs.Idle.{upon, look_alter, look_past, Dealt, look_dealt}

some_inj : {x y : Order} → Some x ≡ Some y → x ≡ y
some_inj e = cc

-- what follows holds of the stop of number n, side s and price l; ts is the tape at the start
module _ (n : ℕ) (s : Side) (l : ℕ) (ts : List TapeLine) where
  course_append : (w : Course) (xs ys : List TapeLine) → course n s l w (xs ++ ys) ≡ course n s l (course n s l w xs) ys
  unfolding course
  course_append w [] ys = refl
  course_append w (x ∷ xs) ys = course_append (next n s l w x) xs ys

  -- the lines since then have brought the stop to w
  abbrev Told : Course → List TapeLine → Type 0
  Told w xs = (ls : List TapeLine) × (xs ≡ ts ++ ls) × (course n s l Asleep ls ≡ w)

  told_more : (w w' : Course) (ks xs : List TapeLine) → course n s l w ks ≡ w' → Told w xs → Told w' (xs ++ ks)
  told_more w w' ks xs c t =
      (t.0 ++ ks, ap (λ x. x ++ ks) t.1 ∙ append_append ts t.0 ks, course_append Asleep t.0 ks ∙ ap (λ x. course n s l x ks) t.2 ∙ c)

  told_line : (w w' : Course) (x : TapeLine) (xs : List TapeLine) → next n s l w x ≡ w' → Told w xs → Told w' (xs ++ (x ∷ []))
  unfolding course
  told_line w w' x xs c t = told_more w w' (x ∷ []) xs c t

  -- elections of others change nothing
  others : (w : Course) (ns : List ℕ) → AllByRecursion (λ k. k ≡ n → ⊥) ns → course n s l w (map Elect ns) ≡ w
  unfolding course
  others w [] a = refl
  others w (k ∷ ns) a = ap (λ x. course n s l x (map Elect ns)) (go w) ∙ others w ns a.1
    where
      no : eqb k n ≡ false
      no = ne_eqb k n a.0

      go : (w : Course) → next n s l w (Elect k) ≡ w
      go Asleep = ap (λ b. whether b Amiss Asleep) no
      go (Due m) = ap (λ b. whether b Over (Due m)) no
      go Over = ap (λ b. whether b Amiss Over) no
      go Amiss = refl

  above : (t : Order → Bool) (k j : ℕ) (os : List Order) → k < j → Counted j (numbers os) → AllByRecursion (λ m. m ≡ k → ⊥) (numbers (those t os))
  above t k j [] h a = tt
  above t k j (o ∷ os) h a = pick (t o) (above t k (suc j) os (omega arith) a.1)
    where
      pick : (b : Bool) → AllByRecursion (λ m. m ≡ k → ⊥) (numbers (those t os)) → AllByRecursion (λ m. m ≡ k → ⊥) (numbers (kept b o (those t os)))
      pick true ih = ((λ e. omega (arith, a.0)), ih)
      pick false ih = ih

  later : (t : Order → Bool) (k : ℕ) (x : Order) (os : List Order) → x.number ≡ n → x.number ≡ k → Counted (suc k) (numbers os) → AllByRecursion (λ m. m ≡ n → ⊥) (numbers (those t os))
  later t k x os e f c = above t n (suc k) os (omega arith) c

  not_called : (t : Order → Bool) (k : ℕ) (os : List Order) (o : Order) → Counted k (numbers os) → look n os ≡ Some o → t o ≡ false → AllByRecursion (λ m. m ≡ n → ⊥) (numbers (those t os))
  unfolding look
  not_called t k [] o c i f = tt
  not_called t k (x ∷ os) o c i f = go (eqb x.number n) refl i (not_called t (suc k) os o c.1)
    where
      drop : (b : Bool) → b ≡ false → AllByRecursion (λ m. m ≡ n → ⊥) (numbers (those t os)) → AllByRecursion (λ m. m ≡ n → ⊥) (numbers (kept b x (those t os)))
      drop true e a = absurd (false≢true (sym e))
      drop false e a = a

      add : (b : Bool) → (x.number ≡ n → ⊥) → AllByRecursion (λ m. m ≡ n → ⊥) (numbers (those t os)) → AllByRecursion (λ m. m ≡ n → ⊥) (numbers (kept b x (those t os)))
      add true e a = (e, a)
      add false e a = a

      go : (b : Bool) → eqb x.number n ≡ b → found b x (look n os) ≡ Some o → (look n os ≡ Some o → t o ≡ false → AllByRecursion (λ m. m ≡ n → ⊥) (numbers (those t os)))
          → AllByRecursion (λ m. m ≡ n → ⊥) (numbers (kept (t x) x (those t os)))
      go true e i ih = drop (t x) (ap t (some_inj i) ∙ f) (later t k x os (eqb-true x.number n e) c.0 c.1)
      go false e i ih = add (t x) (eqb-false x.number n e) (ih i f)

  -- the stop's own election
  is_called : (t : Order → Bool) (m : Option ℕ) (k : ℕ) (os : List Order) (o : Order) → Counted k (numbers os) → look n os ≡ Some o → t o ≡ true → course n s l (Due m) (map Elect (numbers (those t os))) ≡ Over
  unfolding look course
  is_called t m k [] o c i f = absurd (let z : ◌≡◌ {A = ℕ} 0 1 = cc in omega arith)
  is_called t m k (x ∷ os) o c i f = go (eqb x.number n) refl i (λ i. is_called t m (suc k) os o c.1 i f)
    where
      mine : (b : Bool) → b ≡ true → eqb x.number n ≡ true → course n s l (Due m) (map Elect (numbers (kept b x (those t os)))) ≡ Over
      mine true e h = ap (λ b. course n s l (whether b Over (Due m)) (map Elect (numbers (those t os)))) h
          ∙ others Over (numbers (those t os)) (later t k x os (eqb-true x.number n h) c.0 c.1)
      mine false e h = absurd (false≢true e)

      other : (b : Bool) → eqb x.number n ≡ false → course n s l (Due m) (map Elect (numbers (those t os))) ≡ Over → course n s l (Due m) (map Elect (numbers (kept b x (those t os)))) ≡ Over
      other true h ih = ap (λ b. course n s l (whether b Over (Due m)) (map Elect (numbers (those t os)))) h ∙ ih
      other false h ih = ih

      go : (b : Bool) → eqb x.number n ≡ b → found b x (look n os) ≡ Some o → (look n os ≡ Some o → course n s l (Due m) (map Elect (numbers (those t os))) ≡ Over)
          → course n s l (Due m) (map Elect (numbers (kept (t x) x (those t os)))) ≡ Over
      go true e i ih = mine (t x) (ap t (some_inj i) ∙ f) e
      go false e i ih = other (t x) e (ih i)

  look_called : (p : ℕ) (os : List Order) (o : Order) → look n os ≡ Some o → look n (map (λ o. called (is_elected p o) o) os) ≡ Some (called (is_elected p o) o)
  unfolding look
  look_called p [] o i = absurd (let z : ◌≡◌ {A = ℕ} 0 1 = cc in omega arith)
  look_called p (x ∷ os) o i = go (eqb x.number n) (ap (λ m. eqb m n) (called_number (is_elected p x) x)) i (look_called p os o)
    where
      new : List Order
      new = map (λ o. called (is_elected p o) o) os

      go : (b : Bool) → eqb (called (is_elected p x) x).number n ≡ b → found b x (look n os) ≡ Some o → (look n os ≡ Some o → look n new ≡ Some (called (is_elected p o) o))
          → found (eqb (called (is_elected p x) x).number n) (called (is_elected p x) x) (look n new) ≡ Some (called (is_elected p o) o)
      go true e i ih = ap (λ b. found b (called (is_elected p x) x) (look n new)) e ∙ ap (λ z. Some (called (is_elected p z) z)) (some_inj i)
      go false e i ih = ap (λ b. found b (called (is_elected p x) x) (look n new)) e ∙ ih i

  look_front : (os ys : List Order) (o : Order) → look n os ≡ Some o → look n (os ++ ys) ≡ Some o
  unfolding look
  look_front [] ys o i = absurd (let z : ◌≡◌ {A = ℕ} 0 1 = cc in omega arith)
  look_front (x ∷ os) ys o i = go (eqb x.number n) i (look_front os ys o)
    where
      go : (b : Bool) → found b x (look n os) ≡ Some o → (look n os ≡ Some o → look n (os ++ ys) ≡ Some o) → found b x (look n (os ++ ys)) ≡ Some o
      go true i ih = i
      go false i ih = ih i

  -- the stop is in the file; or it is elsewhere ---------------------------------------------------------------------------------------------------
  abbrev Sleeps : List Order → Type 0
  Sleeps os = (o : Order) × (look n os ≡ Some o) × (o.place ≡ StopFile) × (o.side ≡ s) × (o.price ≡ l)

  abbrev Gone : List Order → Type 0
  Gone os = (o : Order) × (look n os ≡ Some o) × (is_filed o.place ≡ false)

  abbrev Passed : Day → Type 0
  Passed d = Gone d.roll × Told Over d.tape

  gone_alter : (k : ℕ) (f : Order → Order) (os : List Order) → ((o : Order) → (f o).number ≡ o.number) → ((o : Order) → is_filed o.place ≡ false → is_filed (f o).place ≡ false) → Gone os → Gone (alter k f os)
  gone_alter k f os e h g = ⊎_elim
      (λ i. (f g.0, subst (λ x. look n (alter x f os) ≡ Some (f g.0)) i (look_alter n f os e ∙ ap (upon f) g.1), h g.0 g.2))
      (λ ne. (g.0, look_past n k f os e ne ∙ g.1, g.2)) (cases_eq n k)

  fill_gone : (q : ℕ) (o : Order) → is_filed o.place ≡ false → is_filed (fill q o).place ≡ false
  fill_gone q o e = go (eqb (o.«open» - q) 0)
    where
      go : (b : Bool) → is_filed (cond b Nowhere o.place) ≡ false
      go true = refl
      go false = e

  gone_deal : (c : Side) (p : ℕ) (os : List Order) (gs : List ℕ) → Gone os → Gone (deal c p os gs)
  unfolding Dealt
  gone_deal c p os gs g = go (look n (deal c p os gs)) refl (subst (λ x. Dealt x (look n (deal c p os gs))) g.1 (look_dealt n c p os gs))
    where
      go : (y : Option Order) → look n (deal c p os gs) ≡ y → Dealt (Some g.0) y → Gone (deal c p os gs)
      go None i h = absurd h
      go (Some u) i (inl h) = (u, i, ap (λ (x : Order). is_filed x.place) h ∙ g.2)
      go (Some u) i (inr h) = (u, i, ap (λ (x : Order). is_filed x.place) h.1 ∙ fill_gone h.0 g.0 g.2)

  elect_passed : (p : ℕ) (d : Day) → Counted 1 (numbers d.roll) → Passed d → Passed (elect p d)
  unfolding elect
  elect_passed p d c h =
      let o : Order = h.0.0 in
      let f : is_elected p o ≡ false = ap (λ b. b && as_good o.side p o.price) h.0.2 in (
        (o, look_called p d.roll o h.0.1 ∙ ap (λ b. Some (called b o)) f, h.0.2),
        told_more Over Over (map Elect (numbers (those (is_elected p) d.roll))) d.tape (others Over _ (not_called (is_elected p) 1 d.roll o c h.0.1 f)) h.1,
      )

  cancel_number : (o : Order) → (cancel o).number ≡ o.number
  cancel_number o = refl

  cancel_gone : (o : Order) → is_filed (cancel o).place ≡ false
  cancel_gone o = refl

  rest_gone : (o : Order) → is_filed (put Book o).place ≡ false
  rest_gone o = refl

  module _ (gifts : Rule) (lawful : LawfulRule gifts) where
    -- once over, over
    passed_keeps : Keeps gifts lawful Passed
    unfolding trade leave withdraw rest pause centre admit floored resumed set_up to
    passed_keeps = record {
      trade = λ r p d m k h. (
        gone_alter r.number (fill (size r.number (opposite r.side) p d.roll)) _ (λ o. fill_number (size r.number (opposite r.side) p d.roll) o) (λ o. fill_gone (size r.number (opposite r.side) p d.roll) o) (gone_deal (opposite r.side) p d.roll _ h.0),
        told_line Over Over (Print r.number p (size r.number (opposite r.side) p d.roll) (low_of d.range) (high_of d.range)) d.tape refl h.1,
      );
      leave = λ r d m e h. (h.0, h.1);
      withdraw = λ k d c h. (gone_alter k cancel d.roll cancel_number (λ o _. cancel_gone o) h.0, told_line Over Over (Cancel k (left k d.roll)) d.tape refl h.1);
      rest = λ r d m w e c h. (gone_alter r.number (put Book) d.roll (put_number Book) (λ o _. rest_gone o) h.0, h.1);
      pause = λ d h. (h.0, h.1);
      elect = λ p d sd h. elect_passed p d sd.counted h;
      centre = λ d h. (h.0, h.1);
      admit = λ k sd m p q w d so ch pl h. ((h.0.0, look_front d.roll (put w (fresh k sd m p q d.roll) ∷ []) h.0.0 h.0.1, h.0.2), h.1);
      floored = λ p q d _ h. (h.0, told_line Over Over (Floor p q) d.tape refl h.1);
      resumed = λ d h. (h.0, h.1);
      set_up = λ k c p d _ _ h. (h.0, h.1);
      to = λ f d h. (h.0, h.1);
    }

    -- the run of another order ---------------------------------------------------------------------------------------------------------------------
    -- t: the stop is due by this run of m
    abbrev Up : ℕ → Bool → Day → Type 0
    Up m t d = Sleeps d.roll × Told (whether t (Due (Some m)) Asleep) d.tape

    sleeps_alter : (k : ℕ) (f : Order → Order) (os : List Order) → ((o : Order) → (f o).number ≡ o.number) → (n ≡ k → ⊥) → Sleeps os → Sleeps (alter k f os)
    sleeps_alter k f os e ne h = (h.0, look_past n k f os e ne ∙ h.1, h.2, h.3, h.4)

    filed_open : (w : Place) (m : ℕ) → w ≡ StopFile → Held w m → 100 ≤ m
    filed_open w m e h = subst (λ x. Held x m) e h

    sleeps_deal : (c : Side) (p : ℕ) (os : List Order) (gs : List ℕ) → AllByRecursion Good os → Sleeps os → Sleeps (deal c p os gs)
    sleeps_deal c p os gs a h =
        let o : Order = h.0 in
        let m : 100 ≤ o.«open» = filed_open o.place o.«open» h.2 (find_all Good n os o h.1 a).held in
        (o, look_deal n c p os gs o h.1 (ap is_book h.2), h.2, h.3, h.4)

    -- one print more
    step_up : (m p q lo hi : ℕ) (t : Bool) → next n s l (whether t (Due (Some m)) Asleep) (Print m p q lo hi) ≡ whether (t || as_good s p l) (Due (Some m)) Asleep
    step_up m p q lo hi true = ap (λ b. whether b (Due (Some m)) Amiss) (eq-eqb m m refl)
    step_up m p q lo hi false = refl

    trade_up : (r : Order) (p : ℕ) (t : Bool) (d : Day) → (n ≡ r.number → ⊥) → AllByRecursion Good d.roll → Up r.number t d → Up r.number (t || as_good s p l) (trade gifts r.number (opposite r.side) p d)
    unfolding trade
    trade_up r p t d ne a h = (
      sleeps_alter r.number (fill (size r.number (opposite r.side) p d.roll)) _ (λ o. fill_number (size r.number (opposite r.side) p d.roll) o) ne (sleeps_deal (opposite r.side) p d.roll _ a h.0),
      told_line (whether t (Due (Some r.number)) Asleep) _ (Print r.number p (size r.number (opposite r.side) p d.roll) (low_of d.range) (high_of d.range)) d.tape
          (step_up r.number p (size r.number (opposite r.side) p d.roll) (low_of d.range) (high_of d.range) t) h.1,
    )

    withdraw_up : (m : ℕ) (t : Bool) (d : Day) → (n ≡ m → ⊥) → Up m t d → Up m t (withdraw m d)
    unfolding withdraw
    withdraw_up m t d ne h = (sleeps_alter m cancel d.roll cancel_number ne h.0, told_line (whether t (Due (Some m)) Asleep) _ (Cancel m (left m d.roll)) d.tape (go t) h.1)
      where
        go : (t : Bool) → next n s l (whether t (Due (Some m)) Asleep) (Cancel m (left m d.roll)) ≡ whether t (Due (Some m)) Asleep
        go true = ap (λ b. whether b (Due (Some m)) Amiss) (eq-eqb m m refl)
        go false = ap (λ b. whether b Over Asleep) (ne_eqb m n (λ e. ne (sym e)))

    rest_up : (m : ℕ) (t : Bool) (d : Day) → (n ≡ m → ⊥) → Up m t d → Up m t (rest m d)
    unfolding rest
    rest_up m t d ne h = (sleeps_alter m (put Book) d.roll (put_number Book) ne h.0, h.1)

    pause_up : (m : ℕ) (t : Bool) (d : Day) → Up m t d → Up m t (pause true d)
    unfolding pause
    pause_up m t d h = (h.0, h.1)

    leave_up : (m : ℕ) (t : Bool) (d : Day) → Up m t d → Up m t (leave m d)
    unfolding leave
    leave_up m t d h = (h.0, h.1)

    residual_up : (m : ℕ) (t b : Bool) (k : Kind) (d : Day) → (n ≡ m → ⊥) → Up m t d → Up m t (residual m b k d)
    residual_up m t true Limit d ne h = pause_up m t d h
    residual_up m t true Market d ne h = pause_up m t d h
    residual_up m t true Stop d ne h = pause_up m t d h
    residual_up m t true ImmediateOrCancel d ne h = pause_up m t (withdraw m d) (withdraw_up m t d ne h)
    residual_up m t false Limit d ne h = rest_up m t d ne h
    residual_up m t false Market d ne h = withdraw_up m t d ne h
    residual_up m t false Stop d ne h = withdraw_up m t d ne h
    residual_up m t false ImmediateOrCancel d ne h = withdraw_up m t d ne h

    settle_up : (r : Order) (t : Bool) (d : Day) → (n ≡ r.number → ⊥) → Up r.number t d → Up r.number t (settle r d)
    unfolding settle
    settle_up r t d ne h = go (left r.number d.roll)
      where
        go : (x : ℕ) → Up r.number t (settle_of x r.number (any (is_contra r) d.roll) r.kind d)
        go zero = leave_up r.number t d h
        go (suc x) = residual_up r.number t (any (is_contra r) d.roll) r.kind d ne h

    -- elections
    reached : (p : ℕ) (o : Order) → o.place ≡ StopFile → o.side ≡ s → o.price ≡ l → is_elected p o ≡ as_good s p l
    reached p o f e g = ap (λ w. is_filed w && as_good o.side p o.price) f ∙ ap (λ x. as_good x p o.price) e ∙ ap (λ x. as_good s p x) g

    elect_asleep : (p : ℕ) (w : Course) (d : Day) → Counted 1 (numbers d.roll) → as_good s p l ≡ false → Sleeps d.roll → Told w d.tape → Sleeps (elect p d).roll × Told w (elect p d).tape
    unfolding elect
    elect_asleep p w d c e h t =
        let o : Order = h.0 in
        let f : is_elected p o ≡ false = reached p o h.2 h.3 h.4 ∙ e in (
          (o, look_called p d.roll o h.1 ∙ ap (λ b. Some (called b o)) f, h.2, h.3, h.4),
          told_more w w (map Elect (numbers (those (is_elected p) d.roll))) d.tape (others w _ (not_called (is_elected p) 1 d.roll o c h.1 f)) t,
        )

    elect_due : (p : ℕ) (m : Option ℕ) (d : Day) → Counted 1 (numbers d.roll) → as_good s p l ≡ true → Sleeps d.roll → Told (Due m) d.tape → Passed (elect p d)
    unfolding elect
    elect_due p m d c e h t =
        let o : Order = h.0 in
        let f : is_elected p o ≡ true = reached p o h.2 h.3 h.4 ∙ e in (
          (put Line o, look_called p d.roll o h.1 ∙ ap (λ b. Some (called b o)) f, refl),
          told_more (Due m) Over (map Elect (numbers (those (is_elected p) d.roll))) d.tape (is_called (is_elected p) m 1 d.roll o c h.1 f) t,
        )

    -- between runs
    abbrev Calm : Day → Type 0
    Calm d = (Sleeps d.roll × Told Asleep d.tape) ⊎ Passed d

    abbrev hits : Option ℕ → Bool
    hits None = false
    hits (Some p) = as_good s p l

    elect_at_asleep : (x : Option ℕ) (w : Course) (d : Day) → Counted 1 (numbers d.roll) → hits x ≡ false → Sleeps d.roll × Told w d.tape → Sleeps (elect_at x d).roll × Told w (elect_at x d).tape
    elect_at_asleep None w d c e h = h
    elect_at_asleep (Some p) w d c e h = elect_asleep p w d c e h.0 h.1

    elect_at_due : (x : Option ℕ) (m : Option ℕ) (d : Day) → Counted 1 (numbers d.roll) → hits x ≡ true → Sleeps d.roll × Told (Due m) d.tape → Passed (elect_at x d)
    elect_at_due None m d c e h = absurd (false≢true e)
    elect_at_due (Some p) m d c e h = elect_due p m d c e h.0 h.1

    elect_at_passed : (x : Option ℕ) (d : Day) → Counted 1 (numbers d.roll) → Passed d → Passed (elect_at x d)
    elect_at_passed None d c h = h
    elect_at_passed (Some p) d c h = elect_passed p d c h

    elect_at_counted : (x : Option ℕ) (d : Day) → Sound d → Counted 1 (numbers (elect_at x d).roll)
    elect_at_counted None d h = h.counted
    elect_at_counted (Some p) d h = (elect_sound p d h).counted

    -- the elections of a run with prints at a and b
    both : (a b : Option ℕ) (m : ℕ) (d : Day) → Sound d → Up m ((false || hits a) || hits b) d → Calm (elect_at b (elect_at a d))
    both a b m d so h = go (hits a) (hits b) refl refl h
      where
        c : Counted 1 (numbers d.roll)
        c = so.counted

        c₁ : Counted 1 (numbers (elect_at a d).roll)
        c₁ = elect_at_counted a d so

        go : (x y : Bool) → hits a ≡ x → hits b ≡ y → Up m ((false || x) || y) d → Calm (elect_at b (elect_at a d))
        go true y e f h = inr (elect_at_passed b _ c₁ (elect_at_due a (Some m) d c e h))
        go false true e f h = inr (elect_at_due b (Some m) _ c₁ f (elect_at_asleep a (Due (Some m)) d c e h))
        go false false e f h = inl (elect_at_asleep b Asleep _ c₁ f (elect_at_asleep a Asleep d c e h))

    centre_if_calm : (g : Option Range) (x : Option ℕ) (d : Day) → Calm d → Calm (centre_if g x d)
    unfolding centre
    centre_if_calm None None d h = h
    centre_if_calm None (Some p) d h = h
    centre_if_calm (Some g) x d h = h

    print_up : (r : Order) (x : Option ℕ) (t : Bool) (d : Day) → (n ≡ r.number → ⊥) → AllByRecursion Good d.roll → Up r.number t d → Up r.number (t || hits x) (print_at gifts r x d)
    print_up r None t d ne a h = subst (λ b. Up r.number b d) (or_false t) h
      where
        or_false : (t : Bool) → t ≡ (t || false)
        or_false true = refl
        or_false false = refl
    print_up r (Some p) t d ne a h = trade_up r p t d ne a h

    -- the runner is not the stop
    runner_other : (r : Order) (d : Day) → Mid r d → Sleeps d.roll → n ≡ r.number → ⊥
    runner_other r d m h e =
        let i : m.runner ≡ h.0 = some_inj (sym m.is ∙ subst (λ x. look x d.roll ≡ Some h.0) e h.1) in
        false≢true (sym (off (eqb m.runner.«open» 0)) ∙ ap is_filed (sym m.spotted) ∙ ap (λ (x : Order). is_filed x.place) i ∙ ap is_filed h.2)
      where
        off : (b : Bool) → is_filed (cond b Nowhere Line) ≡ false
        off true = refl
        off false = refl

    run_calm : (r : Order) (d : Day) → Mid r d → 0 < left r.number d.roll → Calm d → Calm (run gifts r d)
    unfolding run
    run_calm r d m pos (inr h) = inr (run_keeps gifts lawful Passed (moves gifts lawful Passed passed_keeps) r d m pos h)
    run_calm r d m pos (inl h) = go (first_price r d) refl
      where
        ne : n ≡ r.number → ⊥
        ne = runner_other r d m h.0

        up : Up r.number false d
        up = h

        go : (a : Option ℕ) → first_price r d ≡ a
            → Calm (centre_if d.range a (elect_at (next_price a r (print_at gifts r a d)) (elect_at a (settle r (print_at gifts r (next_price a r (print_at gifts r a d)) (print_at gifts r a d))))))
        go None e = centre_if_calm d.range None _ (both None None r.number _ (settle_sound gifts lawful r d m) (settle_up r false d ne up))
        go (Some p) e =
            let c : Side = opposite r.side in
            let f : First gifts lawful r p d = first_is_lem gifts lawful r p d e in
            let d₁ : Day = trade gifts r.number c p d in
            let m₁ : Mid r d₁ = trade_mid gifts lawful r p d m (first_prints gifts lawful r p d pos e) in
            let b : Option ℕ = if_left (left r.number d₁.roll) (clean_up r d₁) in
            let u : Up r.number ((false || as_good s p l) || hits b) (print_at gifts r b d₁) = print_up r b _ d₁ ne m₁.books.orders (trade_up r p false d ne m.books.orders up) in
            centre_if_calm d.range (Some p) _ (both (Some p) b r.number _
            (settle_sound gifts lawful r _ (second r p d₁ m₁ (clear_trade gifts lawful c p r.number p d f.clear) (ap (λ g. in_range g p) (trade_range gifts lawful r.number c p d) ∙ f.range) b refl))
            (settle_up r _ _ ne u))
          where
            second : (r : Order) (f : ℕ) (d : Day) → Mid r d → Clear gifts lawful (opposite r.side) f d.roll → in_range d.range f ≡ true
                → (x : Option ℕ) → if_left (left r.number d.roll) (clean_up r d) ≡ x → Mid r (print_at gifts r x d)
            second r f d m cl fr None e = m
            second r f d m cl fr (Some p) e = trade_mid gifts lawful r p d m (next_prints gifts lawful r f d cl fr p e)

    -- the calls --------------------------------------------------------------------------------------------------------------------------------------
    cancel_place : (o : Order) → (cancel o).place ≡ Nowhere
    cancel_place o = refl

    withdraw_calm : (k : ℕ) (d : Day) → Calm d → Calm (withdraw k d)
    unfolding withdraw
    withdraw_calm k d (inr h) = inr (gone_alter k cancel d.roll cancel_number (λ o _. cancel_gone o) h.0, told_line Over Over (Cancel k (left k d.roll)) d.tape refl h.1)
    withdraw_calm k d (inl h) = ⊎_elim
        (λ e. inr (
          (cancel h.0.0, subst (λ x. look n (alter x cancel d.roll) ≡ Some (cancel h.0.0)) e (look_alter n cancel d.roll cancel_number ∙ ap (upon cancel) h.0.1), cancel_gone h.0.0),
          told_line Asleep Over (Cancel k (left k d.roll)) d.tape (ap (λ b. whether b Over Asleep) (eq-eqb k n (sym e))) h.1,
        ))
        (λ ne. inl (
          sleeps_alter k cancel d.roll cancel_number ne h.0,
          told_line Asleep Asleep (Cancel k (left k d.roll)) d.tape (ap (λ b. whether b Over Asleep) (ne_eqb k n (λ e. ne (sym e)))) h.1,
        )) (cases_eq n k)

    floor_calm : (p q : ℕ) (d : Day) → Sound (floored p q d) → Calm d → Calm (elect p (floored p q d))
    unfolding floored
    floor_calm p q d so (inr h) = inr (elect_passed p (floored p q d) so.counted (h.0, told_line Over Over (Floor p q) d.tape refl h.1))
    floor_calm p q d so (inl h) = go (as_good s p l) refl (told_line Asleep (whether (as_good s p l) (Due None) Asleep) (Floor p q) d.tape refl h.1)
      where
        go : (b : Bool) → as_good s p l ≡ b → Told (whether b (Due None) Asleep) (floored p q d).tape → Calm (elect p (floored p q d))
        go true e t = inr (elect_due p None (floored p q d) so.counted e h.0 t)
        go false e t = inl (elect_asleep p Asleep (floored p q d) so.counted e h.0 t)

    admit_calm : (k : Kind) (sd : Side) (m p q : ℕ) (w : Place) (d : Day) → Calm d → Calm (admit (fresh k sd m p q d.roll) w d)
    unfolding admit
    admit_calm k sd m p q w d (inl h) = inl ((h.0.0, look_front d.roll (put w (fresh k sd m p q d.roll) ∷ []) h.0.0 h.0.1, h.0.2, h.0.3, h.0.4), h.1)
    admit_calm k sd m p q w d (inr h) = inr ((h.0.0, look_front d.roll (put w (fresh k sd m p q d.roll) ∷ []) h.0.0 h.0.1, h.0.2), h.1)

    pub calm_lasts : Lasts gifts lawful Calm
    unfolding centre resumed set_up to
    calm_lasts = record {
      run = run_calm;
      withdraw = λ k d c h. withdraw_calm k d h;
      centre = λ d h. h;
      admit = λ k sd m p q w d so ch pl h. admit_calm k sd m p q w d h;
      floor = λ p q d _ so so₁ h. floor_calm p q d so₁ h;
      resumed = λ d h. h;
      set_up = λ k c p d _ _ h. h;
      to = λ f d h. h;
    }

    pub told : (e : Day) → Calm e → course n s l Asleep (beyond ts e.tape) ≡ course_at (place_of (look n e.roll))
    told e (inl h) = ap (λ x. course n s l Asleep (beyond ts x)) h.1.1 ∙ ap (course n s l Asleep) (beyond_append ts h.1.0) ∙ h.1.2 ∙ ap course_at (sym (ap place_of h.0.1 ∙ h.0.2))
    told e (inr h) = ap (λ x. course n s l Asleep (beyond ts x)) h.1.1 ∙ ap (course n s l Asleep) (beyond_append ts h.1.0) ∙ h.1.2 ∙ sym (ap (λ x. course_at (place_of x)) h.0.1 ∙ at h.0.0.place h.0.2)
      where
        at : (w : Place) → is_filed w ≡ false → course_at w ≡ Over
        at Book e = refl
        at Line e = refl
        at StopFile e = absurd (false≢true (sym e))
        at Nowhere e = refl

    pub slept : (d : Day) (o : Order) → d.tape ≡ ts → look n d.roll ≡ Some o → o.place ≡ StopFile → o.side ≡ s → o.price ≡ l → Calm d
    unfolding course
    slept d o t i f e g = inl ((o, i, f, e, g), ([], t ∙ sym (append_none ts), refl))

pub elected_by_first : ElectedByFirst
elected_by_first gifts lawful room cs cs' n o i f =
    let d : Day = after_calls gifts room new_day cs in
    fate n o.side o.price (place_of (look n (after_calls gifts room d cs').roll)) (handed d (after_calls gifts room d cs'))
    (told n o.side o.price d.tape gifts lawful (after_calls gifts room d cs')
    (calls_last gifts lawful (Calm n o.side o.price d.tape gifts lawful) (calm_lasts n o.side o.price d.tape gifts lawful) room cs' d (calls_sound gifts lawful room cs new_day (new_sound gifts lawful))
    (slept n o.side o.price d.tape gifts lawful d o refl i f refl refl)))
