-- Who is filed is a stop, and the E lines of a call are those of orders that were filed before it.
use Rattle.std.proofs.Common.{◌≡◌, ℕ, ◌-◌, Bool, true, false, cond, eqb, ◌⊎◌, List, [], ◌∷◌, ◌++◌, map, Some, None, Option, sym, refl, ap, ◌∙◌, subst, inl, inr, ⊎_elim, arith}
use Rattle.std.proofs.lemmas.Bool.{false≢true, and_parts}
use Rattle.std.specs.List.{AllByRecursion}
use Rattle.market.specs.declared.words.Side.{Side}
use Rattle.market.specs.declared.words.Kind.{Kind}
use Rattle.market.specs.declared.words.Kind.TheVariants.{Limit, Market, ImmediateOrCancel, Stop}
use Rattle.market.specs.declared.words.Place.{Place}
use Rattle.market.specs.declared.words.Place.TheVariants.{Nowhere, Book, Line, StopFile}
use Rattle.market.specs.declared.words.Order.{Order}
use Rattle.market.specs.declared.words.TapeLine.{TapeLine}
use Rattle.market.specs.declared.words.TapeLine.TheVariants.{Print, Cancel, Elect, Floor}
use Rattle.market.specs.Sides.{opposite, as_good}
use Rattle.market.specs.Orders.{fill, cancel, put}
use Rattle.sharing.specs.Shares.{LawfulRule}
use Rattle.replay.specs.Lists.{those, kept, any, beyond}
use Rattle.replay.specs.Days.{Day, Rule, Call, Set, LoadLimit, LoadStop, Open, Enter, CancelOrder, FloorTrade, Resume, Close, new_day}
use Rattle.replay.specs.Rolls.{is_filed, look, found, alter, left, fresh}
use Rattle.replay.specs.Book.{is_at, is_better, is_contra}
use Rattle.replay.specs.Moves.{low_of, high_of, deal, after, size, trade, leave, withdraw, rest, pause, elect, is_elected, called, centre, admit, floored, resumed, set_up, to}
use Rattle.replay.specs.Runs.{work, start_place}
use Rattle.replay.specs.Calls.{refusal, decided, handed, checks, perform, step, after_calls}
use Rattle.replay.specs.Starts.{comes_in, start_of}
use Rattle.replay.proofs.Lists.{append_append, append_none, beyond_append, all_append, all_push}
use Rattle.replay.proofs.Rolls.{all_alter, dealt_is}
use Rattle.replay.proofs.Conservation.{find_all}
use Rattle.replay.proofs.Runs.{Sound, Counted, numbers, fill_number}
use Rattle.replay.proofs.Calls.{put_number}
use Rattle.replay.proofs.Keeps.{Moves, run_keeps}
use Rattle.replay.proofs.Turns.{Idle}
use Rattle.replay.proofs.Idle.{counted_look}
use Rattle.replay.proofs.Filing.{work_rests_on}
use Rattle.replay.proofs.Starts.{step_start, follows, lists_keep, sound_after, idle_after}
use Rattle.replay.proofs.Backs.{Back, back_alter, back_deal, back_elected}

pub cancel_number : (o : Order) → (cancel o).number ≡ o.number
cancel_number o = refl

pub unfile_fill : (q : ℕ) (o : Order) → is_filed (fill q o).place ≡ true → is_filed o.place ≡ true
unfile_fill q o e = go (eqb (o.«open» - q) 0) e
  where
    go : (b : Bool) → is_filed (cond b Nowhere o.place) ≡ true → is_filed o.place ≡ true
    go true e = absurd (false≢true e)
    go false e = e

-- who is filed is a stop ---------------------------------------------------------------------------------------------------------------------------
abbrev pub Fits : Order → Type 0
Fits o = is_filed o.place ≡ true → o.kind ≡ Stop

abbrev pub Stops : Day → Type 0
Stops d = AllByRecursion Fits d.roll

deal_stops : (c : Side) (p : ℕ) (os : List Order) (gs : List ℕ) → AllByRecursion Fits os → AllByRecursion Fits (deal c p os gs)
unfolding deal
deal_stops c p [] gs a = tt
deal_stops c p (o ∷ os) gs a = (dealt_is Fits (is_better c p o) (is_at c p o) gs o (λ q e. a.0 (unfile_fill q o e)) a.0, deal_stops c p os (after (is_at c p o) gs) a.1)

called_stops : (p : ℕ) (os : List Order) → AllByRecursion Fits os → AllByRecursion Fits (map (λ o. called (is_elected p o) o) os)
called_stops p [] a = tt
called_stops p (o ∷ os) a = (go (is_elected p o), called_stops p os a.1)
  where
    go : (b : Bool) → Fits (called b o)
    go true e = absurd (false≢true e)
    go false e = a.0 e

cancel_fits : (o : Order) → Fits (cancel o)
cancel_fits o e = absurd (false≢true e)

rest_fits : (o : Order) → Fits (put Book o)
rest_fits o e = absurd (false≢true e)

withdraw_stops : (n : ℕ) (d : Day) → Stops d → Stops (withdraw n d)
unfolding withdraw
withdraw_stops n d a = all_alter Fits n cancel d.roll (λ o e f. cancel_fits o) a

elect_stops : (p : ℕ) (d : Day) → Stops d → Stops (elect p d)
unfolding elect
elect_stops p d a = called_stops p d.roll a

admit_stops : (o : Order) (w : Place) (d : Day) → Fits (put w o) → Stops d → Stops (admit o w d)
unfolding admit
admit_stops o w d f a = all_push Fits d.roll (put w o) a f

fresh_fits : (k : Kind) (s : Side) (m p q : ℕ) (os : List Order) (w : Place) → (is_filed w ≡ true → k ≡ Stop) → Fits (put w (fresh k s m p q os))
unfolding fresh
fresh_fits k s m p q os w f = f

comes_stops : (b : Bool) (k : Kind) (c : Bool) (s : Side) (m p q : ℕ) (d : Day) → Stops d → Stops (comes_in b k (fresh k s m p q d.roll) (start_place k c) d)
comes_stops b k c s m p q d a = go b k
  where
    off : (k : Kind) (w : Place) → (is_filed w ≡ true → k ≡ Stop) → Stops (admit (fresh k s m p q d.roll) w d)
    off k w f = admit_stops (fresh k s m p q d.roll) w d (fresh_fits k s m p q d.roll w f) a

    place : (k : Kind) (c : Bool) → is_filed (start_place k c) ≡ true → k ≡ Stop
    place Limit true e = absurd (false≢true e)
    place Limit false e = absurd (false≢true e)
    place Market c e = absurd (false≢true e)
    place ImmediateOrCancel c e = absurd (false≢true e)
    place Stop c e = refl

    go : (b : Bool) (k : Kind) → Stops (comes_in b k (fresh k s m p q d.roll) (start_place k c) d)
    go true ImmediateOrCancel = withdraw_stops _ _ (off ImmediateOrCancel Line (λ e. absurd (false≢true e)))
    go true Limit = off Limit (start_place Limit c) (place Limit c)
    go true Market = off Market Line (place Market c)
    go true Stop = off Stop StopFile (place Stop c)
    go false k = off k (start_place k c) (place k c)

start_stops : (d : Day) (c : Call) → Stops d → Stops (start_of d c)
unfolding start_of set_up to floored resumed centre
start_stops d (Set k c p) a = a
start_stops d (LoadLimit s m p q) a = admit_stops (fresh Limit s m p q d.roll) Book d (fresh_fits Limit s m p q d.roll Book (λ e. absurd (false≢true e))) a
start_stops d (LoadStop s m p q) a = admit_stops (fresh Stop s m p q d.roll) StopFile d (fresh_fits Stop s m p q d.roll StopFile (λ e. refl)) a
start_stops d Open a = a
start_stops d (Enter k s m p q f) a = comes_stops d.paused k (any (is_contra (fresh k s m p q d.roll)) d.roll) s m p q d a
start_stops d (CancelOrder m n f) a = withdraw_stops n d a
start_stops d (FloorTrade p q f) a = elect_stops p (floored p q d) a
start_stops d (Resume f) a = a
start_stops d Close a = a

module _ (gifts : Rule) (lawful : LawfulRule gifts) where
  stops_move : Moves gifts lawful Stops
  unfolding trade leave rest pause centre
  stops_move = record {
    trade = λ r p d m k a. all_alter Fits r.number (fill (size r.number (opposite r.side) p d.roll)) _ (λ o e f g. f (unfile_fill (size r.number (opposite r.side) p d.roll) o g)) (deal_stops (opposite r.side) p d.roll _ a);
    leave = λ r d m e a. a;
    withdraw = λ n d c a. withdraw_stops n d a;
    rest = λ r d m w e c a. all_alter Fits r.number (put Book) d.roll (λ o i f. rest_fits o) a;
    pause = λ d a. a;
    elect = λ p d s a. elect_stops p d a;
    centre = λ d a. a;
  }

  new_stops : Stops new_day
  unfolding new_day
  new_stops = tt

  pub stops_after : (room : ℕ) (cs : List Call) → Stops (after_calls gifts room new_day cs)
  unfolding after_calls
  stops_after room cs = lists_keep gifts lawful Stops (λ r d s k a. run_keeps gifts lawful Stops stops_move r d k.mid k.some a) room
      (λ d c s e a. start_stops d c a) cs new_day (sound_after gifts lawful room []) (idle_after gifts lawful room []) new_stops

-- who is filed in the course of a call was filed before it ------------------------------------------------------------------------------------------
module _ (d : Day) where
  abbrev pub Before : ℕ → Type 0
  Before n = (o : Order) × (look n d.roll ≡ Some o) × (o.kind ≡ Stop) × (o.place ≡ StopFile)

  abbrev pub Named : TapeLine → Type 0
  Named (Print n p q l h) = Unit {0}
  Named (Cancel n q) = Unit {0}
  Named (Elect n) = Before n
  Named (Floor p q) = Unit {0}

  abbrev Still : List Order → Type 0
  Still os = (n : ℕ) (o : Order) → look n os ≡ Some o → is_filed o.place ≡ true → Before n

  abbrev Lines : List TapeLine → Type 0
  Lines xs = (ls : List TapeLine) × (xs ≡ d.tape ++ ls) × AllByRecursion Named ls

  abbrev Course : Day → Type 0
  Course e = Lines e.tape × Still e.roll

  lines_more : (xs ks : List TapeLine) → AllByRecursion Named ks → Lines xs → Lines (xs ++ ks)
  lines_more xs ks a h = (h.0 ++ ks, ap (λ x. x ++ ks) h.1 ∙ append_append d.tape h.0 ks, all_append Named h.0 ks h.2 a)

  -- so it is of a roll on which nobody is filed who was not
  still_from : (os us : List Order) → Back (λ o. is_filed o.place) os us → Still os → Still us
  still_from os us f h n u i e = let x : (o : Order) × (look n os ≡ Some o) × (is_filed o.place ≡ true) = f n u i e in h n x.0 x.1 x.2

  still_alter : (k : ℕ) (f : Order → Order) (os : List Order) → ((o : Order) → (f o).number ≡ o.number) → ((o : Order) → is_filed (f o).place ≡ true → is_filed o.place ≡ true) → Still os → Still (alter k f os)
  still_alter k f os e h = still_from os (alter k f os) (back_alter (λ o. is_filed o.place) k f os e h)

  still_deal : (c : Side) (p : ℕ) (os : List Order) (gs : List ℕ) → Still os → Still (deal c p os gs)
  still_deal c p os gs = still_from os (deal c p os gs) (back_deal (λ o. is_filed o.place) unfile_fill c p os gs)

  unfile_called : (b : Bool) (o : Order) → is_filed (called b o).place ≡ true → is_filed o.place ≡ true
  unfile_called true o e = absurd (false≢true e)
  unfile_called false o e = e

  still_called : (p : ℕ) (os : List Order) → Still os → Still (map (λ o. called (is_elected p o) o) os)
  still_called p os = still_from os _ (back_elected (λ o. is_filed o.place) unfile_called p os)

  named_those : (p : ℕ) (os xs : List Order) → Still os → AllByRecursion (λ o. look o.number os ≡ Some o) xs → AllByRecursion Named (map Elect (numbers (those (is_elected p) xs)))
  named_those p os [] h a = tt
  named_those p os (o ∷ xs) h a = go (is_elected p o) refl (named_those p os xs h a.1)
    where
      go : (b : Bool) → is_elected p o ≡ b → AllByRecursion Named (map Elect (numbers (those (is_elected p) xs))) → AllByRecursion Named (map Elect (numbers (kept b o (those (is_elected p) xs))))
      go true e ih = (h o.number o a.0 (and_parts (is_filed o.place) (as_good o.side p o.price) e).0, ih)
      go false e ih = ih

  withdraw_course : (n : ℕ) (e : Day) → Course e → Course (withdraw n e)
  unfolding withdraw
  withdraw_course n e h = (lines_more e.tape (Cancel n (left n e.roll) ∷ []) (tt, tt) h.0, still_alter n cancel e.roll cancel_number (λ o x. absurd (false≢true x)) h.1)

  elect_course : (p : ℕ) (e : Day) → Counted 1 (numbers e.roll) → Course e → Course (elect p e)
  unfolding elect
  elect_course p e c h = (lines_more e.tape (map Elect (numbers (those (is_elected p) e.roll))) (named_those p e.roll e.roll h.1 (counted_look 1 e.roll c)) h.0, still_called p e.roll h.1)

  course_moves : (gifts : Rule) (lawful : LawfulRule gifts) → Moves gifts lawful Course
  unfolding trade leave rest pause centre
  course_moves gifts lawful = record {
    trade = λ r p e m k h. (
      lines_more e.tape (Print r.number p (size r.number (opposite r.side) p e.roll) (low_of e.range) (high_of e.range) ∷ []) (tt, tt) h.0,
      still_alter r.number (fill (size r.number (opposite r.side) p e.roll)) _ (λ o. fill_number (size r.number (opposite r.side) p e.roll) o) (λ o x. unfile_fill (size r.number (opposite r.side) p e.roll) o x)
          (still_deal (opposite r.side) p e.roll _ h.1),
    );
    leave = λ r e m x h. h;
    withdraw = λ n e c h. withdraw_course n e h;
    rest = λ r e m w x c h. (h.0, still_alter r.number (put Book) e.roll (put_number Book) (λ o y. absurd (false≢true y)) h.1);
    pause = λ e h. h;
    elect = λ p e s h. elect_course p e s.counted h;
    centre = λ e h. h;
  }

  -- at the start of a call which files nobody
  at_first : Stops d → Sound d → Course d
  at_first a s = (([], sym (append_none d.tape), tt), (λ n o i f. (o, i, fits n d.roll a o i f, stop_file o.place f)))
    where
      stop_file : (w : Place) → is_filed w ≡ true → w ≡ StopFile
      stop_file Nowhere e = absurd (false≢true e)
      stop_file Book e = absurd (false≢true e)
      stop_file Line e = absurd (false≢true e)
      stop_file StopFile e = refl

      fits : (n : ℕ) (os : List Order) → AllByRecursion Fits os → (o : Order) → look n os ≡ Some o → is_filed o.place ≡ true → o.kind ≡ Stop
      fits n os a o i = find_all Fits n os o i a

  look_last : (m : ℕ) (os : List Order) (x u : Order) → look m (os ++ (x ∷ [])) ≡ Some u → (look m os ≡ Some u) ⊎ (x ≡ u)
  unfolding look
  look_last m [] x u e = go (eqb x.number m) e
    where
      go : (b : Bool) → found b x None ≡ Some u → (None ≡ Some u) ⊎ (x ≡ u)
      go true e = inr (let z : x ≡ u = cc in z)
      go false e = inl e
  look_last m (y ∷ os) x u e = go (eqb y.number m) e (look_last m os x u)
    where
      go : (b : Bool) → found b y (look m (os ++ (x ∷ []))) ≡ Some u → (look m (os ++ (x ∷ [])) ≡ Some u → (look m os ≡ Some u) ⊎ (x ≡ u)) → (found b y (look m os) ≡ Some u) ⊎ (x ≡ u)
      go true e ih = inl e
      go false e ih = ih e

  -- an order comes in that is not filed
  admit_course : (o : Order) (w : Place) → is_filed w ≡ false → Course d → Course (admit o w d)
  unfolding admit
  admit_course o w f h = (h.0, (λ n u i t. ⊎_elim (λ x. h.1 n u x t) (λ x. absurd (false≢true (sym f ∙ ap (λ (v : Order). is_filed v.place) x ∙ t))) (look_last n d.roll (put w o) u i)))

  -- a call that files nobody
  abbrev files : Call → Bool
  files (Set k c p) = false
  files (LoadLimit s m p q) = false
  files (LoadStop s m p q) = true
  files Open = false
  files (Enter Limit s m p q f) = false
  files (Enter Market s m p q f) = false
  files (Enter ImmediateOrCancel s m p q f) = false
  files (Enter Stop s m p q f) = true
  files (CancelOrder m n f) = false
  files (FloorTrade p q f) = false
  files (Resume f) = false
  files Close = false

  comes_course : (b : Bool) (k : Kind) (c : Bool) (o : Order) → (k ≡ Stop → ⊥) → Course d → Course (comes_in b k o (start_place k c) d)
  comes_course true ImmediateOrCancel c o ne h = withdraw_course o.number _ (admit_course o Line refl h)
  comes_course true Limit true o ne h = admit_course o Line refl h
  comes_course true Limit false o ne h = admit_course o Book refl h
  comes_course true Market c o ne h = admit_course o Line refl h
  comes_course true Stop c o ne h = absurd (ne refl)
  comes_course false ImmediateOrCancel c o ne h = admit_course o Line refl h
  comes_course false Limit true o ne h = admit_course o Line refl h
  comes_course false Limit false o ne h = admit_course o Book refl h
  comes_course false Market c o ne h = admit_course o Line refl h
  comes_course false Stop c o ne h = absurd (ne refl)

  not_stop : (k : Kind) → (k ≡ Limit) ⊎ (k ≡ Market) ⊎ (k ≡ ImmediateOrCancel) → k ≡ Stop → ⊥
  not_stop k (inl h) e = let z : ◌≡◌ {A = ℕ} 0 1 = cc in omega arith
  not_stop k (inr (inl h)) e = let z : ◌≡◌ {A = ℕ} 0 1 = cc in omega arith
  not_stop k (inr (inr h)) e = let z : ◌≡◌ {A = ℕ} 0 1 = cc in omega arith

  start_course : (c : Call) → files c ≡ false → Counted 1 (numbers d.roll) → Course d → Course (start_of d c)
  unfolding start_of set_up to floored resumed centre
  start_course (Set k c p) f n h = h
  start_course (LoadLimit s m p q) f n h = admit_course (fresh Limit s m p q d.roll) Book refl h
  start_course (LoadStop s m p q) f n h = absurd (false≢true (sym f))
  start_course Open f n h = h
  start_course (Enter Limit s m p q g) f n h = comes_course d.paused Limit (any (is_contra (fresh Limit s m p q d.roll)) d.roll) (fresh Limit s m p q d.roll) (not_stop Limit (inl refl)) h
  start_course (Enter Market s m p q g) f n h = comes_course d.paused Market (any (is_contra (fresh Market s m p q d.roll)) d.roll) (fresh Market s m p q d.roll) (not_stop Market (inr (inl refl))) h
  start_course (Enter ImmediateOrCancel s m p q g) f n h =
      comes_course d.paused ImmediateOrCancel (any (is_contra (fresh ImmediateOrCancel s m p q d.roll)) d.roll) (fresh ImmediateOrCancel s m p q d.roll) (not_stop ImmediateOrCancel (inr (inr refl))) h
  start_course (Enter Stop s m p q g) f n h = absurd (false≢true (sym f))
  start_course (CancelOrder m k g) f n h = withdraw_course k d h
  start_course (FloorTrade p q g) f n h = elect_course p (floored p q d) n (lines_more d.tape (Floor p q ∷ []) (tt, tt) h.0, h.1)
  start_course (Resume g) f n h = h
  start_course Close f n h = h

  -- one that files a stop runs nobody
  module _ (gifts : Rule) (lawful : LawfulRule gifts) (room : ℕ) (s : Sound d) (i : Idle d) (a : Stops d) where
    rests : (e : Day) → e.tape ≡ d.tape → e.paused ≡ d.paused → e.line ≡ d.line → Lines (work gifts e).tape
    rests e t p l = ([], ap (λ (x : Day). x.tape) (work_rests_on gifts e (⊎_elim (λ x. inl (p ∙ x)) (λ x. inr (l ∙ x)) i)) ∙ t ∙ sym (append_none d.tape), tt)

    comes_rests : (o : Order) (b : Bool) → Lines (work gifts (comes_in b Stop o StopFile d)).tape
    unfolding admit
    comes_rests o true = rests (admit o StopFile d) refl refl refl
    comes_rests o false = rests (admit o StopFile d) refl refl refl

    start_rests : (c : Call) → files c ≡ true → Lines (work gifts (start_of d c)).tape
    unfolding start_of admit
    start_rests (Set k c p) f = absurd (false≢true f)
    start_rests (LoadLimit s m p q) f = absurd (false≢true f)
    start_rests (LoadStop s m p q) f = rests _ refl refl refl
    start_rests Open f = absurd (false≢true f)
    start_rests (Enter Limit s m p q g) f = absurd (false≢true f)
    start_rests (Enter Market s m p q g) f = absurd (false≢true f)
    start_rests (Enter ImmediateOrCancel s m p q g) f = absurd (false≢true f)
    start_rests (Enter Stop s m p q g) f = comes_rests (fresh Stop s m p q d.roll) d.paused
    start_rests (CancelOrder m k g) f = absurd (false≢true f)
    start_rests (FloorTrade p q g) f = absurd (false≢true f)
    start_rests (Resume g) f = absurd (false≢true f)
    start_rests Close f = absurd (false≢true f)

    performed_lines : (c : Call) → refusal (checks room d c) ≡ None → Lines (step gifts room d c).day.tape
    performed_lines c e = go (files c) refl
      where
        go : (b : Bool) → files c ≡ b → Lines (step gifts room d c).day.tape
        go true f = subst (λ (x : Day). Lines x.tape) (sym (step_start gifts room d c e i)) (start_rests c f)
        go false f = (follows gifts lawful Course (λ r x _ k h. run_keeps gifts lawful Course (course_moves gifts lawful) r x k.mid k.some h) room d c s i e (start_course c f s.counted (at_first a s))).0

    step_lines : (c : Call) → Lines (step gifts room d c).day.tape
    unfolding step
    step_lines c = go (refusal (checks room d c)) refl
      where
        go : (x : Option ℕ) → refusal (checks room d c) ≡ x → Lines (step gifts room d c).day.tape
        go None e = performed_lines c e
        go (Some k) e = subst (λ y. Lines (decided y d (perform gifts d c)).day.tape) (sym e) ([], sym (append_none d.tape), tt)

    pub step_named : (c : Call) → AllByRecursion Named (handed d (step gifts room d c).day)
    step_named c =
        let h : Lines (step gifts room d c).day.tape = step_lines c in
        subst (λ xs. AllByRecursion Named xs) (sym (ap (beyond d.tape) h.1 ∙ beyond_append d.tape h.0)) h.2
