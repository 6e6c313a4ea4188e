-- Nobody waits unless trading is paused.
use Rattle.std.proofs.Common.{◌≡◌, ℕ, suc, ◌-◌, ◌<◌, Bool, true, false, cond, not, eqb, leb, ◌⊎◌, List, [], ◌∷◌, ◌++◌, map, length, Some, None, Option, sym, refl, ap, ◌∙◌, subst, inl, inr, ⊎_elim, arith}
use Rattle.std.proofs.lemmas.Bool.{false≢true, eq-eqb, ne_eqb, eqb-true, cases_eq}
use Rattle.std.specs.List.{AllByRecursion}
use Rattle.market.specs.declared.words.Side.{Side}
use Rattle.market.specs.declared.words.Kind.{Kind}
use Rattle.market.specs.declared.words.Kind.TheVariants.{Limit, Market, ImmediateOrCancel, Stop}
use Rattle.market.specs.declared.words.Place.{Place}
use Rattle.market.specs.declared.words.Place.TheVariants.{Book, Line, StopFile, Nowhere}
use Rattle.market.specs.declared.words.Order.{Order}
use Rattle.market.specs.declared.words.TapeLine.TheVariants.{Floor}
use Rattle.market.specs.Sides.{opposite}
use Rattle.market.specs.Orders.{where_with, fill, cancel, put}
use Rattle.sharing.specs.Shares.{LawfulRule}
use Rattle.replay.specs.Lists.{those, kept, any}
use Rattle.replay.specs.Days.{Day, Rule, Call, Set, LoadLimit, LoadStop, Open, Enter, CancelOrder, FloorTrade, Resume, Close, new_day}
use Rattle.replay.specs.Rolls.{is_waiting, look, found, alter, here, left, open_of, fresh, place_of}
use Rattle.replay.specs.Book.{is_at, is_better, is_contra}
use Rattle.replay.specs.Moves.{deal, after, size, trade, leave, withdraw, rest, pause, elect, is_elected, called, centre, without, line_with, admit, set_up, to, floored, resumed, dealt}
use Rattle.replay.specs.Runs.{work, start_place, join_of, join}
use Rattle.replay.specs.Calls.{refusal, checks, became, perform, step, after_calls}
use Rattle.replay.specs.SharesAddUp.{print_of, cancel_of}
use Rattle.replay.proofs.Lists.{total_push, all_map}
use Rattle.replay.proofs.Rolls.{Held, dealt_is, dealt_number}
use Rattle.replay.proofs.Moves.{Waits}
use Rattle.replay.proofs.Prices.{Among}
use Rattle.replay.proofs.Runs.{Sound, Mid, Counted, numbers, elect_sound, fill_number, called_number}
use Rattle.replay.proofs.Calls.{decided_keeps, passed_enter, good_shares, start_held, admit_fresh, same_sound, step_sound, put_place}
use Rattle.replay.proofs.Keeps.{Keeps}
use Rattle.replay.proofs.Turns.{Idle, work_idle}
use Rattle.market.specs.Bounds.{is_shares}

-- looking up in a changed roll -----------------------------------------------------------------------------------------------------------
abbrev pub upon : (Order → Order) → Option Order → Option Order
upon f None = None
upon f (Some o) = Some (f o)

pub look_alter : (n : ℕ) (f : Order → Order) (os : List Order) → ((o : Order) → (f o).number ≡ o.number) → look n (alter n f os) ≡ upon f (look n os)
unfolding look alter
look_alter n f [] k = refl
look_alter n f (o ∷ os) k = go (eqb o.number n) refl (look_alter n f os k)
  where
    go : (b : Bool) → eqb o.number n ≡ b → look n (alter n f os) ≡ upon f (look n os) → look n (here b f o os (alter n f os)) ≡ upon f (found b o (look n os))
    go true e ih = ap (λ b. found b (f o) (look n os)) (ap (λ m. eqb m n) (k o) ∙ e)
    go false e ih = ap (λ b. found b o (look n (alter n f os))) e ∙ ih

-- an order of the dealt roll is the order before, as it was or filled by something
unfoldable pub Dealt : Option Order → Option Order → Type 0
Dealt None None = Unit {0}
Dealt None (Some u) = ⊥
Dealt (Some o) None = ⊥
Dealt (Some o) (Some u) = (u ≡ o) ⊎ ((q : ℕ) × (u ≡ fill q o))

pub look_dealt : (n : ℕ) (c : Side) (p : ℕ) (os : List Order) (gs : List ℕ) → Dealt (look n os) (look n (deal c p os gs))
unfolding look deal Dealt
look_dealt n c p [] gs = tt
look_dealt n c p (o ∷ os) gs =
    subst (λ m. Dealt (found (eqb o.number n) o (look n os)) (found (eqb m n) (dealt (is_better c p o) (is_at c p o) gs o) (look n (deal c p os (after (is_at c p o) gs))))) (sym (dealt_number (is_better c p o) (is_at c p o) gs o))
    (go (eqb o.number n) (look_dealt n c p os (after (is_at c p o) gs)))
  where
    go : (b : Bool) → Dealt (look n os) (look n (deal c p os (after (is_at c p o) gs)))
        → Dealt (found b o (look n os)) (found b (dealt (is_better c p o) (is_at c p o) gs o) (look n (deal c p os (after (is_at c p o) gs))))
    go true ih = dealt_is (λ u. (u ≡ o) ⊎ ((q : ℕ) × (u ≡ fill q o))) (is_better c p o) (is_at c p o) gs o (λ q. inr (q, refl)) (inl refl)
    go false ih = ih

not_waiting : (w : Place) → is_waiting w ≡ false → w ≡ Line → ⊥
not_waiting w e x = false≢true (sym e ∙ ap is_waiting x)

fill_waits : (q : ℕ) (o : Order) → (fill q o).place ≡ Line → o.place ≡ Line
fill_waits q o e = go (eqb (o.«open» - q) 0) e
  where
    go : (b : Bool) → cond b Nowhere o.place ≡ Line → o.place ≡ Line
    go true e = absurd (not_waiting Nowhere refl e)
    go false e = e

dealt_waits : (n : ℕ) (c : Side) (p : ℕ) (os : List Order) (gs : List ℕ) → Waits (deal c p os gs) n → Waits os n
unfolding Dealt
dealt_waits n c p os gs w = go (look n os) (look n (deal c p os gs)) (look_dealt n c p os gs) w
  where
    go : (x y : Option Order) → Dealt x y → place_of y ≡ Line → place_of x ≡ Line
    go None None h w = w
    go None (Some u) h w = absurd h
    go (Some o) None h w = absurd h
    go (Some o) (Some u) (inl h) w = ap (λ (x : Order). x.place) (sym h) ∙ w
    go (Some o) (Some u) (inr h) w = fill_waits h.0 o (ap (λ (x : Order). x.place) (sym h.1) ∙ w)

-- of another number
pub look_past : (m n : ℕ) (f : Order → Order) (os : List Order) → ((o : Order) → (f o).number ≡ o.number) → (m ≡ n → ⊥) → look m (alter n f os) ≡ look m os
unfolding alter look
look_past m n f [] k ne = refl
look_past m n f (o ∷ os) k ne = go (eqb o.number n) refl (look_past m n f os k ne)
  where
    go : (b : Bool) → eqb o.number n ≡ b → look m (alter n f os) ≡ look m os → look m (here b f o os (alter n f os)) ≡ found (eqb o.number m) o (look m os)
    go true t ih =
        let e : eqb o.number m ≡ false = ne_eqb o.number m (λ h. ne (sym h ∙ eqb-true o.number n t)) in
        ap (λ b. found b (f o) (look m os)) (ap (λ x. eqb x m) (k o) ∙ e) ∙ sym (ap (λ b. found b o (look m os)) e)
    go false t ih = ap (λ x. found (eqb o.number m) o x) ih

-- if f makes an order wait only if it waited
alter_waits : (m n : ℕ) (f : Order → Order) (os : List Order) → ((o : Order) → (f o).number ≡ o.number) → ((o : Order) → (f o).place ≡ Line → o.place ≡ Line) → Waits (alter n f os) m → Waits os m
alter_waits m n f os k h w = ⊎_elim
    (λ e. subst (Waits os) (sym e) (go (look n os) (ap place_of (sym (look_alter n f os k)) ∙ subst (Waits (alter n f os)) e w)))
    (λ ne. ap place_of (sym (look_past m n f os k ne)) ∙ w) (cases_eq m n)
  where
    go : (x : Option Order) → place_of (upon f x) ≡ Line → place_of x ≡ Line
    go None w = w
    go (Some o) w = h o w

-- if f makes it not wait
alter_stops : (n : ℕ) (f : Order → Order) (os : List Order) → ((o : Order) → (f o).number ≡ o.number) → ((o : Order) → (f o).place ≡ Line → ⊥) → Waits (alter n f os) n → ⊥
alter_stops n f os k h w = go (look n os) (ap place_of (sym (look_alter n f os k)) ∙ w)
  where
    go : (x : Option Order) → place_of (upon f x) ≡ Line → ⊥
    go None w = not_waiting Nowhere refl w
    go (Some o) w = h o w

-- every waiting order is in line ----------------------------------------------------------------------------------------------------------
abbrev pub InLine : Day → Type 0
InLine d = (m : ℕ) → Waits d.roll m → Among (λ k. k ≡ m) d.line

among_without : (n m : ℕ) (ns : List ℕ) → (m ≡ n → ⊥) → Among (λ k. k ≡ m) ns → Among (λ k. k ≡ m) (without n ns)
among_without n m [] ne a = a
among_without n m (x ∷ ns) ne a = go (eqb x n) refl a (among_without n m ns ne)
  where
    go : (b : Bool) → eqb x n ≡ b → (x ≡ m) ⊎ Among (λ k. k ≡ m) ns → (Among (λ k. k ≡ m) ns → Among (λ k. k ≡ m) (without n ns)) → Among (λ k. k ≡ m) (kept (not b) x (without n ns))
    go true e (inl h) ih = absurd (ne (sym h ∙ eqb-true x n e))
    go true e (inr h) ih = ih h
    go false e (inl h) ih = inl h
    go false e (inr h) ih = inr (ih h)

among_front : {A : Type 0} (Q : A → Type 0) (xs ys : List A) → Among Q xs → Among Q (xs ++ ys)
among_front Q [] ys a = absurd a
among_front Q (x ∷ xs) ys (inl q) = inl q
among_front Q (x ∷ xs) ys (inr a) = inr (among_front Q xs ys a)

among_back : {A : Type 0} (Q : A → Type 0) (xs ys : List A) → Among Q ys → Among Q (xs ++ ys)
among_back Q [] ys a = a
among_back Q (x ∷ xs) ys a = inr (among_back Q xs ys a)

-- who waits after an election waited before, or was elected
elected_waits : (p m : ℕ) (os : List Order) → Waits (map (λ o. called (is_elected p o) o) os) m → Waits os m ⊎ Among (λ k. k ≡ m) (map (λ o. o.number) (those (is_elected p) os))
unfolding look
elected_waits p m [] w = inl w
elected_waits p m (o ∷ os) w = go (is_elected p o) (eqb o.number m) refl (ap (λ b. place_of (found b (called (is_elected p o) o) (look m new))) (sym (ap (λ x. eqb x m) (called_number (is_elected p o) o))) ∙ w) (elected_waits p m os)
  where
    new : List Order
    new = map (λ o. called (is_elected p o) o) os

    rest : List ℕ
    rest = map (λ o. o.number) (those (is_elected p) os)

    go : (t b : Bool) → eqb o.number m ≡ b → place_of (found b (called t o) (look m new)) ≡ Line → (Waits new m → Waits os m ⊎ Among (λ k. k ≡ m) rest)
        → (place_of (found b o (look m os)) ≡ Line) ⊎ Among (λ k. k ≡ m) (map (λ o. o.number) (kept t o (those (is_elected p) os)))
    go true true e w ih = inr (inl (eqb-true o.number m e))
    go true false e w ih = ⊎_elim (λ a. inl a) (λ a. inr (inr a)) (ih w)
    go false true e w ih = inl w
    go false false e w ih = ⊎_elim (λ a. inl a) (λ a. inr a) (ih w)

look_push : (m : ℕ) (os : List Order) (o : Order) → (look m (os ++ (o ∷ [])) ≡ look m os) ⊎ ((o.number ≡ m) × (look m (os ++ (o ∷ [])) ≡ Some o))
unfolding look
look_push m [] o = go (eqb o.number m) refl
  where
    go : (b : Bool) → eqb o.number m ≡ b → (found b o None ≡ None) ⊎ ((o.number ≡ m) × (found b o None ≡ Some o))
    go true e = inr (eqb-true o.number m e, refl)
    go false e = inl refl
look_push m (x ∷ os) o = go (eqb x.number m) (look_push m os o)
  where
    go : (b : Bool) → (look m (os ++ (o ∷ [])) ≡ look m os) ⊎ ((o.number ≡ m) × (look m (os ++ (o ∷ [])) ≡ Some o))
        → (found b x (look m (os ++ (o ∷ []))) ≡ found b x (look m os)) ⊎ ((o.number ≡ m) × (found b x (look m (os ++ (o ∷ []))) ≡ Some o))
    go true ih = inl refl
    go false ih = ih

line_in : (w : Place) (n m : ℕ) (ns : List ℕ) → Among (λ k. k ≡ m) ns → Among (λ k. k ≡ m) (line_with w n ns)
line_in Book n m ns a = a
line_in Line n m ns a = among_front (λ k. k ≡ m) ns (n ∷ []) a
line_in StopFile n m ns a = a
line_in Nowhere n m ns a = a

line_new : (w : Place) (n m : ℕ) (ns : List ℕ) → w ≡ Line → n ≡ m → Among (λ k. k ≡ m) (line_with w n ns)
line_new w n m ns e h = subst (λ x. Among (λ k. k ≡ m) (line_with x n ns)) (sym e) (among_back (λ k. k ≡ m) ns (n ∷ []) (inl h))

module _ (gifts : Rule) (lawful : LawfulRule gifts) where
  pub in_line_keeps : Keeps gifts lawful InLine
  unfolding trade leave withdraw rest pause elect centre admit floored resumed set_up to left
  in_line_keeps = record {
    trade = λ r p d m k i j w. i j (dealt_waits j (opposite r.side) p d.roll _ (alter_waits j r.number (fill (size r.number (opposite r.side) p d.roll)) _ (λ o. fill_number (size r.number (opposite r.side) p d.roll) o) (λ o. fill_waits (size r.number (opposite r.side) p d.roll) o) w));
    leave = λ r d m e i j w. among_without r.number j d.line (λ h. gone r d m e (subst (Waits d.roll) h w)) (i j w);
    withdraw = λ n d c i j w. among_without n j d.line (λ h. alter_stops n cancel d.roll (λ o. refl) (λ o x. not_waiting Nowhere refl x) (subst (Waits (alter n cancel d.roll)) h w))
        (i j (alter_waits j n cancel d.roll (λ o. refl) (λ o x. absurd (not_waiting Nowhere refl x)) w));
    rest = λ r d m w e c i j x. among_without r.number j d.line (λ h. alter_stops r.number (put Book) d.roll (λ o. refl) (λ o x. not_waiting Book refl x) (subst (Waits (alter r.number (put Book) d.roll)) h x))
        (i j (alter_waits j r.number (put Book) d.roll (λ o. refl) (λ o x. absurd (not_waiting Book refl x)) x));
    pause = λ d i. i;
    elect = λ p d s i j w. ⊎_elim (λ x. among_front (λ k. k ≡ j) d.line _ (i j x)) (λ x. among_back (λ k. k ≡ j) d.line _ x) (elected_waits p j d.roll w);
    centre = λ d i. i;
    admit = λ k s m p q w d sd ch pl i j x. ⊎_elim
        (λ e. line_in w (fresh k s m p q d.roll).number j d.line (i j (ap place_of (sym e) ∙ x)))
        (λ e. line_new w (fresh k s m p q d.roll).number j d.line (sym (put_place w (fresh k s m p q d.roll)) ∙ ap place_of (sym e.1) ∙ x) e.0)
        (look_push j d.roll (put w (fresh k s m p q d.roll)));
    floored = λ p q d _ i. i;
    resumed = λ d i. i;
    set_up = λ k c p d _ _ i. i;
    to = λ f d i. i;
  }
    where
      gone : (r : Order) (d : Day) (m : Mid r d) → open_of (look r.number d.roll) ≡ 0 → Waits d.roll r.number → ⊥
      gone r d m e w = not_waiting Nowhere refl (sym (ap (λ n. where_with n Line) (sym (ap open_of m.is) ∙ e)) ∙ sym m.spotted ∙ ap place_of (sym m.is) ∙ w)

  -- the line is empty unless trading is paused -----------------------------------------------------------------------------------------------
  without_none : (n : ℕ) (ns : List ℕ) → ns ≡ [] → without n ns ≡ []
  without_none n ns e = ap (without n) e

  join_idle : (k : Kind) (s : Side) (m p q : ℕ) (d : Day) → not (is_shares q) ≡ false → leb 512 (length d.roll) ≡ false → Sound d → Idle (join gifts (fresh k s m p q d.roll) d)
  unfolding join fresh withdraw admit
  join_idle k s m p q d e l sd = go d.paused refl k (any (is_contra (fresh k s m p q d.roll)) d.roll)
    where
      off : (k : Kind) (w : Place) → Held w q → Idle (work gifts (admit (fresh k s m p q d.roll) w d))
      off k w h = work_idle gifts lawful _ (admit_fresh k s m p q w d h e l sd)

      go : (b : Bool) → d.paused ≡ b → (k : Kind) (c : Bool) → Idle (join_of gifts b k (fresh k s m p q d.roll) (start_place k c) d)
      go true x ImmediateOrCancel c = inl x
      go true x Limit c = off Limit (start_place Limit c) (start_held Limit c q (good_shares q e).1)
      go true x Market c = off Market Line (good_shares q e).1
      go true x Stop c = off Stop StopFile (good_shares q e).1
      go false x k c = off k (start_place k c) (start_held k c q (good_shares q e).1)

  became_idle : (room : ℕ) (d : Day) (c : Call) → refusal (checks room d c) ≡ None → Sound d → Idle d → Idle (became gifts d c)
  unfolding became set_up to floored resumed admit withdraw centre
  became_idle room d (Set k c p) e s i = i
  became_idle room d (LoadLimit sd m p q) e s i = i
  became_idle room d (LoadStop sd m p q) e s i = i
  became_idle room d Open e s i = i
  became_idle room d (Enter k sd m p q f) e s i =
      let h : (not (is_shares q) ≡ false) × (leb 512 (length d.roll) ≡ false) = passed_enter room d k sd m p q f e in
      join_idle k sd m p q d h.0 h.1 s
  became_idle room d (CancelOrder m n f) e s i = ⊎_elim (λ x. inl x) (λ x. inr (without_none n d.line x)) i
  became_idle room d (FloorTrade p q f) e s i = work_idle gifts lawful _ (elect_sound p (floored p q d)
      (same_sound d _ refl refl (sym (total_push print_of d.tape (Floor p q) ∙ omega arith)) (sym (total_push cancel_of d.tape (Floor p q) ∙ omega arith)) s))
  became_idle room d (Resume f) e s i = work_idle gifts lawful _ (same_sound d (resumed d) refl refl refl refl s)
  became_idle room d Close e s i = i

  pub step_idle : (room : ℕ) (d : Day) (c : Call) → Sound d → Idle d → Idle (step gifts room d c).day
  unfolding step perform
  step_idle room d c s i = decided_keeps Idle (refusal (checks room d c)) d (perform gifts d c) i (λ e. became_idle room d c e s i)

  pub calls_idle : (room : ℕ) (cs : List Call) (d : Day) → Sound d → Idle d → Idle (after_calls gifts room d cs)
  unfolding after_calls
  calls_idle room [] d s i = i
  calls_idle room (c ∷ cs) d s i = calls_idle room cs (step gifts room d c).day (step_sound gifts lawful room d c s) (step_idle room d c s i)

  pub new_idle : Idle new_day
  unfolding new_day
  new_idle = inr refl

  pub new_in_line : InLine new_day
  unfolding new_day look
  new_in_line m w = absurd (not_waiting Nowhere refl w)

-- every order is found by its number --------------------------------------------------------------------------------------------------------
pub counted_look : (k : ℕ) (os : List Order) → Counted k (numbers os) → AllByRecursion (λ o. look o.number os ≡ Some o) os
unfolding look
counted_look k [] c = tt
counted_look k (o ∷ os) c = (
  ap (λ b. found b o (look o.number os)) (eq-eqb o.number o.number refl),
  later os (above k os c.1) (counted_look (suc k) os c.1),
)
  where
    above : (k : ℕ) (xs : List Order) → Counted (suc k) (numbers xs) → AllByRecursion (λ x. k < x.number) xs
    above k xs c = go (suc k) xs c (omega arith)
      where
        go : (j : ℕ) (xs : List Order) → Counted j (numbers xs) → k < j → AllByRecursion (λ x. k < x.number) xs
        go j [] c h = tt
        go j (x ∷ xs) c h = (omega (arith, c.0), go (suc j) xs c.1 (omega arith))

    later : (xs : List Order) → AllByRecursion (λ x. k < x.number) xs → AllByRecursion (λ x. look x.number os ≡ Some x) xs → AllByRecursion (λ x. found (eqb o.number x.number) o (look x.number os) ≡ Some x) xs
    later [] a b = tt
    later (x ∷ xs) a b = (ap (λ t. found t o (look x.number os)) (ne_eqb o.number x.number (λ h. omega (arith, c.0, a.0))) ∙ b.0, later xs a.1 b.1)

pub nobody_waits : (d : Day) → Sound d → InLine d → Idle d → (d.paused ≡ true) ⊎ AllByRecursion (λ o. is_waiting o.place ≡ false) d.roll
nobody_waits d s i (inl p) = inl p
nobody_waits d s i (inr e) = inr (all_map _ _ d.roll (λ o h. at o h o.place refl) (counted_look 1 d.roll s.counted))
  where
    at : (o : Order) → look o.number d.roll ≡ Some o → (x : Place) → o.place ≡ x → is_waiting x ≡ false
    at o h Book x = refl
    at o h Line x = absurd (subst (λ ns. Among (λ k. k ≡ o.number) ns) e (i o.number (ap place_of h ∙ x)))
    at o h StopFile x = refl
    at o h Nowhere x = refl
