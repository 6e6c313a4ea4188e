-- The course of a stop, line by line, and what it tells of the lines.
use Rattle.std.proofs.Common.{◌≡◌, ℕ, ◌<◌, Bool, true, false, eqb, ◌⊎◌, List, [], ◌∷◌, ◌++◌, Some, None, Option, sym, refl, ap, ◌∙◌, inl, inr, ⊎_elim, arith}
use Rattle.std.proofs.lemmas.Bool.{eqb-true}
use Rattle.std.specs.List.{AllByRecursion}
use Rattle.market.specs.declared.words.Side.{Side}
use Rattle.market.specs.declared.words.Place.{Place}
use Rattle.market.specs.declared.words.Place.TheVariants.{Book, Line, StopFile, Nowhere}
use Rattle.market.specs.declared.words.TapeLine.{TapeLine}
use Rattle.market.specs.declared.words.TapeLine.TheVariants.{Print, Cancel, Elect, Floor}
use Rattle.market.specs.Sides.{as_good}
use Rattle.replay.specs.Elections.{reaches, elects, run_by, is_runner, of_run, Untouched, Withdrawn, Elected, Fate}

-- A stop sleeps in the file. The first P or F line that reaches its price makes it due by that run, or by no run.
-- While it is due there come only lines of that run, and elections, and its own E line. Its X line takes it from the file unelected.
-- Anything else is amiss: an E line of a stop that is not due, a run or a floor trade between, or a second E line.
pub data Course : Type 0 where
  Asleep : Course
  Due : Option ℕ → Course
  Over : Course
  Amiss : Course

abbrev pub whether : Bool → Course → Course → Course
whether true a b = a
whether false a b = b

-- one line more, for the stop of number n, side s and price l
abbrev pub next : ℕ → Side → ℕ → Course → TapeLine → Course
next n s l Asleep (Print m p q lo hi) = whether (as_good s p l) (Due (Some m)) Asleep
next n s l Asleep (Floor p q) = whether (as_good s p l) (Due None) Asleep
next n s l Asleep (Cancel m q) = whether (eqb m n) Over Asleep
next n s l Asleep (Elect m) = whether (eqb m n) Amiss Asleep
next n s l (Due k) (Print m p q lo hi) = whether (is_runner k m) (Due k) Amiss
next n s l (Due k) (Floor p q) = Amiss
next n s l (Due k) (Cancel m q) = whether (is_runner k m) (Due k) Amiss
next n s l (Due k) (Elect m) = whether (eqb m n) Over (Due k)
next n s l Over (Print m p q lo hi) = Over
next n s l Over (Floor p q) = Over
next n s l Over (Cancel m q) = Over
next n s l Over (Elect m) = whether (eqb m n) Amiss Over
next n s l Amiss x = Amiss

unfoldable pub course : ℕ → Side → ℕ → Course → List TapeLine → Course
course n s l w [] = w
course n s l w (x ∷ xs) = course n s l (next n s l w x) xs

abbrev pub course_at : Place → Course
course_at Book = Over
course_at Line = Over
course_at StopFile = Asleep
course_at Nowhere = Over

-- numbers to tell courses apart
code : Course → ℕ
code Asleep = 0
code (Due k) = 1
code Over = 2
code Amiss = 3

module _ (n : ℕ) (s : Side) (l : ℕ) where
  amiss : (ls : List TapeLine) → course n s l Amiss ls ≡ Amiss
  unfolding course
  amiss [] = refl
  amiss (x ∷ ls) = amiss ls

  -- from amiss nothing else comes
  not_amiss : {A : Type 0} (ls : List TapeLine) (w : Course) → code w < 3 → course n s l Amiss ls ≡ w → A
  unfolding code
  not_amiss ls w h e = absurd (let z : 3 ≡ code w = ap code (sym (amiss ls) ∙ e) in omega arith)

  over_next : (x : TapeLine) → ((next n s l Over x ≡ Over) × (elects n x ≡ false)) ⊎ (next n s l Over x ≡ Amiss)
  over_next (Print m p q lo hi) = inl (refl, refl)
  over_next (Cancel m q) = inl (refl, refl)
  over_next (Floor p q) = inl (refl, refl)
  over_next (Elect m) = go (eqb m n)
    where
      go : (b : Bool) → ((whether b Amiss Over ≡ Over) × (b ≡ false)) ⊎ (whether b Amiss Over ≡ Amiss)
      go true = inr refl
      go false = inl (refl, refl)

  over_all : (ls : List TapeLine) (w : Course) → code w < 3 → course n s l Over ls ≡ w → (w ≡ Over) × AllByRecursion (λ x. elects n x ≡ false) ls
  unfolding course
  over_all [] w h e = (sym e, tt)
  over_all (x ∷ ls) w h e = ⊎_elim
      (λ k. let r : (w ≡ Over) × AllByRecursion (λ x. elects n x ≡ false) ls = over_all ls w h (ap (λ y. course n s l y ls) (sym k.0) ∙ e) in (r.0, (k.1, r.1)))
      (λ k. not_amiss ls w h (ap (λ y. course n s l y ls) (sym k) ∙ e)) (over_next x)

  abbrev Between : Option ℕ → TapeLine → Type 0
  Between k x = (of_run k x ≡ true) × (elects n x ≡ false)

  -- while due: a line of the run, or the stop's own E line, or amiss
  due_next : (k : Option ℕ) (x : TapeLine) → ((next n s l (Due k) x ≡ Due k) × Between k x) ⊎ ((x ≡ Elect n) × (next n s l (Due k) x ≡ Over)) ⊎ (next n s l (Due k) x ≡ Amiss)
  due_next k (Print m p q lo hi) = go (is_runner k m)
    where
      go : (b : Bool) → ((whether b (Due k) Amiss ≡ Due k) × ((b ≡ true) × (false ≡ false))) ⊎ ((Print m p q lo hi ≡ Elect n) × (whether b (Due k) Amiss ≡ Over)) ⊎ (whether b (Due k) Amiss ≡ Amiss)
      go true = inl (refl, (refl, refl))
      go false = inr (inr refl)
  due_next k (Cancel m q) = go (is_runner k m)
    where
      go : (b : Bool) → ((whether b (Due k) Amiss ≡ Due k) × ((b ≡ true) × (false ≡ false))) ⊎ ((Cancel m q ≡ Elect n) × (whether b (Due k) Amiss ≡ Over)) ⊎ (whether b (Due k) Amiss ≡ Amiss)
      go true = inl (refl, (refl, refl))
      go false = inr (inr refl)
  due_next k (Floor p q) = inr (inr refl)
  due_next k (Elect m) = go (eqb m n) refl
    where
      go : (b : Bool) → eqb m n ≡ b → ((whether b Over (Due k) ≡ Due k) × ((true ≡ true) × (b ≡ false))) ⊎ ((Elect m ≡ Elect n) × (whether b Over (Due k) ≡ Over)) ⊎ (whether b Over (Due k) ≡ Amiss)
      go true e = inr (inl (ap Elect (eqb-true m n e), refl))
      go false e = inl (refl, (refl, refl))

  abbrev Brought : Option ℕ → List TapeLine → Type 0
  Brought k ls = (between : List TapeLine) × (after : List TapeLine) × (ls ≡ between ++ (Elect n ∷ after)) × AllByRecursion (Between k) between × AllByRecursion (λ x. elects n x ≡ false) after

  due_split : (k : Option ℕ) (ls : List TapeLine) (w : Course) → (w ≡ Asleep) ⊎ (w ≡ Over) → course n s l (Due k) ls ≡ w → (w ≡ Over) × Brought k ls
  unfolding course code
  due_split k [] w h e = absurd (⊎_elim (λ a. let z : 1 ≡ 0 = ap code (e ∙ a) in omega arith) (λ a. let z : 1 ≡ 2 = ap code (e ∙ a) in omega arith) h)
  due_split k (x ∷ ls) w h e = ⊎_elim
      (λ a. let r : (w ≡ Over) × Brought k ls = due_split k ls w h (ap (λ y. course n s l y ls) (sym a.0) ∙ e) in
      (r.0, (x ∷ r.1.0, r.1.1, ap (λ y. x ∷ y) r.1.2, (a.1, r.1.3), r.1.4)))
      (λ a. ⊎_elim
      (λ b. let r : (w ≡ Over) × AllByRecursion (λ x. elects n x ≡ false) ls = over_all ls w (small w h) (ap (λ y. course n s l y ls) (sym b.1) ∙ e) in
      (r.0, ([], ls, ap (λ y. y ∷ ls) b.0, tt, r.1)))
      (λ b. not_amiss ls w (small w h) (ap (λ y. course n s l y ls) (sym b) ∙ e)) a)
      (due_next k x)
    where
      small : (w : Course) → (w ≡ Asleep) ⊎ (w ≡ Over) → code w < 3
      small w (inl a) = let z : code w ≡ 0 = ap code a in omega arith
      small w (inr a) = let z : code w ≡ 2 = ap code a in omega arith

  -- asleep: the line leaves it alone, or reaches it, or strikes it, or is amiss
  asleep_next : (x : TapeLine) → ((next n s l Asleep x ≡ Asleep) × Untouched n s l x) ⊎ ((reaches s l x ≡ true) × (next n s l Asleep x ≡ Due (run_by x)))
      ⊎ ((q : ℕ) × (x ≡ Cancel n q) × (next n s l Asleep x ≡ Over)) ⊎ (next n s l Asleep x ≡ Amiss)
  asleep_next (Print m p q lo hi) = go (as_good s p l)
    where
      go : (b : Bool) → ((whether b (Due (Some m)) Asleep ≡ Asleep) × ((b ≡ false) × (false ≡ false) × (false ≡ false))) ⊎ ((b ≡ true) × (whether b (Due (Some m)) Asleep ≡ Due (Some m)))
          ⊎ ((q' : ℕ) × (Print m p q lo hi ≡ Cancel n q') × (whether b (Due (Some m)) Asleep ≡ Over)) ⊎ (whether b (Due (Some m)) Asleep ≡ Amiss)
      go true = inr (inl (refl, refl))
      go false = inl (refl, (refl, refl, refl))
  asleep_next (Floor p q) = go (as_good s p l)
    where
      go : (b : Bool) → ((whether b (Due None) Asleep ≡ Asleep) × ((b ≡ false) × (false ≡ false) × (false ≡ false))) ⊎ ((b ≡ true) × (whether b (Due None) Asleep ≡ Due None))
          ⊎ ((q' : ℕ) × (Floor p q ≡ Cancel n q') × (whether b (Due None) Asleep ≡ Over)) ⊎ (whether b (Due None) Asleep ≡ Amiss)
      go true = inr (inl (refl, refl))
      go false = inl (refl, (refl, refl, refl))
  asleep_next (Cancel m q) = go (eqb m n) refl
    where
      go : (b : Bool) → eqb m n ≡ b → ((whether b Over Asleep ≡ Asleep) × ((false ≡ false) × (false ≡ false) × (b ≡ false))) ⊎ ((false ≡ true) × (whether b Over Asleep ≡ Due None))
          ⊎ ((q' : ℕ) × (Cancel m q ≡ Cancel n q') × (whether b Over Asleep ≡ Over)) ⊎ (whether b Over Asleep ≡ Amiss)
      go true e = inr (inr (inl (q, ap (λ k. Cancel k q) (eqb-true m n e), refl)))
      go false e = inl (refl, (refl, refl, refl))
  asleep_next (Elect m) = go (eqb m n)
    where
      go : (b : Bool) → ((whether b Amiss Asleep ≡ Asleep) × ((false ≡ false) × (b ≡ false) × (false ≡ false))) ⊎ ((false ≡ true) × (whether b Amiss Asleep ≡ Due None))
          ⊎ ((q' : ℕ) × (Elect m ≡ Cancel n q') × (whether b Amiss Asleep ≡ Over)) ⊎ (whether b Amiss Asleep ≡ Amiss)
      go true = inr (inr (inr refl))
      go false = inl (refl, (refl, refl, refl))

  abbrev Told : Course → List TapeLine → Type 0
  Told w ls = ((w ≡ Asleep) × AllByRecursion (Untouched n s l) ls) ⊎ ((w ≡ Over) × (Withdrawn n s l ls ⊎ Elected n s l ls))

  longer : (w : Course) (x : TapeLine) (ls : List TapeLine) → Untouched n s l x → Told w ls → Told w (x ∷ ls)
  longer w x ls u (inl h) = inl (h.0, (u, h.1))
  longer w x ls u (inr (e, inl h)) = inr (e, inl (record { before = x ∷ h.before; shares = h.shares; after = h.after; lines = ap (λ y. x ∷ y) h.lines; asleep = (u, h.asleep); never = h.never }))
  longer w x ls u (inr (e, inr h)) = inr (
    e,
    inr (record {
      before = x ∷ h.before;
      first = h.first;
      between = h.between;
      after = h.after;
      lines = ap (λ y. x ∷ y) h.lines;
      asleep = (u, h.asleep);
      reached = h.reached;
      run = h.run;
      once = h.once;
    }),
  )

  tells : (ls : List TapeLine) (w : Course) → (w ≡ Asleep) ⊎ (w ≡ Over) → course n s l Asleep ls ≡ w → Told w ls
  unfolding course code
  tells [] w h e = inl (sym e, tt)
  tells (x ∷ ls) w h e = ⊎_elim
      (λ a. longer w x ls a.1 (tells ls w h (ap (λ y. course n s l y ls) (sym a.0) ∙ e)))
      (λ a. ⊎_elim
      (λ b. let r : (w ≡ Over) × Brought (run_by x) ls = due_split (run_by x) ls w h (ap (λ y. course n s l y ls) (sym b.1) ∙ e) in
      inr (r.0, inr (record { before = []; first = x; between = r.1.0; after = r.1.1; lines = ap (λ y. x ∷ y) r.1.2; asleep = tt; reached = b.0; run = r.1.3; once = r.1.4 })))
      (λ b. ⊎_elim
      (λ c. let r : (w ≡ Over) × AllByRecursion (λ x. elects n x ≡ false) ls = over_all ls w (small w h) (ap (λ y. course n s l y ls) (sym c.2) ∙ e) in
      inr (r.0, inl (record { before = []; shares = c.0; after = ls; lines = ap (λ y. y ∷ ls) c.1; asleep = tt; never = r.1 })))
      (λ c. not_amiss ls w (small w h) (ap (λ y. course n s l y ls) (sym c) ∙ e)) b) a)
      (asleep_next x)
    where
      small : (w : Course) → (w ≡ Asleep) ⊎ (w ≡ Over) → code w < 3
      small w (inl a) = let z : code w ≡ 0 = ap code a in omega arith
      small w (inr a) = let z : code w ≡ 2 = ap code a in omega arith

  pub fate : (w : Place) (ls : List TapeLine) → course n s l Asleep ls ≡ course_at w → Fate n s l w ls
  unfolding code
  fate StopFile ls e = ⊎_elim (λ h. h.1) (λ h. absurd (let z : 0 ≡ 2 = ap code h.0 in omega arith)) (tells ls Asleep (inl refl) e)
  fate Book ls e = over ls e
    where
      over : (ls : List TapeLine) → course n s l Asleep ls ≡ Over → Withdrawn n s l ls ⊎ Elected n s l ls
      over ls e = ⊎_elim (λ h. absurd (let z : 2 ≡ 0 = ap code h.0 in omega arith)) (λ h. h.1) (tells ls Over (inr refl) e)
  fate Line ls e = ⊎_elim (λ h. absurd (let z : 2 ≡ 0 = ap code h.0 in omega arith)) (λ h. h.1) (tells ls Over (inr refl) e)
  fate Nowhere ls e = ⊎_elim (λ h. absurd (let z : 2 ≡ 0 = ap code h.0 in omega arith)) (λ h. h.1) (tells ls Over (inr refl) e)
