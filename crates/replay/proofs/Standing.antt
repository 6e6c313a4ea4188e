-- Who stands in line, and how often.
use Rattle.std.proofs.Common.{◌≡◌, ℕ, zero, suc, ◌+◌, ◌<◌, ◌≤◌, Bool, true, false, not, ◌&&◌, eqb, ◌⊎◌, List, [], ◌∷◌, ◌++◌, map, length, Some, None, Option, sym, refl, ap, ◌∙◌, subst, inl, inr, arith}
use Rattle.std.proofs.lemmas.Bool.{false≢true, eq-eqb, ne_eqb, eqb-true}
use Rattle.std.specs.List.{AllByRecursion}
use Rattle.market.specs.declared.words.Place.{Place}
use Rattle.market.specs.declared.words.Place.TheVariants.{Book, Line, StopFile, Nowhere}
use Rattle.market.specs.declared.words.Order.{Order}
use Rattle.market.specs.declared.words.Stop.{Stop}
use Rattle.market.specs.Sides.{as_good}
use Rattle.sharing.specs.Shares.{LawfulRule}
use Rattle.replay.specs.Lists.{only, those, kept}
use Rattle.replay.specs.Days.{Day, Rule, new_day}
use Rattle.replay.specs.Rolls.{is_filed, is_waiting, look, found, place_of, fresh}
use Rattle.replay.specs.Moves.{trade, leave, withdraw, rest, pause, elect, is_elected, centre, without, line_with, admit, floored, resumed, set_up, to}
use Rattle.replay.specs.StopFile.{stop_of, file_of}
use Rattle.replay.specs.Placed.{times}
use Rattle.replay.proofs.Lists.{total_append, total_push}
use Rattle.replay.proofs.Rolls.{val}
use Rattle.replay.proofs.Moves.{Waits}
use Rattle.replay.proofs.Prices.{Among}
use Rattle.replay.proofs.Runs.{Sound, Counted, numbers, waiter}
use Rattle.replay.proofs.Keeps.{Keeps}
use Rattle.replay.proofs.Idle.{InLine}

-- numbers of a roll ------------------------------------------------------------------------------------------------------
-- no order has a number below the first or above the last
outside : (k m : ℕ) (os : List Order) → Counted k (numbers os) → (m < k) ⊎ (k + length os ≤ m) → look m os ≡ None
unfolding look
outside k m [] c h = refl
outside k m (o ∷ os) c h = ap (λ b. found b o (look m os)) (ne_eqb o.number m (differs h)) ∙ outside (suc k) m os c.1 (farther h)
  where
    differs : (m < k) ⊎ (k + suc (length os) ≤ m) → o.number ≡ m → ⊥
    differs (inl h) e = omega (arith, c.0)
    differs (inr h) e = omega (arith, c.0)

    farther : (m < k) ⊎ (k + suc (length os) ≤ m) → (m < suc k) ⊎ (suc k + length os ≤ m)
    farther (inl h) = inl (omega arith)
    farther (inr h) = inr (omega arith)

-- among the numbers of the orders that pass a test, a number stands once if its order passes, and else not at all
named : (t : Order → Bool) (m k : ℕ) (os : List Order) → Counted k (numbers os) → times m (numbers (those t os)) ≡ val (λ o. only (t o) 1) (look m os)
unfolding look
named t m k [] c = refl
named t m k (o ∷ os) c = go (t o) (eqb o.number m) refl refl (named t m (suc k) os c.1)
  where
    -- nobody behind it has its number
    last : eqb o.number m ≡ true → val (λ o. only (t o) 1) (look m os) ≡ 0
    last e = ap (val (λ o. only (t o) 1)) (outside (suc k) m os c.1 (inl (let z : o.number ≡ m = eqb-true o.number m e in omega (arith, c.0))))

    go : (b e : Bool) → t o ≡ b → eqb o.number m ≡ e → times m (numbers (those t os)) ≡ val (λ o. only (t o) 1) (look m os)
        → times m (numbers (kept b o (those t os))) ≡ val (λ o. only (t o) 1) (found e o (look m os))
    go true true f e ih = omega (arith, last e, ap (λ x. only x 1) e, ap (λ x. only x 1) f)
    go true false f e ih = omega (arith, ap (λ x. only x 1) e)
    go false true f e ih = omega (arith, last e, ap (λ x. only x 1) f)
    go false false f e ih = ih

-- standing ---------------------------------------------------------------------------------------------------------------
stands : (Q : ℕ → Type 0) (m : ℕ) (ns : List ℕ) → AllByRecursion Q ns → 1 ≤ times m ns → Q m
stands Q m [] a h = absurd (omega arith)
stands Q m (n ∷ ns) a h = go (eqb n m) refl h (stands Q m ns a.1)
  where
    go : (b : Bool) → eqb n m ≡ b → 1 ≤ only b 1 + times m ns → (1 ≤ times m ns → Q m) → Q m
    go true e h ih = subst Q (eqb-true n m e) a.0
    go false e h ih = ih (omega arith)

among_times : (m : ℕ) (ns : List ℕ) → Among (λ k. k ≡ m) ns → 1 ≤ times m ns
among_times m [] a = absurd a
among_times m (n ∷ ns) (inl e) = omega (arith, ap (λ b. only b 1) (eq-eqb n m e))
among_times m (n ∷ ns) (inr a) = omega (arith, among_times m ns a)

times_without : (m n : ℕ) (ns : List ℕ) → times m (without n ns) ≤ times m ns
times_without m n [] = omega arith
times_without m n (x ∷ ns) = go (not (eqb x n)) (times_without m n ns)
  where
    go : (b : Bool) → times m (without n ns) ≤ times m ns → times m (kept b x (without n ns)) ≤ only (eqb x m) 1 + times m ns
    go true h = omega arith
    go false h = omega arith

-- nobody stands in line twice --------------------------------------------------------------------------------------------
abbrev pub Single : Day → Type 0
Single d = (m : ℕ) → times m d.line ≤ 1

-- who waits is not filed, so nobody elected stood in line
elected_single : (p m : ℕ) (d : Day) → Sound d → Single d → times m (d.line ++ numbers (those (is_elected p) d.roll)) ≤ 1
elected_single p m d s i = go (times m d.line) refl (total_append (λ k. only (eqb k m) 1) d.line (numbers (those (is_elected p) d.roll))) (named (is_elected p) m 1 d.roll s.counted)
  where
    most : (x : Option Order) → val (λ o. only (is_elected p o) 1) x ≤ 1
    most None = omega arith
    most (Some o) = go (is_elected p o)
      where
        go : (b : Bool) → only b 1 ≤ 1
        go true = omega arith
        go false = omega arith

    none : Waits d.roll m → val (λ o. only (is_elected p o) 1) (look m d.roll) ≡ 0
    none w =
        let x : (r : Order) × (look m d.roll ≡ Some r) × (r.place ≡ Line) = waiter d.roll m w in
        ap (val (λ o. only (is_elected p o) 1)) x.1 ∙ ap (λ v. only (is_filed v && as_good x.0.side p x.0.price) 1) x.2

    go : (t : ℕ) → times m d.line ≡ t → times m (d.line ++ numbers (those (is_elected p) d.roll)) ≡ times m d.line + times m (numbers (those (is_elected p) d.roll))
        → times m (numbers (those (is_elected p) d.roll)) ≡ val (λ o. only (is_elected p o) 1) (look m d.roll) → times m (d.line ++ numbers (those (is_elected p) d.roll)) ≤ 1
    go zero e a b = omega (arith, most (look m d.roll))
    go (suc t) e a b = omega (arith, i m, none (stands (Waits d.roll) m d.line s.line (omega arith)))

admitted_single : (w : Place) (m : ℕ) (d : Day) → Sound d → Single d → times m (line_with w (suc (length d.roll)) d.line) ≤ 1
admitted_single Nowhere m d s i = i m
admitted_single Book m d s i = i m
admitted_single StopFile m d s i = i m
admitted_single Line m d s i = go (eqb (suc (length d.roll)) m) refl (total_push (λ k. only (eqb k m) 1) d.line (suc (length d.roll)))
  where
    new : suc (length d.roll) ≡ m → 1 ≤ times m d.line → ⊥
    new e h = let z : place_of None ≡ Line = ap place_of (sym (outside 1 m d.roll s.counted (inr (omega arith)))) ∙ stands (Waits d.roll) m d.line s.line h in
        let y : ◌≡◌ {A = ℕ} 0 1 = cc in omega arith

    go : (b : Bool) → eqb (suc (length d.roll)) m ≡ b → times m (d.line ++ (suc (length d.roll) ∷ [])) ≡ times m d.line + only b 1 → times m (d.line ++ (suc (length d.roll) ∷ [])) ≤ 1
    go true e h = omega (arith, i m, new (eqb-true (suc (length d.roll)) m e))
    go false e h = omega (arith, i m)

module _ (gifts : Rule) (lawful : LawfulRule gifts) where
  pub single_keeps : Keeps gifts lawful Single
  unfolding trade leave withdraw rest pause elect centre admit floored resumed set_up to fresh
  single_keeps = record {
    trade = λ r p d m k i. i;
    leave = λ r d m e i j. omega (arith, times_without j r.number d.line, i j);
    withdraw = λ n d c i j. omega (arith, times_without j n d.line, i j);
    rest = λ r d m w e c i j. omega (arith, times_without j r.number d.line, i j);
    pause = λ d i. i;
    elect = λ p d s i j. elected_single p j d s i;
    centre = λ d i. i;
    admit = λ k s m p q w d sd ch pl i j. admitted_single w j d sd i;
    floored = λ p q d _ i. i;
    resumed = λ d i. i;
    set_up = λ k c p d _ _ i. i;
    to = λ f d i. i;
  }

pub new_single : Single new_day
unfolding new_day
new_single m = omega arith

-- an order stands in line once if its place is there, and else not at all --------------------------------------------------
pub in_line : (d : Day) → Sound d → InLine d → Single d → (o : Order) → look o.number d.roll ≡ Some o → times o.number d.line ≡ only (is_waiting o.place) 1
in_line d s l i o e = go o.place refl
  where
    no : {w : Place} → o.place ≡ w → (w ≡ Line → ⊥) → 1 ≤ times o.number d.line → ⊥
    no f n h = n (sym f ∙ sym (ap place_of e) ∙ stands (Waits d.roll) o.number d.line s.line h)

    other : {w : Place} → o.place ≡ w → (w ≡ Line → ⊥) → times o.number d.line ≡ 0
    other f n = omega (arith, no f n)

    go : (w : Place) → o.place ≡ w → times o.number d.line ≡ only (is_waiting w) 1
    go Nowhere f = other f (λ x. false≢true (ap is_waiting x))
    go Book f = other f (λ x. false≢true (ap is_waiting x))
    go StopFile f = other f (λ x. false≢true (ap is_waiting x))
    go Line f = omega (arith, i o.number, among_times o.number d.line (l o.number (ap place_of e ∙ f)))

-- and so in the stop file
in_stops : (os : List Order) → map (λ (t : Stop). t.number) (map stop_of os) ≡ numbers os
in_stops [] = refl
in_stops (o ∷ os) = ap (λ ns. o.number ∷ ns) (in_stops os)

pub in_file : (os : List Order) → Counted 1 (numbers os) → (o : Order) → look o.number os ≡ Some o → times o.number (map (λ t. t.number) (file_of os)) ≡ only (is_filed o.place) 1
in_file os c o e =
    ap (times o.number) (in_stops (those (λ x. is_filed x.place) os)) ∙ named (λ x. is_filed x.place) o.number 1 os c ∙ ap (val (λ x. only (is_filed x.place) 1)) e
