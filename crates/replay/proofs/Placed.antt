-- Open shares have a place, and only stops are filed.
use Rattle.std.proofs.Common.{◌≡◌, ℕ, ◌+◌, ◌-◌, ◌≤◌, Bool, true, false, cond, not, eqb, leb, List, [], ◌∷◌, map, length, Some, None, sym, refl, ap, ◌∙◌, subst, arith}
use Rattle.std.proofs.lemmas.Bool.{false≢true}
use Rattle.std.specs.List.{AllByRecursion}
use Rattle.market.specs.declared.words.Side.{Side}
use Rattle.market.specs.declared.words.Kind.{Kind}
use Rattle.market.specs.declared.words.Kind.TheVariants.{Limit, Market, ImmediateOrCancel, Stop}
use Rattle.market.specs.declared.words.Place.{Place}
use Rattle.market.specs.declared.words.Place.TheVariants.{Book, Line, StopFile, Nowhere}
use Rattle.market.specs.declared.words.Order.{Order}
use Rattle.market.specs.declared.words.TapeLine.TheVariants.{Floor}
use Rattle.market.specs.Bounds.{is_shares}
use Rattle.market.specs.Sides.{opposite}
use Rattle.market.specs.Orders.{is_book, fill, cancel, put}
use Rattle.sharing.specs.Shares.{LawfulRule}
use Rattle.replay.specs.Lists.{only, total, any}
use Rattle.replay.specs.Days.{Day, Rule, Call, Set, LoadLimit, LoadStop, Open, Enter, CancelOrder, FloorTrade, Resume, Close, new_day}
use Rattle.replay.specs.Rolls.{is_filed, is_waiting, look, fresh}
use Rattle.replay.specs.Book.{is_at, is_better, is_contra}
use Rattle.replay.specs.Moves.{deal, after, size, trade, leave, withdraw, rest, pause, elect, is_elected, called, centre, admit, set_up, to, floored, resumed}
use Rattle.replay.specs.Runs.{work, start_place, join_of, join}
use Rattle.replay.specs.Calls.{refusal, checks, became, perform, step, after_calls}
use Rattle.replay.specs.Bounds.{Fine}
use Rattle.replay.specs.Questions.{totals}
use Rattle.replay.specs.SharesAddUp.{print_of, cancel_of}
use Rattle.replay.specs.Placed.{open_at, HasPlace, Placed, OpenHasPlace}
use Rattle.replay.proofs.Lists.{total_push, all_push, all_map}
use Rattle.replay.proofs.Rolls.{Good, Held, dealt_is, all_alter}
use Rattle.replay.proofs.Moves.{Waits}
use Rattle.replay.proofs.Runs.{Sound, waiter, elect_sound}
use Rattle.replay.proofs.Calls.{decided_keeps, passed_enter, good_shares, start_held, admit_fresh, same_sound, step_sound, calls_sound, new_sound}
use Rattle.replay.proofs.Keeps.{Moves, run_keeps, works, always}
use Rattle.replay.proofs.Idle.{InLine, in_line_keeps, new_in_line, counted_look}
use Rattle.replay.proofs.Bounds.{always_bounded}
use Rattle.replay.proofs.Standing.{Single, single_keeps, new_single, in_line, in_file}

-- only stops are filed ---------------------------------------------------------------------------------------------------
abbrev FiledStop : Order → Type 0
FiledStop o = o.place ≡ StopFile → o.kind ≡ Stop

abbrev StopsFiled : Day → Type 0
StopsFiled d = AllByRecursion FiledStop d.roll

not_filed : {A : Type 0} (w : Place) → is_filed w ≡ false → w ≡ StopFile → A
not_filed w e x = absurd (false≢true (sym e ∙ ap is_filed x))

fill_filed : (q : ℕ) (o : Order) → FiledStop o → FiledStop (fill q o)
fill_filed q o f e = go (eqb (o.«open» - q) 0) e
  where
    go : (b : Bool) → cond b Nowhere o.place ≡ StopFile → o.kind ≡ Stop
    go true e = not_filed Nowhere refl e
    go false e = f e

called_filed : (b : Bool) (o : Order) → FiledStop o → FiledStop (called b o)
called_filed true o f e = not_filed Line refl e
called_filed false o f e = f e

all_deal : (c : Side) (p : ℕ) (os : List Order) (gs : List ℕ) → AllByRecursion FiledStop os → AllByRecursion FiledStop (deal c p os gs)
unfolding deal
all_deal c p [] gs a = tt
all_deal c p (o ∷ os) gs a = (dealt_is FiledStop (is_better c p o) (is_at c p o) gs o (λ q. fill_filed q o a.0) a.0, all_deal c p os (after (is_at c p o) gs) a.1)

all_called : (p : ℕ) (os : List Order) → AllByRecursion FiledStop os → AllByRecursion FiledStop (map (λ o. called (is_elected p o) o) os)
all_called p [] a = tt
all_called p (o ∷ os) a = (called_filed (is_elected p o) o a.0, all_called p os a.1)

start_filed : (k : Kind) (b : Bool) → start_place k b ≡ StopFile → k ≡ Stop
start_filed Limit true e = not_filed Line refl e
start_filed Limit false e = not_filed Book refl e
start_filed Market b e = not_filed Line refl e
start_filed ImmediateOrCancel b e = not_filed Line refl e
start_filed Stop b e = refl

admit_filed : (k : Kind) (s : Side) (m p q : ℕ) (w : Place) (d : Day) → (w ≡ StopFile → k ≡ Stop) → StopsFiled d → StopsFiled (admit (fresh k s m p q d.roll) w d)
unfolding admit fresh
admit_filed k s m p q w d h i = all_push FiledStop d.roll (put w (fresh k s m p q d.roll)) i h

withdraw_filed : (n : ℕ) (d : Day) → StopsFiled d → StopsFiled (withdraw n d)
unfolding withdraw
withdraw_filed n d i = all_alter FiledStop n cancel d.roll (λ o e f x. not_filed Nowhere refl x) i

module _ (gifts : Rule) (lawful : LawfulRule gifts) where
  moves_filed : Moves gifts lawful StopsFiled
  unfolding trade leave rest pause elect centre
  moves_filed = record {
    trade = λ r p d m k i. all_alter FiledStop r.number (fill (size r.number (opposite r.side) p d.roll)) _ (λ o e f. fill_filed _ o f) (all_deal (opposite r.side) p d.roll _ i);
    leave = λ r d m e i. i;
    withdraw = λ n d c i. withdraw_filed n d i;
    rest = λ r d m w e c i. all_alter FiledStop r.number (put Book) d.roll (λ o e f x. not_filed Book refl x) i;
    pause = λ d i. i;
    elect = λ p d s i. all_called p d.roll i;
    centre = λ d i. i;
  }

  work_filed : (d : Day) → Sound d → StopsFiled d → StopsFiled (work gifts d)
  work_filed d s i = works gifts lawful StopsFiled (run_keeps gifts lawful StopsFiled moves_filed) d s i

  join_filed : (k : Kind) (s : Side) (m p q : ℕ) (d : Day) → not (is_shares q) ≡ false → leb 512 (length d.roll) ≡ false → Sound d → StopsFiled d → StopsFiled (join gifts (fresh k s m p q d.roll) d)
  unfolding join fresh
  join_filed k s m p q d e l sd i = go d.paused k (any (is_contra (fresh k s m p q d.roll)) d.roll)
    where
      off : (k : Kind) (c : Bool) → StopsFiled (work gifts (admit (fresh k s m p q d.roll) (start_place k c) d))
      off k c = work_filed _ (admit_fresh k s m p q (start_place k c) d (start_held k c q (good_shares q e).1) e l sd) (admit_filed k s m p q (start_place k c) d (start_filed k c) i)

      go : (b : Bool) (k : Kind) (c : Bool) → StopsFiled (join_of gifts b k (fresh k s m p q d.roll) (start_place k c) d)
      go true ImmediateOrCancel c = withdraw_filed _ (admit (fresh ImmediateOrCancel s m p q d.roll) Line d) (admit_filed ImmediateOrCancel s m p q Line d (λ x. not_filed Line refl x) i)
      go true Limit c = off Limit c
      go true Market c = off Market c
      go true Stop c = off Stop c
      go false k c = off k c

  became_filed : (room : ℕ) (d : Day) (c : Call) → refusal (checks room d c) ≡ None → Sound d → StopsFiled d → StopsFiled (became gifts d c)
  unfolding became set_up to floored resumed centre
  became_filed room d (Set k c p) e s i = i
  became_filed room d (LoadLimit sd m p q) e s i = admit_filed Limit sd m p q Book d (λ x. not_filed Book refl x) i
  became_filed room d (LoadStop sd m p q) e s i = admit_filed Stop sd m p q StopFile d (λ x. refl) i
  became_filed room d Open e s i = i
  became_filed room d (Enter k sd m p q f) e s i = let h : (not (is_shares q) ≡ false) × (leb 512 (length d.roll) ≡ false) = passed_enter room d k sd m p q f e in join_filed k sd m p q d h.0 h.1 s i
  became_filed room d (CancelOrder m n f) e s i = withdraw_filed n d i
  became_filed room d (FloorTrade p q f) e s i =
      let s₁ : Sound (floored p q d) = same_sound d _ refl refl (sym (total_push print_of d.tape (Floor p q) ∙ omega arith)) (sym (total_push cancel_of d.tape (Floor p q) ∙ omega arith)) s in
      work_filed _ (elect_sound p (floored p q d) s₁) (moves_filed.elect p (floored p q d) s₁ i)
  became_filed room d (Resume f) e s i = work_filed _ (same_sound d (resumed d) refl refl refl refl s) i
  became_filed room d Close e s i = i

  step_filed : (room : ℕ) (d : Day) (c : Call) → Sound d → StopsFiled d → StopsFiled (step gifts room d c).day
  unfolding step perform
  step_filed room d c s i = decided_keeps StopsFiled (refusal (checks room d c)) d (perform gifts d c) i (λ e. became_filed room d c e s i)

  calls_filed : (room : ℕ) (cs : List Call) (d : Day) → Sound d → StopsFiled d → StopsFiled (after_calls gifts room d cs)
  unfolding after_calls
  calls_filed room [] d s i = i
  calls_filed room (c ∷ cs) d s i = calls_filed room cs (step gifts room d c).day (step_sound gifts lawful room d c s) (step_filed room d c s i)

  new_filed : StopsFiled new_day
  unfolding new_day
  new_filed = tt

-- the law ----------------------------------------------------------------------------------------------------------------
held_open : (w : Place) (n : ℕ) → Held w n → (w ≡ Nowhere → ⊥) → 1 ≤ n
held_open Book n h k = omega arith
held_open Line n h k = omega arith
held_open StopFile n h k = omega arith
held_open Nowhere n h k = absurd (k refl)

sum_open : (os : List Order) → AllByRecursion Good os → total (λ o. o.«open») os ≡ open_at is_book os + open_at is_waiting os + open_at is_filed os
sum_open [] a = refl
sum_open (o ∷ os) a = omega (arith, one o.place o.«open» a.0.held, sum_open os a.1)
  where
    one : (w : Place) (n : ℕ) → Held w n → n ≡ only (is_book w) n + only (is_waiting w) n + only (is_filed w) n
    one Book n h = omega arith
    one Line n h = omega arith
    one StopFile n h = omega arith
    one Nowhere n h = h

-- what holds of each of a list holds together
pub both : {A : Type 0} (P Q : A → Type 0) (xs : List A) → AllByRecursion P xs → AllByRecursion Q xs → AllByRecursion (λ x. P x × Q x) xs
both P Q [] a b = tt
both P Q (x ∷ xs) a b = ((a.0, b.0), both P Q xs a.1 b.1)

placed : (d : Day) → Sound d → InLine d → Single d → AllByRecursion Fine d.roll → StopsFiled d → Placed d
unfolding totals
placed d s l i b f = record {
  orders = all_map _ (HasPlace d) d.roll
      (λ o h. record {
        «open» = λ n e. omega (arith, subst (λ w. Held w o.«open») e h.0.0.held);
        held = held_open o.place o.«open» h.0.0.held;
        rests = h.1.0.book;
        filed = h.1.1;
        line = in_line d s l i o h.0.1;
        file = in_file d.roll s.counted o h.0.1;
      })
      (both _ _ d.roll (both Good (λ o. look o.number d.roll ≡ Some o) d.roll s.books.orders (counted_look 1 d.roll s.counted)) (both Fine FiledStop d.roll b f));
  known = all_map (Waits d.roll) _ d.line (λ n w. waiter d.roll n w) s.line;
  sum = sum_open d.roll s.books.orders;
}

pub open_has_place : OpenHasPlace
open_has_place gifts lawful room cs =
    let d : Day = after_calls gifts room new_day cs in
    placed d (calls_sound gifts lawful room cs new_day (new_sound gifts lawful))
    (always gifts lawful InLine (in_line_keeps gifts lawful) (new_in_line gifts lawful) room cs)
    (always gifts lawful Single (single_keeps gifts lawful) new_single room cs)
    (always_bounded gifts lawful room cs).orders
    (calls_filed gifts lawful room cs new_day (new_sound gifts lawful) (new_filed gifts lawful))
