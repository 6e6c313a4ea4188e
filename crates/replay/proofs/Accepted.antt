-- The accepted shares of the roll are those that the performed Load and Enter calls brought in.
use Rattle.std.proofs.Common.{◌≡◌, ℕ, suc, ◌+◌, Bool, true, false, not, eqb, leb, List, [], ◌∷◌, length, Some, None, Option, sym, refl, ap, ◌∙◌, arith}
use Rattle.market.specs.declared.words.Side.{Side}
use Rattle.market.specs.declared.words.Kind.{Kind}
use Rattle.market.specs.declared.words.Kind.TheVariants.{Limit, Market, ImmediateOrCancel, Stop}
use Rattle.market.specs.declared.words.Place.{Place}
use Rattle.market.specs.declared.words.Place.TheVariants.{Book, Line, StopFile}
use Rattle.market.specs.declared.words.Order.{Order}
use Rattle.market.specs.declared.words.TapeLine.TheVariants.{Floor}
use Rattle.market.specs.Sides.{opposite}
use Rattle.market.specs.Orders.{fill, cancel, put}
use Rattle.sharing.specs.Shares.{LawfulRule}
use Rattle.replay.specs.Lists.{total, any}
use Rattle.replay.specs.Days.{Day, Rule, Call, Set, LoadLimit, LoadStop, Open, Enter, CancelOrder, FloorTrade, Resume, Close, new_day}
use Rattle.replay.specs.Rolls.{alter, here, fresh}
use Rattle.replay.specs.Book.{is_better, is_at, is_contra}
use Rattle.replay.specs.Moves.{deal, after, size, trade, leave, withdraw, rest, pause, elect, centre, admit, set_up, to, floored, resumed}
use Rattle.replay.specs.Runs.{work, start_place, join_of, join}
use Rattle.replay.specs.Calls.{refusal, decided, checks, became, perform, step, after_calls}
use Rattle.replay.specs.Questions.{totals}
use Rattle.replay.specs.SharesAddUp.{brings, if_performed, brought_in, SharesAddUp, print_of, cancel_of}
use Rattle.replay.proofs.Lists.{total_push}
use Rattle.replay.proofs.Rolls.{Held, dealt_is}
use Rattle.replay.proofs.Moves.{total_called}
use Rattle.replay.proofs.Runs.{Sound, elect_sound}
use Rattle.replay.proofs.Calls.{passed_enter, good_shares, start_held, admit_fresh, same_sound, step_sound, new_sound, conserved}
use Rattle.replay.proofs.Keeps.{Moves, run_keeps, works}
use Rattle.market.specs.Bounds.{is_shares}

abbrev taken_in : List Order → ℕ
taken_in os = total (λ o. o.accepted) os

alter_in : (n : ℕ) (f : Order → Order) (os : List Order) → ((o : Order) → (f o).accepted ≡ o.accepted) → taken_in (alter n f os) ≡ taken_in os
unfolding alter
alter_in n f [] k = refl
alter_in n f (o ∷ os) k = go (eqb o.number n) (alter_in n f os k)
  where
    go : (b : Bool) → taken_in (alter n f os) ≡ taken_in os → taken_in (here b f o os (alter n f os)) ≡ o.accepted + taken_in os
    go true ih = omega (arith, k o)
    go false ih = omega arith

fill_in : (q : ℕ) (o : Order) → (fill q o).accepted ≡ o.accepted
fill_in q o = refl

cancel_in : (o : Order) → (cancel o).accepted ≡ o.accepted
cancel_in o = refl

put_in : (w : Place) (o : Order) → (put w o).accepted ≡ o.accepted
put_in w o = refl

deal_in : (c : Side) (p : ℕ) (os : List Order) (gs : List ℕ) → taken_in (deal c p os gs) ≡ taken_in os
unfolding deal
deal_in c p [] gs = refl
deal_in c p (o ∷ os) gs =
    ap (λ x. x + taken_in (deal c p os (after (is_at c p o) gs))) (dealt_is (λ u. u.accepted ≡ o.accepted) (is_better c p o) (is_at c p o) gs o (λ q. refl) refl) ∙ ap (λ x. o.accepted + x) (deal_in c p os (after (is_at c p o) gs))

module _ (gifts : Rule) (lawful : LawfulRule gifts) where
  moves_in : (k : ℕ) → Moves gifts lawful (λ d. taken_in d.roll ≡ k)
  unfolding trade leave withdraw rest pause elect centre
  moves_in k = record {
    trade = λ r p d m h i. alter_in r.number (fill (size r.number (opposite r.side) p d.roll)) _ (fill_in (size r.number (opposite r.side) p d.roll)) ∙ deal_in (opposite r.side) p d.roll _ ∙ i;
    leave = λ r d m e i. i;
    withdraw = λ n d c i. alter_in n cancel d.roll cancel_in ∙ i;
    rest = λ r d m w e c i. alter_in r.number (put Book) d.roll (put_in Book) ∙ i;
    pause = λ d i. i;
    elect = λ p d s i. total_called (λ o. o.accepted) (put_in Line) p d.roll ∙ i;
    centre = λ d i. i;
  }

  work_in : (d : Day) → Sound d → taken_in (work gifts d).roll ≡ taken_in d.roll
  work_in d s = works gifts lawful (λ e. taken_in e.roll ≡ taken_in d.roll) (run_keeps gifts lawful (λ e. taken_in e.roll ≡ taken_in d.roll) (moves_in (taken_in d.roll))) d s refl

  admit_in : (k : Kind) (s : Side) (m p q : ℕ) (w : Place) (d : Day) → taken_in (admit (fresh k s m p q d.roll) w d).roll ≡ taken_in d.roll + q
  unfolding admit fresh
  admit_in k s m p q w d = total_push (λ o. o.accepted) d.roll (put w (fresh k s m p q d.roll))

  withdraw_in : (n : ℕ) (d : Day) → taken_in (withdraw n d).roll ≡ taken_in d.roll
  unfolding withdraw
  withdraw_in n d = alter_in n cancel d.roll cancel_in

  elect_in : (p : ℕ) (d : Day) → taken_in (elect p d).roll ≡ taken_in d.roll
  unfolding elect
  elect_in p d = total_called (λ o. o.accepted) (put_in Line) p d.roll

  join_in : (k : Kind) (s : Side) (m p q : ℕ) (d : Day) → not (is_shares q) ≡ false → leb 512 (length d.roll) ≡ false → Sound d → taken_in (join gifts (fresh k s m p q d.roll) d).roll ≡ taken_in d.roll + q
  unfolding join fresh
  join_in k s m p q d e l sd = go d.paused k (any (is_contra (fresh k s m p q d.roll)) d.roll)
    where
      off : (k : Kind) (w : Place) → Held w q → taken_in (work gifts (admit (fresh k s m p q d.roll) w d)).roll ≡ taken_in d.roll + q
      off k w h = work_in _ (admit_fresh k s m p q w d h e l sd) ∙ admit_in k s m p q w d

      go : (b : Bool) (k : Kind) (c : Bool) → taken_in (join_of gifts b k (fresh k s m p q d.roll) (start_place k c) d).roll ≡ taken_in d.roll + q
      go true ImmediateOrCancel c = withdraw_in (suc (length d.roll)) _ ∙ admit_in ImmediateOrCancel s m p q Line d
      go true Limit c = off Limit (start_place Limit c) (start_held Limit c q (good_shares q e).1)
      go true Market c = off Market Line (good_shares q e).1
      go true Stop c = off Stop StopFile (good_shares q e).1
      go false k c = off k (start_place k c) (start_held k c q (good_shares q e).1)

  became_in : (room : ℕ) (d : Day) (c : Call) → refusal (checks room d c) ≡ None → Sound d → taken_in (became gifts d c).roll ≡ taken_in d.roll + brings c
  unfolding became set_up to floored resumed centre
  became_in room d (Set k c p) e s = omega arith
  became_in room d (LoadLimit sd m p q) e s = admit_in Limit sd m p q Book d
  became_in room d (LoadStop sd m p q) e s = admit_in Stop sd m p q StopFile d
  became_in room d Open e s = omega arith
  became_in room d (Enter k sd m p q f) e s =
      let h : (not (is_shares q) ≡ false) × (leb 512 (length d.roll) ≡ false) = passed_enter room d k sd m p q f e in
      join_in k sd m p q d h.0 h.1 s
  became_in room d (CancelOrder m n f) e s = withdraw_in n d ∙ omega arith
  became_in room d (FloorTrade p q f) e s =
      work_in _ (elect_sound p (floored p q d) (same_sound d _ refl refl (sym (total_push print_of d.tape (Floor p q) ∙ omega arith)) (sym (total_push cancel_of d.tape (Floor p q) ∙ omega arith)) s))
      ∙ elect_in p (floored p q d) ∙ omega arith
  became_in room d (Resume f) e s = work_in _ (same_sound d (resumed d) refl refl refl refl s) ∙ omega arith
  became_in room d Close e s = omega arith

  step_in : (room : ℕ) (d : Day) (c : Call) → Sound d → taken_in (step gifts room d c).day.roll ≡ taken_in d.roll + if_performed (refusal (checks room d c)) (brings c)
  unfolding step perform
  step_in room d c s = go (refusal (checks room d c)) refl
    where
      go : (x : Option ℕ) → refusal (checks room d c) ≡ x → taken_in (decided x d (perform gifts d c)).day.roll ≡ taken_in d.roll + if_performed x (brings c)
      go None e = became_in room d c e s
      go (Some k) e = omega arith

  calls_in : (room : ℕ) (cs : List Call) (d : Day) → Sound d → taken_in (after_calls gifts room d cs).roll ≡ taken_in d.roll + brought_in gifts room d cs
  unfolding after_calls brought_in
  calls_in room [] d s = omega arith
  calls_in room (c ∷ cs) d s = omega (arith, step_in room d c s, calls_in room cs (step gifts room d c).day (step_sound gifts lawful room d c s))

new_in : taken_in new_day.roll ≡ 0
unfolding new_day
new_in = refl

pub shares_add_up : SharesAddUp
unfolding totals
shares_add_up gifts lawful room cs = (conserved gifts lawful room cs, calls_in gifts lawful room cs new_day (new_sound gifts lawful) ∙ ap (λ x. x + brought_in gifts room new_day cs) new_in ∙ omega arith)
