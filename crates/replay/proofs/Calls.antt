-- Every call keeps the day sound; so shares are conserved over every list of calls.
use Rattle.std.proofs.Common.{◌≡◌, ℕ, suc, ◌+◌, ◌%◌, ◌<◌, ◌≤◌, Bool, true, false, not, ◌&&◌, eqb, leb, List, [], ◌∷◌, ◌++◌, length, Some, None, Option, sym, refl, ap, ◌∙◌, subst, arith}
use Rattle.std.proofs.lemmas.Bool.{and_parts, leb-true, not-false, eq-eqb, ne_eqb, eqb-true, leb-false}
use Rattle.std.specs.List.{AllByRecursion}
use Rattle.market.specs.declared.words.Side.{Side}
use Rattle.market.specs.declared.words.Side.TheVariants.{Buy, Sell}
use Rattle.market.specs.declared.words.Kind.{Kind}
use Rattle.market.specs.declared.words.Kind.TheVariants.{Limit, Market, ImmediateOrCancel, Stop}
use Rattle.market.specs.declared.words.Place.{Place}
use Rattle.market.specs.declared.words.Place.TheVariants.{Book, Line, StopFile, Nowhere}
use Rattle.market.specs.declared.words.Order.{Order}
use Rattle.market.specs.declared.words.TapeLine.TheVariants.{Floor}
use Rattle.market.specs.Sides.{same_side}
use Rattle.market.specs.Orders.{cancel, put}
use Rattle.sharing.specs.Shares.{LawfulRule}
use Rattle.replay.specs.Lists.{total, only, any}
use Rattle.replay.specs.Days.{Day, Rule, Call, Set, LoadLimit, LoadStop, Open, Enter, CancelOrder, FloorTrade, Resume, Close, Outcome, new_day}
use Rattle.replay.specs.Rolls.{look, found, is_market, fresh, place_of}
use Rattle.replay.specs.Book.{is_contra}
use Rattle.replay.specs.Moves.{withdraw, line_with, admit, set_up, to, floored, resumed}
use Rattle.replay.specs.Runs.{start_place, join_of, join}
use Rattle.replay.specs.Calls.{Check, first_of, refusal, decided, checks, became, perform, step, after_calls}
use Rattle.replay.specs.Questions.{totals}
use Rattle.replay.specs.SharesAddUp.{filled_on, Conserved, print_of, cancel_of}
use Rattle.replay.proofs.Lists.{total_push, all_map}
use Rattle.replay.proofs.Rolls.{Good, Held}
use Rattle.replay.proofs.Moves.{Waits, books_same, withdraw_books, admit_books}
use Rattle.replay.proofs.Runs.{Sound, Counted, numbers, elect_sound, work_sound, but, numbers_alter, centre_sound}
use Rattle.market.specs.Bounds.{is_price, is_shares, is_member, is_class, is_last_sale}

-- refusals -------------------------------------------------------------------------------------------------------------------------
pub refusal_none : (cs : List Check) → refusal cs ≡ None → AllByRecursion (λ c. c.fails ≡ false) cs
refusal_none [] e = tt
refusal_none (c ∷ cs) e = go c.fails refl e (refusal_none cs)
  where
    go : (b : Bool) → c.fails ≡ b → first_of b c.code (refusal cs) ≡ None → (refusal cs ≡ None → AllByRecursion (λ c. c.fails ≡ false) cs) → (c.fails ≡ false) × AllByRecursion (λ c. c.fails ≡ false) cs
    go true h e ih = absurd (let z : ◌≡◌ {A = ℕ} 0 1 = cc in omega arith)
    go false h e ih = (h, ih e)

pub decided_keeps : (Q : Day → Type 0) (x : Option ℕ) (d : Day) (r : Outcome) → Q d → (x ≡ None → Q r.day) → Q (decided x d r).day
decided_keeps Q None d r q f = f refl
decided_keeps Q (Some k) d r q f = q

-- admission ------------------------------------------------------------------------------------------------------------------------
waits_push : (os : List Order) (o : Order) (m : ℕ) → Waits os m → Waits (os ++ (o ∷ [])) m
unfolding look
waits_push [] o m w = absurd (let z : ◌≡◌ {A = ℕ} 0 1 = cc in omega arith)
waits_push (x ∷ os) o m w = go (eqb x.number m) w (waits_push os o m)
  where
    go : (b : Bool) → place_of (found b x (look m os)) ≡ Line → (Waits os m → Waits (os ++ (o ∷ [])) m) → place_of (found b x (look m (os ++ (o ∷ [])))) ≡ Line
    go true w ih = w
    go false w ih = ih w

counted_push : (k : ℕ) (os : List Order) (o : Order) → Counted k (numbers os) → o.number ≡ k + length os → Counted k (numbers (os ++ (o ∷ [])))
counted_push k [] o a e = (omega arith, tt)
counted_push k (x ∷ os) o a e = (a.0, counted_push (suc k) os o a.1 (omega arith))

pub look_push : (k : ℕ) (os : List Order) (o : Order) → Counted k (numbers os) → o.number ≡ k + length os → look o.number (os ++ (o ∷ [])) ≡ Some o
unfolding look
look_push k [] o a e = ap (λ b. found b o None) (eq-eqb o.number o.number refl)
look_push k (x ∷ os) o a e =
    ap (λ b. found b x (look o.number (os ++ (o ∷ [])))) (ne_eqb x.number o.number (λ h. omega (arith, a.0)))
    ∙ look_push (suc k) os o a.1 (omega arith)

pub put_number : (w : Place) (o : Order) → (put w o).number ≡ o.number
put_number w o = refl

pub put_place : (w : Place) (o : Order) → (put w o).place ≡ w
put_place w o = refl

pub admit_sound : (o : Order) (w : Place) (d : Day) → Good (put w o) → o.filled ≡ 0 → o.cancelled ≡ 0 → o.number ≡ suc (length d.roll) → length d.roll < 512 → Sound d → Sound (admit o w d)
unfolding admit
admit_sound o w d g f c n l s =
    let e : (put w o).number ≡ 1 + length d.roll = put_number w o ∙ omega arith in
    record {
      books = admit_books o w d g f c l s.books;
      counted = counted_push 1 d.roll (put w o) s.counted e;
      line = go w e (all_map _ _ d.line (λ m h. waits_push d.roll (put w o) m h) s.line);
    }
  where
    last : (Q : ℕ → Type 0) (ms : List ℕ) (m : ℕ) → AllByRecursion Q ms → Q m → AllByRecursion Q (ms ++ (m ∷ []))
    last Q [] m a q = (q, tt)
    last Q (x ∷ ms) m a q = (a.0, last Q ms m a.1 q)

    waits_last : (put Line o).number ≡ 1 + length d.roll → Waits (d.roll ++ (put Line o ∷ [])) o.number
    waits_last e = subst (λ n. Waits (d.roll ++ (put Line o ∷ [])) n) (put_number Line o) (ap place_of (look_push 1 d.roll (put Line o) s.counted e) ∙ put_place Line o)

    go : (w : Place) → (put w o).number ≡ 1 + length d.roll → AllByRecursion (Waits (d.roll ++ (put w o ∷ []))) d.line → AllByRecursion (Waits (d.roll ++ (put w o ∷ []))) (line_with w o.number d.line)
    go Book e a = a
    go Line e a = last (Waits (d.roll ++ (put Line o ∷ []))) d.line o.number a (waits_last e)
    go StopFile e a = a
    go Nowhere e a = a

pub good_shares : (q : ℕ) → not (is_shares q) ≡ false → (q % 100 ≡ 0) × (100 ≤ q) × (q ≤ 1000000)
good_shares q e =
    let h : ((leb 100 q && leb q 1000000) ≡ true) × (eqb (q % 100) 0 ≡ true) = and_parts (leb 100 q && leb q 1000000) (eqb (q % 100) 0) (not-false (is_shares q) e) in
    let k : (leb 100 q ≡ true) × (leb q 1000000 ≡ true) = and_parts (leb 100 q) (leb q 1000000) h.0 in
    (eqb-true (q % 100) 0 h.1, leb-true 100 q k.0, leb-true q 1000000 k.1)

fresh_good : (k : Kind) (s : Side) (m p q : ℕ) (os : List Order) (w : Place) → Held w q → not (is_shares q) ≡ false → Good (put w (fresh k s m p q os))
unfolding fresh
fresh_good k s m p q os w h e = let g : (q % 100 ≡ 0) × (100 ≤ q) × (q ≤ 1000000) = good_shares q e in
    record { sum = omega arith; whole = g.0; most = g.2; held = h }

pub fresh_limit : (k : Kind) (s : Side) (m p q : ℕ) (os : List Order) → k ≡ Limit → (fresh k s m p q os).kind ≡ Limit
unfolding fresh
fresh_limit k s m p q os e = e

pub start_held : (k : Kind) (b : Bool) (q : ℕ) → 100 ≤ q → Held (start_place k b) q
start_held Limit true q h = h
start_held Limit false q h = h
start_held Market b q h = h
start_held ImmediateOrCancel b q h = h
start_held Stop b q h = h

pub admit_fresh : (k : Kind) (s : Side) (m p q : ℕ) (w : Place) (d : Day) → Held w q → not (is_shares q) ≡ false → leb 512 (length d.roll) ≡ false → Sound d → Sound (admit (fresh k s m p q d.roll) w d)
unfolding fresh
admit_fresh k s m p q w d h e l sd = admit_sound (fresh k s m p q d.roll) w d (fresh_good k s m p q d.roll w h e) refl refl refl (leb-false 512 (length d.roll) l) sd

pub withdraw_any : (n : ℕ) (d : Day) → Sound d → Sound (withdraw n d)
unfolding withdraw
withdraw_any n d s = record {
  books = withdraw_books n d s.books;
  counted = subst (Counted 1) (sym (numbers_alter n cancel (λ o. refl) d.roll)) s.counted;
  line = but n cancel d (λ o. refl) (all_map _ _ d.line (λ m w _. w) s.line);
}

pub same_sound : (d e : Day) → d.roll ≡ e.roll → d.line ≡ e.line → total print_of d.tape ≡ total print_of e.tape → total cancel_of d.tape ≡ total cancel_of e.tape → Sound d → Sound e
same_sound d e r l p x s = record {
  books = books_same d e r p x s.books;
  counted = subst (λ os. Counted 1 (numbers os)) r s.counted;
  line = subst (λ os. AllByRecursion (Waits os) e.line) r (subst (λ ns. AllByRecursion (Waits d.roll) ns) l s.line);
}

-- the checks of an order that passed: its shares are lawful, and the roll has a place
pub passed_limit : (room : ℕ) (d : Day) (s : Side) (m p q : ℕ) → refusal (checks room d (LoadLimit s m p q)) ≡ None
    → (not (is_shares q) ≡ false) × (leb 512 (length d.roll) ≡ false) × (any (is_contra (fresh Limit s m p q d.roll)) d.roll ≡ false)
unfolding checks
passed_limit room d s m p q e = let a = refusal_none (checks room d (LoadLimit s m p q)) e in (a.1.1.0, a.1.1.1.1.0, a.1.1.1.1.1.0)

pub passed_stop : (room : ℕ) (d : Day) (s : Side) (m p q : ℕ) → refusal (checks room d (LoadStop s m p q)) ≡ None
    → (not (is_shares q) ≡ false) × (leb 512 (length d.roll) ≡ false)
unfolding checks
passed_stop room d s m p q e = let a = refusal_none (checks room d (LoadStop s m p q)) e in (a.1.1.0, a.1.1.1.1.0)

pub passed_enter : (room : ℕ) (d : Day) (k : Kind) (s : Side) (m p q f : ℕ) → refusal (checks room d (Enter k s m p q f)) ≡ None
    → (not (is_shares q) ≡ false) × (leb 512 (length d.roll) ≡ false)
unfolding checks
passed_enter room d k s m p q f e = let a = refusal_none (checks room d (Enter k s m p q f)) e in (a.1.1.0, a.1.1.1.1.0)

-- all that is checked of an order
pub record Checked (k : Kind) (m p q : ℕ) : Type 0 where
  pub price : (not (is_market k) && not (is_price p)) ≡ false
  pub shares : not (is_shares q) ≡ false
  pub member : not (is_member m) ≡ false

pub checked_limit : (room : ℕ) (d : Day) (s : Side) (m p q : ℕ) → refusal (checks room d (LoadLimit s m p q)) ≡ None → Checked Limit m p q
unfolding checks
checked_limit room d s m p q e = let a = refusal_none (checks room d (LoadLimit s m p q)) e in record { price = a.1.0; shares = a.1.1.0; member = a.1.1.1.0 }

pub checked_stop : (room : ℕ) (d : Day) (s : Side) (m p q : ℕ) → refusal (checks room d (LoadStop s m p q)) ≡ None → Checked Stop m p q
unfolding checks
checked_stop room d s m p q e = let a = refusal_none (checks room d (LoadStop s m p q)) e in record { price = a.1.0; shares = a.1.1.0; member = a.1.1.1.0 }

pub checked_enter : (room : ℕ) (d : Day) (k : Kind) (s : Side) (m p q f : ℕ) → refusal (checks room d (Enter k s m p q f)) ≡ None → Checked k m p q
unfolding checks
checked_enter room d k s m p q f e = let a = refusal_none (checks room d (Enter k s m p q f)) e in record { price = a.1.0; shares = a.1.1.0; member = a.1.1.1.0 }

pub checked_set : (room : ℕ) (d : Day) (k c p : ℕ) → refusal (checks room d (Set k c p)) ≡ None → (not (is_class k) ≡ false) × (not (is_last_sale p) ≡ false)
unfolding checks
checked_set room d k c p e = let a = refusal_none (checks room d (Set k c p)) e in (a.1.0, a.1.1.1.0)

pub checked_floor : (room : ℕ) (d : Day) (p q f : ℕ) → refusal (checks room d (FloorTrade p q f)) ≡ None → not (is_price p) ≡ false
unfolding checks
checked_floor room d p q f e = let a = refusal_none (checks room d (FloorTrade p q f)) e in a.1.0

module _ (gifts : Rule) (lawful : LawfulRule gifts) where
  join_sound : (k : Kind) (s : Side) (m p q : ℕ) (d : Day) → not (is_shares q) ≡ false → leb 512 (length d.roll) ≡ false → Sound d → Sound (join gifts (fresh k s m p q d.roll) d)
  unfolding join fresh
  join_sound k s m p q d e l sd = go d.paused k (any (is_contra (fresh k s m p q d.roll)) d.roll)
    where
      in_at : (k : Kind) (w : Place) → Held w q → Sound (admit (fresh k s m p q d.roll) w d)
      in_at k w h = admit_fresh k s m p q w d h e l sd

      go : (b : Bool) (k : Kind) (c : Bool) → Sound (join_of gifts b k (fresh k s m p q d.roll) (start_place k c) d)
      go true ImmediateOrCancel c = withdraw_any (suc (length d.roll)) _ (in_at ImmediateOrCancel Line (good_shares q e).1)
      go true Limit c = work_sound gifts lawful _ (in_at Limit (start_place Limit c) (start_held Limit c q (good_shares q e).1))
      go true Market c = work_sound gifts lawful _ (in_at Market Line (good_shares q e).1)
      go true Stop c = work_sound gifts lawful _ (in_at Stop StopFile (good_shares q e).1)
      go false k c = work_sound gifts lawful _ (in_at k (start_place k c) (start_held k c q (good_shares q e).1))

  became_sound : (room : ℕ) (d : Day) (c : Call) → refusal (checks room d c) ≡ None → Sound d → Sound (became gifts d c)
  unfolding became set_up to floored resumed checks
  became_sound room d (Set k c p) e s = same_sound d _ refl refl refl refl s
  became_sound room d (LoadLimit sd m p q) e s =
      let h : (not (is_shares q) ≡ false) × (leb 512 (length d.roll) ≡ false) = let a = passed_limit room d sd m p q e in (a.0, a.1) in
      admit_fresh Limit sd m p q Book d (good_shares q h.0).1 h.0 h.1 s
  became_sound room d (LoadStop sd m p q) e s =
      let h : (not (is_shares q) ≡ false) × (leb 512 (length d.roll) ≡ false) = passed_stop room d sd m p q e in
      admit_fresh Stop sd m p q StopFile d (good_shares q h.0).1 h.0 h.1 s
  became_sound room d Open e s = centre_sound gifts lawful _ (same_sound d _ refl refl refl refl s)
  became_sound room d (Enter k sd m p q f) e s =
      let h : (not (is_shares q) ≡ false) × (leb 512 (length d.roll) ≡ false) = passed_enter room d k sd m p q f e in
      join_sound k sd m p q d h.0 h.1 s
  became_sound room d (CancelOrder m n f) e s = withdraw_any n d s
  became_sound room d (FloorTrade p q f) e s = work_sound gifts lawful _ (elect_sound p (floored p q d)
      (same_sound d _ refl refl (sym (total_push print_of d.tape (Floor p q) ∙ omega arith)) (sym (total_push cancel_of d.tape (Floor p q) ∙ omega arith)) s))
  became_sound room d (Resume f) e s = work_sound gifts lawful _ (same_sound d (resumed d) refl refl refl refl s)
  became_sound room d Close e s = same_sound d _ refl refl refl refl s

  pub step_sound : (room : ℕ) (d : Day) (c : Call) → Sound d → Sound (step gifts room d c).day
  unfolding step perform
  step_sound room d c s = decided_keeps Sound (refusal (checks room d c)) d (perform gifts d c) s (λ e. became_sound room d c e s)

  pub calls_sound : (room : ℕ) (cs : List Call) (d : Day) → Sound d → Sound (after_calls gifts room d cs)
  unfolding after_calls
  calls_sound room [] d s = s
  calls_sound room (c ∷ cs) d s = calls_sound room cs (step gifts room d c).day (step_sound room d c s)

  pub new_sound : Sound new_day
  unfolding new_day
  new_sound = record { books = record { orders = tt; few = omega arith; filled = λ s. refl; struck = refl }; counted = tt; line = tt }

  -- THE LAW OF CONSERVATION
  sum_of : (os : List Order) → AllByRecursion Good os → total (λ o. o.accepted) os ≡ (total (filled_on Buy) os + total (filled_on Sell) os) + total (λ o. o.cancelled) os + total (λ o. o.«open») os
  sum_of [] a = refl
  sum_of (o ∷ os) a = omega (arith, a.0.sum, sides o.side o.filled, sum_of os a.1)
    where
      sides : (s : Side) (n : ℕ) → only (same_side s Buy) n + only (same_side s Sell) n ≡ n
      sides Buy n = omega arith
      sides Sell n = omega arith

  filled_of_lem : (os : List Order) → total (λ o. o.filled) os ≡ total (filled_on Buy) os + total (filled_on Sell) os
  filled_of_lem [] = refl
  filled_of_lem (o ∷ os) = omega (arith, sides o.side o.filled, filled_of_lem os)
    where
      sides : (s : Side) (n : ℕ) → only (same_side s Buy) n + only (same_side s Sell) n ≡ n
      sides Buy n = omega arith
      sides Sell n = omega arith

  pub conserved : (room : ℕ) (cs : List Call) → Conserved (after_calls gifts room new_day cs)
  unfolding totals
  conserved room cs =
      let s : Sound (after_calls gifts room new_day cs) = calls_sound room cs new_day new_sound in
      record {
        each = all_map _ _ _ (λ o g. g.sum) s.books.orders;
        sum = omega (arith, sum_of _ s.books.orders, filled_of_lem (after_calls gifts room new_day cs).roll, s.books.filled Buy, s.books.filled Sell, s.books.struck);
        printed = omega (arith, filled_of_lem (after_calls gifts room new_day cs).roll, s.books.filled Buy, s.books.filled Sell);
        cancelled = s.books.struck;
        bought = s.books.filled Buy;
        sold = s.books.filled Sell;
      }
