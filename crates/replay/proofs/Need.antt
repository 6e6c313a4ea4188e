-- A call writes no more lines than it asks for.
use Rattle.std.proofs.Common.{◌≡◌, ℕ, zero, suc, ◌+◌, ◌-◌, ◌*◌, ◌<◌, ◌≤◌, Bool, true, false, ◌⊎◌, List, [], ◌∷◌, ◌++◌, map, length, Some, None, Option, sym, refl, ap, ◌∙◌, subst, inl, inr, ⊎_elim, arith}
use Rattle.market.specs.declared.words.Side.{Side}
use Rattle.market.specs.declared.words.Kind.{Kind}
use Rattle.market.specs.declared.words.Kind.TheVariants.{Limit, Market, ImmediateOrCancel, Stop}
use Rattle.market.specs.declared.words.Place.{Place}
use Rattle.market.specs.declared.words.Place.TheVariants.{Book, Line, StopFile, Nowhere}
use Rattle.market.specs.declared.words.Order.{Order}
use Rattle.market.specs.declared.words.Range.{Range}
use Rattle.market.specs.declared.words.TapeLine.TheVariants.{Print, Cancel, Elect, Floor}
use Rattle.market.specs.Sides.{opposite}
use Rattle.market.specs.Orders.{fill, cancel, put}
use Rattle.replay.specs.Lists.{only, those, any, beyond}
use Rattle.replay.specs.Days.{Day, Rule, Call, Set, LoadLimit, LoadStop, Open, Enter, CancelOrder, FloorTrade, Resume, Close, new_day}
use Rattle.replay.specs.Rolls.{is_filed, look, left, filed, fresh}
use Rattle.replay.specs.Book.{row, ahead, is_contra}
use Rattle.replay.specs.Moves.{low_of, high_of, deal, size, trade, leave, withdraw, rest, pause, elect, is_elected, called, centre, line_with, admit, set_up, to, floored, resumed}
use Rattle.replay.specs.Runs.{first_price, next_price, print_at, residual, settle_of, settle, elect_at, centre_if, run, run_of, turn_of, turn, turns, work, busy, start_place, join_of, join}
use Rattle.replay.specs.Calls.{need, refusal, checks, became, perform, step, after_calls}
use Rattle.replay.specs.Lines.{wants, TapeSuffices}
use Rattle.replay.proofs.Lists.{total_push, length_push, length_append, length_map}
use Rattle.replay.proofs.Runs.{look_number}
use Rattle.replay.proofs.Calls.{decided_keeps, put_place}
use Rattle.replay.proofs.Turns.{filed_called, filed_fill, filed_deal, filed_alter, first_out, elect_paused, print_line}

-- the lines on the tape, those and the filed stops, and those and all that may yet come: three for each order in line, four for each stop in the file
abbrev count : Day → ℕ
count d = length d.tape

abbrev tally : Day → ℕ
tally d = count d + filed d.roll

abbrev bound : Day → ℕ
bound d = count d + (3 * length d.line + 4 * filed d.roll)

-- one line more
elect_tally : (p : ℕ) (d : Day) → (tally (elect p d) ≡ tally d) × (bound (elect p d) ≡ bound d)
unfolding elect
elect_tally p d =
    let ns : List ℕ = map (λ o. o.number) (those (is_elected p) d.roll) in
    let a : length (d.line ++ ns) ≡ length d.line + length ns = length_append d.line ns in
    let b : length (d.tape ++ map Elect ns) ≡ length d.tape + length (map Elect ns) = length_append d.tape (map Elect ns) in
    let c : length (map Elect ns) ≡ length ns = length_map Elect ns in
    let e : length ns ≡ length (those (is_elected p) d.roll) = length_map (λ (o : Order). o.number) (those (is_elected p) d.roll) in
    let f : length (those (is_elected p) d.roll) + filed (map (λ o. called (is_elected p o) o) d.roll) ≡ filed d.roll = filed_called p d.roll in
    (omega (arith, a, b, c, e, f), omega (arith, a, b, c, e, f))

-- within k: paused, and the lines with those of the stops at most k; or all that may come at most k
abbrev Within' : ℕ → Day → Type 0
Within' k d = ((d.paused ≡ true) × (tally d ≤ k)) ⊎ (bound d ≤ k)

module _ (gifts : Rule) where
  print_more : (r : Order) (x : Option ℕ) (d : Day) → (count (print_at gifts r x d) ≤ suc (count d)) × (filed (print_at gifts r x d).roll ≤ filed d.roll)
  unfolding trade
  print_more r None d = (omega arith, omega arith)
  print_more r (Some p) d =
      let c : Side = opposite r.side in
      let q : ℕ = size r.number c p d.roll in
      let gs : List ℕ = gifts (row c p d.roll) (q - ahead c p d.roll) in
      (omega (arith, length_push d.tape (Print r.number p q (low_of d.range) (high_of d.range))), omega (arith, filed_alter r.number (fill q) (filed_fill q) (deal c p d.roll gs), filed_deal c p d.roll gs))

  -- what settling the first of the line may add
  pub record Settled (d e : Day) : Type 0 where
    pub count : count e ≤ suc (count d)
    pub filed : filed e.roll ≤ filed d.roll
    pub out : (e.paused ≡ true) ⊎ (length e.line < length d.line)

  leave_settled : (n : ℕ) (ns : List ℕ) (d : Day) → d.line ≡ n ∷ ns → Settled d (leave n d)
  unfolding leave
  leave_settled n ns d e = record { count = omega arith; filed = omega arith; out = inr (first_out gifts n ns d.line e) }

  withdraw_settled : (n : ℕ) (ns : List ℕ) (d : Day) → d.line ≡ n ∷ ns → Settled d (withdraw n d)
  unfolding withdraw
  withdraw_settled n ns d e = record { count = omega (arith, length_push d.tape (Cancel n (left n d.roll))); filed = filed_alter n cancel (λ o. omega arith) d.roll; out = inr (first_out gifts n ns d.line e) }

  rest_settled : (n : ℕ) (ns : List ℕ) (d : Day) → d.line ≡ n ∷ ns → Settled d (rest n d)
  unfolding rest
  rest_settled n ns d e = record { count = omega arith; filed = filed_alter n (put Book) (λ o. omega arith) d.roll; out = inr (first_out gifts n ns d.line e) }

  stay_settled : (d : Day) → Settled d (pause true d)
  unfolding pause
  stay_settled d = record { count = omega arith; filed = omega arith; out = inl refl }

  stop_settled : (n : ℕ) (ns : List ℕ) (d : Day) → d.line ≡ n ∷ ns → Settled d (pause true (withdraw n d))
  unfolding pause
  stop_settled n ns d e = let h : Settled d (withdraw n d) = withdraw_settled n ns d e in record { count = h.count; filed = h.filed; out = inl refl }

  residual_settled : (n : ℕ) (ns : List ℕ) (b : Bool) (k : Kind) (d : Day) → d.line ≡ n ∷ ns → Settled d (residual n b k d)
  residual_settled n ns true Limit d e = stay_settled d
  residual_settled n ns true Market d e = stay_settled d
  residual_settled n ns true Stop d e = stay_settled d
  residual_settled n ns true ImmediateOrCancel d e = stop_settled n ns d e
  residual_settled n ns false Limit d e = rest_settled n ns d e
  residual_settled n ns false Market d e = withdraw_settled n ns d e
  residual_settled n ns false Stop d e = withdraw_settled n ns d e
  residual_settled n ns false ImmediateOrCancel d e = withdraw_settled n ns d e

  pub settle_settled : (r : Order) (ns : List ℕ) (d : Day) → d.line ≡ r.number ∷ ns → Settled d (settle r d)
  unfolding settle
  settle_settled r ns d e = go (left r.number d.roll)
    where
      go : (l : ℕ) → Settled d (settle_of l r.number (any (is_contra r) d.roll) r.kind d)
      go zero = leave_settled r.number ns d e
      go (suc l) = residual_settled r.number ns (any (is_contra r) d.roll) r.kind d e

  elect_within : (k : ℕ) (x : Option ℕ) (d : Day) → Within' k d → Within' k (elect_at x d)
  elect_within k None d h = h
  elect_within k (Some p) d (inl h) = inl (elect_paused p d ∙ h.0, omega (arith, (elect_tally p d).0, h.1))
  elect_within k (Some p) d (inr h) = inr (omega (arith, (elect_tally p d).1))

  centre_within : (k : ℕ) (g : Option Range) (x : Option ℕ) (d : Day) → Within' k d → Within' k (centre_if g x d)
  unfolding centre
  centre_within k None None d h = h
  centre_within k None (Some p) d h = h
  centre_within k (Some g) x d h = h

  settled_within : (d d₂ s : Day) (k f : ℕ) → length d₂.line ≡ length d.line → 1 ≤ length d.line → k ≤ suc (count d) → f ≤ filed d.roll → count d₂ ≤ suc k → filed d₂.roll ≤ f
      → Settled d₂ s → Within' (bound d) s
  settled_within d d₂ s k f l one a b c e h = ⊎_elim (λ p. inl (p, omega (arith, h.count, h.filed))) (λ lt. inr (omega (arith, lt, h.count, h.filed))) h.out

  run_within : (r : Order) (ns : List ℕ) (d : Day) → d.line ≡ r.number ∷ ns → Within' (bound d) (run gifts r d)
  unfolding run
  run_within r ns d e =
      let a : Option ℕ = first_price r d in
      let d₁ : Day = print_at gifts r a d in
      let b : Option ℕ = next_price a r d₁ in
      let d₂ : Day = print_at gifts r b d₁ in
      let l : d₂.line ≡ d.line = print_line gifts r b d₁ ∙ print_line gifts r a d in
      let n : length d.line ≡ suc (length ns) = ap length e in
      centre_within (bound d) d.range a _ (elect_within (bound d) b _ (elect_within (bound d) a _
      (settled_within d d₂ (settle r d₂) (count d₁) (filed d₁.roll) (ap length l) (omega arith) (print_more r a d).0 (print_more r a d).1 (print_more r b d₁).0 (print_more r b d₁).1
      (settle_settled r ns d₂ (l ∙ e)))))

  turn_within : (d : Day) → Within' (bound d) (turn gifts d)
  unfolding turn
  turn_within d = go d.paused d.line refl refl
    where
      at : (n : ℕ) (ns : List ℕ) (x : Option Order) → look n d.roll ≡ x → d.line ≡ n ∷ ns → Within' (bound d) (run_of gifts n x d)
      at n ns None i e =
          settled_within d d (leave n d) (count d) (filed d.roll) refl (let n : length d.line ≡ suc (length ns) = ap length e in omega arith) (omega arith) (omega arith) (omega arith) (omega arith) (leave_settled n ns d e)
      at n ns (Some r) i e = run_within r ns d (e ∙ ap (λ m. m ∷ ns) (sym (look_number n d.roll r i)))

      go : (b : Bool) (ns : List ℕ) → d.paused ≡ b → d.line ≡ ns → Within' (bound d) (turn_of gifts b ns d)
      go true ns p e = inr (omega arith)
      go false [] p e = inr (omega arith)
      go false (n ∷ ns) p e = at n ns (look n d.roll) refl e

  pub paused_still : (k : ℕ) (d : Day) → d.paused ≡ true → turns gifts k d ≡ d
  unfolding turns turn
  paused_still zero d e = refl
  paused_still (suc k) d e = ap (λ b. turns gifts k (turn_of gifts b d.line d)) e ∙ paused_still k d e

  turns_within : (k : ℕ) (d : Day) → count (turns gifts k d) ≤ bound d
  unfolding turns
  turns_within zero d = omega arith
  turns_within (suc k) d = ⊎_elim
      (λ h. subst (λ e. count e ≤ bound d) (sym (paused_still k (turn gifts d) h.0)) (omega (arith, h.1)))
      (λ h. omega (arith, h, turns_within k (turn gifts d))) (turn_within d)

  work_within : (d : Day) → count (work gifts d) ≤ bound d
  unfolding work
  work_within d = turns_within (busy d) d

  -- calls
  admit_busy : (o : Order) (w : Place) (d : Day) → (count (admit o w d) ≡ count d) × (length (admit o w d).line + filed (admit o w d).roll ≤ suc (busy d))
  unfolding admit busy
  admit_busy o w d = (refl, go w (put_place w o) (total_push (λ x. only (is_filed x.place) 1) d.roll (put w o)))
    where
      go : (w : Place) → (put w o).place ≡ w → filed (d.roll ++ (put w o ∷ [])) ≡ filed d.roll + only (is_filed (put w o).place) 1
          → length (line_with w o.number d.line) + filed (d.roll ++ (put w o ∷ [])) ≤ suc (length d.line + filed d.roll)
      go Book e h = omega (arith, h, ap (λ x. only (is_filed x) 1) e)
      go Line e h = omega (arith, h, ap (λ x. only (is_filed x) 1) e, length_push d.line o.number)
      go StopFile e h = omega (arith, h, ap (λ x. only (is_filed x) 1) e)
      go Nowhere e h = omega (arith, h, ap (λ x. only (is_filed x) 1) e)

  join_within : (o : Order) (d : Day) → count (join gifts o d) ≤ count d + need 1 d
  unfolding join withdraw admit
  join_within o d = go d.paused o.kind (start_place o.kind (any (is_contra o) d.roll))
    where
      off : (w : Place) → count (work gifts (admit o w d)) ≤ count d + need 1 d
      off w = omega (arith, work_within (admit o w d), (admit_busy o w d).0, (admit_busy o w d).1)

      go : (b : Bool) (k : Kind) (w : Place) → count (join_of gifts b k o w d) ≤ count d + need 1 d
      go true ImmediateOrCancel w = omega (arith, length_push d.tape (Cancel o.number (left o.number (d.roll ++ (put Line o ∷ [])))))
      go true Limit w = off w
      go true Market w = off w
      go true Stop w = off w
      go false k w = off w

  became_within : (d : Day) (c : Call) → count (became gifts d c) ≤ count d + wants d c
  unfolding became set_up to floored resumed admit withdraw centre busy
  became_within d (Set k c p) = omega arith
  became_within d (LoadLimit s m p q) = omega arith
  became_within d (LoadStop s m p q) = omega arith
  became_within d Open = omega arith
  became_within d (Enter k s m p q f) = join_within (fresh k s m p q d.roll) d
  became_within d (CancelOrder m n f) = omega (arith, length_push d.tape (Cancel n (left n d.roll)))
  became_within d (FloorTrade p q f) = omega (arith, work_within (elect p (floored p q d)), (elect_tally p (floored p q d)).1, length_push d.tape (Floor p q))
  became_within d (Resume f) = omega (arith, work_within (resumed d))
  became_within d Close = omega arith

  pub step_within : (room : ℕ) (d : Day) (c : Call) → count (step gifts room d c).day ≤ count d + wants d c
  unfolding step perform
  step_within room d c = decided_keeps (λ e. count e ≤ count d + wants d c) (refusal (checks room d c)) d (perform gifts d c) (omega arith) (λ e. became_within d c)

length_beyond : {A : Type 0} (xs ys : List A) → length (beyond xs ys) ≡ length ys - length xs
length_beyond [] ys = omega arith
length_beyond (x ∷ xs) [] = omega arith
length_beyond (x ∷ xs) (y ∷ ys) = omega (arith, length_beyond xs ys)

pub tape_suffices : TapeSuffices
tape_suffices gifts lawful room cs c =
    let d : Day = after_calls gifts room new_day cs in
    let e : Day = (step gifts room d c).day in
    omega (arith, step_within gifts room d c, length_beyond d.tape e.tape)
