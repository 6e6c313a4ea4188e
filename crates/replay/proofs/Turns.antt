-- Nobody waits unless trading is paused; bid below offer (pieces).
use Rattle.std.proofs.Common.{◌≡◌, ℕ, zero, suc, ◌+◌, ◌-◌, ◌<◌, ◌≤◌, Bool, true, false, cond, not, ◌&&◌, eqb, ◌⊎◌, List, [], ◌∷◌, map, length, Some, None, Option, sym, refl, ap, ◌∙◌, subst, inl, inr, ⊎_elim, arith}
use Rattle.std.proofs.lemmas.Bool.{eq-eqb}
use Rattle.std.specs.List.{AllByRecursion}
use Rattle.market.specs.declared.words.Side.{Side}
use Rattle.market.specs.declared.words.Kind.{Kind}
use Rattle.market.specs.declared.words.Kind.TheVariants.{Limit, Market, ImmediateOrCancel, Stop}
use Rattle.market.specs.declared.words.Place.TheVariants.{Book, Nowhere}
use Rattle.market.specs.declared.words.Order.{Order}
use Rattle.market.specs.declared.words.Range.{Range}
use Rattle.market.specs.Sides.{opposite, as_good}
use Rattle.market.specs.Orders.{fill, cancel, put}
use Rattle.sharing.specs.Shares.{LawfulRule}
use Rattle.replay.specs.Lists.{only, those, kept, any}
use Rattle.replay.specs.Days.{Day, Rule}
use Rattle.replay.specs.Rolls.{is_filed, look, alter, here, left, filed}
use Rattle.replay.specs.Book.{row, ahead, is_at, is_better, is_contra}
use Rattle.replay.specs.Moves.{deal, after, size, trade, leave, withdraw, rest, pause, elect, is_elected, called, centre, without}
use Rattle.replay.specs.Runs.{first_price, next_price, print_at, residual, settle_of, settle, elect_at, centre_if, run, run_of, turn_of, turn, turns, work, busy}
use Rattle.replay.proofs.Lists.{length_append, length_map}
use Rattle.replay.proofs.Moves.{Waits}
use Rattle.replay.proofs.Runs.{Sound, look_number, turn_sound}
use Rattle.replay.proofs.Rolls.{dealt_is}

-- nobody waits unless paused: each turn either pauses or lessens what is waiting and filed --------------------------------------------------
abbrev pub Idle : Day → Type 0
Idle d = (d.paused ≡ true) ⊎ (d.line ≡ [])

-- elections move orders from the file to the line: waiting and filed together stay
pub without_less : (n : ℕ) (ns : List ℕ) → length (without n ns) ≤ length ns
without_less n [] = omega arith
without_less n (m ∷ ns) = go (eqb m n) (without_less n ns)
  where
    go : (b : Bool) → length (without n ns) ≤ length ns → length (kept (not b) m (without n ns)) ≤ suc (length ns)
    go true h = omega arith
    go false h = omega arith

pub without_first_lem : (n : ℕ) (ns : List ℕ) → length (without n (n ∷ ns)) ≤ length ns
without_first_lem n ns = subst (λ b. length (kept (not b) n (without n ns)) ≤ length ns) (sym (eq-eqb n n refl)) (without_less n ns)

pub filed_called : (p : ℕ) (os : List Order) → length (those (is_elected p) os) + filed (map (λ o. called (is_elected p o) o) os) ≡ filed os
filed_called p [] = refl
filed_called p (o ∷ os) = go (is_filed o.place) (as_good o.side p o.price) refl (filed_called p os)
  where
    go : (b t : Bool) → is_filed o.place ≡ b → length (those (is_elected p) os) + filed (map (λ o. called (is_elected p o) o) os) ≡ filed os
        → length (kept (b && t) o (those (is_elected p) os)) + (only (is_filed (called (b && t) o).place) 1 + filed (map (λ o. called (is_elected p o) o) os)) ≡ only b 1 + filed os
    go true true e ih = omega arith
    go true false e ih = rw e (omega arith)
    go false t e ih = rw e (omega arith)

pub busy_elect : (p : ℕ) (d : Day) → busy (elect p d) ≡ busy d
unfolding busy elect
busy_elect p d =
    omega (arith, length_append d.line (map (λ o. o.number) (those (is_elected p) d.roll)), length_map (λ (o : Order). o.number) (those (is_elected p) d.roll), filed_called p d.roll)

-- filling and striking file nobody
pub filed_fill : (q : ℕ) (o : Order) → only (is_filed (fill q o).place) 1 ≤ only (is_filed o.place) 1
filed_fill q o = go (eqb (o.«open» - q) 0)
  where
    go : (b : Bool) → only (is_filed (cond b Nowhere o.place)) 1 ≤ only (is_filed o.place) 1
    go true = omega arith
    go false = omega arith

pub filed_deal : (c : Side) (p : ℕ) (os : List Order) (gs : List ℕ) → filed (deal c p os gs) ≤ filed os
unfolding deal
filed_deal c p [] gs = omega arith
filed_deal c p (o ∷ os) gs = omega (arith, dealt_is (λ u. only (is_filed u.place) 1 ≤ only (is_filed o.place) 1) (is_better c p o) (is_at c p o) gs o (λ q. filed_fill q o) (omega arith), filed_deal c p os (after (is_at c p o) gs))

pub filed_alter : (n : ℕ) (f : Order → Order) → ((o : Order) → only (is_filed (f o).place) 1 ≤ only (is_filed o.place) 1) → (os : List Order) → filed (alter n f os) ≤ filed os
unfolding alter
filed_alter n f k [] = omega arith
filed_alter n f k (o ∷ os) = go (eqb o.number n) (filed_alter n f k os)
  where
    go : (b : Bool) → filed (alter n f os) ≤ filed os → filed (here b f o os (alter n f os)) ≤ only (is_filed o.place) 1 + filed os
    go true ih = omega (arith, k o)
    go false ih = omega arith

pub elect_paused : (p : ℕ) (d : Day) → (elect p d).paused ≡ d.paused
unfolding elect
elect_paused p d = refl

module _ (gifts : Rule) where
  busy_print : (r : Order) (x : Option ℕ) (d : Day) → busy (print_at gifts r x d) ≤ busy d
  unfolding busy trade
  busy_print r None d = omega arith
  busy_print r (Some p) d =
      let c : Side = opposite r.side in
      let q : ℕ = size r.number c p d.roll in
      let gs : List ℕ = gifts (row c p d.roll) (q - ahead c p d.roll) in
      omega (arith, filed_alter r.number (fill q) (filed_fill q) (deal c p d.roll gs), filed_deal c p d.roll gs)

  pub print_line : (r : Order) (x : Option ℕ) (d : Day) → (print_at gifts r x d).line ≡ d.line
  unfolding trade
  print_line r None d = refl
  print_line r (Some p) d = refl

  -- settling the first order of the line pauses, or leaves fewer
  abbrev pub Less : ℕ → Day → Type 0
  Less k d = (d.paused ≡ true) ⊎ (busy d < k)

  pub first_out : (n : ℕ) (ns ls : List ℕ) → ls ≡ n ∷ ns → length (without n ls) < length ls
  first_out n ns ls e = subst (λ x. length (without n x) < length x) (sym e) (omega (arith, without_first_lem n ns))

  pub leave_less : (n : ℕ) (ns : List ℕ) (d : Day) → d.line ≡ n ∷ ns → busy (leave n d) < busy d
  unfolding leave busy
  leave_less n ns d e = omega (arith, first_out n ns d.line e)

  withdraw_less : (n : ℕ) (ns : List ℕ) (d : Day) → d.line ≡ n ∷ ns → busy (withdraw n d) < busy d
  unfolding withdraw busy
  withdraw_less n ns d e = omega (arith, first_out n ns d.line e, filed_alter n cancel (λ o. omega arith) d.roll)

  rest_less : (n : ℕ) (ns : List ℕ) (d : Day) → d.line ≡ n ∷ ns → busy (rest n d) < busy d
  unfolding rest busy
  rest_less n ns d e = omega (arith, first_out n ns d.line e, filed_alter n (put Book) (λ o. omega arith) d.roll)

  residual_less : (n : ℕ) (ns : List ℕ) (b : Bool) (k : Kind) (d : Day) → d.line ≡ n ∷ ns → Less (busy d) (residual n b k d)
  unfolding pause
  residual_less n ns true Limit d e = inl refl
  residual_less n ns true Market d e = inl refl
  residual_less n ns true Stop d e = inl refl
  residual_less n ns true ImmediateOrCancel d e = inl refl
  residual_less n ns false Limit d e = inr (rest_less n ns d e)
  residual_less n ns false Market d e = inr (withdraw_less n ns d e)
  residual_less n ns false Stop d e = inr (withdraw_less n ns d e)
  residual_less n ns false ImmediateOrCancel d e = inr (withdraw_less n ns d e)

  pub settle_less : (r : Order) (ns : List ℕ) (d : Day) → d.line ≡ r.number ∷ ns → Less (busy d) (settle r d)
  unfolding settle
  settle_less r ns d e = go (left r.number d.roll)
    where
      go : (l : ℕ) → Less (busy d) (settle_of l r.number (any (is_contra r) d.roll) r.kind d)
      go zero = inr (leave_less r.number ns d e)
      go (suc l) = residual_less r.number ns (any (is_contra r) d.roll) r.kind d e

  elect_less : (k : ℕ) (x : Option ℕ) (d : Day) → Less k d → Less k (elect_at x d)
  elect_less k None d h = h
  elect_less k (Some p) d (inl e) = inl (elect_paused p d ∙ e)
  elect_less k (Some p) d (inr h) = inr (subst (λ b. b < k) (sym (busy_elect p d)) h)

  centre_less : (k : ℕ) (g : Option Range) (x : Option ℕ) (d : Day) → Less k d → Less k (centre_if g x d)
  unfolding centre busy
  centre_less k None None d h = h
  centre_less k None (Some p) d (inl e) = inl e
  centre_less k None (Some p) d (inr h) = inr h
  centre_less k (Some g) x d h = h

  less_le : (j k : ℕ) (d : Day) → j ≤ k → Less j d → Less k d
  less_le j k d le (inl e) = inl e
  less_le j k d le (inr h) = inr (omega arith)

  pub run_less : (r : Order) (ns : List ℕ) (d : Day) → d.line ≡ r.number ∷ ns → Less (busy d) (run gifts r d)
  unfolding run
  run_less r ns d e =
      let a : Option ℕ = first_price r d in
      let d₁ : Day = print_at gifts r a d in
      let b : Option ℕ = next_price a r d₁ in
      let d₂ : Day = print_at gifts r b d₁ in
      less_le (busy d₂) (busy d) _ (omega (arith, busy_print r a d, busy_print r b d₁))
      (centre_less (busy d₂) d.range a _ (elect_less (busy d₂) b _ (elect_less (busy d₂) a _ (settle_less r ns d₂ (print_line r b d₁ ∙ print_line r a d ∙ e)))))

  turn_less : (d : Day) → AllByRecursion (Waits d.roll) d.line → Less (busy d) (turn gifts d) ⊎ (d.line ≡ [])
  unfolding turn
  turn_less d w = go d.paused d.line refl refl w
    where
      at : (n : ℕ) (ns : List ℕ) (x : Option Order) → look n d.roll ≡ x → d.line ≡ n ∷ ns → Less (busy d) (run_of gifts n x d)
      at n ns None i e = inr (leave_less n ns d e)
      at n ns (Some r) i e = run_less r ns d (e ∙ ap (λ m. m ∷ ns) (sym (look_number n d.roll r i)))

      go : (b : Bool) (ns : List ℕ) → d.paused ≡ b → d.line ≡ ns → AllByRecursion (Waits d.roll) ns → Less (busy d) (turn_of gifts b ns d) ⊎ (ns ≡ [])
      go true ns p e w = inl (inl p)
      go false [] p e w = inr refl
      go false (n ∷ ns) p e w = inl (at n ns (look n d.roll) refl e)

  stopped : (k : ℕ) (d : Day) → d.paused ≡ true → (turns gifts k d).paused ≡ true
  unfolding turns turn
  stopped zero d e = e
  stopped (suc k) d e = subst (λ b. (turns gifts k (turn_of gifts b d.line d)).paused ≡ true) (sym e) (stopped k d e)

  pub empty : (k : ℕ) (d : Day) → d.line ≡ [] → turns gifts k d ≡ d
  unfolding turns turn
  empty zero d e = refl
  empty (suc k) d e = ap (λ ns. turns gifts k (turn_of gifts d.paused ns d)) e ∙ go d.paused (empty k d e)
    where
      go : (b : Bool) → turns gifts k d ≡ d → turns gifts k (turn_of gifts b [] d) ≡ d
      go true ih = ih
      go false ih = ih

  none : (ns : List ℕ) → length ns ≡ 0 → ns ≡ []
  none [] e = refl
  none (n ∷ ns) e = absurd (omega arith)

  -- enough turns: nobody waits unless trading is paused
  pub enough : LawfulRule gifts → (k : ℕ) (d : Day) → Sound d → busy d ≤ k → Idle (turns gifts k d)
  unfolding turns busy
  enough lw zero d s h = inr (none d.line (omega arith))
  enough lw (suc k) d s h = ⊎_elim
      (λ l. ⊎_elim (λ p. inl (stopped k (turn gifts d) p)) (λ b. enough lw k (turn gifts d) (turn_sound gifts lw d s) (omega arith)) l)
      (λ e. inr (ap (λ (x : Day). x.line) (empty (suc k) d e) ∙ e)) (turn_less d s.line)

  pub work_idle : LawfulRule gifts → (d : Day) → Sound d → Idle (work gifts d)
  unfolding work
  work_idle lw d s = enough lw (busy d) d s (omega arith)
