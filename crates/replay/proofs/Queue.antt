-- Nobody is in line twice; so waiting orders and filed stops are never more than the orders of the roll, and 2,049 free lines always suffice.
use Rattle.std.proofs.Common.{◌≡◌, ℕ, suc, ◌+◌, ◌<◌, ◌≤◌, Bool, true, false, not, ◌||◌, eqb, ltb, List, [], ◌∷◌, ◌++◌, length, Some, None, Option, sym, refl, ap, ◌∙◌, subst, arith}
use Rattle.std.proofs.lemmas.Bool.{false≢true, and_parts, eq-eqb, eqb-true, le-ltb, leb-false}
use Rattle.std.specs.List.{AllByRecursion}
use Rattle.market.specs.declared.words.Side.TheVariants.{Buy, Sell}
use Rattle.market.specs.declared.words.Place.{Place}
use Rattle.market.specs.declared.words.Place.TheVariants.{Book, Line, StopFile, Nowhere}
use Rattle.market.specs.declared.words.Order.{Order}
use Rattle.market.specs.Sides.{as_good}
use Rattle.market.specs.Orders.{cancel}
use Rattle.sharing.specs.Shares.{LawfulRule}
use Rattle.replay.specs.Lists.{only, total, those, kept}
use Rattle.replay.specs.Days.{Trading, Day, Rule, Call, Set, LoadLimit, LoadStop, Open, Enter, CancelOrder, FloorTrade, Resume, Close, new_day}
use Rattle.replay.specs.Rolls.{is_filed, is_waiting, look, found, alter, filed, fresh, member_of, absent, open_of, place_of}
use Rattle.replay.specs.Moves.{trade, leave, withdraw, rest, pause, elect, is_elected, centre, without, line_with, admit, floored, resumed, set_up, to}
use Rattle.replay.specs.Runs.{busy}
use Rattle.replay.specs.Calls.{need, Check, check, refusal, first_of, only_in, order_checks, file_full, resting_at, checks, after_calls}
use Rattle.replay.specs.Lines.{free_lines, NeverShort}
use Rattle.replay.proofs.Lists.{all_append, all_map}
use Rattle.replay.proofs.Rolls.{val, total_alter}
use Rattle.replay.proofs.Moves.{Waits}
use Rattle.replay.proofs.Runs.{Sound, Counted, numbers, waiter}
use Rattle.replay.proofs.Calls.{calls_sound, new_sound}
use Rattle.replay.proofs.Keeps.{Keeps, always}
use Rattle.replay.proofs.Idle.{look_past}
use Rattle.market.specs.Bounds.{is_price, is_shares}

abbrev pub Once : List ℕ → Type 0
Once [] = Unit {0}
Once (n ∷ ns) = AllByRecursion (λ m. m ≡ n → ⊥) ns × Once ns

all_those : {A : Type 0} (Q : A → Type 0) (t : A → Bool) (xs : List A) → AllByRecursion Q xs → AllByRecursion Q (those t xs)
all_those Q t [] a = tt
all_those Q t (x ∷ xs) a = go (t x) (all_those Q t xs a.1)
  where
    go : (b : Bool) → AllByRecursion Q (those t xs) → AllByRecursion Q (kept b x (those t xs))
    go true ih = (a.0, ih)
    go false ih = ih

once_without : (n : ℕ) (ns : List ℕ) → Once ns → Once (without n ns)
once_without n [] o = tt
once_without n (m ∷ ns) o = go (not (eqb m n)) (once_without n ns o.1)
  where
    go : (b : Bool) → Once (without n ns) → Once (kept b m (without n ns))
    go true ih = (all_those (λ k. k ≡ m → ⊥) (λ k. not (eqb k n)) ns o.0, ih)
    go false ih = ih

once_append : (ns ms : List ℕ) → Once ns → Once ms → AllByRecursion (λ n. AllByRecursion (λ m. m ≡ n → ⊥) ms) ns → Once (ns ++ ms)
once_append [] ms o p a = p
once_append (n ∷ ns) ms o p a = (all_append (λ m. m ≡ n → ⊥) ns ms o.0 a.0, once_append ns ms o.1 p a.1)

-- numbers of elected stops
elected_above : (t : Order → Bool) (k j : ℕ) (os : List Order) → k < j → Counted j (numbers os) → AllByRecursion (λ m. m ≡ k → ⊥) (numbers (those t os))
elected_above t k j [] h c = tt
elected_above t k j (o ∷ os) h c = go (t o) (elected_above t k (suc j) os (omega arith) c.1)
  where
    go : (b : Bool) → AllByRecursion (λ m. m ≡ k → ⊥) (numbers (those t os)) → AllByRecursion (λ m. m ≡ k → ⊥) (numbers (kept b o (those t os)))
    go true ih = ((λ e. omega (arith, c.0)), ih)
    go false ih = ih

elected_once : (t : Order → Bool) (k : ℕ) (os : List Order) → Counted k (numbers os) → Once (numbers (those t os))
elected_once t k [] c = tt
elected_once t k (o ∷ os) c = go (t o) (elected_once t (suc k) os c.1)
  where
    go : (b : Bool) → Once (numbers (those t os)) → Once (numbers (kept b o (those t os)))
    go true ih = (elected_above t o.number (suc k) os (omega (arith, c.0)) c.1, ih)
    go false ih = ih

-- who waits is not elected
not_elected : (p n k : ℕ) (os : List Order) → Counted k (numbers os) → Waits os n → AllByRecursion (λ m. m ≡ n → ⊥) (numbers (those (is_elected p) os))
unfolding look
not_elected p n k [] c w = tt
not_elected p n k (o ∷ os) c w = go (is_elected p o) (eqb o.number n) refl refl w (λ w. not_elected p n (suc k) os c.1 w)
  where
    out : {A : Type 0} → is_elected p o ≡ true → o.place ≡ Line → A
    out e w = absurd (false≢true (sym (ap is_filed w) ∙ (and_parts (is_filed o.place) (as_good o.side p o.price) e).0))

    go : (t b : Bool) → is_elected p o ≡ t → eqb o.number n ≡ b → place_of (found b o (look n os)) ≡ Line → (Waits os n → AllByRecursion (λ m. m ≡ n → ⊥) (numbers (those (is_elected p) os)))
        → AllByRecursion (λ m. m ≡ n → ⊥) (numbers (kept t o (those (is_elected p) os)))
    go true true f e w ih = out f w
    go true false f e w ih = ((λ h. false≢true (sym e ∙ same h)), ih w)
      where
        same : o.number ≡ n → eqb o.number n ≡ true
        same h = eq-eqb o.number n h
    go false true f e w ih = elected_above (is_elected p) n (suc k) os (let z : o.number ≡ n = eqb-true o.number n e in omega (arith, c.0)) c.1
    go false false f e w ih = ih w

-- a number in line is on the roll
counted_most : (k n : ℕ) (os : List Order) → Counted k (numbers os) → Waits os n → n < k + length os
unfolding look
counted_most k n [] c w = absurd (let z : ◌≡◌ {A = ℕ} 0 1 = cc in omega arith)
counted_most k n (o ∷ os) c w = go (eqb o.number n) refl w (counted_most (suc k) n os c.1)
  where
    go : (b : Bool) → eqb o.number n ≡ b → place_of (found b o (look n os)) ≡ Line → (Waits os n → n < suc k + length os) → n < k + suc (length os)
    go true e w ih = let z : o.number ≡ n = eqb-true o.number n e in omega (arith, c.0)
    go false e w ih = omega (arith, ih w)

line_once : (w : Place) (n : ℕ) (ns : List ℕ) → Once ns → AllByRecursion (λ m. m < n) ns → Once (line_with w n ns)
line_once Book n ns o a = o
line_once Line n ns o a = once_append ns (n ∷ []) o (tt, tt) (all_map _ _ ns (λ m h. ((λ e. omega arith), tt)) a)
line_once StopFile n ns o a = o
line_once Nowhere n ns o a = o

module _ (gifts : Rule) (lawful : LawfulRule gifts) where
  once_keeps : Keeps gifts lawful (λ d. Once d.line)
  unfolding trade leave withdraw rest pause elect centre admit floored resumed set_up to fresh
  once_keeps = record {
    trade = λ r p d m k o. o;
    leave = λ r d m e o. once_without r.number d.line o;
    withdraw = λ n d c o. once_without n d.line o;
    rest = λ r d m w e c o. once_without r.number d.line o;
    pause = λ d o. o;
    elect = λ p d s o. once_append d.line (numbers (those (is_elected p) d.roll)) o (elected_once (is_elected p) 1 d.roll s.counted)
        (all_map _ _ d.line (λ n w. not_elected p n 1 d.roll s.counted w) s.line);
    centre = λ d o. o;
    admit = λ k s m p q w d sd ch pl o. line_once w (suc (length d.roll)) d.line o (all_map _ _ d.line (λ n h. omega (arith, counted_most 1 n d.roll sd.counted h)) sd.line);
    floored = λ p q d _ o. o;
    resumed = λ d o. o;
    set_up = λ k c p d _ _ o. o;
    to = λ f d o. o;
  }

new_once : Once new_day.line
unfolding new_day
new_once = tt

-- the line is no longer than the waiting orders are many
abbrev waiting : List Order → ℕ
waiting os = total (λ o. only (is_waiting o.place) 1) os

cancel_number : (o : Order) → (cancel o).number ≡ o.number
cancel_number o = refl

one_less : (n : ℕ) (os : List Order) (r : Order) → look n os ≡ Some r → r.place ≡ Line → suc (waiting (alter n cancel os)) ≡ waiting os
one_less n os r i w =
    let h : waiting (alter n cancel os) + 1 ≡ waiting os + 0
    = ap (λ x. waiting (alter n cancel os) + only (is_waiting x) 1) (sym w) ∙ subst (λ y. waiting (alter n cancel os) + val (λ o. only (is_waiting o.place) 1) y ≡ waiting os + val (λ o. only (is_waiting (cancel o).place) 1) y) i
    (total_alter (λ o. only (is_waiting o.place) 1) n cancel os) in
    omega arith

line_most : (ns : List ℕ) (os : List Order) → Once ns → AllByRecursion (Waits os) ns → length ns ≤ waiting os
line_most [] os o a = omega arith
line_most (n ∷ ns) os o a =
    let x : (r : Order) × (look n os ≡ Some r) × (r.place ≡ Line) = waiter os n a.0 in
    omega (arith, one_less n os x.0 x.1 x.2, line_most ns (alter n cancel os) o.1 (still ns o.0 a.1))
  where
    still : (ms : List ℕ) → AllByRecursion (λ m. m ≡ n → ⊥) ms → AllByRecursion (Waits os) ms → AllByRecursion (Waits (alter n cancel os)) ms
    still [] x y = tt
    still (m ∷ ms) x y = (ap place_of (look_past m n cancel os cancel_number x.0) ∙ y.0, still ms x.1 y.1)

places : (os : List Order) → waiting os + filed os ≤ length os
places [] = omega arith
places (o ∷ os) = omega (arith, go o.place, places os)
  where
    go : (w : Place) → only (is_waiting w) 1 + only (is_filed w) 1 ≤ 1
    go Book = omega arith
    go Line = omega arith
    go StopFile = omega arith
    go Nowhere = omega arith

pub busy_most : (d : Day) → Sound d → Once d.line → busy d ≤ length d.roll
unfolding busy
busy_most d s o = omega (arith, line_most d.line d.roll o s.line, places d.roll)

-- so no call is refused for want of lines that has 2,049
abbrev Other : Check → Type 0
Other c = c.code ≡ 44 → ⊥

none_some : {A : Type 0} → ◌≡◌ {A = Option ℕ} None (Some 44) → A
none_some e = absurd (let z : ◌≡◌ {A = ℕ} 0 1 = cc in omega arith)

never : (cs : List Check) → AllByRecursion Other cs → refusal cs ≡ Some 44 → ⊥
never [] a e = none_some e
never (c ∷ cs) a e = go c.fails e (never cs a.1)
  where
    go : (b : Bool) → first_of b c.code (refusal cs) ≡ Some 44 → (refusal cs ≡ Some 44 → ⊥) → ⊥
    go true e ih = a.0 cc
    go false e ih = ih e

last_fails : (cs : List Check) (z : Check) → AllByRecursion Other cs → refusal (cs ++ (z ∷ [])) ≡ Some 44 → AllByRecursion (λ (c : Check). c.fails ≡ false) cs × (z.fails ≡ true)
last_fails [] z a e = (tt, go z.fails e)
  where
    go : (b : Bool) → first_of b z.code None ≡ Some 44 → b ≡ true
    go true e = refl
    go false e = none_some e
last_fails (c ∷ cs) z a e = go c.fails refl e (last_fails cs z a.1)
  where
    go : (b : Bool) → c.fails ≡ b → first_of b c.code (refusal (cs ++ (z ∷ []))) ≡ Some 44
        → (refusal (cs ++ (z ∷ [])) ≡ Some 44 → AllByRecursion (λ (c : Check). c.fails ≡ false) cs × (z.fails ≡ true)) → ((c.fails ≡ false) × AllByRecursion (λ (c : Check). c.fails ≡ false) cs) × (z.fails ≡ true)
    go true f e ih = absurd (a.0 cc)
    go false f e ih = let r : AllByRecursion (λ (c : Check). c.fails ≡ false) cs × (z.fails ≡ true) = ih e in ((f, r.0), r.1)

short : (f n : ℕ) → ltb f n ≡ true → n ≤ f → ⊥
short f n e h = false≢true (sym (le-ltb f n h) ∙ e)

enough : (room : ℕ) (d : Day) (c : Call) → busy d ≤ length d.roll → length d.roll ≤ 512 → 2049 ≤ free_lines c → refusal (checks room d c) ≡ Some 44 → ⊥
unfolding checks
enough room d (Set k c p) b l f e = never (checks room d (Set k c p)) (omega arith) e
enough room d (LoadLimit s m p q) b l f e = never (checks room d (LoadLimit s m p q)) (omega arith) e
enough room d (LoadStop s m p q) b l f e = never (checks room d (LoadStop s m p q)) (omega arith) e
enough room d Open b l f e = never (checks room d Open) (omega arith) e
enough room d (Enter k s m p q g) b l f e =
    let cs : List Check = only_in Trading d ∷ order_checks k m p q d ++ (file_full room k d ∷ []) in
    let r : AllByRecursion (λ (c : Check). c.fails ≡ false) cs × (ltb g (need 1 d) ≡ true) = last_fails cs (check (ltb g (need 1 d)) 44) (omega arith) e in
    short g (need 1 d) r.1 (omega (arith, leb-false 512 (length d.roll) r.0.1.1.1.1.0))
enough room d (CancelOrder m n g) b l f e =
    let r : Option Order = look n d.roll in
    let cs : List Check = only_in Trading d ∷ check (absent r) 51 ∷ check (not (eqb (member_of r) m)) 52 ∷ check (eqb (open_of r) 0) 53 ∷ [] in
    let x : AllByRecursion (λ (c : Check). c.fails ≡ false) cs × (eqb g 0 ≡ true) = last_fails cs (check (eqb g 0) 44) (omega arith) e in
    let z : g ≡ 0 = eqb-true g 0 x.1 in omega arith
enough room d (FloorTrade p q g) b l f e =
    let cs : List Check = only_in Trading d ∷ check (not (is_price p)) 41 ∷ check (not (is_shares q)) 42
    ∷ check (resting_at (λ b. ltb p b) Buy d.roll || resting_at (λ b. ltb b p) Sell d.roll) 61 ∷ [] in
    let r : AllByRecursion (λ (c : Check). c.fails ≡ false) cs × (ltb g (suc (need 0 d)) ≡ true) = last_fails cs (check (ltb g (suc (need 0 d))) 44) (omega arith) e in
    short g (suc (need 0 d)) r.1 (omega arith)
enough room d (Resume g) b l f e =
    let cs : List Check = only_in Trading d ∷ check (not d.paused) 71 ∷ [] in
    let r : AllByRecursion (λ (c : Check). c.fails ≡ false) cs × (ltb g (need 0 d) ≡ true) = last_fails cs (check (ltb g (need 0 d)) 44) (omega arith) e in
    short g (need 0 d) r.1 (omega arith)
enough room d Close b l f e = never (checks room d Close) (omega arith) e

pub never_short : NeverShort
never_short gifts lawful room cs c f e =
    let d : Day = after_calls gifts room new_day cs in
    let s : Sound d = calls_sound gifts lawful room cs new_day (new_sound gifts lawful) in
    enough room d c (busy_most d s (always gifts lawful (λ d. Once d.line) (once_keeps gifts lawful) new_once room cs)) s.books.few f e
