-- When a call is refused for a full roll, a full stop file or a bad column.
use Rattle.std.proofs.Common.{◌≡◌, ℕ, suc, ◌+◌, ◌<◌, ◌≤◌, Bool, true, false, not, ◌&&◌, ◌||◌, eqb, leb, ltb, List, [], ◌∷◌, ◌++◌, length, Some, None, Option, sym, refl, ap, ◌∙◌, arith}
use Rattle.std.proofs.lemmas.Bool.{false≢true, and_parts, and_from, not-false, eq-eqb, leb-true, leb-false, le-leb, lt-leb}
use Rattle.std.specs.List.{AllByRecursion}
use Rattle.market.specs.declared.words.Kind.{Kind}
use Rattle.market.specs.declared.words.Kind.TheVariants.{Limit, Market, ImmediateOrCancel, Stop}
use Rattle.market.specs.declared.words.Order.{Order}
use Rattle.market.specs.Bounds.{is_class, is_price, is_shares, is_member}
use Rattle.replay.specs.Lists.{only, any}
use Rattle.replay.specs.Days.{Phase, Loading, Trading, Closed, Day, Call, Set, LoadLimit, LoadStop, Open, Enter, CancelOrder, FloorTrade, Resume, Close}
use Rattle.replay.specs.Rolls.{is_market, is_stop, is_filed, filed, fresh}
use Rattle.replay.specs.Book.{is_contra}
use Rattle.replay.specs.Calls.{Check, check, refusal, first_of, is_phase, only_in, file_full, need, checks}
use Rattle.replay.specs.RefusalsGiven.{GoodOrder, BringsGood, BringsOrder, BringsStop, BadColumn, Causes, RefusalsGiven}
use Rattle.replay.proofs.Calls.{passed_limit, passed_stop, passed_enter}
use Rattle.replay.proofs.Places.{roll_holds}
use Rattle.replay.proofs.Queue.{never_short}

-- checks -----------------------------------------------------------------------------------------------------------------
abbrev Passes : Check → Type 0
Passes c = c.fails ≡ false

abbrev Other : ℕ → Check → Type 0
Other k c = c.code ≡ k → ⊥

none_some : {A : Type 0} {k : ℕ} → ◌≡◌ {A = Option ℕ} None (Some k) → A
none_some e = absurd (let z : ◌≡◌ {A = ℕ} 0 1 = cc in omega arith)

-- no check has the number
never : (k : ℕ) (cs : List Check) → AllByRecursion (Other k) cs → refusal cs ≡ Some k → ⊥
never k [] a e = none_some e
never k (c ∷ cs) a e = go c.fails e (never k cs a.1)
  where
    go : (b : Bool) → first_of b c.code (refusal cs) ≡ Some k → (refusal cs ≡ Some k → ⊥) → ⊥
    go true e ih = a.0 cc
    go false e ih = ih e

-- one check has it: those before it pass, and it fails
given : (k : ℕ) (xs : List Check) (z : Check) (ys : List Check) → AllByRecursion (Other k) xs → AllByRecursion (Other k) ys
    → refusal (xs ++ (z ∷ ys)) ≡ Some k → AllByRecursion Passes xs × (z.fails ≡ true)
given k [] z ys a b e = (tt, go z.fails e)
  where
    go : (t : Bool) → first_of t z.code (refusal ys) ≡ Some k → t ≡ true
    go true e = refl
    go false e = absurd (never k ys b e)
given k (x ∷ xs) z ys a b e = go x.fails refl e (given k xs z ys a.1 b)
  where
    go : (t : Bool) → x.fails ≡ t → first_of t x.code (refusal (xs ++ (z ∷ ys))) ≡ Some k
        → (refusal (xs ++ (z ∷ ys)) ≡ Some k → AllByRecursion Passes xs × (z.fails ≡ true)) → ((x.fails ≡ false) × AllByRecursion Passes xs) × (z.fails ≡ true)
    go true f e ih = absurd (a.0 cc)
    go false f e ih = let r : AllByRecursion Passes xs × (z.fails ≡ true) = ih e in ((f, r.0), r.1)

-- and the other way round
gives : (xs : List Check) (z : Check) (ys : List Check) → AllByRecursion Passes xs → z.fails ≡ true → refusal (xs ++ (z ∷ ys)) ≡ Some z.code
gives [] z ys a e = ap (λ t. first_of t z.code (refusal ys)) e
gives (x ∷ xs) z ys a e = ap (λ t. first_of t x.code (refusal (xs ++ (z ∷ ys)))) a.0 ∙ gives xs z ys a.1 e

-- what a check passes ----------------------------------------------------------------------------------------------------
phase_is : (f g : Phase) → not (is_phase f g) ≡ false → g ≡ f
phase_is Loading Loading e = refl
phase_is Loading Trading e = absurd (false≢true (sym e))
phase_is Loading Closed e = absurd (false≢true (sym e))
phase_is Trading Loading e = absurd (false≢true (sym e))
phase_is Trading Trading e = refl
phase_is Trading Closed e = absurd (false≢true (sym e))
phase_is Closed Loading e = absurd (false≢true (sym e))
phase_is Closed Trading e = absurd (false≢true (sym e))
phase_is Closed Closed e = refl

is_own : (f : Phase) → not (is_phase f f) ≡ false
is_own Loading = refl
is_own Trading = refl
is_own Closed = refl

priced : (a b : Bool) → (not a && not b) ≡ false → a ≡ false → b ≡ true
priced true b e f = absurd (false≢true (sym f))
priced false true e f = refl
priced false false e f = absurd (false≢true (sym e))

unpriced : (a b : Bool) → (a ≡ false → b ≡ true) → (not a && not b) ≡ false
unpriced true b h = refl
unpriced false true h = refl
unpriced false false h = sym (h refl)

-- the checks of a new order before that of the roll
abbrev before : Phase → Kind → ℕ → ℕ → ℕ → Day → List Check
before f k m p q d = only_in f d ∷ check (not (is_market k) && not (is_price p)) 41 ∷ check (not (is_shares q)) 42 ∷ check (not (is_member m)) 47 ∷ []

good : (f : Phase) (k : Kind) (m p q : ℕ) (d : Day) → AllByRecursion Passes (before f k m p q d) → (d.phase ≡ f) × GoodOrder k m p q
good f k m p q d a = (phase_is f d.phase a.0, record { price = priced (is_market k) (is_price p) a.1.0; shares = not-false (is_shares q) a.1.1.0; member = not-false (is_member m) a.1.1.1.0 })

passes : (f : Phase) (k : Kind) (m p q : ℕ) (d : Day) → (d.phase ≡ f) × GoodOrder k m p q → AllByRecursion Passes (before f k m p q d)
passes f k m p q d h = (ap (λ g. not (is_phase f g)) h.0 ∙ is_own f, (unpriced (is_market k) (is_price p) h.1.price, (ap not h.1.shares, (ap not h.1.member, tt))))

-- a full roll ------------------------------------------------------------------------------------------------------------
abbrev on_roll : Day → Check
on_roll d = check (leb 512 (length d.roll)) 43

full : (room : ℕ) (d : Day) (c : Call) → 512 ≤ length d.roll → BringsGood d c → refusal (checks room d c) ≡ Some 43
unfolding checks
full room d (Set k c p) h b = absurd b
full room d (LoadLimit s m p q) h b =
    gives (before Loading Limit m p q d) (on_roll d) (check (any (is_contra (fresh Limit s m p q d.roll)) d.roll) 45 ∷ []) (passes Loading Limit m p q d b) (le-leb 512 (length d.roll) h)
full room d (LoadStop s m p q) h b = gives (before Loading Stop m p q d) (on_roll d) (file_full room Stop d ∷ []) (passes Loading Stop m p q d b) (le-leb 512 (length d.roll) h)
full room d Open h b = absurd b
full room d (Enter k s m p q f) h b =
    gives (before Trading k m p q d) (on_roll d) (file_full room k d ∷ check (ltb f (need 1 d)) 44 ∷ []) (passes Trading k m p q d b) (le-leb 512 (length d.roll) h)
full room d (CancelOrder m n f) h b = absurd b
full room d (FloorTrade p q f) h b = absurd b
full room d (Resume f) h b = absurd b
full room d Close h b = absurd b

only_full : (room : ℕ) (d : Day) (c : Call) → refusal (checks room d c) ≡ Some 43 → (512 ≤ length d.roll) × BringsGood d c
unfolding checks
only_full room d (Set k c p) e = absurd (never 43 (checks room d (Set k c p)) (omega arith) e)
only_full room d (LoadLimit s m p q) e =
    let g : AllByRecursion Passes (before Loading Limit m p q d) × (leb 512 (length d.roll) ≡ true)
    = given 43 (before Loading Limit m p q d) (on_roll d) (check (any (is_contra (fresh Limit s m p q d.roll)) d.roll) 45 ∷ []) (omega arith) (omega arith) e in
    (leb-true 512 (length d.roll) g.1, good Loading Limit m p q d g.0)
only_full room d (LoadStop s m p q) e =
    let g : AllByRecursion Passes (before Loading Stop m p q d) × (leb 512 (length d.roll) ≡ true)
    = given 43 (before Loading Stop m p q d) (on_roll d) (file_full room Stop d ∷ []) (omega arith) (omega arith) e in
    (leb-true 512 (length d.roll) g.1, good Loading Stop m p q d g.0)
only_full room d Open e = absurd (never 43 (checks room d Open) (omega arith) e)
only_full room d (Enter k s m p q f) e =
    let g : AllByRecursion Passes (before Trading k m p q d) × (leb 512 (length d.roll) ≡ true)
    = given 43 (before Trading k m p q d) (on_roll d) (file_full room k d ∷ check (ltb f (need 1 d)) 44 ∷ []) (omega arith) (omega arith) e in
    (leb-true 512 (length d.roll) g.1, good Trading k m p q d g.0)
only_full room d (CancelOrder m n f) e = absurd (never 43 (checks room d (CancelOrder m n f)) (omega arith) e)
only_full room d (FloorTrade p q f) e = absurd (never 43 (checks room d (FloorTrade p q f)) (omega arith) e)
only_full room d (Resume f) e = absurd (never 43 (checks room d (Resume f)) (omega arith) e)
only_full room d Close e = absurd (never 43 (checks room d Close) (omega arith) e)

place_left : (room : ℕ) (d : Day) (c : Call) → refusal (checks room d c) ≡ None → BringsOrder c → length d.roll < 512
place_left room d (Set k c p) e b = absurd b
place_left room d (LoadLimit s m p q) e b = leb-false 512 (length d.roll) (passed_limit room d s m p q e).1
place_left room d (LoadStop s m p q) e b = leb-false 512 (length d.roll) (passed_stop room d s m p q e).1
place_left room d Open e b = absurd b
place_left room d (Enter k s m p q f) e b = leb-false 512 (length d.roll) (passed_enter room d k s m p q f e).1
place_left room d (CancelOrder m n f) e b = absurd b
place_left room d (FloorTrade p q f) e b = absurd b
place_left room d (Resume f) e b = absurd b
place_left room d Close e b = absurd b

-- a full stop file -------------------------------------------------------------------------------------------------------
abbrev AtFile : ℕ → Day → Call → Type 0
AtFile room d c = (length d.roll < 512) × (room ≤ filed d.roll) × BringsGood d c × BringsStop c

-- the checks of a new order before that of the stop file
abbrev before_file : Phase → Kind → ℕ → ℕ → ℕ → Day → List Check
before_file f k m p q d = before f k m p q d ++ (on_roll d ∷ [])

passes_roll : (f : Phase) (k : Kind) (m p q : ℕ) (d : Day) → length d.roll < 512 → (d.phase ≡ f) × GoodOrder k m p q → AllByRecursion Passes (before_file f k m p q d)
passes_roll f k m p q d l h = let a : AllByRecursion Passes (before f k m p q d) = passes f k m p q d h in (a.0, (a.1.0, (a.1.1.0, (a.1.1.1.0, (lt-leb 512 (length d.roll) l, tt)))))

file_fails : (k : Kind) (room n : ℕ) → k ≡ Stop → room ≤ n → (is_stop k && leb room n) ≡ true
file_fails k room n e h = and_from (is_stop k) (leb room n) (ap is_stop e) (le-leb room n h)

filled : (room : ℕ) (d : Day) (c : Call) → length d.roll < 512 → room ≤ filed d.roll → BringsGood d c → BringsStop c → refusal (checks room d c) ≡ Some 46
unfolding checks
filled room d (Set k c p) l h b t = absurd b
filled room d (LoadLimit s m p q) l h b t = absurd t
filled room d (LoadStop s m p q) l h b t = gives (before_file Loading Stop m p q d) (file_full room Stop d) [] (passes_roll Loading Stop m p q d l b) (file_fails Stop room (filed d.roll) refl h)
filled room d Open l h b t = absurd b
filled room d (Enter k s m p q f) l h b t =
    gives (before_file Trading k m p q d) (file_full room k d) (check (ltb f (need 1 d)) 44 ∷ []) (passes_roll Trading k m p q d l b) (file_fails k room (filed d.roll) t h)
filled room d (CancelOrder m n f) l h b t = absurd b
filled room d (FloorTrade p q f) l h b t = absurd b
filled room d (Resume f) l h b t = absurd b
filled room d Close l h b t = absurd b

stop_is : (k : Kind) → is_stop k ≡ true → k ≡ Stop
stop_is Limit e = absurd (false≢true e)
stop_is Market e = absurd (false≢true e)
stop_is ImmediateOrCancel e = absurd (false≢true e)
stop_is Stop e = refl

-- what a call that finds a full file has passed
record Found (room : ℕ) (f : Phase) (k : Kind) (m p q : ℕ) (d : Day) : Type 0 where
  pub place : length d.roll < 512
  pub full : room ≤ filed d.roll
  pub good : (d.phase ≡ f) × GoodOrder k m p q
  pub stop : k ≡ Stop

found_full : (room : ℕ) (f : Phase) (k : Kind) (m p q : ℕ) (d : Day) → AllByRecursion Passes (before_file f k m p q d) × ((is_stop k && leb room (filed d.roll)) ≡ true) → Found room f k m p q d
found_full room f k m p q d g =
    let b : (is_stop k ≡ true) × (leb room (filed d.roll) ≡ true) = and_parts (is_stop k) (leb room (filed d.roll)) g.1 in
    record {
      place = leb-false 512 (length d.roll) g.0.1.1.1.1.0;
      full = leb-true room (filed d.roll) b.1;
      good = good f k m p q d (g.0.0, (g.0.1.0, (g.0.1.1.0, (g.0.1.1.1.0, tt))));
      stop = stop_is k b.0;
    }

only_filled : (room : ℕ) (d : Day) (c : Call) → refusal (checks room d c) ≡ Some 46 → AtFile room d c
unfolding checks
only_filled room d (Set k c p) e = absurd (never 46 (checks room d (Set k c p)) (omega arith) e)
only_filled room d (LoadLimit s m p q) e = absurd (never 46 (checks room d (LoadLimit s m p q)) (omega arith) e)
only_filled room d (LoadStop s m p q) e =
    let g : Found room Loading Stop m p q d = found_full room Loading Stop m p q d (given 46 (before_file Loading Stop m p q d) (file_full room Stop d) [] (omega arith) (omega arith) e) in
    (g.place, g.full, g.good, tt)
only_filled room d Open e = absurd (never 46 (checks room d Open) (omega arith) e)
only_filled room d (Enter k s m p q f) e =
    let g : Found room Trading k m p q d
    = found_full room Trading k m p q d (given 46 (before_file Trading k m p q d) (file_full room k d) (check (ltb f (need 1 d)) 44 ∷ []) (omega arith) (omega arith) e) in
    (g.place, g.full, g.good, g.stop)
only_filled room d (CancelOrder m n f) e = absurd (never 46 (checks room d (CancelOrder m n f)) (omega arith) e)
only_filled room d (FloorTrade p q f) e = absurd (never 46 (checks room d (FloorTrade p q f)) (omega arith) e)
only_filled room d (Resume f) e = absurd (never 46 (checks room d (Resume f)) (omega arith) e)
only_filled room d Close e = absurd (never 46 (checks room d Close) (omega arith) e)

-- no more are filed than are on the roll
filed_most : (os : List Order) → filed os ≤ length os
filed_most [] = omega arith
filed_most (o ∷ os) = go (is_filed o.place) (filed_most os)
  where
    go : (b : Bool) → filed os ≤ length os → only b 1 + filed os ≤ suc (length os)
    go true h = omega arith
    go false h = omega arith

-- a bad column -----------------------------------------------------------------------------------------------------------
neither : (c x y : ℕ) → not (eqb c x || eqb c y) ≡ true → (c ≡ x → ⊥) × (c ≡ y → ⊥)
neither c x y e = ((λ h. go₀ (eqb c x) (eqb c y) (eq-eqb c x h) e), (λ h. go₁ (eqb c x) (eqb c y) (eq-eqb c y h) e))
  where
    go₀ : (a b : Bool) → a ≡ true → not (a || b) ≡ true → ⊥
    go₀ true b f e = false≢true e
    go₀ false b f e = false≢true f

    go₁ : (a b : Bool) → b ≡ true → not (a || b) ≡ true → ⊥
    go₁ true b f e = false≢true e
    go₁ false true f e = false≢true e
    go₁ false false f e = false≢true f

only_column : (room : ℕ) (d : Day) (c : Call) → refusal (checks room d c) ≡ Some 32 → BadColumn c
unfolding checks
only_column room d (Set k c p) e =
    neither c 76 72 (given 32 (only_in Loading d ∷ check (not (is_class k)) 31 ∷ []) (check (not (eqb c 76 || eqb c 72)) 32) (check (not (leb p 100000)) 33 ∷ []) (omega arith) (omega arith) e).1
only_column room d (LoadLimit s m p q) e = absurd (never 32 (checks room d (LoadLimit s m p q)) (omega arith) e)
only_column room d (LoadStop s m p q) e = absurd (never 32 (checks room d (LoadStop s m p q)) (omega arith) e)
only_column room d Open e = absurd (never 32 (checks room d Open) (omega arith) e)
only_column room d (Enter k s m p q f) e = absurd (never 32 (checks room d (Enter k s m p q f)) (omega arith) e)
only_column room d (CancelOrder m n f) e = absurd (never 32 (checks room d (CancelOrder m n f)) (omega arith) e)
only_column room d (FloorTrade p q f) e = absurd (never 32 (checks room d (FloorTrade p q f)) (omega arith) e)
only_column room d (Resume f) e = absurd (never 32 (checks room d (Resume f)) (omega arith) e)
only_column room d Close e = absurd (never 32 (checks room d Close) (omega arith) e)

-- the law ----------------------------------------------------------------------------------------------------------------
pub causes : (room : ℕ) (d : Day) → Causes room d
causes room d = record {
  full = full room d;
  only_full = only_full room d;
  place_left = place_left room d;
  filled = filled room d;
  only_filled = only_filled room d;
  file_holds = λ c h e. let x : AtFile room d c = only_filled room d c e in omega (arith, filed_most d.roll, x.0, x.1);
  only_column = only_column room d;
}

pub refusals : RefusalsGiven
refusals = record {
  any_day = causes;
  of_lists = λ gifts lawful room cs. record { causes = causes room _; roll = roll_holds.kept gifts lawful room cs; lines = never_short gifts lawful room cs };
}
