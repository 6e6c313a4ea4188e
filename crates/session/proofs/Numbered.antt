-- Which numbers a refusal can have: those of faults, and those of calls.
use Rattle.std.proofs.Common.{◌≡◌, ℕ, ◌≤◌, Bool, true, false, cond, not, ◌⊎◌, inl, inr, ⊎_elim, List, [], ◌∷◌, length, slice_index, Some, None, Option, Result, Ok, Err, sym, refl, ap, ◌∙◌, subst, arith, eqb}
use Rattle.std.specs.List.{AllByRecursion}
use Rattle.std.proofs.lemmas.Bool.{eqb-true}
use Rattle.market.specs.declared.refusal.Refusal.{Refusal}
use Rattle.market.specs.declared.refusal.Refusal.TheVariants.{Class, Column, LastSale, Price, Shares, RollFull, TapeShort, LocksBook, StopFileFull, Member, NoSuchOrder, OtherMember, NothingOpen, OutsideQuote, NotPaused}
use Rattle.market.specs.declared.words.Column.{Column as Letter}
use Rattle.market.specs.declared.words.Column.TheVariants.{Lower, Higher}
use Rattle.market.specs.declared.words.Side.{Side}
use Rattle.market.specs.declared.words.PricedOrder.{PricedOrder}
use Rattle.market.specs.Refusals.{number_of}
use Rattle.text.specs.declared.fault.LineFault.{LineFault}
use Rattle.text.specs.declared.record.Record.{Record}
use Rattle.text.specs.declared.record.Record.TheVariants as records
use Rattle.text.specs.Refusals.{code_of}
use Rattle.text.specs.Letters.{column_letter, kind_of, named, side_in, column_in}
use Rattle.text.specs.Numbers.{number_in}
use Rattle.text.specs.Cuts.{field_at, field_count}
use Rattle.text.specs.declared.refusal.Refusal.TheVariants.{FieldCount}
use Rattle.text.specs.Reading.{fault_at, set_from, priced_from, market_from, pair_from, as_record, record_as, record_in, set_in, priced_in, market_in, pair_in}
use Rattle.replay.specs.Days.{Day, Phase, Loading, Trading, Closed, Call, Set, LoadLimit, LoadStop, Open, Enter, CancelOrder, FloorTrade, Resume, Close}
use Rattle.replay.specs.Calls.{Check, first_of, refusal, is_phase, checks}
use Rattle.replay.specs.Lines.{free_lines}
use Rattle.replay.specs.RefusalsGiven.{BadColumn}
use Rattle.replay.proofs.RefusalsGiven.{causes}
use Rattle.playback.specs.declared.call.Call.{Call as Asked}
use Rattle.playback.specs.declared.call.Call.TheVariants as asked
use Rattle.playback.specs.Stages.{call_of}
use Rattle.session.specs.Hearing.{call_for, limit_call, stop_call, hear, phase_behind, heard_from}

-- faults -----------------------------------------------------------------------------------------------------------------
abbrev pub InFields : LineFault → Type 0
InFields f = (11 ≤ code_of f.cause) × (code_of f.cause ≤ 14) × (f.field ≤ 5)

abbrev Faulty : {A : Type 0} → Result A LineFault → Type 0
Faulty (Ok x) = Unit {0}
Faulty (Err f) = InFields f

set_fault : (k : Option ℕ) (c : Option Letter) (l : Option ℕ) → Faulty (set_from k c l)
set_fault None c l = omega arith
set_fault (Some k) None l = omega arith
set_fault (Some k) (Some c) None = omega arith
set_fault (Some k) (Some c) (Some l) = tt

priced_fault : (s : Option Side) (m p q : Option ℕ) → Faulty (priced_from s m p q)
priced_fault None m p q = omega arith
priced_fault (Some s) None p q = omega arith
priced_fault (Some s) (Some m) None q = omega arith
priced_fault (Some s) (Some m) (Some p) None = omega arith
priced_fault (Some s) (Some m) (Some p) (Some q) = tt

market_fault : (s : Option Side) (m q : Option ℕ) → Faulty (market_from s m q)
market_fault None m q = omega arith
market_fault (Some s) None q = omega arith
market_fault (Some s) (Some m) None = omega arith
market_fault (Some s) (Some m) (Some q) = tt

pair_fault : (a b : Option ℕ) → Faulty (pair_from a b)
pair_fault None b = omega arith
pair_fault (Some a) None = omega arith
pair_fault (Some a) (Some b) = tt

as_fault : {A : Type 0} (made : A → Record) (r : Result A LineFault) → Faulty r → Faulty (as_record made r)
as_fault made (Ok x) h = tt
as_fault made (Err f) h = h

counted : (b : Bool) (r : Result Record LineFault) → Faulty r → Faulty (cond b r (Err (fault_at FieldCount 0)))
counted true r h = h
counted false r h = omega arith

-- a number is one that is named, or the test says so
unless : (P : ℕ → Type 0) (c n : ℕ) → P n → (eqb c n ≡ false → P c) → P c
unless P c n h f = go (eqb c n) refl
  where
    go : (b : Bool) → eqb c n ≡ b → P c
    go true e = subst P (sym (eqb-true c n e)) h
    go false e = f e

abbrev FaultyBy : List ℕ → ℕ → Type 0
FaultyBy line c = Faulty (record_as (kind_of c) line)

letter_fault : (line : List ℕ) (c : ℕ) → FaultyBy line c
letter_fault line c =
    let priced : Faulty (priced_in line) = priced_fault (side_in (field_at 1 line)) (number_in (field_at 2 line)) (number_in (field_at 3 line)) (number_in (field_at 4 line)) in
    let pair : Faulty (pair_in line) = pair_fault (number_in (field_at 1 line)) (number_in (field_at 2 line)) in
    let n : ℕ = field_count line in
    unless (FaultyBy line) c 71 (counted (eqb n 4) (set_in line) (set_fault (number_in (field_at 1 line)) (column_in (field_at 2 line)) (number_in (field_at 3 line)))) (λ e₁.
    unless (FaultyBy line) c 78 (counted (eqb n 5) (as_record records.Limit (priced_in line)) (as_fault records.Limit (priced_in line) priced)) (λ e₂.
    unless (FaultyBy line) c 73 (counted (eqb n 5) (as_record records.ImmediateOrCancel (priced_in line)) (as_fault records.ImmediateOrCancel (priced_in line) priced)) (λ e₃.
    unless (FaultyBy line) c 84 (counted (eqb n 5) (as_record records.Stop (priced_in line)) (as_fault records.Stop (priced_in line) priced)) (λ e₄.
    unless (FaultyBy line) c 77 (counted (eqb n 4) (market_in line) (market_fault (side_in (field_at 1 line)) (number_in (field_at 2 line)) (number_in (field_at 3 line)))) (λ e₅.
    unless (FaultyBy line) c 67 (counted (eqb n 3) (as_record (λ x. records.Cancel x.0 x.1) (pair_in line)) (as_fault (λ x. records.Cancel x.0 x.1) (pair_in line) pair)) (λ e₆.
    unless (FaultyBy line) c 70 (counted (eqb n 3) (as_record (λ x. records.FloorTrade x.0 x.1) (pair_in line)) (as_fault (λ x. records.FloorTrade x.0 x.1) (pair_in line) pair)) (λ e₇.
    unless (FaultyBy line) c 82 (counted (eqb n 1) (Ok records.Resume) tt) (λ e₈.
    unless (FaultyBy line) c 79 (counted (eqb n 1) (Ok records.Open) tt) (λ e₉.
    unless (FaultyBy line) c 90 (counted (eqb n 1) (Ok records.Close) tt) (λ e₀. simp (e₁, e₂, e₃, e₄, e₅, e₆, e₇, e₈, e₉, e₀) (omega arith)))))))))))

record_fault : (line : List ℕ) → Faulty (record_in line)
record_fault line = go (eqb (length (field_at 0 line)) 1)
  where
    go : (b : Bool) → Faulty (record_as (named kind_of (cond b (Some (slice_index (field_at 0 line) 0)) None)) line)
    go true = letter_fault line (slice_index (field_at 0 line) 0)
    go false = omega arith

-- calls ------------------------------------------------------------------------------------------------------------------
-- the letter of a column is L or H
abbrev pub Lettered : Asked → Type 0
Lettered (asked.Set k c p) = (c ≡ 76) ⊎ (c ≡ 72)
Lettered (asked.LoadLimit o) = Unit {0}
Lettered (asked.LoadStop o) = Unit {0}
Lettered asked.Open = Unit {0}
Lettered (asked.Enter t) = Unit {0}
Lettered (asked.Cancel m n) = Unit {0}
Lettered (asked.FloorTrade p q) = Unit {0}
Lettered asked.Resume = Unit {0}
Lettered asked.Close = Unit {0}

column_lettered : (c : Letter) → (column_letter c ≡ 76) ⊎ (column_letter c ≡ 72)
column_lettered Lower = inl refl
column_lettered Higher = inr refl

limit_lettered : (f : Phase) (o : PricedOrder) → Lettered (limit_call f o)
limit_lettered Loading o = tt
limit_lettered Trading o = tt
limit_lettered Closed o = tt

stop_lettered : (f : Phase) (o : PricedOrder) → Lettered (stop_call f o)
stop_lettered Loading o = tt
stop_lettered Trading o = tt
stop_lettered Closed o = tt

call_lettered : (f : Phase) (r : Record) → Lettered (call_for f r)
call_lettered f (records.Set k c p) = column_lettered c
call_lettered f (records.Limit o) = limit_lettered f o
call_lettered f (records.ImmediateOrCancel o) = tt
call_lettered f (records.Stop o) = stop_lettered f o
call_lettered f (records.Market s m q) = tt
call_lettered f (records.Cancel m n) = tt
call_lettered f (records.FloorTrade p q) = tt
call_lettered f records.Resume = tt
call_lettered f records.Open = tt
call_lettered f records.Close = tt

-- what any line of a text says
abbrev pub Said : Result Asked LineFault → Type 0
Said (Ok c) = Lettered c
Said (Err f) = InFields f

said_by : (f : Phase) (r : Result Record LineFault) → Faulty r → Said (hear f r)
said_by f (Ok r) h = call_lettered f r
said_by f (Err e) h = h

pub all_said : (f : Phase) (lines : List (List ℕ)) → AllByRecursion Said (heard_from f lines)
unfolding heard_from
all_said f [] = tt
all_said f (line ∷ lines) = (said_by f (record_in line) (record_fault line), all_said (phase_behind f (record_in line)) lines)

-- each call that writes lines has as many as are lent
pub lent_lines : (free : ℕ) (c : Asked) → 2049 ≤ free → 2049 ≤ free_lines (call_of free c)
lent_lines free (asked.Set k c p) h = omega arith
lent_lines free (asked.LoadLimit o) h = omega arith
lent_lines free (asked.LoadStop o) h = omega arith
lent_lines free asked.Open h = omega arith
lent_lines free (asked.Enter t) h = h
lent_lines free (asked.Cancel m n) h = h
lent_lines free (asked.FloorTrade p q) h = h
lent_lines free asked.Resume h = h
lent_lines free asked.Close h = omega arith

-- refusals ---------------------------------------------------------------------------------------------------------------
-- who refuses has a check that fails
refused_with : (Q : ℕ → Type 0) (cs : List Check) (k : ℕ) → AllByRecursion (λ (c : Check). c.fails ≡ true → Q c.code) cs → refusal cs ≡ Some k → Q k
refused_with Q [] k a e = absurd (let z : ◌≡◌ {A = ℕ} 0 1 = cc in omega arith)
refused_with Q (c ∷ cs) k a e = go c.fails a.0 e (refused_with Q cs k a.1)
  where
    go : (b : Bool) → (b ≡ true → Q c.code) → first_of b c.code (refusal cs) ≡ Some k → (refusal cs ≡ Some k → Q k) → Q k
    go true f e ih = let z : c.code ≡ k = cc in subst Q z (f refl)
    go false f e ih = ih e

abbrev pub Known : ℕ → Type 0
Known k = (k ≡ 21) ⊎ ((r : Refusal) × (k ≡ number_of r))

late : {P : Type 0} → P → Known 21
late x = inl refl

of : (r : Refusal) {P : Type 0} → P → Known (number_of r)
of r x = inr (r, refl)

pub known : (room : ℕ) (d : Day) (c : Call) (k : ℕ) → refusal (checks room d c) ≡ Some k → Known k
unfolding checks
known room d (Set a b p) k e = refused_with Known (checks room d (Set a b p)) k (late, (of Class, (of Column, (of LastSale, tt)))) e
known room d (LoadLimit s m p q) k e = refused_with Known (checks room d (LoadLimit s m p q)) k (late, (of Price, (of Shares, (of Member, (of RollFull, (of LocksBook, tt)))))) e
known room d (LoadStop s m p q) k e = refused_with Known (checks room d (LoadStop s m p q)) k (late, (of Price, (of Shares, (of Member, (of RollFull, (of StopFileFull, tt)))))) e
known room d Open k e = refused_with Known (checks room d Open) k (late, tt) e
known room d (Enter j s m p q f) k e =
    refused_with Known (checks room d (Enter j s m p q f)) k (late, (of Price, (of Shares, (of Member, (of RollFull, (of StopFileFull, (of TapeShort, tt))))))) e
known room d (CancelOrder m n f) k e = refused_with Known (checks room d (CancelOrder m n f)) k (late, (of NoSuchOrder, (of OtherMember, (of NothingOpen, (of TapeShort, tt))))) e
known room d (FloorTrade p q f) k e = refused_with Known (checks room d (FloorTrade p q f)) k (late, (of Price, (of Shares, (of OutsideQuote, (of TapeShort, tt))))) e
known room d (Resume f) k e = refused_with Known (checks room d (Resume f)) k (late, (of NotPaused, (of TapeShort, tt))) e
known room d Close k e = refused_with Known (checks room d Close) k (late, tt) e

-- the letter of a column is never what a call of a text is refused for
pub no_column : (room free : ℕ) (d : Day) (c : Asked) → Lettered c → refusal (checks room d (call_of free c)) ≡ Some 32 → ⊥
no_column room free d c l e = go c l ((causes room d).only_column (call_of free c) e)
  where
    go : (c : Asked) → Lettered c → BadColumn (call_of free c) → ⊥
    go (asked.Set k x p) l b = ⊎_elim b.0 b.1 l
    go (asked.LoadLimit o) l b = b
    go (asked.LoadStop o) l b = b
    go asked.Open l b = b
    go (asked.Enter t) l b = b
    go (asked.Cancel m n) l b = b
    go (asked.FloorTrade p q) l b = b
    go asked.Resume l b = b
    go asked.Close l b = b

-- a closed day refuses every call
late_first : (f : Phase → Bool) (p : Phase) (x : Option ℕ) → p ≡ Closed → f Closed ≡ false → first_of (not (f p)) 21 x ≡ Some 21
late_first f p x e h = ap (λ q. first_of (not (f q)) 21 x) e ∙ ap (λ b. first_of (not b) 21 x) h

pub closed_refuses : (room : ℕ) (d : Day) (c : Call) → d.phase ≡ Closed → refusal (checks room d c) ≡ Some 21
unfolding checks
closed_refuses room d (Set k c p) e = late_first (is_phase Loading) d.phase _ e refl
closed_refuses room d (LoadLimit s m p q) e = late_first (is_phase Loading) d.phase _ e refl
closed_refuses room d (LoadStop s m p q) e = late_first (is_phase Loading) d.phase _ e refl
closed_refuses room d Open e = late_first (is_phase Loading) d.phase _ e refl
closed_refuses room d (Enter k s m p q g) e = late_first (is_phase Trading) d.phase _ e refl
closed_refuses room d (CancelOrder m n g) e = late_first (is_phase Trading) d.phase _ e refl
closed_refuses room d (FloorTrade p q g) e = late_first (is_phase Trading) d.phase _ e refl
closed_refuses room d (Resume g) e = late_first (is_phase Trading) d.phase _ e refl
closed_refuses room d Close e = late_first (is_phase Trading) d.phase _ e refl
