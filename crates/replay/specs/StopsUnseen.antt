-- Stops that are not elected are invisible. Assumes nothing.
use Rattle.std.specs.Prelude.{◌≡◌, ℕ, suc, Bool, true, false, ◌⊎◌, List, [], ◌∷◌, length, None}
use Rattle.market.specs.declared.words.Side.{Side}
use Rattle.market.specs.declared.words.Kind.TheVariants.{Stop}
use Rattle.market.specs.declared.words.TapeLine.{TapeLine}
use Rattle.market.specs.declared.words.TapeLine.TheVariants.{Print, Cancel, Elect, Floor}
use Rattle.std.specs.List.{AllZip, AllByRecursion}
use Rattle.sharing.specs.Shares.{LawfulRule}
use Rattle.replay.specs.Days.{Day, new_day, Call, LoadStop, Enter, Outcome, Rule}
use Rattle.replay.specs.Calls.{refusal, checks, handed, step, after_calls}
use Rattle.replay.specs.Questions.{quote, is_paused, in_force}

-- Two days are given the same calls, but that some stops have another price and other shares on the one than on the other. N says which: take
-- it for exactly the numbers of the stops that differ. The law asks that each stop that differs has its number in N, is accepted on both days,
-- and is elected on neither.

-- a line that elects none of the stops that differ
abbrev pub unelected : (ℕ → Bool) → TapeLine → Type 0
unelected N (Print n p q l h) = Unit {0}
unelected N (Cancel n q) = Unit {0}
unelected N (Elect n) = N n ≡ false
unelected N (Floor p q) = Unit {0}

abbrev pub Unelected : (ℕ → Bool) → Day → Type 0
Unelected N d = AllByRecursion (unelected N) d.tape

-- equal lines, or the X lines of one stop that differs
abbrev pub SameLine : (ℕ → Bool) → TapeLine → TapeLine → Type 0
SameLine N l m = (l ≡ m) ⊎ ((n : ℕ) × (a : ℕ) × (b : ℕ) × (N n ≡ true) × (l ≡ Cancel n a) × (m ≡ Cancel n b))

-- the next order is a stop that differs, and both days accept it
pub record Named (N : ℕ → Bool) (room : ℕ) (d e : Day) (c c' : Call) : Type 0 where
  pub name : N (suc (length d.roll)) ≡ true
  pub taken : refusal (checks room d c) ≡ None
  pub taken' : refusal (checks room e c') ≡ None

-- the same call, or two that bring in the same stop but for price and shares
pub data Pair (N : ℕ → Bool) (room : ℕ) (d e : Day) : Call → Call → Type 0 where
  same : {c : Call} → Pair N room d e c c
  loads : {s : Side} {m p q p' q' : ℕ} → Named N room d e (LoadStop s m p q) (LoadStop s m p' q') → Pair N room d e (LoadStop s m p q) (LoadStop s m p' q')
  enters : {s : Side} {m p q p' q' f : ℕ} → Named N room d e (Enter Stop s m p q f) (Enter Stop s m p' q' f) → Pair N room d e (Enter Stop s m p q f) (Enter Stop s m p' q' f)

-- the calls of two lists, one by one, each at the days to which those before have led
abbrev pub Pairs : Rule → (ℕ → Bool) → ℕ → Day → Day → List Call → List Call → Type 0
Pairs gifts N room d e [] [] = Unit {0}
Pairs gifts N room d e [] (c' ∷ cs') = ⊥
Pairs gifts N room d e (c ∷ cs) [] = ⊥
Pairs gifts N room d e (c ∷ cs) (c' ∷ cs') = Pair N room d e c c' × Pairs gifts N room (step gifts room d c).day (step gifts room e c').day cs cs'

-- what is seen of a call: its answer, its lines, and then quotes, pause and range
pub record SameSeen (N : ℕ → Bool) (d e : Day) (r r' : Outcome) : Type 0 where
  pub answer : r.answer ≡ r'.answer
  pub lines : AllZip (SameLine N) (handed d r.day) (handed e r'.day)
  pub quotes : (c : Side) → quote c r.day ≡ quote c r'.day
  pub pause : is_paused r.day ≡ is_paused r'.day
  pub range : in_force r.day ≡ in_force r'.day

-- the same is seen of every call
abbrev pub AllSeen : Rule → (ℕ → Bool) → ℕ → Day → Day → List Call → List Call → Type 0
AllSeen gifts N room d e [] [] = Unit {0}
AllSeen gifts N room d e [] (c' ∷ cs') = ⊥
AllSeen gifts N room d e (c ∷ cs) [] = ⊥
AllSeen gifts N room d e (c ∷ cs) (c' ∷ cs') =
    SameSeen N d e (step gifts room d c) (step gifts room e c') × AllSeen gifts N room (step gifts room d c).day (step gifts room e c').day cs cs'

-- As long as none of them is elected, nobody can tell the stops of the one day from those of the other.
abbrev pub StopsUnseen : Type 0
StopsUnseen = (gifts : Rule) → LawfulRule gifts → (room : ℕ) (N : ℕ → Bool) (cs cs' : List Call) → Pairs gifts N room new_day new_day cs cs'
    → Unelected N (after_calls gifts room new_day cs) → Unelected N (after_calls gifts room new_day cs') → AllSeen gifts N room new_day new_day cs cs'
