-- A filed stop is elected by the first print or floor trade that reaches it, and by nothing else. Assumes nothing.
use Rattle.std.specs.Prelude.{◌≡◌, ℕ, suc, Bool, true, false, ◌⊎◌, List, ◌∷◌, ◌++◌, length, Some, None, Option, ◌==◌}
use Rattle.market.specs.declared.words.Side.{Side}
use Rattle.market.specs.declared.words.Kind.TheVariants.{Stop}
use Rattle.market.specs.declared.words.Place.{Place}
use Rattle.market.specs.declared.words.Place.TheVariants.{Nowhere, Book, Line, StopFile}
use Rattle.market.specs.declared.words.Order.{Order}
use Rattle.market.specs.declared.words.TapeLine.{TapeLine}
use Rattle.market.specs.declared.words.TapeLine.TheVariants.{Print, Cancel, Elect, Floor}
use Rattle.market.specs.Sides.{as_good}
use Rattle.std.specs.List.{AllByRecursion}
use Rattle.sharing.specs.Shares.{LawfulRule}
use Rattle.replay.specs.Days.{Day, new_day, Call, LoadStop, Enter, Rule}
use Rattle.replay.specs.Rolls.{look, place_of}
use Rattle.replay.specs.Calls.{refusal, checks, handed, step, after_calls}

-- a print or a floor trade reaches a stop of side s and price l
abbrev pub reaches : Side → ℕ → TapeLine → Bool
reaches s l (Print m p q lo hi) = as_good s p l
reaches s l (Cancel m q) = false
reaches s l (Elect m) = false
reaches s l (Floor p q) = as_good s p l

-- the E line of order n, and its X line
abbrev pub elects : ℕ → TapeLine → Bool
elects n (Print m p q lo hi) = false
elects n (Cancel m q) = false
elects n (Elect m) = m == n
elects n (Floor p q) = false

abbrev pub cancels : ℕ → TapeLine → Bool
cancels n (Print m p q lo hi) = false
cancels n (Cancel m q) = m == n
cancels n (Elect m) = false
cancels n (Floor p q) = false

-- the order whose run prints the line; a floor trade is no run
abbrev pub run_by : TapeLine → Option ℕ
run_by (Print m p q lo hi) = Some m
run_by (Cancel m q) = None
run_by (Elect m) = None
run_by (Floor p q) = None

abbrev pub is_runner : Option ℕ → ℕ → Bool
is_runner None m = false
is_runner (Some k) m = m == k

-- a line that may follow before the next run: another print of this run, the cancellation of its residual, elections
abbrev pub of_run : Option ℕ → TapeLine → Bool
of_run k (Print m p q lo hi) = is_runner k m
of_run k (Cancel m q) = is_runner k m
of_run k (Elect m) = true
of_run k (Floor p q) = false

-- a line that neither reaches the stop of order n, nor elects or cancels it
abbrev pub Untouched : ℕ → Side → ℕ → TapeLine → Type 0
Untouched n s l x = (reaches s l x ≡ false) × (elects n x ≡ false) × (cancels n x ≡ false)

-- The stop was cancelled in the file: no line before its X line reached it, and it is never elected.
pub record Withdrawn (n : ℕ) (s : Side) (l : ℕ) (ls : List TapeLine) : Type 0 where
  pub before : List TapeLine
  pub shares : ℕ
  pub after : List TapeLine
  pub lines : ls ≡ before ++ (Cancel n shares ∷ after)
  pub asleep : AllByRecursion (Untouched n s l) before
  pub never : AllByRecursion (λ x. elects n x ≡ false) after

-- The first line that reached it brought its E line, before the next run, and there is no other E line of it.
pub record Elected (n : ℕ) (s : Side) (l : ℕ) (ls : List TapeLine) : Type 0 where
  pub before : List TapeLine
  pub first : TapeLine
  pub between : List TapeLine
  pub after : List TapeLine
  pub lines : ls ≡ before ++ (first ∷ between ++ (Elect n ∷ after))
  pub asleep : AllByRecursion (Untouched n s l) before
  pub reached : reaches s l first ≡ true
  pub run : AllByRecursion (λ x. (of_run (run_by first) x ≡ true) × (elects n x ≡ false)) between
  pub once : AllByRecursion (λ x. elects n x ≡ false) after

-- what the lines since a stop was filed tell of it, by where it is now
abbrev pub Fate : ℕ → Side → ℕ → Place → List TapeLine → Type 0
Fate n s l Book ls = Withdrawn n s l ls ⊎ Elected n s l ls
Fate n s l Line ls = Withdrawn n s l ls ⊎ Elected n s l ls
Fate n s l StopFile ls = AllByRecursion (Untouched n s l) ls
Fate n s l Nowhere ls = Withdrawn n s l ls ⊎ Elected n s l ls

-- A filed stop stays filed while no print or floor trade reaches it and nobody cancels it; otherwise it was cancelled, or the first that reached it elected it.
-- As this holds after every call, the E line comes in the call of the line that reached it.
abbrev pub ElectedByFirst : Type 0
ElectedByFirst = (gifts : Rule) → LawfulRule gifts → (room : ℕ) (cs cs' : List Call) (n : ℕ) (o : Order)
    → look n (after_calls gifts room new_day cs).roll ≡ Some o → o.place ≡ StopFile
    → Fate n o.side o.price (place_of (look n (after_calls gifts room (after_calls gifts room new_day cs) cs').roll))
    (handed (after_calls gifts room new_day cs) (after_calls gifts room (after_calls gifts room new_day cs) cs'))

-- the order of number n is a filed stop of this side and price
abbrev pub IsFiled : ℕ → Side → ℕ → Day → Type 0
IsFiled n s p d = (o : Order) × (look n d.roll ≡ Some o) × (o.place ≡ StopFile) × (o.kind ≡ Stop) × (o.side ≡ s) × (o.price ≡ p)

-- after its own call, a stop is filed
pub record FiledAtOnce (gifts : Rule) (room : ℕ) (d : Day) : Type 0 where
  pub loaded : (s : Side) (m p q : ℕ) → refusal (checks room d (LoadStop s m p q)) ≡ None → IsFiled (suc (length d.roll)) s p (step gifts room d (LoadStop s m p q)).day
  pub entered : (s : Side) (m p q f : ℕ) → refusal (checks room d (Enter Stop s m p q f)) ≡ None → IsFiled (suc (length d.roll)) s p (step gifts room d (Enter Stop s m p q f)).day

-- After its own call a stop is in the file.
abbrev pub StopsAreFiled : Type 0
StopsAreFiled = (gifts : Rule) → LawfulRule gifts → (room : ℕ) (cs : List Call) → FiledAtOnce gifts room (after_calls gifts room new_day cs)
