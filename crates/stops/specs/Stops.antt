-- Stop files stand for lists of stops: what each operation makes of such a list.
use Rattle.std.specs.Prelude.{ℕ, zero, suc, Bool, cond, List, [], ◌∷◌, ◌++◌, length, Some, None, Ok, Err, Option, Result, ◌==◌, nat_lt}
use Rattle.std.specs.List.{find, list_all}
use Rattle.market.specs.declared.words.Stop.{Stop}
use Rattle.market.specs.declared.words.Side.{Side}
use Rattle.market.specs.Sides.{as_good}
use Rattle.stops.specs.declared.stop_file.NotAdded.{NotAdded}
use Rattle.stops.specs.declared.stop_file.NotAdded.TheVariants.{NotAbove, Full}

-- a trade at p reaches the buy stops up to p, and the sell stops from p upwards
abbrev pub reaches : Side → ℕ → ℕ → Bool
reaches s p q = as_good s p q

abbrev pub elects : ℕ → Stop → Bool
elects p s = reaches s.side p s.price

abbrev pub numbered : ℕ → Stop → Bool
numbered n s = s.number == n

-- the first stop that passes a test, and the list without it
abbrev pub first_by : (Stop → Bool) → List Stop → Option Stop
first_by t ss = find t ss

abbrev pub without_by : (Stop → Bool) → List Stop → List Stop
without_by t [] = []
without_by t (s ∷ ss) = cond (t s) ss (s ∷ without_by t ss)

-- the list without the first k that pass
abbrev pub without_first : ℕ → (Stop → Bool) → List Stop → List Stop
without_first zero t ss = ss
without_first (suc k) t [] = []
without_first (suc k) t (s ∷ ss) = cond (t s) (without_first k t ss) (s ∷ without_first (suc k) t ss)

abbrev pub shares_in : Option Stop → Option ℕ
shares_in (Some s) = Some s.shares
shares_in None = None

abbrev pub above_all : ℕ → List Stop → Bool
above_all n ss = list_all (λ s. nat_lt s.number n) ss

-- a stop is added behind the others, unless its number is not above theirs or the room is used up
abbrev pub adding : ℕ → Stop → List Stop → Result (Unit {0}) NotAdded
adding k s ss = cond (above_all s.number ss) (cond (length ss == k) (Err Full) (Ok tt)) (Err NotAbove)

abbrev pub after_adding : Result (Unit {0}) NotAdded → Stop → List Stop → List Stop
after_adding (Ok u) s ss = ss ++ s ∷ []
after_adding (Err e) s ss = ss
