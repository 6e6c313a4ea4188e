-- Ascending numbers, the lowest number, and the lists that the operations reach from an emptied file.
use Rattle.std.specs.Prelude.{ℕ, ◌<◌, Bool, cond, List, [], ◌∷◌, Some, None, Option, nat_le}
use Rattle.std.specs.List.{AllByRecursion}
use Rattle.market.specs.declared.words.Stop.{Stop}
use Rattle.stops.specs.Stops.{elects, numbered, without_by, adding, after_adding}

-- the numbers ascend
abbrev pub Ascends : List Stop → Type 0
Ascends [] = Unit {0}
Ascends (s ∷ ss) = AllByRecursion (λ u. s.number < u.number) ss × Ascends ss

-- of those that pass a test, the one with the lowest number
abbrev pub lower : Stop → Option Stop → Option Stop
lower s None = Some s
lower s (Some u) = cond (nat_le s.number u.number) (Some s) (Some u)

abbrev pub lowest_by : (Stop → Bool) → List Stop → Option Stop
lowest_by t [] = None
lowest_by t (s ∷ ss) = cond (t s) (lower s (lowest_by t ss)) (lowest_by t ss)

-- the operations that alter a file
pub data Operation : Type 0 where
  clearing : Operation
  entering : Stop → Operation
  removing : ℕ → Operation
  taking : ℕ → Operation

abbrev pub after : ℕ → Operation → List Stop → List Stop
after k clearing ss = []
after k (entering s) ss = after_adding (adding k s ss) s ss
after k (removing n) ss = without_by (numbered n) ss
after k (taking p) ss = without_by (elects p) ss

-- the newest operation stands first
abbrev pub reached : ℕ → List Operation → List Stop
reached k [] = []
reached k (o ∷ os) = after k o (reached k os)
