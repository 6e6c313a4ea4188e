-- Two tables of stops, by side and price, and the one list that they mean.
use Rattle.std.specs.Prelude.{◌≡◌, Bool, List, [], ◌∷◌, ◌++◌, map, nat_lt}
use mathlib.Core.HLevel.{×_prop, Unit-prop}
use mathlib.Core.Bool.{Bool-set}
use Rattle.std.proofs.Props.{props}
use Rattle.std.specs.List.{AllByRecursion, AllByRecursion-prop}
use Rattle.market.specs.Files.{filed, InOrder}
use Rattle.market.specs.Sides.{opposite, precedence}
use Rattle.market.specs.declared.words.Stop.{Stop}
use Rattle.market.specs.declared.words.Side.{Side}
use Rattle.market.specs.declared.words.Side.TheVariants.{Buy, Sell}
use Rattle.stops.specs.declared.rows.PricedStop.{PricedStop}

-- the stop of a row
abbrev pub stop_of : {S : Type 0} → Side → PricedStop S → Stop
stop_of c r = record { number = r.number; side = c; price = r.price; shares = r.shares }

-- buys: the lower price first; sells: the higher price first; then the lower number
abbrev pub ranks : {S : Type 0} → Side → PricedStop S → PricedStop S → Bool
ranks c a b = precedence (opposite c) a.price a.number b.price b.number

pub in_order_prop : {X : Type 0} (before : X → X → Bool) (xs : List X) → IsProp (InOrder before xs)
in_order_prop before [] = Unit-prop
in_order_prop before (x ∷ xs) = ×_prop (AllByRecursion-prop _ (λ y. Bool-set _ _) xs) (in_order_prop before xs)

-- the two numbers are not equal
abbrev pub Away : Stop → Stop → Type 0
Away s u = s.number ≡ u.number → ⊥

-- no two numbers are equal
abbrev pub Apart : List Stop → Type 0
Apart [] = Unit {0}
Apart (s ∷ ss) = AllByRecursion (Away s) ss × Apart ss

pub apart_prop : (ss : List Stop) → IsProp (Apart ss)
apart_prop [] = Unit-prop
apart_prop (s ∷ ss) = ×_prop (AllByRecursion-prop (Away s) (λ u. Prim.hlevel props) ss) (apart_prop ss)

-- the stops of both tables, and the same in ascending number
abbrev pub both : {A B : Type 0} → List (PricedStop A) → List (PricedStop B) → List Stop
both bs ss = map (stop_of Buy) bs ++ map (stop_of Sell) ss

abbrev pub lower_number : Stop → Stop → Bool
lower_number a b = nat_lt a.number b.number

abbrev pub by_number : List Stop → List Stop
by_number [] = []
by_number (s ∷ ss) = filed lower_number s (by_number ss)

-- the longer list has one stop more, somewhere among the others
pub record Beside (s : Stop) (more less : List Stop) : Type 0 where
  pub front : List Stop
  pub back : List Stop
  pub more_is : more ≡ front ++ s ∷ back
  pub less_is : less ≡ front ++ back
