-- The stop file of a roll: the filed orders as a stop file holds them, in ascending number. Assumes nothing.
use Rattle.std.specs.Prelude.{ℕ, Bool, List, map}
use Rattle.market.specs.declared.words.Order.{Order}
use Rattle.market.specs.declared.words.Stop.{Stop}
use Rattle.market.specs.Sides.{as_good}
use Rattle.replay.specs.Lists.{those}
use Rattle.replay.specs.Rolls.{is_filed}

abbrev pub stop_of : Order → Stop
stop_of o = record { number = o.number; side = o.side; price = o.price; shares = o.«open» }

abbrev pub file_of : List Order → List Stop
file_of os = map stop_of (those (λ o. is_filed o.place) os)

-- a trade at p elects the buy stops up to p, and the sell stops from p upwards
abbrev pub elects_stop : ℕ → Stop → Bool
elects_stop p t = as_good t.side p t.price
