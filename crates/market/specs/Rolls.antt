-- The orders of a roll. Assumes nothing.
use Rattle.std.specs.Prelude.{List}
use Rattle.market.specs.declared.roll.Roll.{Roll}
use Rattle.market.specs.declared.words.Order.{Order}

abbrev pub listed : Roll → List Order
listed r = r.orders.items
