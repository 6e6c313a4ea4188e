use Rattle.std.proofs.lemmas.List.Filters.{FiltersInPlace}
use Rattle.market.specs.Rolls.{listed}
use Rattle.orderbook.specs.Tables.{stays}
use Rattle.orderbook.proofs.tables.move_kept.Given as goal

abbrev pub invariant-loop-at : goal.invariant-loop-at
invariant-loop-at g l = FiltersInPlace (stays g.S.BookSide.side l.price (listed l.roll)) l.initial.rows l.rows l.kept l.at
