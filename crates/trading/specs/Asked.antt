-- Answers to questions, as the definitions have them. Assumes nothing.
use Rattle.std.specs.Prelude.{Ok, Err, Result}
use Rattle.market.specs.declared.words.Order.{Order}
use Rattle.market.specs.declared.refusal.Refusal.{Refusal}
use Rattle.market.specs.Refusals.{number_of}
use Rattle.orderbook.specs.declared.book.totals.Totals.{Totals as Counted}
use Rattle.replay.specs.Questions.{Found, Is, NoSuch, Totals}

abbrev pub found_in : Result Order Refusal → Found
found_in (Ok o) = Is o
found_in (Err e) = NoSuch (number_of e)

abbrev pub totals_of : Counted → Totals
totals_of t = record { accepted = t.accepted; printed = t.printed; cancelled = t.cancelled; «open» = t.«open» }
