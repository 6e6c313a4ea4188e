-- What may be asked on any day; no answer changes it. Assumes nothing.
use Rattle.std.specs.Prelude.{ℕ, ◌/◌, Bool, List, Some, None, Option}
use Rattle.market.specs.declared.words.Side.{Side}
use Rattle.market.specs.declared.words.Order.{Order}
use Rattle.market.specs.declared.words.Range.{Range}
use Rattle.market.specs.Orders.{rests_on}
use Rattle.replay.specs.Refusals.{no_such_order}
use Rattle.replay.specs.Lists.{total}
use Rattle.replay.specs.Days.{Day}
use Rattle.replay.specs.Rolls.{look}
use Rattle.replay.specs.Book.{row, prices, best}

abbrev pub quote_of : Side → List Order → Option ℕ → Option (ℕ × ℕ)
quote_of c os None = None
quote_of c os (Some p) = Some (p, total (λ n. n) (row c p os))

-- the quote of a side: its best price and all shares there; an empty side has none
unfoldable pub quote : Side → Day → Option (ℕ × ℕ)
quote c d = quote_of c d.roll (best c (prices (rests_on c) d.roll))

abbrev pub is_paused : Day → Bool
is_paused d = d.paused

-- the range in force, if there is one
abbrev pub in_force : Day → Option Range
in_force d = d.range

pub data Found : Type 0 where
  Is : Order → Found
  NoSuch : ℕ → Found

abbrev pub record_from : Option Order → Found
record_from None = NoSuch no_such_order
record_from (Some o) = Is o

-- an order of the roll by its number
abbrev pub record_of : ℕ → Day → Found
record_of n d = record_from (look n d.roll)

-- Totals over every order of the roll. Each print fills a buy and a sell, so that the printed shares are half of the filled.
pub record Totals : Type 0 where
  pub accepted : ℕ
  pub printed : ℕ
  pub cancelled : ℕ
  pub «open» : ℕ

unfoldable pub totals : Day → Totals
totals d = record {
  accepted = total (λ o. o.accepted) d.roll;
  printed = total (λ o. o.filled) d.roll / 2;
  cancelled = total (λ o. o.cancelled) d.roll;
  «open» = total (λ o. o.«open») d.roll;
}
