-- Shares add up: of the days and the lines that are handed out. Assumes nothing.
use Rattle.std.specs.Prelude.{◌≡◌, ℕ, ◌+◌, ◌*◌, List}
use Rattle.std.specs.List.{AllByRecursion}
use Rattle.market.specs.declared.words.Side.TheVariants.{Buy, Sell}
use Rattle.market.specs.declared.words.Order.{Order}
use Rattle.market.specs.declared.words.TapeLine.{TapeLine}
use Rattle.replay.specs.Lists.{total}
use Rattle.replay.specs.Days.{Day, Call, Answer, Done, Number, Lines, Entered, Refused}
use Rattle.replay.specs.Questions.{totals}
use Rattle.replay.specs.SharesAddUp.{print_of, cancel_of, brings, filled_on}

-- what a call brought in, by its answer: nothing if it was refused
abbrev pub brought : Answer → Call → ℕ
brought Done c = brings c
brought (Number n) c = brings c
brought (Lines k) c = brings c
brought (Entered n k) c = brings c
brought (Refused k) c = 0

-- From a day to the next by one call, and the lines that it handed over: accepted are those before and what the call brought in, printed those before
-- and its P lines, cancelled those before and its X lines; each printed share is one bought and one sold, and each order adds up.
pub record Adds (d e : Day) (c : Call) (a : Answer) (ls : List TapeLine) : Type 0 where
  pub accepted : (totals e).accepted ≡ (totals d).accepted + brought a c
  pub printed : (totals e).printed ≡ (totals d).printed + total print_of ls
  pub cancelled : (totals e).cancelled ≡ (totals d).cancelled + total cancel_of ls
  pub sum : (totals e).accepted ≡ 2 * (totals e).printed + (totals e).cancelled + (totals e).«open»
  pub each : AllByRecursion (λ (o : Order). o.accepted ≡ o.filled + o.cancelled + o.«open») e.roll

-- Of the day that a list of calls has reached, all lines that it handed over, and the shares that its performed calls brought in.
pub record AddsUp (d : Day) (ls : List TapeLine) (q : ℕ) : Type 0 where
  pub accepted : (totals d).accepted ≡ q
  pub printed : (totals d).printed ≡ total print_of ls
  pub cancelled : (totals d).cancelled ≡ total cancel_of ls
  pub sum : (totals d).accepted ≡ 2 * (totals d).printed + (totals d).cancelled + (totals d).«open»
  pub each : AllByRecursion (λ (o : Order). o.accepted ≡ o.filled + o.cancelled + o.«open») d.roll
  pub bought : total (filled_on Buy) d.roll ≡ total print_of ls
  pub sold : total (filled_on Sell) d.roll ≡ total print_of ls
