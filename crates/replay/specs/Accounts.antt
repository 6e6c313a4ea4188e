-- The shares of every order are whole lots. Assumes nothing.
use Rattle.std.specs.Prelude.{◌≡◌, ℕ, ◌%◌, ◌≤◌, List}
use Rattle.std.specs.List.{AllByRecursion}
use Rattle.market.specs.declared.words.Order.{Order}
use Rattle.sharing.specs.Shares.{LawfulRule}
use Rattle.replay.specs.Days.{new_day, Call, Rule}
use Rattle.replay.specs.Calls.{after_calls}

pub record WholeLots (o : Order) : Type 0 where
  -- accepted shares are from 100 to 1,000,000
  pub accepted : (100 ≤ o.accepted) × (o.accepted ≤ 1000000)
  -- all of them, and those that are filled, cancelled and open, are multiples of 100
  pub lots : o.accepted % 100 ≡ 0
  pub filled : o.filled % 100 ≡ 0
  pub cancelled : o.cancelled % 100 ≡ 0
  pub «open» : o.«open» % 100 ≡ 0

-- So it is of every order, after every list of calls.
abbrev pub Accounts : Type 0
Accounts = (gifts : Rule) → LawfulRule gifts → (room : ℕ) (cs : List Call) → AllByRecursion WholeLots (after_calls gifts room new_day cs).roll
