-- The roll holds 512 orders, numbered in turn. Assumes nothing.
use Rattle.std.specs.Prelude.{◌≡◌, ℕ, suc, ◌<◌, ◌≤◌, List, [], ◌∷◌, length, Some, ◌≢◌}
use Rattle.market.specs.declared.words.Order.{Order}
use Rattle.sharing.specs.Shares.{LawfulRule}
use Rattle.replay.specs.Refusals.{roll_full}
use Rattle.replay.specs.Days.{Day, new_day, Call, Rule}
use Rattle.replay.specs.Calls.{refusal, checks, after_calls}

-- the orders have the numbers k, k + 1 and so on
abbrev pub Numbered : ℕ → List Order → Type 0
Numbered k [] = Unit {0}
Numbered k (o ∷ os) = (o.number ≡ k) × Numbered (suc k) os

pub record RollInOrder (d : Day) : Type 0 where
  pub numbered : Numbered 1 d.roll
  pub most : length d.roll ≤ 512

pub record RollHolds : Type 0 where
  -- the orders of a day are numbered from 1, and there are never more than 512
  pub kept : (gifts : Rule) → LawfulRule gifts → (room : ℕ) (cs : List Call) → RollInOrder (after_calls gifts room new_day cs)
  -- while there are fewer, no call is refused for want of a place on the roll
  pub room_left : (room : ℕ) (d : Day) (c : Call) → length d.roll < 512 → refusal (checks room d c) ≢ Some roll_full
