-- When a call is refused for a full roll, a full stop file, a short tape or a bad column, and when never. Assumes nothing.
use Rattle.std.specs.Prelude.{◌≡◌, ℕ, ◌<◌, ◌≤◌, true, false, List, length, Some, None, ◌≢◌}
use Rattle.market.specs.declared.words.Kind.{Kind}
use Rattle.market.specs.declared.words.Kind.TheVariants.{Limit, Stop}
use Rattle.market.specs.Bounds.{is_price, is_shares, is_member}
use Rattle.sharing.specs.Shares.{LawfulRule}
use Rattle.replay.specs.Refusals.{bad_column, roll_full, tape_short, stop_file_full}
use Rattle.replay.specs.Days.{Day, Loading, Trading, new_day, Call, Set, LoadLimit, LoadStop, Open, Enter, CancelOrder, FloorTrade, Resume, Close, Rule}
use Rattle.replay.specs.Rolls.{is_market, filed}
use Rattle.replay.specs.Calls.{letter_l, letter_h, refusal, checks, after_calls}
use Rattle.replay.specs.Lines.{free_lines}
use Rattle.replay.specs.RollHolds.{RollInOrder}

-- price, shares and member are what the market takes; a market order's price is not looked at
pub record GoodOrder (k : Kind) (m p q : ℕ) : Type 0 where
  pub price : is_market k ≡ false → is_price p ≡ true
  pub shares : is_shares q ≡ true
  pub member : is_member m ≡ true

-- a Load or Enter call in its phase, with a good order
abbrev pub BringsGood : Day → Call → Type 0
BringsGood d (Set k c p) = ⊥
BringsGood d (LoadLimit s m p q) = (d.phase ≡ Loading) × GoodOrder Limit m p q
BringsGood d (LoadStop s m p q) = (d.phase ≡ Loading) × GoodOrder Stop m p q
BringsGood d Open = ⊥
BringsGood d (Enter k s m p q f) = (d.phase ≡ Trading) × GoodOrder k m p q
BringsGood d (CancelOrder m n f) = ⊥
BringsGood d (FloorTrade p q f) = ⊥
BringsGood d (Resume f) = ⊥
BringsGood d Close = ⊥

-- a Load or Enter call
abbrev pub BringsOrder : Call → Type 0
BringsOrder (Set k c p) = ⊥
BringsOrder (LoadLimit s m p q) = Unit {0}
BringsOrder (LoadStop s m p q) = Unit {0}
BringsOrder Open = ⊥
BringsOrder (Enter k s m p q f) = Unit {0}
BringsOrder (CancelOrder m n f) = ⊥
BringsOrder (FloorTrade p q f) = ⊥
BringsOrder (Resume f) = ⊥
BringsOrder Close = ⊥

-- one whose order is a stop
abbrev pub BringsStop : Call → Type 0
BringsStop (Set k c p) = ⊥
BringsStop (LoadLimit s m p q) = ⊥
BringsStop (LoadStop s m p q) = Unit {0}
BringsStop Open = ⊥
BringsStop (Enter k s m p q f) = k ≡ Stop
BringsStop (CancelOrder m n f) = ⊥
BringsStop (FloorTrade p q f) = ⊥
BringsStop (Resume f) = ⊥
BringsStop Close = ⊥

-- a Set call whose column is the letter of neither
abbrev pub BadColumn : Call → Type 0
BadColumn (Set k c p) = (c ≢ letter_l) × (c ≢ letter_h)
BadColumn (LoadLimit s m p q) = ⊥
BadColumn (LoadStop s m p q) = ⊥
BadColumn Open = ⊥
BadColumn (Enter k s m p q f) = ⊥
BadColumn (CancelOrder m n f) = ⊥
BadColumn (FloorTrade p q f) = ⊥
BadColumn (Resume f) = ⊥
BadColumn Close = ⊥

-- on any day
pub record Causes (room : ℕ) (d : Day) : Type 0 where
  -- 43 is given exactly for a good order that finds 512 on the roll
  pub full : (c : Call) → 512 ≤ length d.roll → BringsGood d c → refusal (checks room d c) ≡ Some roll_full
  pub only_full : (c : Call) → refusal (checks room d c) ≡ Some roll_full → (512 ≤ length d.roll) × BringsGood d c
  -- so every order that is accepted finds fewer
  pub place_left : (c : Call) → refusal (checks room d c) ≡ None → BringsOrder c → length d.roll < 512
  -- 46 is given exactly for a good stop that finds a place on the roll, and as many filed stops as the stop file has room for
  pub filled : (c : Call) → length d.roll < 512 → room ≤ filed d.roll → BringsGood d c → BringsStop c → refusal (checks room d c) ≡ Some stop_file_full
  pub only_filled : (c : Call) → refusal (checks room d c) ≡ Some stop_file_full → (length d.roll < 512) × (room ≤ filed d.roll) × BringsGood d c × BringsStop c
  -- so it is never given where the stop file has room for 512
  pub file_holds : (c : Call) → 512 ≤ room → refusal (checks room d c) ≢ Some stop_file_full
  -- 32 is given only for a column whose letter is neither L nor H
  pub only_column : (c : Call) → refusal (checks room d c) ≡ Some bad_column → BadColumn c

-- on the days of a list
pub record Refusals (room : ℕ) (d : Day) : Type 0 where
  pub causes : Causes room d
  -- the orders are numbered in turn, and there are at most 512
  pub roll : RollInOrder d
  -- 44 is never given to a call with 2,049 free lines
  pub lines : (c : Call) → 2049 ≤ free_lines c → refusal (checks room d c) ≢ Some tape_short

pub record RefusalsGiven : Type 0 where
  -- the causes are those of any day, the rest holds after every list of calls
  pub any_day : (room : ℕ) (d : Day) → Causes room d
  pub of_lists : (gifts : Rule) → LawfulRule gifts → (room : ℕ) (cs : List Call) → Refusals room (after_calls gifts room new_day cs)
