-- Only stops of the stop file are elected, by a print or floor trade that reached them, and none of them twice. Assumes nothing.
use Rattle.std.specs.Prelude.{◌≡◌, ℕ, ◌≤◌, List, Some}
use Rattle.market.specs.declared.words.Kind.TheVariants.{Stop}
use Rattle.market.specs.declared.words.Place.TheVariants.{StopFile}
use Rattle.market.specs.declared.words.Order.{Order}
use Rattle.market.specs.declared.words.TapeLine.{TapeLine}
use Rattle.market.specs.declared.words.TapeLine.TheVariants.{Print, Cancel, Elect, Floor}
use Rattle.std.specs.List.{AllByRecursion}
use Rattle.sharing.specs.Shares.{LawfulRule}
use Rattle.replay.specs.Lists.{only, total}
use Rattle.replay.specs.Days.{Day, new_day, Call, Rule}
use Rattle.replay.specs.Rolls.{look}
use Rattle.replay.specs.Calls.{handed, step, after_calls}
use Rattle.replay.specs.Elections.{elects, Elected}

-- A line among the lines ls of a call on day d: if it is an E line, its order was a stop in the file before the call; and an earlier line of the call
-- reached it, with nothing between them but lines of the same run and other elections.
abbrev pub OfFiled : Day → List TapeLine → TapeLine → Type 0
OfFiled d ls (Print n p q l h) = Unit {0}
OfFiled d ls (Cancel n q) = Unit {0}
OfFiled d ls (Elect n) = (o : Order) × (look n d.roll ≡ Some o) × (o.kind ≡ Stop) × (o.place ≡ StopFile) × Elected n o.side o.price ls
OfFiled d ls (Floor p q) = Unit {0}

-- Every E line of a call is that of such a stop.
abbrev pub OnlyFiledElected : Type 0
OnlyFiledElected = (gifts : Rule) → LawfulRule gifts → (room : ℕ) (cs : List Call) (c : Call)
    → AllByRecursion (OfFiled (after_calls gifts room new_day cs) (handed (after_calls gifts room new_day cs) (step gifts room (after_calls gifts room new_day cs) c).day))
    (handed (after_calls gifts room new_day cs) (step gifts room (after_calls gifts room new_day cs) c).day)

-- how many E lines of order n there are
abbrev pub elections_of : ℕ → List TapeLine → ℕ
elections_of n ls = total (λ x. only (elects n x) 1) ls

-- No order is elected twice in a day.
abbrev pub ElectedOnce : Type 0
ElectedOnce = (gifts : Rule) → LawfulRule gifts → (room : ℕ) (cs : List Call) (n : ℕ) → elections_of n (after_calls gifts room new_day cs).tape ≤ 1
