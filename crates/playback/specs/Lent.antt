-- What the lines that are lent to each call of a list hold in the end. Assumes nothing.
use Rattle.std.specs.Prelude.{ℕ, List, [], ◌∷◌, ◌++◌, length, drop}
use Rattle.market.specs.declared.words.TapeLine.{TapeLine}
use Rattle.replay.specs.Days.{Day, Rule, Call}
use Rattle.replay.specs.Calls.{handed, step}

-- some of a list written over others, from the first on
abbrev pub over : {A : Type 0} → List A → List A → List A
over ts ls = ts ++ drop (length ts) ls

-- each call writes those that it hands over, and leaves the others as they were
unfoldable pub lent : Rule → ℕ → Day → List Call → List TapeLine → List TapeLine
lent gifts room d [] ls = ls
lent gifts room d (c ∷ cs) ls = lent gifts room (step gifts room d c).day cs (over (handed d (step gifts room d c).day) ls)
