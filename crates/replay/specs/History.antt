-- No rule looks at the tape or the fills of a day: a program need not keep them. Assumes nothing.
use Rattle.std.specs.Prelude.{◌≡◌, ℕ, List, [], ◌∷◌, ◌++◌}
use Rattle.market.specs.declared.words.TapeLine.{TapeLine}
use Rattle.replay.specs.Days.{Day, Rule, Call, Answer}
use Rattle.replay.specs.Calls.{handed, step, after_calls, answers, tapes}

-- the day without its history
abbrev pub bare : Day → Day
bare d = record { roll = d.roll; line = d.line; paused = d.paused; range = d.range; last = d.last; class = d.class; column = d.column; phase = d.phase; tape = []; fills = [] }

-- A call on the day without its history gives the same answer; the lines handed over are then its whole tape; and the day after it is the same but
-- for its history.
pub record Bare (gifts : Rule) (room : ℕ) (d : Day) (c : Call) : Type 0 where
  pub answer : (step gifts room d c).answer ≡ (step gifts room (bare d) c).answer
  pub lines : handed d (step gifts room d c).day ≡ (step gifts room (bare d) c).day.tape
  pub tape : (step gifts room d c).day.tape ≡ d.tape ++ (step gifts room (bare d) c).day.tape
  pub day : bare (step gifts room d c).day ≡ bare (step gifts room (bare d) c).day

-- a list of calls on days without history
unfoldable pub bare_calls : Rule → ℕ → Day → List Call → Day
bare_calls gifts room b [] = b
bare_calls gifts room b (c ∷ cs) = bare_calls gifts room (bare (step gifts room b c).day) cs

unfoldable pub bare_answers : Rule → ℕ → Day → List Call → List Answer
bare_answers gifts room b [] = []
bare_answers gifts room b (c ∷ cs) = (step gifts room b c).answer ∷ bare_answers gifts room (bare (step gifts room b c).day) cs

unfoldable pub bare_tapes : Rule → ℕ → Day → List Call → List (List TapeLine)
bare_tapes gifts room b [] = []
bare_tapes gifts room b (c ∷ cs) = (step gifts room b c).day.tape ∷ bare_tapes gifts room (bare (step gifts room b c).day) cs

-- the lines of all calls, one after the other
abbrev pub joined : List (List TapeLine) → List TapeLine
joined [] = []
joined (xs ∷ xss) = xs ++ joined xss

-- the same of lists of calls
pub record BareRun (gifts : Rule) (room : ℕ) (d : Day) (cs : List Call) : Type 0 where
  pub day : bare (after_calls gifts room d cs) ≡ bare_calls gifts room (bare d) cs
  pub answers : answers gifts room d cs ≡ bare_answers gifts room (bare d) cs
  pub lines : tapes gifts room d cs ≡ bare_tapes gifts room (bare d) cs
  pub tape : (after_calls gifts room d cs).tape ≡ d.tape ++ joined (bare_tapes gifts room (bare d) cs)

-- For any rule, lawful or not, and from any day.
abbrev pub HistoryUnread : Type 0
HistoryUnread = (gifts : Rule) (room : ℕ) (cs : List Call) (d : Day) → BareRun gifts room d cs
