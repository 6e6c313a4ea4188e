-- Everything that is printed of a text. Assumes nothing.
use Rattle.std.specs.Prelude.{ℕ, ◌+◌, cond, not, ◌&&◌, List, [], ◌∷◌, ◌++◌, length, map, Ok, Err, Result, ◌==◌, nat_lt}
use Rattle.text.specs.Refusals.{code_of}
use Rattle.text.specs.declared.refusal.Refusal.TheVariants.{InputTooLong}
use Rattle.text.specs.declared.fault.LineFault.{LineFault}
use Rattle.text.specs.declared.printed.Layer.{Layer}
use Rattle.text.specs.declared.printed.Layer.TheVariants.{Text, Session, Market}
use Rattle.text.specs.declared.printed.Printed.{Printed}
use Rattle.text.specs.declared.printed.Printed.TheVariants as shown
use Rattle.replay.specs.Refusals.{other_phase}
use Rattle.replay.specs.Days.{Day, new_day, Phase, Closed, Rule, Outcome, Answer, Done, Number, Lines, Entered, Refused}
use Rattle.replay.specs.Calls.{is_phase, handed, step}
use Rattle.replay.specs.Questions.{Totals, totals}
use Rattle.playback.specs.declared.call.Call.{Call}
use Rattle.playback.specs.Stages.{call_of}
use Rattle.playback.specs.Lent.{lent}
use Rattle.market.specs.declared.words.TapeLine.{TapeLine}
use Rattle.sharing.specs.Turns.{by_time}
use Rattle.text.specs.Printed.{bytes_of}
use Rattle.session.specs.Hearing.{heard, calls_among}

-- a call of another phase is refused by the session, any other by the market
abbrev pub layer_of : ℕ → Layer
layer_of k = cond (k == other_phase) Session Market

-- what an answer to line n is worth: the number of an order, or a refusal
abbrev pub spoken : ℕ → Answer → List Printed
spoken n Done = []
spoken n (Number k) = shown.Accepted k ∷ []
spoken n (Lines k) = []
spoken n (Entered k j) = shown.Accepted k ∷ []
spoken n (Refused k) = shown.Refused n (layer_of k) k 0 ∷ []

abbrev pub totals_line : Totals → Printed
totals_line t = shown.Totals t.accepted t.printed t.cancelled t.«open»

-- the totals, where the day has just closed
abbrev pub closing : Phase → Day → List Printed
closing f e = cond (is_phase Closed e.phase && not (is_phase Closed f)) (totals_line (totals e) ∷ []) []

-- what is printed of a call on day d that came out as r
abbrev pub said : ℕ → Day → Outcome → List Printed
said n d r = spoken n r.answer ++ map shown.Tape (handed d r.day) ++ closing d.phase r.day

-- a text that is too long is refused whole
abbrev pub too_long : Printed
too_long = shown.Refused 0 Text (code_of InputTooLong) 0

-- free is how many lines each call is lent
module _ (gifts : Rule) (room free : ℕ) where
  abbrev pub said_of : ℕ → Day → Result Call LineFault → List Printed
  said_of n d (Ok c) = said n d (step gifts room d (call_of free c))
  said_of n d (Err f) = shown.Refused n Text (code_of f.cause) f.field ∷ []

  abbrev pub day_behind : Day → Result Call LineFault → Day
  day_behind d (Ok c) = (step gifts room d (call_of free c)).day
  day_behind d (Err f) = d

  -- what is printed of lines that are numbered from n, on day d
  unfoldable pub printed : ℕ → Day → List (Result Call LineFault) → List Printed
  printed n d [] = []
  printed n d (x ∷ xs) = said_of n d x ++ printed (n + 1) (day_behind d x) xs

  -- what is printed of a text
  abbrev pub transcript : List ℕ → List Printed
  transcript text = cond (nat_lt 32768 (length text)) (too_long ∷ []) (printed 1 new_day (heard text))

  -- what the lines that are lent to each call hold in the end
  abbrev pub lines_after : List ℕ → List TapeLine → List TapeLine
  lines_after text ls = cond (nat_lt 32768 (length text)) ls (lent gifts room new_day (map (call_of free) (calls_among (heard text))) ls)

-- the bytes that the program prints of a text: by time priority, with 512 places for stops and 2,049 free lines a call
abbrev pub day_shown : List ℕ → List ℕ
day_shown text = bytes_of (transcript by_time 512 2049 text)
