-- What holds of every text, whatever the rule and the stop file. Assumes nothing.
use Rattle.std.specs.Prelude.{◌≡◌, ℕ, ◌≤◌, Bool, List, [], ◌∷◌, ◌++◌, length, map, Ok, Err, Result}
use Rattle.std.specs.List.{AllZip}
use Rattle.market.specs.declared.words.TapeLine.{TapeLine}
use Rattle.text.specs.declared.fault.LineFault.{LineFault}
use Rattle.text.specs.declared.printed.Printed.{Printed}
use Rattle.text.specs.declared.printed.Printed.TheVariants.{Tape, Totals}
use Rattle.replay.specs.Days.{Day, new_day, Rule}
use Rattle.replay.specs.Days as days
use Rattle.replay.specs.Calls.{after_calls}
use Rattle.replay.specs.SharesAddUp.{brought_in}
use Rattle.replay.specs.StopsUnseen.{SameLine, Pair, Unelected}
use Rattle.playback.specs.declared.call.Call.{Call}
use Rattle.playback.specs.Stages.{call_of}
use Rattle.playback.specs.Laws.{ListLaws}
use Rattle.session.specs.Hearing.{heard, calls_among}
use Rattle.session.specs.Above.{tape_in, Stands}
use Rattle.session.specs.Refusals.{refusals_in, refusals_from}
use Rattle.session.specs.Transcripts.{day_behind, transcript}

-- the calls that a text holds, performed or refused, where each is lent so many lines
abbrev pub calls_of : ℕ → List ℕ → List days.Call
calls_of free text = map (call_of free) (calls_among (heard text))

-- the day after them all
abbrev pub last_day : Rule → ℕ → ℕ → List ℕ → Day
last_day gifts room free text = after_calls gifts room new_day (calls_of free text)

-- the shares that came in by the calls that were performed
abbrev pub brought : Rule → ℕ → ℕ → List ℕ → ℕ
brought gifts room free text = brought_in gifts room new_day (calls_of free text)

-- Two texts are alike if their lines, one by one, hold the same call or the same fault, or bring in the same stop but for price and shares.
-- N says which stops differ: take it for exactly their numbers. Each is accepted on both days.
abbrev pub AlikeLine : (ℕ → Bool) → ℕ → ℕ → Day → Day → Result Call LineFault → Result Call LineFault → Type 0
AlikeLine N room free d e (Ok c) (Ok c') = Pair N room d e (call_of free c) (call_of free c')
AlikeLine N room free d e (Ok c) (Err f) = ⊥
AlikeLine N room free d e (Err f) (Ok c) = ⊥
AlikeLine N room free d e (Err f) (Err f') = f ≡ f'

abbrev pub Alike : Rule → (ℕ → Bool) → ℕ → ℕ → Day → Day → List (Result Call LineFault) → List (Result Call LineFault) → Type 0
Alike gifts N room free d e [] [] = Unit {0}
Alike gifts N room free d e [] (y ∷ ys) = ⊥
Alike gifts N room free d e (x ∷ xs) [] = ⊥
Alike gifts N room free d e (x ∷ xs) (y ∷ ys) = AlikeLine N room free d e x y × Alike gifts N room free (day_behind gifts room free d x) (day_behind gifts room free e y) xs ys

-- equal lines, the X lines of one stop that differs, or totals of the same printed shares
pub data SamePrinted (N : ℕ → Bool) : Printed → Printed → Type 0 where
  equal : {p : Printed} → SamePrinted N p p
  on_tape : {l m : TapeLine} → SameLine N l m → SamePrinted N (Tape l) (Tape m)
  totalled : {a p c o a' c' o' : ℕ} → SamePrinted N (Totals a p c o) (Totals a' p c' o')

-- Unelected stops are invisible: of two texts that are alike but for price and shares of stops that both days accept and neither elects, the same is
-- printed, but the shares of those stops' X lines and of the totals those that are accepted, cancelled and open.
abbrev pub Unseen : Rule → ℕ → ℕ → ℕ → List ℕ → List ℕ → Type 0
Unseen gifts room room' free text text' =
    (N : ℕ → Bool) → length text ≤ 32768 → length text' ≤ 32768 → Alike gifts N room free new_day new_day (heard text) (heard text')
    → Unelected N (last_day gifts room free text) → Unelected N (last_day gifts room' free text') → AllZip (SamePrinted N) (transcript gifts room free text) (transcript gifts room' free text')

pub record TextLaws (gifts : Rule) (room free : ℕ) (text : List ℕ) : Type 0 where
  -- The laws of a list hold of the calls of the text: unelected stops are invisible; elections, limits, range and waiting are in order; shares add up.
  -- (Those of a text that is too long are never performed.)
  pub calls : ListLaws gifts room (calls_of free text)
  -- The tape that these laws speak of is the one that is printed.
  pub tape : length text ≤ 32768 → tape_in (transcript gifts room free text) ≡ (last_day gifts room free text).tape
  -- Unelected stops are invisible in what is printed, whatever the other text.
  pub invisible : (text' : List ℕ) → Unseen gifts room room free text text'
  -- Each printed line, against those above it: A numbers run 1, 2, 3 ..; a `!` line refuses a later line than those above, by a number of its layer; a Z line
  -- adds up what is printed above it, and only `!` lines stand below it.
  pub stands : (above below : List Printed) (p : Printed) → length text ≤ 32768 → transcript gifts room free text ≡ above ++ p ∷ below → Stands room free (brought gifts room free text) above p
  -- The `!` lines are those of the lines that are at fault and of the calls that are refused, and no others.
  pub refused : length text ≤ 32768 → refusals_in (transcript gifts room free text) ≡ refusals_from gifts room free 1 new_day (heard text)
