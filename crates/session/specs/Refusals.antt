-- Which lines of a text are refused, and by what. Assumes nothing.
use Rattle.std.specs.Prelude.{ℕ, ◌+◌, Bool, true, false, List, [], ◌∷◌, ◌++◌, Some, None, Option, Ok, Err, Result}
use Rattle.std.specs.List.{filter}
use Rattle.text.specs.Refusals.{code_of}
use Rattle.text.specs.declared.fault.LineFault.{LineFault}
use Rattle.text.specs.declared.printed.Layer.TheVariants.{Text}
use Rattle.text.specs.declared.printed.Printed.{Printed}
use Rattle.text.specs.declared.printed.Printed.TheVariants.{Accepted, Tape, Refused, Totals}
use Rattle.replay.specs.Days.{Day, Rule}
use Rattle.replay.specs.Calls.{refusal, checks}
use Rattle.playback.specs.declared.call.Call.{Call}
use Rattle.playback.specs.Stages.{call_of}
use Rattle.session.specs.Transcripts.{layer_of, day_behind}

abbrev pub is_refusal : Printed → Bool
is_refusal (Accepted n) = false
is_refusal (Tape l) = false
is_refusal (Refused n layer k field) = true
is_refusal (Totals a p c o) = false

-- the `!` lines among some printed lines
abbrev pub refusals_in : List Printed → List Printed
refusals_in ps = filter is_refusal ps

-- line n, whose call is refused by number, or is not
abbrev pub refused_by : ℕ → Option ℕ → List Printed
refused_by n None = []
refused_by n (Some k) = Refused n (layer_of k) k 0 ∷ []

module _ (gifts : Rule) (room free : ℕ) where
  -- line n on day d: its fault, or what the market has against its call
  abbrev pub refusal_of : ℕ → Day → Result Call LineFault → List Printed
  refusal_of n d (Ok c) = refused_by n (refusal (checks room d (call_of free c)))
  refusal_of n d (Err f) = Refused n Text (code_of f.cause) f.field ∷ []

  -- lines that are numbered from n, on day d: one refusal for each that is at fault or whose call is refused, and none for another
  unfoldable pub refusals_from : ℕ → Day → List (Result Call LineFault) → List Printed
  refusals_from n d [] = []
  refusals_from n d (x ∷ xs) = refusal_of n d x ++ refusals_from (n + 1) (day_behind gifts room free d x) xs
