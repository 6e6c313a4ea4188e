-- Refusals of all layers, by number. Assumes nothing.
use Rattle.std.specs.Prelude.{ℕ}
use Rattle.market.specs.Refusals.{number_of}
use Rattle.text.specs.Refusals.{code_of}
use Rattle.text.specs.declared.printed.Layer.{Layer}
use Rattle.text.specs.declared.printed.Layer.TheVariants as layers
use Rattle.text.specs.declared.printed.Printed.{Printed}
use Rattle.text.specs.declared.printed.Printed.TheVariants.{Refused}
use Rattle.playback.specs.declared.reply.CallRefusal.{CallRefusal}
use Rattle.playback.specs.declared.reply.CallRefusal.TheVariants as calls
use Rattle.replay.specs.Refusals.{other_phase}
use Rattle.session.specs.declared.fault.Cause.{Cause}
use Rattle.session.specs.declared.fault.Cause.TheVariants.{Text, OtherPhase, Market}
use Rattle.session.specs.declared.fault.Fault.{Fault}

abbrev pub cause_of : CallRefusal → Cause
cause_of calls.OtherPhase = OtherPhase
cause_of (calls.Market r) = Market r

abbrev pub layer_in : Cause → Layer
layer_in (Text f) = layers.Text
layer_in OtherPhase = layers.Session
layer_in (Market r) = layers.Market

abbrev pub number_in : Cause → ℕ
number_in (Text f) = code_of f.cause
number_in OtherPhase = other_phase
number_in (Market r) = number_of r

-- the place of the field at fault: only a text has fields
abbrev pub field_in : Cause → ℕ
field_in (Text f) = f.field
field_in OtherPhase = 0
field_in (Market r) = 0

abbrev pub refused : Fault → Printed
refused f = Refused f.line (layer_in f.cause) (number_in f.cause) (field_in f.cause)
