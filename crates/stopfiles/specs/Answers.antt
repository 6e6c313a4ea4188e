-- What a stop file answers to a call, and what it lists then. Assumes nothing.
use Rattle.std.specs.Prelude.{ℕ, List}
use Rattle.market.specs.declared.words.Stop.{Stop}
use Rattle.stops.specs.Stops.{adding, after_adding, numbered, elects, first_by, without_by, shares_in}
use Rattle.stopfiles.specs.declared.calls.Call.{Call}
use Rattle.stopfiles.specs.declared.calls.Call.TheVariants.{Add, Remove, TakeAt}
use Rattle.stopfiles.specs.declared.drive.Answer.{Answer}
use Rattle.stopfiles.specs.declared.drive.Answer.TheVariants.{Added, Removed, Taken}

abbrev pub answer_to : ℕ → Call → List Stop → Answer
answer_to room (Add s) ss = Added (adding room s ss)
answer_to room (Remove n) ss = Removed (shares_in (first_by (numbered n) ss))
answer_to room (TakeAt p) ss = Taken (first_by (elects p) ss)

abbrev pub stops_after : ℕ → Call → List Stop → List Stop
stops_after room (Add s) ss = after_adding (adding room s ss) s ss
stops_after room (Remove n) ss = without_by (numbered n) ss
stops_after room (TakeAt p) ss = without_by (elects p) ss
