-- What a line comes to on a day, as the code has it. Assumes nothing.
use Rattle.std.specs.Prelude.{◌≡◌, ℕ, Bool, cond, List, [], ◌∷◌, ◌++◌, length, take, map, Ok, Err, Result}
use Rattle.market.specs.declared.words.Stop.{Stop}
use Rattle.market.specs.declared.words.TapeLine.{TapeLine}
use Rattle.text.specs.declared.read.Fault.{Fault as TextFault}
use Rattle.text.specs.declared.record.Record.{Record}
use Rattle.text.specs.declared.printed.Printed.{Printed}
use Rattle.text.specs.declared.printed.Printed.TheVariants.{Accepted, Tape}
use Rattle.replay.specs.Days.{Day, Rule}
use Rattle.replay.specs.Questions.{Totals}
use Rattle.trading.specs.Deeds.{Did}
use Rattle.playback.specs.declared.call.Call.{Call}
use Rattle.playback.specs.declared.reply.CallRefusal.{CallRefusal}
use Rattle.playback.specs.declared.reply.Reply.{Reply}
use Rattle.playback.specs.declared.reply.Reply.TheVariants.{Done, Number, Lines, Entered}
use Rattle.playback.specs.Replies.{answer_of}
use Rattle.playback.specs.Stages.{call_of}
use Rattle.session.specs.declared.fault.Cause.{Cause}
use Rattle.session.specs.declared.fault.Cause.TheVariants.{Text}
use Rattle.session.specs.Faults.{cause_of, refused}
use Rattle.session.specs.Hearing.{call_for}
use Rattle.session.specs.Transcripts.{totals_line}

-- what a call answered, as the session has it
abbrev pub passed_up : Result Reply CallRefusal → Result Reply Cause
passed_up (Ok r) = Ok r
passed_up (Err e) = Err (cause_of e)

-- what is printed first of line n: its reply, or its fault
abbrev pub first_said : ℕ → Result Reply Cause → List Printed
first_said n (Ok Done) = []
first_said n (Ok (Number k)) = Accepted k ∷ []
first_said n (Ok (Lines k)) = []
first_said n (Ok (Entered r)) = Accepted r.number ∷ []
first_said n (Err c) = refused (record { line = n; cause = c }) ∷ []

-- how many lines were written
abbrev pub lines_in : Result Reply Cause → ℕ
lines_in (Ok Done) = 0
lines_in (Ok (Number n)) = 0
lines_in (Ok (Lines k)) = k
lines_in (Ok (Entered r)) = r.lines
lines_in (Err c) = 0

-- everything that is printed of line n: its reply, the lines that its call wrote, and the totals of a day that it closed
abbrev pub shown : ℕ → Result Reply Cause → List TapeLine → Bool → Totals → List Printed
shown n a ls closed t = first_said n a ++ map Tape (take (lines_in a) ls) ++ cond closed (totals_line t ∷ []) []

-- a call was put to the day, performed or refused
pub record Performed (gifts : Rule) (room : ℕ) (d : Day) (c : Call) (a : Result Reply Cause) (e : Day) (ls ls' : List TapeLine) : Type 0 where
  pub reply : Result Reply CallRefusal
  pub up : a ≡ passed_up reply
  pub stops : List Stop
  pub did : Did gifts room d (call_of (length ls) c) (answer_of reply) e stops ls ls'

-- a line at fault altered nothing, and the fault is as it was
pub record Left (f : TextFault) (d : Day) (a : Result Reply Cause) (e : Day) (ls ls' : List TapeLine) : Type 0 where
  pub said : a ≡ Err (Text f)
  pub day : e ≡ d
  pub lines : ls' ≡ ls

-- what came of a line
abbrev pub Came : Rule → ℕ → Day → Result Record TextFault → Result Reply Cause → Day → List TapeLine → List TapeLine → Type 0
Came gifts room d (Ok r) a e ls ls' = Performed gifts room d (call_for d.phase r) a e ls ls'
Came gifts room d (Err f) a e ls ls' = Left f d a e ls ls'
