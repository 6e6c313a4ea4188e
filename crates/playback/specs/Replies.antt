-- Replies and refusals as the definitions have them. Assumes nothing.
use Rattle.std.specs.Prelude.{ℕ, Ok, Err, Result}
use Rattle.market.specs.Refusals as market
use Rattle.replay.specs.Days.{Answer}
use Rattle.replay.specs.Days as days
use Rattle.playback.specs.declared.reply.Reply.{Reply}
use Rattle.playback.specs.declared.reply.Reply.TheVariants.{Done, Number, Lines, Entered}
use Rattle.playback.specs.declared.reply.CallRefusal.{CallRefusal}
use Rattle.playback.specs.declared.reply.CallRefusal.TheVariants.{OtherPhase, Market}

-- the number of a refusal
abbrev pub number_of : CallRefusal → ℕ
number_of OtherPhase = 21
number_of (Market r) = market.number_of r

-- the lines that a performed call wrote
abbrev pub lines_in : Reply → ℕ
lines_in Done = 0
lines_in (Number n) = 0
lines_in (Lines k) = k
lines_in (Entered r) = r.lines

abbrev pub answer_of : Result Reply CallRefusal → Answer
answer_of (Ok Done) = days.Done
answer_of (Ok (Number n)) = days.Number n
answer_of (Ok (Lines k)) = days.Lines k
answer_of (Ok (Entered r)) = days.Entered r.number r.lines
answer_of (Err e) = days.Refused (number_of e)

-- the lines that a call wrote
abbrev pub lines_of : Result Reply CallRefusal → ℕ
lines_of (Ok r) = lines_in r
lines_of (Err e) = 0
