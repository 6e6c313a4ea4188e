-- What an answer tells of the lines that were written.
use Rattle.std.proofs.Common.{◌≡◌, ℕ, length, Option, Some, None, Result, Ok, Err, refl}
use Rattle.replay.specs.Days.{Day, Rule, Call, Answer, Set, LoadLimit, LoadStop, Open, Enter, CancelOrder, FloorTrade, Resume, Close, Done, Number, Lines, Entered, Refused}
use Rattle.replay.specs.Calls.{refusal, checks, became, answered, perform, decided, step}
use Rattle.replay.specs.Moves.{set_up, admit, centre, to}
use Rattle.replay.specs.History.{bare}
use Rattle.playback.specs.declared.reply.Reply.{Reply}
use Rattle.playback.specs.declared.reply.Reply.TheVariants as replies
use Rattle.playback.specs.declared.reply.CallRefusal.{CallRefusal}
use Rattle.playback.specs.Replies.{answer_of, lines_of}

-- how many lines an answer tells of
abbrev pub told : Answer → ℕ
told Done = 0
told (Number n) = 0
told (Lines k) = k
told (Entered n k) = k
told (Refused k) = 0

pub told_lines : (r : Result Reply CallRefusal) → lines_of r ≡ told (answer_of r)
told_lines (Ok replies.Done) = refl
told_lines (Ok (replies.Number n)) = refl
told_lines (Ok (replies.Lines k)) = refl
told_lines (Ok (replies.Entered r)) = refl
told_lines (Err e) = refl

told_done : (gifts : Rule) (d : Day) (c : Call) → told (answered (bare d) c (became gifts (bare d) c)) ≡ length (became gifts (bare d) c).tape
unfolding answered became set_up admit centre to
told_done gifts d (Set k c p) = refl
told_done gifts d (LoadLimit s m p q) = refl
told_done gifts d (LoadStop s m p q) = refl
told_done gifts d Open = refl
told_done gifts d (Enter k s m p q f) = refl
told_done gifts d (CancelOrder m n f) = refl
told_done gifts d (FloorTrade p q f) = refl
told_done gifts d (Resume f) = refl
told_done gifts d Close = refl

-- on a day without history an answer tells of all lines of the tape
pub told_tape : (gifts : Rule) (room : ℕ) (d : Day) (c : Call) → told (step gifts room (bare d) c).answer ≡ length (step gifts room (bare d) c).day.tape
unfolding step perform
told_tape gifts room d c = go (refusal (checks room (bare d) c))
  where
    go : (x : Option ℕ) → told (decided x (bare d) (perform gifts (bare d) c)).answer ≡ length (decided x (bare d) (perform gifts (bare d) c)).day.tape
    go None = told_done gifts d c
    go (Some k) = refl
