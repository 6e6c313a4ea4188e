-- What a call hands over follows what the tape had.
use Rattle.std.proofs.Common.{◌≡◌, ℕ, List, [], ◌∷◌, ◌++◌, sym, ap, ◌∙◌}
use Rattle.sharing.specs.Shares.{LawfulRule}
use Rattle.replay.specs.Days.{Day, Rule, Call, new_day}
use Rattle.replay.specs.Calls.{handed, step, after_calls, tapes}
use Rattle.replay.specs.History.{Bare, joined}
use Rattle.replay.specs.TapeGrows.{TapeGrows}
use Rattle.replay.proofs.Lists.{append_append, append_none}
use Rattle.replay.proofs.History.{step_bare}

pub call_grows : (gifts : Rule) (room : ℕ) (d : Day) (c : Call) → (step gifts room d c).day.tape ≡ d.tape ++ handed d (step gifts room d c).day
call_grows gifts room d c = let s : Bare gifts room d c = step_bare gifts room d c in s.tape ∙ ap (λ ls. d.tape ++ ls) (sym s.lines)

pub list_grows : (gifts : Rule) (room : ℕ) (cs : List Call) (d : Day) → (after_calls gifts room d cs).tape ≡ d.tape ++ joined (tapes gifts room d cs)
unfolding after_calls tapes
list_grows gifts room [] d = sym (append_none d.tape)
list_grows gifts room (c ∷ cs) d =
    let e : Day = (step gifts room d c).day in
    list_grows gifts room cs e ∙ ap (λ ls. ls ++ joined (tapes gifts room e cs)) (call_grows gifts room d c) ∙ append_append d.tape (handed d e) (joined (tapes gifts room e cs))

pub tape_whole : (gifts : Rule) → LawfulRule gifts → (room : ℕ) (cs : List Call) → (after_calls gifts room new_day cs).tape ≡ joined (tapes gifts room new_day cs)
unfolding new_day
tape_whole gifts lawful room cs = list_grows gifts room cs new_day

pub tape_grows : TapeGrows
tape_grows = record { call = call_grows; list = list_grows; whole = tape_whole }
