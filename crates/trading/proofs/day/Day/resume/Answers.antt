use Rattle.std.proofs.Common.{ℕ, ◌≤◌, [], length, sym, refl, ap, ◌∙◌, arith}
use Rattle.replay.specs.StopFile.{file_of}
use Rattle.std.proofs.lemmas.Result.{err_from_is_err_and}
use Rattle.replay.specs.Days.{Trading, Resume, Lines}
use Rattle.replay.specs.Calls.{checks, became, answered}
use Rattle.trading.specs.Boards.{day_of}
use Rattle.trading.proofs.Doing.{did_refused, did_done, lines_are, counted_lines, checks_resume}
use Rattle.trading.proofs.Running.{shown}
use Rattle.trading.proofs.day.Day.resume.Goals as goal

pub returns-in_err-check_resume-clause-did : goal.returns-in_err-check_resume-clause-did
unfolding checks
returns-in_err-check_resume-clause-did g c =
    let b = c.args.self.now.board in
    let p = err_from_is_err_and c.from_residual.result c.from_residual.ensures.1 in
    rw (p.1, p.2) (did_refused (g.R.ShareOut.gifts c.args.self.now.rule) (g.F.StopFile.room c.args.self.now.file) b (Resume (length c.args.tape.now))
    (sym (c.in_err-check_resume.ensures ∙ checks_resume b c.args.self.now.filed c.space.ensures.filed Trading (length c.args.tape.now) c.space.ensures.free)) refl c.args.self.now.filed refl refl refl)

pub invariant_of-self : goal.invariant_of-self
invariant_of-self g c =
    let b = c.args.self.now.board in
    let s = c.resume.ensures.day Trading (day_of Trading b) (shown Trading b []) c.args.self.now.filed in
    record { filed = s.1 ∙ ap file_of (sym s.0.roll) }

pub returns-clause-did : goal.returns-clause-did
unfolding checks became answered
returns-clause-did g c =
    let b = c.args.self.now.board in
    let k = c.resume.result in
    let new = c.resume.new.tape in
    let long : k ≤ length new = omega (arith, c.resume.ensures.lines, c.resume.auto.tape) in
    let s = c.resume.ensures.day Trading (day_of Trading b) (shown Trading b []) c.args.self.now.filed in
    did_done (g.R.ShareOut.gifts c.args.self.now.rule) (g.F.StopFile.room c.args.self.now.file) b (Resume (length c.args.tape.now))
    (sym (c.in_ok-check_resume.ensures ∙ checks_resume b c.args.self.now.filed c.space.ensures.filed Trading (length c.args.tape.now) c.space.ensures.free))
    (ap (λ (n : ℕ). Lines n) (counted_lines k new long s.0.tape)) s.0 s.1 (lines_are k c.args.tape.now new long c.resume.ensures.others)
