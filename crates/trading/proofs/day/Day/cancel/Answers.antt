use Rattle.std.proofs.Common.{ℕ, ◌≤◌, not, eqb, [], length, sym, refl, ap, arith, ◌∙◌}
use Rattle.replay.specs.StopFile.{file_of}
use Rattle.std.proofs.lemmas.Result.{err_from_is_err_and}
use Rattle.replay.specs.Days.{Trading, CancelOrder, Lines}
use Rattle.replay.specs.Rolls.{look, absent, member_of, open_of}
use Rattle.replay.specs.Calls.{checks, became, answered}
use Rattle.trading.specs.Boards.{orders_of, day_of}
use Rattle.trading.proofs.Doing.{did_refused, did_done, lines_are, counted_lines, cancel_passed}
use Rattle.trading.proofs.Running.{shown}
use Rattle.trading.proofs.day.Day.cancel.Goals as goal

pub returns-in_err-check_cancel-clause-did : goal.returns-in_err-check_cancel-clause-did
unfolding checks
returns-in_err-check_cancel-clause-did g c =
    let b = c.args.self.now.board in
    let p = err_from_is_err_and c.from_residual.result c.from_residual.ensures.1 in
    rw (p.1, p.2) (did_refused (g.R.ShareOut.gifts c.args.self.now.rule) (g.F.StopFile.room c.args.self.now.file) b (CancelOrder c.args.member c.args.number (length c.args.tape.now))
    (sym c.in_err-check_cancel.ensures) refl c.args.self.now.filed refl refl refl)

pub invariant_of-self : goal.invariant_of-self
invariant_of-self g c =
    let b = c.args.self.now.board in
    let s = c.cancel.ensures.day Trading (day_of Trading b) (shown Trading b []) c.args.self.now.filed in
    record { filed = s.1 ∙ ap file_of (sym s.0.roll) }

pub returns-clause-did : goal.returns-clause-did
unfolding checks became answered
returns-clause-did g c =
    let b = c.args.self.now.board in
    let k = c.cancel.result in
    let new = c.cancel.new.tape in
    let long : k ≤ length new = omega (arith, c.cancel.ensures.lines, c.cancel.auto.tape, cancel_passed (absent (look c.args.number (orders_of b))) (not (eqb (member_of (look c.args.number (orders_of b))) c.args.member)) (eqb (open_of (look c.args.number (orders_of b))) 0) (length c.args.tape.now) c.in_ok-check_cancel.ensures) in
    let s = c.cancel.ensures.day Trading (day_of Trading b) (shown Trading b []) c.args.self.now.filed in
    did_done (g.R.ShareOut.gifts c.args.self.now.rule) (g.F.StopFile.room c.args.self.now.file) b (CancelOrder c.args.member c.args.number (length c.args.tape.now))
    (sym c.in_ok-check_cancel.ensures)
    (ap (λ (n : ℕ). Lines n) (counted_lines k new long s.0.tape)) s.0 s.1 (lines_are k c.args.tape.now new long c.cancel.ensures.others)
