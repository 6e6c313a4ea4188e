use Rattle.std.proofs.Common.{◌+◌, ◌*◌, ◌≤◌, ◌&&◌, ltb, leb, [], length, sym, refl, ap, ◌∙◌, arith}
use Rattle.replay.specs.StopFile.{file_of}
use Rattle.std.proofs.lemmas.Result.{err_from_is_err_and}
use Rattle.orderbook.specs.Trades.{next}
use Rattle.replay.specs.Days.{Trading, Entered}
use Rattle.replay.specs.Lists.{any}
use Rattle.replay.specs.Book.{is_contra}
use Rattle.replay.specs.Moves.{admit}
use Rattle.replay.specs.Rolls.{is_stop}
use Rattle.replay.specs.Calls.{order_checks, checks, became, answered}
use Rattle.trading.specs.Boards.{orders_of, waiting_of, day_of}
use Rattle.trading.specs.Deeds.{entering}
use Rattle.trading.proofs.Doing.{did_refused, did_done, lines_are, counted_lines, checks_enter, enter_passed, filed_in, lines_enter}
use Rattle.trading.proofs.Running.{shown}
use Rattle.trading.proofs.day.Day.enter.Goals as goal

pub returns-in_err-check_enter-clause-did : goal.returns-in_err-check_enter-clause-did
unfolding checks
returns-in_err-check_enter-clause-did g c =
    let b = c.args.self.now.board in
    let t = c.args.ticket in
    let p = err_from_is_err_and c.from_residual.result c.from_residual.ensures.1 in
    let cs = order_checks t.kind t.member t.price t.shares (day_of Trading b) in
    let fl = c.args.self.now.filed in
    rw (p.1, p.2) (did_refused (g.R.ShareOut.gifts c.args.self.now.rule) (g.F.StopFile.room c.args.self.now.file) b (entering t (length c.args.tape.now))
    (sym (c.in_err-check_enter.ensures ∙ checks_enter b fl c.space.ensures.filed Trading (g.F.StopFile.room c.args.self.now.file) c.space.ensures.room (length c.args.tape.now) c.space.ensures.free cs t.kind)) refl fl refl refl refl)

pub enter-requires-clause-lines : goal.enter-requires-clause-lines
enter-requires-clause-lines g c =
    let b = c.args.self.now.board in
    let t = c.args.ticket in
    let passed = enter_passed t.kind t.member t.price t.shares (day_of Trading b) (is_stop t.kind && leb c.space.result.room c.space.result.filed) (ltb c.space.result.free (4 * (length (waiting_of b) + c.space.result.filed + 1))) c.in_ok-check_enter.ensures in
    lines_enter t.kind (next t (orders_of b)) (g.F.StopFile.stops c.args.self.now.file) (g.F.StopFile.stops c.file_stop.new.file) (length (waiting_of b)) (length c.args.tape.now) c.in_ok-file_stop.ensures.listed
    (ap (λ n. ltb (length c.args.tape.now) (4 * (length (waiting_of b) + n + 1))) (sym c.space.ensures.filed) ∙ ap (λ y. ltb y (4 * (length (waiting_of b) + c.space.result.filed + 1))) (sym c.space.ensures.free) ∙ passed.lines)

pub invariant_of-self-2 : goal.invariant_of-self-2
unfolding admit
invariant_of-self-2 g c =
    let b = c.args.self.now.board in
    let t = c.args.ticket in
    let s = c.enter.ensures.day Trading (day_of Trading b) (shown Trading b [])
    (filed_in t.kind (next t (orders_of b)) (any (is_contra (next t (orders_of b))) (orders_of b)) (orders_of b) (g.F.StopFile.stops c.args.self.now.file) _ c.args.self.now.filed c.in_ok-file_stop.ensures.listed) in
    record { filed = s.1 ∙ ap file_of (sym s.0.roll) }

pub returns-clause-did : goal.returns-clause-did
unfolding checks became answered admit
returns-clause-did g c =
    let b = c.args.self.now.board in
    let t = c.args.ticket in
    let k = c.enter.result.lines in
    let new = c.enter.new.tape in
    let long : k ≤ length new = omega (arith, c.enter.ensures.lines, c.enter.auto.tape) in
    let cs = order_checks t.kind t.member t.price t.shares (day_of Trading b) in
    let fl = c.args.self.now.filed in
    let s = c.enter.ensures.day Trading (day_of Trading b) (shown Trading b [])
    (filed_in t.kind (next t (orders_of b)) (any (is_contra (next t (orders_of b))) (orders_of b)) (orders_of b) (g.F.StopFile.stops c.args.self.now.file) _ fl c.in_ok-file_stop.ensures.listed) in
    did_done (g.R.ShareOut.gifts c.args.self.now.rule) (g.F.StopFile.room c.args.self.now.file) b (entering t (length c.args.tape.now))
    (sym (c.in_ok-check_enter.ensures ∙ checks_enter b fl c.space.ensures.filed Trading (g.F.StopFile.room c.args.self.now.file) c.space.ensures.room (length c.args.tape.now) c.space.ensures.free cs t.kind))
    ((λ i. Entered (c.enter.ensures.number i) (counted_lines k new long s.0.tape i))) s.0 s.1 (lines_are k c.args.tape.now new long c.enter.ensures.others)
