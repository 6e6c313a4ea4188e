use Rattle.std.proofs.Common.{ℕ, false, [], sym, refl, ap, ◌∙◌}
use Rattle.replay.specs.StopFile.{file_of}
use Rattle.std.proofs.lemmas.Result.{err_from_is_err_and}
use Rattle.market.specs.declared.words.Kind.TheVariants.{Stop}
use Rattle.replay.specs.Days.{Loading, LoadStop, Number}
use Rattle.replay.specs.Rolls.{fresh}
use Rattle.replay.specs.Moves.{admit}
use Rattle.replay.specs.Calls.{order_checks, checks, became, answered}
use Rattle.trading.specs.Boards.{orders_of, day_of}
use Rattle.trading.proofs.Doing.{did_refused, did_done, checks_stop, filed_in}
use Rattle.trading.proofs.Running.{shown}
use Rattle.trading.proofs.day.Day.load_stop.Goals as goal

pub returns-in_err-check_stop-clause-did : goal.returns-in_err-check_stop-clause-did
unfolding checks
returns-in_err-check_stop-clause-did g c =
    let b = c.args.self.now.board in
    let p = err_from_is_err_and c.from_residual.result c.from_residual.ensures.1 in
    let cs = order_checks Stop c.args.order.member c.args.order.price c.args.order.shares (day_of Loading b) in
    let fl = c.args.self.now.filed in
    rw (p.1, p.2) (did_refused (g.R.ShareOut.gifts c.args.self.now.rule) (g.F.StopFile.room c.args.self.now.file) b (LoadStop c.args.order.side c.args.order.member c.args.order.price c.args.order.shares)
    (sym (c.in_err-check_stop.ensures ∙ checks_stop b fl c.space.ensures.filed (g.F.StopFile.room c.args.self.now.file) c.space.ensures.room cs Stop)) refl fl refl refl refl)

pub invariant_of-self-2 : goal.invariant_of-self-2
unfolding admit
invariant_of-self-2 g c =
    let b = c.args.self.now.board in
    record {
      filed = filed_in Stop (fresh Stop c.args.order.side c.args.order.member c.args.order.price c.args.order.shares (orders_of b)) false (orders_of b) (g.F.StopFile.stops c.args.self.now.file) _ c.args.self.now.filed c.in_ok-file_stop.ensures.listed
          ∙ ap file_of (sym (c.admit.ensures.day [] Loading (day_of Loading b) (shown Loading b [])).roll);
    }

pub returns-clause-did : goal.returns-clause-did
unfolding checks became answered admit
returns-clause-did g c =
    let b = c.args.self.now.board in
    let fl = c.args.self.now.filed in
    let cs = order_checks Stop c.args.order.member c.args.order.price c.args.order.shares (day_of Loading b) in
    did_done (g.R.ShareOut.gifts c.args.self.now.rule) (g.F.StopFile.room c.args.self.now.file) b (LoadStop c.args.order.side c.args.order.member c.args.order.price c.args.order.shares)
    (sym (c.in_ok-check_stop.ensures ∙ checks_stop b fl c.space.ensures.filed (g.F.StopFile.room c.args.self.now.file) c.space.ensures.room cs Stop))
    (ap (λ (n : ℕ). Number n) c.admit.ensures.number) (c.admit.ensures.day [] Loading (day_of Loading b) (shown Loading b []))
    (filed_in Stop (fresh Stop c.args.order.side c.args.order.member c.args.order.price c.args.order.shares (orders_of b)) false (orders_of b) (g.F.StopFile.stops c.args.self.now.file) _ fl c.in_ok-file_stop.ensures.listed) refl
