use Rattle.std.proofs.Common.{ℕ, [], sym, refl, ap, ◌∙◌}
use Rattle.replay.specs.StopFile.{file_of}
use Rattle.std.proofs.lemmas.Result.{err_from_is_err_and}
use Rattle.market.specs.declared.words.Kind.TheVariants.{Limit}
use Rattle.market.specs.declared.words.Place.TheVariants.{Book}
use Rattle.market.specs.Orders.{put}
use Rattle.replay.specs.Days.{Loading, LoadLimit, Number}
use Rattle.replay.specs.Rolls.{fresh}
use Rattle.replay.specs.Moves.{admit}
use Rattle.replay.specs.Calls.{checks, became, answered}
use Rattle.replay.proofs.FileOfRoll.{file_other}
use Rattle.trading.specs.Boards.{orders_of, day_of}
use Rattle.trading.proofs.Doing.{did_refused, did_done}
use Rattle.trading.proofs.Running.{shown}
use Rattle.trading.proofs.day.Day.load_limit.Goals as goal

pub returns-in_err-check_limit-clause-did : goal.returns-in_err-check_limit-clause-did
unfolding checks
returns-in_err-check_limit-clause-did g c =
    let p = err_from_is_err_and c.from_residual.result c.from_residual.ensures.1 in
    rw (p.1, p.2) (did_refused (g.R.ShareOut.gifts c.args.self.now.rule) (g.F.StopFile.room c.args.self.now.file) c.args.self.now.board (LoadLimit c.args.order.side c.args.order.member c.args.order.price c.args.order.shares)
    (sym c.in_err-check_limit.ensures) refl c.args.self.now.filed refl refl refl)

pub invariant_of-self : goal.invariant_of-self
unfolding admit
invariant_of-self g c =
    let b = c.args.self.now.board in
    record {
      filed = c.args.self.now.filed ∙ sym (file_other (orders_of b) (put Book (fresh Limit c.args.order.side c.args.order.member c.args.order.price c.args.order.shares (orders_of b))) refl)
          ∙ ap file_of (sym (c.admit.ensures.day [] Loading (day_of Loading b) (shown Loading b [])).roll);
    }

pub returns-clause-did : goal.returns-clause-did
unfolding checks became answered admit
returns-clause-did g c =
    let b = c.args.self.now.board in
    did_done (g.R.ShareOut.gifts c.args.self.now.rule) (g.F.StopFile.room c.args.self.now.file) b (LoadLimit c.args.order.side c.args.order.member c.args.order.price c.args.order.shares) (sym c.in_ok-check_limit.ensures)
    (ap (λ (n : ℕ). Number n) c.admit.ensures.number) (c.admit.ensures.day [] Loading (day_of Loading b) (shown Loading b []))
    (c.args.self.now.filed ∙ sym (file_other (orders_of b) (put Book (fresh Limit c.args.order.side c.args.order.member c.args.order.price c.args.order.shares (orders_of b))) refl)) refl
