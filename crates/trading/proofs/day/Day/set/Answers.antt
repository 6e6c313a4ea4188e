use Rattle.std.proofs.Common.{[], sym, refl, subst, ◌∙◌, ap}
use Rattle.replay.specs.StopFile.{file_of}
use Rattle.std.proofs.lemmas.Result.{err_from_is_err_and}
use Rattle.replay.specs.Days.{Loading, Set}
use Rattle.replay.specs.Moves.{set_up}
use Rattle.replay.specs.Calls.{checks, became, answered}
use Rattle.market.specs.declared.words.Column.{Column}
use Rattle.trading.specs.Boards.{day_of}
use Rattle.trading.specs.Shows.{Shows}
use Rattle.trading.proofs.Doing.{did_refused, did_done}
use Rattle.trading.proofs.Running.{shown}
use Rattle.trading.proofs.day.Day.set.Goals as goal

pub returns-in_err-column-clause-did : goal.returns-in_err-column-clause-did
unfolding checks
returns-in_err-column-clause-did g c =
    let p = err_from_is_err_and c.from_residual.result c.from_residual.ensures.1 in
    rw (p.1, p.2) (did_refused (g.R.ShareOut.gifts c.args.self.now.rule) (g.F.StopFile.room c.args.self.now.file) c.args.self.now.board (Set c.args.class c.args.column c.args.last_sale)
    (sym c.in_err-column.ensures.refusal) refl c.args.self.now.filed refl refl refl)

pub invariant_of-self : goal.invariant_of-self
unfolding set_up
invariant_of-self g c =
    let b = c.args.self.now.board in
    record { filed = c.args.self.now.filed ∙ ap file_of (sym (c.set_up.ensures [] Loading (day_of Loading b) (shown Loading b [])).roll) }

pub returns-clause-did : goal.returns-clause-did
unfolding checks became answered set_up
returns-clause-did g c =
    let b = c.args.self.now.board in
    did_done (g.R.ShareOut.gifts c.args.self.now.rule) (g.F.StopFile.room c.args.self.now.file) b (Set c.args.class c.args.column c.args.last_sale) (sym c.in_ok-column.ensures.refusal) refl
    (subst (λ (x : Column). Shows Loading c.set_up.new.self [] (set_up c.args.class x c.args.last_sale (day_of Loading b))) c.in_ok-column.ensures.column (c.set_up.ensures [] Loading (day_of Loading b) (shown Loading b []))) c.args.self.now.filed refl
