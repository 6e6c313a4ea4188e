use Rattle.std.proofs.Common.{sym, refl, ◌∙◌, inl, inr, ⊎_elim, arith}
use Rattle.std.proofs.lemmas.Bool.{false≢true}
use Rattle.trading.specs.Boards.{waiting_of}
use Rattle.trading.specs.Shows.{may_print}
use Rattle.trading.specs.Tapes.{written, HasRoom}
use Rattle.trading.proofs.Tape.{grew_none, grew_more}
use Rattle.trading.proofs.Working.{working_none, working_more, working_done, up_runs}
use Rattle.trading.proofs.board.Board.work.Goals as goal

pub loop-number-init : goal.loop-number-init
loop-number-init g c = (working_none (g.R.ShareOut.gifts c.args.rule.now) c.args.self.now (g.F.StopFile.stops c.args.file.now) (written c.args.tape.now), inr c.requires, grew_none c.args.tape.now, refl)

pub loop-number-preserved : goal.loop-number-preserved
loop-number-preserved g c =
    let b = c.loop-number.self in
    let i = c.loop-number.invariant in
    let r = c.run.ensures in
    let room : HasRoom (may_print b (g.F.StopFile.stops c.loop-number.file)) c.loop-number.tape =
    ⊎_elim (λ p. absurd (false≢true (sym (up_runs b.paused (waiting_of b) c.in-Some.number c.in-Some.ensures) ∙ p))) (λ h. h) i.1 in (
      working_more (g.R.ShareOut.gifts c.args.rule.now) i.0 c.in-Some.ensures r.day,
      ⊎_elim inl (λ h. inr (omega (arith, h, room, r.grew.long))) r.bound,
      grew_more i.2 r.grew,
      r.keeps ∙ i.3,
    )

pub returns-clause-day : goal.returns-clause-day
returns-clause-day g c = working_done (g.R.ShareOut.gifts c.args.rule.now) c.loop-number.invariant.0 c.in_default.ensures
