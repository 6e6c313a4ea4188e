use Rattle.std.proofs.Common.{sym, ◌∙◌, subst}
use Rattle.stops.specs.Stops.{elects}
use Rattle.trading.proofs.Tape.{grew_more}
use Rattle.trading.proofs.Electing.{none_fewer}
use Rattle.trading.proofs.Taking.{Spent, numbered_of, electing_more, electing_past, electing_done, spent_more, spent_past}
use Rattle.trading.proofs.board.Board.elect.Goals as goal

pub loop-stop-preserved-then-call_up : goal.loop-stop-preserved-then-call_up
loop-stop-preserved-then-call_up g c =
    let num = numbered_of c.loop-stop.self.ruled in
    let was = c.in-Some.ensures.value in
    let up = c.call_up.ensures in (
      electing_more c.loop-stop.invariant.0 num was c.take_at.ensures.listed up.answer up.roll up.line up.beside c.if-call_up.true c.write.ensures.written,
      subst (λ n. Spent c.args.tape.now.used c.args.self.now (g.F.StopFile.stops c.args.file.now) n c.call_up.new.self (g.F.StopFile.stops c.take_at.new.self)) (sym c.write.ensures.used)
          (spent_more c.loop-stop.invariant.0 num was c.take_at.ensures.listed up.answer up.roll up.line up.beside c.if-call_up.true c.loop-stop.invariant.1),
      grew_more c.loop-stop.invariant.2 c.write.ensures.grew,
      c.take_at.ensures.keeps ∙ c.loop-stop.invariant.3,
    )

pub loop-stop-preserved : goal.loop-stop-preserved
loop-stop-preserved g c =
    let num = numbered_of c.loop-stop.self.ruled in
    let was = c.in-Some.ensures.value in
    let up = c.call_up.ensures in (
      electing_past c.loop-stop.invariant.0 num was c.take_at.ensures.listed up.answer up.roll up.line up.beside c.if-call_up.false,
      spent_past c.loop-stop.invariant.0 num was c.take_at.ensures.listed up.answer up.roll up.line up.beside c.if-call_up.false c.loop-stop.invariant.1,
      c.loop-stop.invariant.2,
      c.take_at.ensures.keeps ∙ c.loop-stop.invariant.3,
    )

pub returns-clause-day : goal.returns-clause-day
returns-clause-day g c =
    let none = none_fewer (elects c.args.price) (g.F.StopFile.stops c.loop-stop.file) (sym c.in_default.ensures.value) in
    electing_done c.loop-stop.invariant.0 c.in_default.ensures.value (c.take_at.ensures.listed ∙ none)
