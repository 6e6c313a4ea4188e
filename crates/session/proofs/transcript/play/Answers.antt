use Rattle.std.proofs.Common.{◌+◌, not, ◌&&◌, length, refl, ap, ◌∙◌, subst, arith}
use Rattle.streams.specs.Sinks.{Took}
use Rattle.text.specs.Printed.{bytes_of}
use Rattle.text.proofs.Marks.{past_less}
use Rattle.text.proofs.Inspecting.{some_left}
use Rattle.replay.specs.Calls.{is_phase}
use Rattle.replay.specs.Days.{Closed}
use Rattle.replay.specs.Questions.{totals}
use Rattle.trading.specs.Boards.{day_of}
use Rattle.trading.specs.declared.board.Board.{Board}
use Rattle.playback.specs.ReachedDays.{day_at}
use Rattle.session.specs.Turns.{shown}
use Rattle.session.proofs.Playing.{none_left, begun, ended, turn, went_on}
use Rattle.session.proofs.Turning.{totals_at}
use Rattle.session.proofs.transcript.play.Goals as goal

pub loop-rest-init : goal.loop-rest-init
loop-rest-init g c = record { long = refl; rule = c.begin-day.ensures.keeps.1; room = c.begin-day.ensures.keeps.0; few = omega arith; midway = begun c.begin-day.ensures.day }

pub loop-rest-smaller : goal.loop-rest-smaller
loop-rest-smaller g c =
    let rest = c.loop-rest.rest.now in
    omega (arith, ap length c.first_line-first.ensures.rest, past_less 10 rest (some_left rest c.loop-rest-test.ensures))

pub show-requires : goal.show-requires
show-requires g c =
    let v = c.loop-rest.invariant in
    (turn c.put_line-reply.result v.midway (ap g.R.ShareOut.gifts v.rule) v.room c.first_line-first.result.«record» c.first_line-first.ensures.answer c.put_line-reply.ensures.came).fits

pub loop-rest-preserved : goal.loop-rest-preserved
loop-rest-preserved g c =
    let v = c.loop-rest.invariant in
    let rest = c.loop-rest.rest.now in
    let some = some_left rest c.loop-rest-test.ensures in
    let first = c.first_line-first in
    let put = c.put_line-reply in
    let n = c.loop-rest.line + 1 in
    let put_more = Took (g.K.Sink.state c.loop-rest.sink) (g.K.Sink.state c.show.new.sink) in
    record {
      long = put.auto.lines ∙ v.long;
      rule = put.ensures.keeps.1 ∙ v.rule;
      room = put.ensures.keeps.0 ∙ v.room;
      few = omega (arith, v.few, ap length first.ensures.rest, past_less 10 rest some);
      midway =
          went_on put.result v.midway (ap g.R.ShareOut.gifts v.rule) v.room first.result.«record» first.ensures.answer put.ensures.came first.result.rest.now (g.K.Sink.state c.show.new.sink) v.long some first.ensures.rest
          (subst (λ t. put_more (bytes_of (shown n put.result put.new.lines (is_phase Closed (day_at put.new.day).phase && not (is_phase Closed (day_at c.loop-rest.day).phase)) t)))
          (ap (λ (b : Board). totals (day_of Closed b)) c.board.ensures.board ∙ totals_at put.new.day)
          (subst (λ b. put_more (bytes_of (shown n put.result put.new.lines b (totals (day_of Closed c.board.result.now)))))
          (c.just_closed-closed.ensures ∙ ap (λ b. is_phase Closed (day_at put.new.day).phase && not b) c.is_closed-was_closed.ensures)
          c.show.ensures));
    }

pub returns-clause-printed : goal.returns-clause-printed
returns-clause-printed g c = (ended (none_left c.loop-rest.rest.now c.loop-rest-test.ensures) c.loop-rest.invariant.midway).0

pub returns-clause-lines : goal.returns-clause-lines
returns-clause-lines g c = (ended (none_left c.loop-rest.rest.now c.loop-rest-test.ensures) c.loop-rest.invariant.midway).1
