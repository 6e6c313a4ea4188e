use Rattle.std.proofs.Common.{◌∙◌}
use Rattle.trading.specs.Tapes.{written}
use Rattle.trading.proofs.Tape.{grew_more}
use Rattle.trading.proofs.Prices.{first_is_lem, printed_is}
use Rattle.trading.proofs.board.Board.prints.Goals as goal

pub returns-clause-day : goal.returns-clause-day
returns-clause-day g c = λ f d s.
    let a = c.print_at in
    let b = c.print_at-2 in
    let r = c.args.order.now in
    let t = a.ensures.day f d (record {
      roll = s.roll;
      line = s.line;
      paused = s.paused;
      range = s.range;
      last = s.last;
      class = s.class;
      column = s.column;
      phase = s.phase;
      tape = s.tape;
    }) in
    printed_is (g.R.ShareOut.gifts c.args.rule.now) r (c.first_price-first.ensures ∙ first_is_lem r d s.range s.roll) (c.second_price-second.ensures f (written a.new.tape) _ t) (b.ensures.day f _ t)

pub returns-clause-grew : goal.returns-clause-grew
returns-clause-grew g c = grew_more c.print_at.ensures.grew c.print_at-2.ensures.grew
