use Rattle.std.proofs.Common.{rules}
use Rattle.replay.specs.Moves.{floored, elect}
use Rattle.trading.proofs.Tape.{grew_more, with_lines}
use Rattle.trading.proofs.board.Board.floor_trade.Goals as goal

pub returns-clause-day : goal.returns-clause-day
unfolding floored
returns-clause-day g c = λ f d s fl.
    let d₁ = floored c.args.price c.args.shares d in
    let t = c.elect.ensures.day f d₁ (c.print_floor.ensures.day f d (with_lines s c.new-tape.ensures.written)) fl in
    let u = c.work.ensures.day f (elect c.args.price d₁) t.0 t.1 in
    (with_lines u.0 (search rules), u.1)

pub returns-clause-others : goal.returns-clause-others
returns-clause-others g c =
    let more = grew_more c.print_floor.ensures.grew (grew_more c.elect.ensures.grew c.work.ensures.grew) in
    search (rules, more.others)
