use Rattle.std.proofs.Common.{sym, ap, ◌∙◌, rules}
use Rattle.trading.proofs.Taking.{numbered_of}
use Rattle.trading.proofs.Tape.{with_lines}
use Rattle.trading.proofs.Removing.{cancel_filed, cancel_other}
use Rattle.trading.proofs.board.Board.cancel.Goals as goal
use Rattle.trading.proofs.board.Board.cancel.Goals.{then-is_filed, else-is_filed}

pub returns-clause-day : goal.returns-clause-day
returns-clause-day g c =
    let b = c.args.self.now in
    let n = c.args.number in
    let F = g.F.StopFile in
    λ f d s fl. (
      with_lines (c.withdraw.ensures.day f d (with_lines s c.new-tape.ensures.written)) (search rules),
      elim c.if-is_filed.branch [
        | then-is_filed w ↦ cancel_filed n d (numbered_of b.ruled) s.roll (ap F.stops w.file-is ∙ w.remove.ensures.listed) fl
        | else-is_filed w ↦ cancel_other n d (sym c.is_filed.ensures ∙ w.if-is_filed.false) s.roll (ap F.stops w.file-is) fl
      ],
    )
