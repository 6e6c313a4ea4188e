use Rattle.trading.proofs.Ruled.{ruled, ruled_left}
use Rattle.trading.proofs.board.Board.leave.Goals as goal

pub leave-requires : goal.leave-requires
leave-requires c = (ruled c.args.self.now.ruled).once

pub invariant_of-self : goal.invariant_of-self
invariant_of-self c =
    let r = ruled c.args.self.now.ruled in
    record { ruled = ∣ ruled_left c.args.number c.leave.ensures.line c.leave.ensures.joined r ∣₁ }
