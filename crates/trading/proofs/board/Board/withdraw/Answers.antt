use Rattle.std.proofs.Common.{refl, arith}
use Rattle.market.specs.Orders.{cancel}
use Rattle.trading.proofs.Ruled.{ruled, ruled_alter}
use Rattle.trading.proofs.board.Board.withdraw.Goals as goal

pub leave-requires : goal.leave-requires
leave-requires c = (ruled c.args.self.now.ruled).once

pub invariant_of-self : goal.invariant_of-self
invariant_of-self c =
    record { ruled = ∣ ruled_alter c.args.number cancel (λ o. refl) (λ o. omega arith) c.cancel-shares.ensures.roll c.leave.ensures.line c.leave.ensures.joined (ruled c.args.self.now.ruled) ∣₁ }
