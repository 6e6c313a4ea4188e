use Rattle.std.proofs.Common.{refl, arith}
use Rattle.market.specs.declared.words.Place.TheVariants.{Book}
use Rattle.market.specs.Orders.{put}
use Rattle.trading.proofs.Ruled.{ruled, ruled_alter}
use Rattle.trading.proofs.Trades.{chosen}
use Rattle.trading.proofs.board.Board.rest.Goals as goal

pub leave-requires : goal.leave-requires
leave-requires c = (ruled c.args.self.now.ruled).once

pub invariant_of-self : goal.invariant_of-self
invariant_of-self c =
    let r = ruled c.args.self.now.ruled in
    record { ruled = ∣ ruled_alter c.args.number (put Book) (λ o. refl) (λ o. omega arith) (chosen _ _ _ c.put.ensures c.requires) c.leave.ensures.line c.leave.ensures.joined r ∣₁ }
