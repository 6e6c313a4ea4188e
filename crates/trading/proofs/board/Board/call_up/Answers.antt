use Rattle.std.proofs.Common.{◌≡◌, true, sym, ◌∙◌}
use Rattle.orderbook.specs.Books.{roll_of}
use Rattle.replay.specs.Rolls.{look}
use Rattle.trading.specs.Shows.{filed_of}
use Rattle.trading.proofs.Ruled.{ruled, room_in, ruled_in}
use Rattle.trading.proofs.Trades.{chosen, filed_off}
use Rattle.trading.proofs.board.Board.call_up.Goals as goal

pub join-requires : goal.join-requires
join-requires c = room_in c.args.number (sym c.is_filed.ensures ∙ c.if-not-is_filed.false) (ruled c.args.self.now.ruled)

pub invariant_of-self : goal.invariant_of-self
invariant_of-self c =
    let b = c.args.self.now in
    let n = c.args.number in
    let stop : filed_of (look n (roll_of b.book)) ≡ true = sym c.is_filed.ensures ∙ c.if-not-is_filed.false in
    record { ruled = ∣ ruled_in n (chosen _ _ _ c.put.ensures (filed_off (look n (roll_of b.book)) stop)) stop c.join.ensures.line c.join.ensures.joined (ruled b.ruled) ∣₁ }
