use Rattle.std.proofs.Common.{sym, ap, ◌∙◌, arith}
use Rattle.market.specs.Changes.{order_at}
use Rattle.orderbook.specs.Books.{roll_of}
use Rattle.orderbook.proofs.Lookup.{look_zero, look_order}
use Rattle.orderbook.proofs.Upkeep.{sound}
use Rattle.orderbook.proofs.book.Book.get.Goals as goal

pub returns-in_err-at : goal.returns-in_err-at
returns-in_err-at c = c.from_residual.ensures ∙ sym (look_zero (sound c.args.self.now.kept) c.args.number (omega (arith, c.in_err-at.ensures)))

pub returns : goal.returns
returns c =
    let at = c.in_ok-at.ensures in
    c.get.ensures ∙ ap (λ i. order_at i (roll_of c.args.self.now)) at.1 ∙ sym (look_order (sound c.args.self.now.kept) c.args.number at.0)
