use Rattle.std.proofs.Common.{rules, ◌≡◌, ◌∙◌}
use Rattle.market.specs.Sides.{better}
use Rattle.orderbook.proofs.Upkeep.{sound}
use Rattle.orderbook.proofs.Firsts.{first_is, behind_first}
use Rattle.orderbook.proofs.book.Book.is_behind.Goals as goal

pub returns : goal.returns
returns c =
    let e : c.is_some_and.result ≡ first_is (λ b. better c.args.side b c.args.price) c.best.result = search rules in
    e ∙ behind_first c.args.side c.args.price (sound c.args.self.now.kept) c.best.result c.best.ensures.order
