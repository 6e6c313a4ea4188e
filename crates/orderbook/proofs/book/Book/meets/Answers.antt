use Rattle.std.proofs.Common.{rules, ◌≡◌, ◌∙◌}
use Rattle.market.specs.Orders.{in_limit}
use Rattle.orderbook.proofs.Upkeep.{sound}
use Rattle.orderbook.proofs.Firsts.{first_is, meets_first}
use Rattle.orderbook.proofs.book.Book.meets.Goals as goal

pub returns : goal.returns
returns c =
    let e : c.is_some_and.result ≡ first_is (in_limit c.args.order.now) c.best.result = search rules in
    e ∙ meets_first c.args.order.now (sound c.args.self.now.kept) c.opposite.result c.best.result c.opposite.ensures c.best.ensures.order
