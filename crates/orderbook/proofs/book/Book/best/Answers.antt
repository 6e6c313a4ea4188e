use Rattle.std.proofs.Common.{ap, ◌∙◌}
use Rattle.market.specs.declared.words.Side.TheVariants.{Buy, Sell}
use Rattle.market.specs.Rolls.{listed}
use Rattle.orderbook.specs.Books.{roll_of}
use Rattle.orderbook.specs.Sorted.{book, first_of}
use Rattle.orderbook.proofs.Firsts.{price_first}
use Rattle.orderbook.proofs.book.Book.best.Goals as goal

pub returns-in-Buy-clause-price : goal.returns-in-Buy-clause-price
returns-in-Buy-clause-price c = price_first c.args.side Buy (roll_of c.args.self.now) c.best.result c.in-Buy.is (c.best.ensures ∙ ap (λ r. first_of (book Buy (listed r))) c.bids.ensures)

pub returns-in-Sell-clause-price : goal.returns-in-Sell-clause-price
returns-in-Sell-clause-price c =
    price_first c.args.side Sell (roll_of c.args.self.now) c.best-in-Sell.result c.in-Sell.is (c.best-in-Sell.ensures ∙ ap (λ r. first_of (book Sell (listed r))) c.offers.ensures)
