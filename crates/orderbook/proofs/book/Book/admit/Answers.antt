use Rattle.std.proofs.Common.{cond, [], ◌∷◌, ◌++◌, sym, ap, ◌∙◌, arith}
use Rattle.market.specs.Orders.{put}
use Rattle.orderbook.specs.Books.{roll_of}
use Rattle.orderbook.specs.Trades.{moved, next}
use Rattle.orderbook.proofs.Upkeep.{sound}
use Rattle.orderbook.proofs.Moving.{moved_push, admits_is}
use Rattle.orderbook.proofs.book.Book.admit.Goals as goal

pub returns-clause-roll : goal.returns-clause-roll
returns-clause-roll c =
    let os = roll_of c.args.self.now in
    let t = c.args.ticket in
    let n = c.push-number.result in
    c.put.ensures ∙ ap (moved c.args.place n) c.push-number.ensures.roll ∙ moved_push c.args.place t (sound c.args.self.now.kept) n c.push-number.ensures.number
    ∙ ap (λ b. cond b (os ++ put c.args.place (next t os) ∷ []) os) (sym (admits_is t os (omega arith) (omega arith)))
