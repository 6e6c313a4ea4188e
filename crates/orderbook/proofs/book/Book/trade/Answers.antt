use Rattle.std.proofs.Common.{lit<}
use Rattle.orderbook.proofs.Lookup.{off_some, off_there, off_off}
use Rattle.orderbook.proofs.Upkeep.{kept}
use Rattle.orderbook.proofs.Printing.{kept_sold, kept_bought}
use Rattle.orderbook.proofs.book.Book.trade.Goals as goal

pub trade-requires : goal.trade-requires
trade-requires g c =
    let k = kept c.args.self.now.kept in
    let f = off_some k.bid.sound c.args.number c.off_book.ensures c.in-Some.is in
    (lit< tt, (k.offer, (off_there f, off_off f)))

pub invariant_of-self : goal.invariant_of-self
invariant_of-self g c =
    let k = kept c.args.self.now.kept in
    let f = off_some k.bid.sound c.args.number c.off_book.ensures c.in-Some.is in
    record { kept = ∣ kept_sold (g.R.ShareOut.gifts c.args.rule.now) c.args.number c.args.price k (off_there f) (off_off f) c.trade.ensures.roll c.trade.ensures.tied ∣₁ }

pub trade-requires-in-Sell : goal.trade-requires-in-Sell
trade-requires-in-Sell g c =
    let k = kept c.args.self.now.kept in
    let f = off_some k.bid.sound c.args.number c.off_book.ensures c.in-Some.is in
    (lit< tt, (k.bid, (off_there f, off_off f)))

pub invariant_of-self-in-Sell : goal.invariant_of-self-in-Sell
invariant_of-self-in-Sell g c =
    let k = kept c.args.self.now.kept in
    let f = off_some k.bid.sound c.args.number c.off_book.ensures c.in-Some.is in
    record { kept = ∣ kept_bought (g.R.ShareOut.gifts c.args.rule.now) c.args.number c.args.price k (off_there f) (off_off f) c.trade-in-Sell.ensures.roll c.trade-in-Sell.ensures.tied ∣₁ }
