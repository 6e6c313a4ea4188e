use Rattle.std.proofs.Common.{rules, lit<, refl, ◌∙◌}
use Rattle.market.specs.declared.words.Side.TheVariants.{Buy, Sell}
use Rattle.market.specs.declared.words.Place.TheVariants.{Line, StopFile}
use Rattle.market.specs.declared.change.Change.TheVariants.{Wait, File}
use Rattle.market.specs.Orders.{put}
use Rattle.orderbook.proofs.Lookup.{off_some, off_there, off_off, off_side, does_at_lem}
use Rattle.orderbook.proofs.Upkeep.{kept, sound}
use Rattle.orderbook.proofs.Moving.{alike_put, kept_off, kept_bid, kept_offer}
use Rattle.orderbook.proofs.book.Book.put.Goals as goal

pub rest_on-requires : goal.rest_on-requires
rest_on-requires c =
    let k = kept c.args.self.now.kept in
    let f = off_some k.bid.sound c.args.number c.off_book.ensures c.in-Some.is in
    (lit< tt, (k.bid, (off_there f, (off_off f, off_side f Buy c.in-Buy.is))))

pub invariant_of-self : goal.invariant_of-self
invariant_of-self c =
    let k = kept c.args.self.now.kept in
    let f = off_some k.bid.sound c.args.number c.off_book.ensures c.in-Some.is in
    record { kept = ∣ kept_bid c.args.number k (off_there f) (off_side f Buy c.in-Buy.is) (off_off f) c.rest_on.ensures.roll c.rest_on.ensures.tied ∣₁ }

pub rest_on-requires-in-Sell : goal.rest_on-requires-in-Sell
rest_on-requires-in-Sell c =
    let k = kept c.args.self.now.kept in
    let f = off_some k.bid.sound c.args.number c.off_book.ensures c.in-Some.is in
    (lit< tt, (k.offer, (off_there f, (off_off f, off_side f Sell c.in-Sell.is))))

pub invariant_of-self-in-Sell : goal.invariant_of-self-in-Sell
invariant_of-self-in-Sell c =
    let k = kept c.args.self.now.kept in
    let f = off_some k.bid.sound c.args.number c.off_book.ensures c.in-Some.is in
    record { kept = ∣ kept_offer c.args.number k (off_there f) (off_side f Sell c.in-Sell.is) (off_off f) c.rest_on-in-Sell.ensures.roll c.rest_on-in-Sell.ensures.tied ∣₁ }

pub invariant_of-self-in-Line : goal.invariant_of-self-in-Line
invariant_of-self-in-Line c =
    let k = kept c.args.self.now.kept in
    let f = off_some k.bid.sound c.args.number c.off_book.ensures c.in-Some.is in
    let w = off_there f in
    record { kept = ∣ kept_off c.args.number (put Line) k w (off_off f) (alike_put Line _) refl (c.change_order.ensures ∙ does_at_lem k.bid.sound Wait c.args.number w.0 w.1) ∣₁ }

pub invariant_of-self-in-StopFile : goal.invariant_of-self-in-StopFile
invariant_of-self-in-StopFile c =
    let k = kept c.args.self.now.kept in
    let f = off_some k.bid.sound c.args.number c.off_book.ensures c.in-Some.is in
    let w = off_there f in
    record { kept = ∣ kept_off c.args.number (put StopFile) k w (off_off f) (alike_put StopFile _) refl (c.change_order-in-StopFile.ensures ∙ does_at_lem k.bid.sound File c.args.number w.0 w.1) ∣₁ }

pub returns-in-Line : goal.returns-in-Line
returns-in-Line c =
    let s = sound c.args.self.now.kept in
    let w = off_there (off_some s c.args.number c.off_book.ensures c.in-Some.is) in
    let e = c.change_order.ensures ∙ does_at_lem s Wait c.args.number w.0 w.1 in
    search rules

pub returns-in-StopFile : goal.returns-in-StopFile
returns-in-StopFile c =
    let s = sound c.args.self.now.kept in
    let w = off_there (off_some s c.args.number c.off_book.ensures c.in-Some.is) in
    let e = c.change_order-in-StopFile.ensures ∙ does_at_lem s File c.args.number w.0 w.1 in
    search rules
