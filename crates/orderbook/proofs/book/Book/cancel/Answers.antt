use Rattle.std.proofs.Common.{refl, sym, ap}
use Rattle.market.specs.declared.words.Side.TheVariants.{Buy, Sell}
use Rattle.market.specs.declared.words.Place.TheVariants.{Book}
use Rattle.market.specs.Orders.{cancel}
use Rattle.replay.specs.Rolls.{open_of, left}
use Rattle.orderbook.specs.Books.{roll_of}
use Rattle.orderbook.proofs.Lookup.{look_some, alter_none, there_at, off_at, rests_at, price_at, cancelled_some}
use Rattle.orderbook.proofs.Places.{same_place, other_place}
use Rattle.orderbook.proofs.Upkeep.{kept, sound}
use Rattle.orderbook.proofs.Moving.{alike_cancel, kept_off, kept_strike_bid, kept_strike_offer}
use Rattle.orderbook.proofs.book.Book.cancel.Goals as goal

pub returns-in_default-clause-shares : goal.returns-in_default-clause-shares
unfolding left
returns-in_default-clause-shares c = ap open_of c.in_default.ensures

pub returns-in_default-clause-roll : goal.returns-in_default-clause-roll
returns-in_default-clause-roll c = sym (alter_none c.args.number cancel (roll_of c.args.self.now) (sym c.in_default.ensures))

pub invariant_of-self : goal.invariant_of-self
invariant_of-self c =
    let b = c.args.self.now in
    let f = look_some (sound b.kept) c.args.number c.in-Some.order (sym c.in-Some.ensures) in
    let w = there_at f in
    let on = rests_at f Buy (same_place c.in-Some.order.place Book c.if-eq.ensures) c.in-Buy.is in
    let e = cancelled_some (sound b.kept) c.args.number c.in-Some.ensures c.change_order.ensures in
    record { kept = ∣ kept_strike_bid b.bids.items c.retain.new.table.items c.args.number c.in-Some.order.price (kept b.kept) w on (price_at f) e c.retain.ensures ∣₁ }

pub invariant_of-self-in-Sell : goal.invariant_of-self-in-Sell
invariant_of-self-in-Sell c =
    let b = c.args.self.now in
    let f = look_some (sound b.kept) c.args.number c.in-Some.order (sym c.in-Some.ensures) in
    let w = there_at f in
    let on = rests_at f Sell (same_place c.in-Some.order.place Book c.if-eq.ensures) c.in-Sell.is in
    let e = cancelled_some (sound b.kept) c.args.number c.in-Some.ensures c.change_order.ensures in
    record { kept = ∣ kept_strike_offer b.offers.items c.retain-in-Sell.new.table.items c.args.number c.in-Some.order.price (kept b.kept) w on (price_at f) e c.retain-in-Sell.ensures ∣₁ }

pub invariant_of-self-else-eq : goal.invariant_of-self-else-eq
invariant_of-self-else-eq c =
    let b = c.args.self.now in
    let f = look_some (sound b.kept) c.args.number c.in-Some.order (sym c.in-Some.ensures) in
    let w = there_at f in
    let off = off_at f (other_place c.in-Some.order.place Book c.if-eq.ensures) in
    let e = cancelled_some (sound b.kept) c.args.number c.in-Some.ensures c.change_order.ensures in
    record { kept = ∣ kept_off c.args.number cancel (kept b.kept) w off (alike_cancel _) refl e ∣₁ }

pub returns-in-Buy-clause-shares : goal.returns-in-Buy-clause-shares
unfolding left
returns-in-Buy-clause-shares c = ap open_of c.in-Some.ensures

pub returns-in-Buy-clause-roll : goal.returns-in-Buy-clause-roll
returns-in-Buy-clause-roll c = cancelled_some (sound c.args.self.now.kept) c.args.number c.in-Some.ensures c.change_order.ensures

pub returns-in-Sell-clause-shares : goal.returns-in-Sell-clause-shares
unfolding left
returns-in-Sell-clause-shares c = ap open_of c.in-Some.ensures

pub returns-in-Sell-clause-roll : goal.returns-in-Sell-clause-roll
returns-in-Sell-clause-roll c = cancelled_some (sound c.args.self.now.kept) c.args.number c.in-Some.ensures c.change_order.ensures

pub returns-else-eq-clause-shares : goal.returns-else-eq-clause-shares
unfolding left
returns-else-eq-clause-shares c = ap open_of c.in-Some.ensures

pub returns-else-eq-clause-roll : goal.returns-else-eq-clause-roll
returns-else-eq-clause-roll c = cancelled_some (sound c.args.self.now.kept) c.args.number c.in-Some.ensures c.change_order.ensures
