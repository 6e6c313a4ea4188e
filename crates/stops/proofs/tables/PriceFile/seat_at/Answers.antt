use Rattle.std.proofs.Common.{Option, sym, subst}
use Rattle.market.specs.declared.words.Side.TheVariants.{Buy, Sell}
use Rattle.stops.specs.declared.seats.Seat.{Seat}
use Rattle.stops.specs.Stops.{elects}
use Rattle.stops.specs.Priced.{buys_of, sells_of, held_by}
use Rattle.stops.specs.Seats.{seated, Leads}
use Rattle.stops.proofs.Picks.{spotted, seat_leads}
use Rattle.stops.proofs.tables.PriceFile.seat_at.Goals as goal

pub returns : goal.returns
returns c =
    let f = c.args.self.now in
    let p = c.args.price in
    let b = c.lowest_elected-buy in
    let s = c.lowest_elected-sell in
    subst (λ (o : Option Seat). Leads (elects p) (seated (buys_of f) (sells_of f) o) (held_by f)) (sym c.lower_seat.ensures)
    (seat_leads (elects p) (buys_of f) (sells_of f) b.result s.result
    (spotted Buy p (buys_of f) b.result f.buys.ranked b.ensures.none b.ensures.place b.ensures.number b.ensures.lowest)
    (spotted Sell p (sells_of f) s.result f.sells.ranked s.ensures.none s.ensures.place s.ensures.number s.ensures.lowest))
