use Rattle.std.proofs.Common.{◌≡◌, Option, sym, refl, subst, rules}
use Rattle.std.specs.Option.{option_map, option_or}
use Rattle.std.specs.List.{position}
use Rattle.stops.specs.declared.seats.Seat.{Seat}
use Rattle.stops.specs.declared.seats.Seat.TheVariants.{Buys, Sells}
use Rattle.market.specs.declared.words.Side.TheVariants.{Buy, Sell}
use Rattle.stops.specs.Stops.{numbered}
use Rattle.stops.specs.Tables.{stop_of}
use Rattle.stops.specs.Priced.{buys_of, sells_of, held_by}
use Rattle.stops.specs.Seats.{seated, Leads}
use Rattle.stops.proofs.Picks.{number_leads}
use Rattle.stops.proofs.tables.PriceFile.seat_of.Goals as goal

pub returns : goal.returns
returns c =
    let f = c.args.self.now in
    let n = c.args.number in
    let o = position (λ u. numbered n (stop_of Buy u)) (buys_of f) in
    let p = position (λ u. numbered n (stop_of Sell u)) (sells_of f) in
    let q : c.or_else.result ≡ option_or (option_map (λ i. Buys i) (position (λ u. numbered c.args.number (stop_of Buy u)) (buys_of f))) (option_map (λ i. Sells i) (position (λ u. numbered c.args.number (stop_of Sell u)) (sells_of f))) = search rules in
    subst (λ (r : Option Seat). Leads (numbered n) (seated (buys_of f) (sells_of f) r) (held_by f)) (sym q) (number_leads n (buys_of f) (sells_of f) o p refl refl)
