use Rattle.std.proofs.Common.{Option, sym, subst}
use Rattle.market.specs.declared.words.Stop.{Stop}
use Rattle.stops.specs.Stops.{numbered}
use Rattle.stops.specs.Priced.{held_by}
use Rattle.stops.specs.Seats.{Leads}
use Rattle.stops.proofs.Merged.{led}
use Rattle.stops.proofs.tables.PriceFile.pull_numbered.Goals as goal

pub returns : goal.returns
returns c =
    let t = numbered c.args.number in
    let held = held_by c.args.self.now in
    let k = led t c.pull.result held (held_by c.pull.new.self) c.args.self.now.distinct (subst (λ (o : Option Stop). Leads t o held) (sym c.pull.ensures.value) c.seat_of-seat.ensures) c.pull.ensures.left in
    record { value = k.0; listed = k.1 }
