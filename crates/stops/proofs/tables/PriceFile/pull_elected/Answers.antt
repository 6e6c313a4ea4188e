use Rattle.std.proofs.Common.{Option, sym, ◌∙◌, subst}
use Rattle.market.specs.declared.words.Stop.{Stop}
use Rattle.stops.specs.Stops.{elects}
use Rattle.stops.specs.Tables.{by_number}
use Rattle.stops.specs.Rising.{lowest_first}
use Rattle.stops.specs.Priced.{held_by}
use Rattle.stops.specs.Seats.{Leads}
use Rattle.stops.proofs.Merged.{led}
use Rattle.stops.proofs.tables.PriceFile.pull_elected.Goals as goal

pub returns : goal.returns
returns c =
    let t = elects c.args.price in
    let held = held_by c.args.self.now in
    let k = led t c.pull.result held (held_by c.pull.new.self) c.args.self.now.distinct (subst (λ (o : Option Stop). Leads t o held) (sym c.pull.ensures.value) c.seat_at-seat.ensures) c.pull.ensures.left in
    record { value = k.0; lowest = λ up. k.0 ∙ sym (lowest_first t (by_number held) up); listed = k.1 }
