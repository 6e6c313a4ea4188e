use Rattle.stops.specs.Slots.{filled}
use Rattle.stops.proofs.Firsts.{none_above}
use Rattle.stops.proofs.arrival.ArrivalFile.is_above.Goals as goal

pub returns : goal.returns
returns c = none_above (λ s. s.number) c.args.number (filled c.args.self.now.held c.args.self.now.slots.now) c.place_from.result c.is_none.result c.place_from.ensures c.is_none.ensures
