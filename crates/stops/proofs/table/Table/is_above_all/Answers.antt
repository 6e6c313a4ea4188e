use Rattle.std.proofs.Common.{take}
use Rattle.stops.proofs.Firsts.{none_above}
use Rattle.stops.proofs.table.Table.is_above_all.Goals as goal

pub returns : goal.returns
returns g c = none_above (λ row. row.number) c.args.number (take c.args.self.now.held c.args.self.now.rows) c.place_from.result c.is_none.result c.place_from.ensures c.is_none.ensures
