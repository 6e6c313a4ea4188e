use Rattle.market.proofs.Values.{looked_up}
use Rattle.market.proofs.range.value_at.Goals as goal

pub returns-clause-value : goal.returns-clause-value
returns-clause-value c = looked_up c.args.class c.args.column c.args.last_sale c.row.result c.band.result c.column_at.result c.row.ensures c.band.ensures.band c.column_at.ensures
