use Rattle.std.proofs.Common.{◌∙◌}
use Rattle.market.proofs.Values.{tops_below}
use Rattle.market.proofs.range.band.Goals as goal

pub returns-clause-band : goal.returns-clause-band
returns-clause-band c = c.ends_below.ensures.below ∙ tops_below c.args.last_sale c.requires
