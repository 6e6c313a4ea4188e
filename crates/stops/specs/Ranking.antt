-- The rows of either table are in strict order.
use Rattle.market.specs.Files.{Strict}
use Rattle.market.specs.Prices.{resting_strict}
use Rattle.market.specs.Sides.{opposite}
use Rattle.market.specs.declared.words.Side.{Side}
use Rattle.stops.specs.Tables.{ranks}

pub ranks_strict : {S : Type 0} (c : Side) → Strict (ranks {S = S} c)
ranks_strict c = resting_strict (opposite c) (λ r. r.price) (λ r. r.number)
