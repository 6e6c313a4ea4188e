use Rattle.std.proofs.Common.{arith}
use Rattle.sharing.proofs.Levels.{least_most}
use Rattle.sharing.proofs.rotation.entries_above.Goals as goal

pub loop-entry-init : goal.loop-entry-init
loop-entry-init c = record { count = omega arith; few = omega arith; least = omega (arith, least_most c.args.level c.args.row.now); lawful = omega arith }
