use Rattle.std.proofs.Common.{[]}
use Rattle.playback.proofs.Placing.{held, holds_none}
use Rattle.playback.proofs.whole_day.replay_into.Goals as goal

pub returns-clause-holds : goal.returns-clause-holds
returns-clause-holds g c =
    let k = c.clear.ensures in
    held c.args.places.now [] _ _ _ (holds_none c.args.places.now c.clear.new.self k.lent.0 k.lent.1 k.lent.2 k.none.0 k.none.1 k.none.2 k.same) c.replay.ensures.told
