use Rattle.std.proofs.Common.{[]}
use Rattle.streams.proofs.Taking.{took_more, handed}
use Rattle.streams.proofs.buffered.Buffered.close.Goals as goal

pub returns-clause-took : goal.returns-clause-took
returns-clause-took g c = handed _ (took_more _ [] c.put.ensures c.finish.ensures.took)
