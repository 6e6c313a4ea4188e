use Rattle.streams.proofs.Relaying.{shows_all}
use Rattle.text.proofs.Limited.{cut_same}
use Rattle.text.proofs.inspection.inspect_stream.Goals as goal

pub returns-clause-all : goal.returns-clause-all
returns-clause-all g c = shows_all {room = 32769} cut_same c.relay.ensures
