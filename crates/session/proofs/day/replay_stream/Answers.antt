use Rattle.streams.proofs.Relaying.{shows_all}
use Rattle.sharing.specs.Keeps.{time_lawful}
use Rattle.sharing.specs.Turns.{by_time}
use Rattle.session.proofs.Lawful.{text_laws}
use Rattle.session.proofs.Limited.{cut_same}
use Rattle.session.proofs.day.replay_stream.Goals as goal

pub returns-clause-all : goal.returns-clause-all
returns-clause-all g c = shows_all {room = 32769} cut_same c.relay.ensures

pub returns-clause-laws : goal.returns-clause-laws
returns-clause-laws g c = λ text. text_laws by_time time_lawful 512 2049 text
