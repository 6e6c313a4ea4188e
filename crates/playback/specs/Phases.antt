-- The phase that a question answers, as the definitions have it. Assumes nothing.
use Rattle.replay.specs.Days as days
use Rattle.playback.specs.declared.phase.Phase.{Phase}
use Rattle.playback.specs.declared.phase.Phase.TheVariants.{Loading, Trading, Closed}

abbrev pub phase_of : Phase → days.Phase
phase_of Loading = days.Loading
phase_of Trading = days.Trading
phase_of Closed = days.Closed
