-- What waits in front of a sink. Assumes nothing.
use Rattle.std.specs.Prelude.{ℕ, List, take}
use Rattle.streams.specs.declared.buffered.Buffered.{Buffered}

abbrev pub waiting : {K : Type 0} → Buffered K → List ℕ
waiting buffered = take buffered.used buffered.room.now
