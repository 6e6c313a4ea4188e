use Rattle.std.proofs.Common.{[], ap, take}
use Rattle.streams.proofs.Taking.{took_more, direct}
use Rattle.streams.proofs.buffered.BufferedSink.finish.Goals as goal

pub returns-clause-took : goal.returns-clause-took
returns-clause-took g c =
    let none = ap (λ n. take n c.pass_on.new.self.room.now) c.pass_on.ensures.none in
    took_more [] [] c.pass_on.ensures.took (direct _ _ [] none none c.finish.ensures.took)
