use Rattle.std.proofs.Common.{[], ◌+◌, ◌-◌, ap, take, length, arith}
use Rattle.streams.proofs.Placing.{placed_all}
use Rattle.streams.proofs.Taking.{took_more, direct, waits}
use Rattle.streams.proofs.buffered.BufferedSink.put.Goals as goal

pub returns-then-bytes-self : goal.returns-then-bytes-self
returns-then-bytes-self g c =
    let after = c.make_room.new.self in
    let none = ap (λ n. take n after.room.now) (c.make_room.ensures.room (omega (arith, c.if-bytes-self.true))) in
    took_more [] c.args.bytes.now c.make_room.ensures.took (direct _ _ _ none none c.put.ensures)

pub returns-else-bytes-self : goal.returns-else-bytes-self
returns-else-bytes-self g c =
    let after = c.make_room.new.self in
    let bytes = c.args.bytes.now in
    took_more [] bytes c.make_room.ensures.took
    (waits (g.K.Sink.state after.sink) _ _ bytes (placed_all after.used (after.used + length bytes - after.used) after.room.now c.copy_from_slice.new.self bytes (omega (arith, after.within)) c.copy_from_slice.ensures.after))
