use Rattle.streams.proofs.Placing.{front_more}
use Rattle.streams.proofs.kept.write_front.Goals as goal

pub loop-done-preserved : goal.loop-done-preserved
loop-done-preserved g c =
    let v = c.loop-done.invariant in
    let contents = g.W.Write.contents in
    let m = front_more (contents c.args.writer.now) (contents c.loop-done.writer) (contents c.write_again.new.writer) c.loop-done.done c.in_ok-count.count c.args.bytes.now v.within v.front c.in_ok-count.ensures.bound c.in_ok-count.ensures.bytes in
    record { within = m.0; front = m.1 }
