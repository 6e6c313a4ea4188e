use borrow.Rule.Slice.PartMut.{mid_len, same_len_mid}
use Rattle.std.proofs.Common.{◌-◌, length, take, sym, subst, arith}
use Rattle.std.specs.Io.KnownBytes.{Consumes}
use Rattle.streams.proofs.Known.{consumes_more}
use Rattle.streams.proofs.Placing.{placed}
use Rattle.streams.proofs.fill.fill.Goals as goal

pub loop-end-preserved : goal.loop-end-preserved
loop-end-preserved g c =
    let state = g.S.Source.state in
    let v = c.loop-end.invariant in
    let at = c.loop-end.end in
    let b = c.loop-end.buffer in
    let new = c.read-count.new.buffer in
    let count = c.read-count.result in
    let gave = c.read-count.ensures.gave in
    let same = same_len_mid at (length b - at) b new c.read-count.auto.buffer in
    let mid = mid_len at (length b) b (omega arith) in
    record {
      within = omega (arith, same, mid, c.read-count.auto.buffer, gave.within);
      bytes =
          subst (Consumes (state c.args.source.now).left (state c.read-count.new.self).left) (sym (placed at (length b - at) count b new v.within gave.within))
          (consumes_more (state c.args.source.now).left (state c.loop-end.source).left (state c.read-count.new.self).left (take at b) (take count new) v.bytes gave.bytes);
      lasts = λ t. let l = v.lasts t in let k = gave.lasts l.0 in (k.0, omega (arith, l.1, k.1));
    }
