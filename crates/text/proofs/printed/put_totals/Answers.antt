use Rattle.std.proofs.Common.{[], ◌∷◌, append_assoc}
use Rattle.streams.proofs.Taking.{took_more}
use Rattle.text.proofs.printed.put_totals.Goals as goal

pub returns : goal.returns
returns g c =
    let state = g.K.Sink.state in
    let behind = took_more _ _ c.put_total.ensures (took_more _ _ c.put_total-2.ensures (took_more _ _ c.put_total-3.ensures (took_more _ _ c.put_total-4.ensures c.put-2.ensures))) in
    simp append_assoc (took_more (90 ∷ []) _ c.put.ensures behind)
