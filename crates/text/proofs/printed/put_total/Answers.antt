use Rattle.std.proofs.Common.{[], ◌∷◌, subst, ◌∙◌}
use Rattle.streams.specs.Sinks.{Took}
use Rattle.streams.proofs.Taking.{took_more}
use Rattle.text.proofs.printed.put_total.Goals as goal

pub returns : goal.returns
returns g c =
    let state = g.K.Sink.state in
    subst (λ l. Took (state c.args.sink.now) (state c.put-2.new.self) (9 ∷ l)) (c.as_bytes.ensures.value ∙ c.format.ensures.text) (took_more (9 ∷ []) _ c.put.ensures c.put-2.ensures)
