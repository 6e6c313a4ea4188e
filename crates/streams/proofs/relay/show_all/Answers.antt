use Rattle.std.proofs.Common.{[], ◌≡◌, ap, subst, ◌∙◌}
use Rattle.std.proofs.lemmas.List.{append-nil}
use Rattle.streams.specs.Sinks.{Took, behind}
use Rattle.streams.specs.Waiting.{waiting}
use Rattle.streams.proofs.Taking.{took_more, nothing_waits}
use Rattle.streams.proofs.relay.show_all.Goals as goal

pub returns : goal.returns
returns g c =
    let state = g.K.Sink.state in
    let out = c.new-out.result in
    let begun : behind (state out.sink) (waiting out) ≡ state c.args.sink = ap (behind (state out.sink)) c.new-out.ensures.waiting ∙ nothing_waits (state out.sink) ∙ ap state c.new-out.ensures.sink in
    record {
      took = subst (λ s. Took s (state c.close.result) (g.S.Show.shown c.args.view.now c.args.text.now)) begun (subst (Took (behind (state out.sink) (waiting out)) (state c.close.result)) (append-nil _) (took_more _ [] c.show.ensures c.close.ensures.took));
      whole = c.close.ensures.whole;
    }
