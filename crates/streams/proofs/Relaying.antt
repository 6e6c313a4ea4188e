-- Where what is shown of a text that is too long does not depend on how much of it was read.
use Rattle.std.proofs.Common.{◌≡◌, ℕ, Bool, List, take, ap, subst, ◌∙◌}
use Rattle.streams.specs.Sinks.{SinkState}
use Rattle.streams.specs.Sources.{SourceState}
use Rattle.streams.specs.Relays.{Passed, Relayed, ShowsAll}

pub shows_all : {shown : List ℕ → List ℕ} {room : ℕ} {source source' : SourceState} {out out' : SinkState} {ok : Bool} → ((xs : List ℕ) → shown (take room xs) ≡ shown xs) → Relayed shown room source source' out out' ok → ShowsAll shown source source' out out'
shows_all {shown} {room} {source} {source'} {out} {out'} cut r fine all left = subst (Passed out out') (ap shown (r.whole fine all left) ∙ cut all) (r.passed fine)
