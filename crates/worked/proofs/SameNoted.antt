-- Places as large as others note the same of the same list.
use Rattle.std.proofs.Common.{◌≡◌, List, map, length, sym, ap, ◌∙◌, ◌==◌}
use Rattle.replay.specs.History.{joined}
use Rattle.playback.specs.declared.places.Places.{Places}
use Rattle.playback.specs.Fitting.{fitting, fitting_in, Holds}
use Rattle.playback.specs.Seen.{Seen, lines_seen}
use Rattle.playback.proofs.Placing.{noted_answers, noted_views, noted_tape}
use Rattle.worked.specs.Alike.{Alike, SameSpace}

pub same_noted : {o o' p p' : Places} {xs xs' : List Seen} → SameSpace o o' → xs ≡ xs' → Holds o xs p → Holds o' xs' p' → Alike p p'
same_noted {o} {o'} {p} {p'} {xs} {xs'} s e h h' =
    let f : fitting_in o xs ≡ fitting_in o' xs' = λ i. fitting (s.replies i) (s.views i) (s.tape i) (e i) in
    record {
      answers = noted_answers h ∙ ap (map (λ (y : Seen). y.answer)) f ∙ sym (noted_answers h');
      views = noted_views h ∙ ap (map (λ (y : Seen). y.view)) f ∙ sym (noted_views h');
      tape = noted_tape h ∙ ap (λ ys. joined (lines_seen ys)) f ∙ sym (noted_tape h');
      whole = h.whole ∙ (λ i. length (f i) == length (e i)) ∙ sym h'.whole;
    }
