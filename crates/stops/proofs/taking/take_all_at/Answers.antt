use Rattle.std.proofs.Common.{◌≡◌, ◌<◌, length, ◌∙◌, subst, arith}
use Rattle.std.proofs.lemmas.List.{set-get_or}
use Rattle.stops.specs.Rising.{ascends_kept}
use Rattle.stops.specs.Stops.{elects}
use Rattle.stops.proofs.Turns.{Took, taking_more, taking_full, taking_done}
use Rattle.stops.proofs.taking.take_all_at.Goals as goal

pub loop-n-preserved : goal.loop-n-preserved
loop-n-preserved g c =
    let lt : c.loop-n.n < length c.loop-n.numbers = omega arith in
    (taking_more c.loop-n.invariant.0 lt c.in-Some.ensures.value c.take_at.ensures.listed, c.take_at.ensures.keeps ∙ c.loop-n.invariant.1)

pub returns : goal.returns
returns g c =
    let F = g.F.StopFile in
    let all : c.loop-n.n ≡ length c.loop-n.numbers = omega arith in
    let t = taking_full c.loop-n.invariant.0 (omega arith) in
    let u = subst (Took (elects c.args.price) (F.stops c.args.file.now) (F.stops c.loop-n.file) c.args.numbers.now c.loop-n.numbers) all t in
    record { value = u.value; listed = u.listed; written = u.wrote; others = u.others; rising = ascends_kept (elects c.args.price) (F.stops c.args.file.now); keeps = c.loop-n.invariant.1 }

pub returns-in_default : goal.returns-in_default
returns-in_default g c =
    let t = taking_done c.loop-n.invariant.0 c.in_default.ensures.value c.take_at.ensures.listed in
    record { value = t.value; listed = t.listed; written = set-get_or c.loop-n.numbers c.loop-n.n 0 ∙ t.wrote; others = t.others; rising = ascends_kept (elects c.args.price) (g.F.StopFile.stops c.args.file.now); keeps = c.take_at.ensures.keeps ∙ c.loop-n.invariant.1 }
