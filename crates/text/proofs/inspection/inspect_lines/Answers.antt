use Rattle.std.proofs.Common.{◌+◌, length, refl, ap, arith}
use Rattle.streams.proofs.Taking.{took_more}
use Rattle.text.specs.Cuts.{line_of}
use Rattle.text.specs.Reading.{record_in}
use Rattle.text.proofs.Marks.{past_less}
use Rattle.text.proofs.Inspecting.{some_left, shown_more, good_more, refused_more, counted}
use Rattle.text.proofs.inspection.inspect_lines.Goals as goal

pub loop-rest-smaller : goal.loop-rest-smaller
loop-rest-smaller g c =
    let rest = c.loop-rest.rest.now in
    omega (arith, ap length c.inspect_line-rest.ensures.rest, past_less 10 rest (some_left rest c.loop-rest-test.ensures))

pub loop-rest-preserved : goal.loop-rest-preserved
loop-rest-preserved g c =
    let v = c.loop-rest.invariant in
    let e = c.inspect_line-rest.ensures in
    let rest = c.loop-rest.rest.now in
    let some = some_left rest c.loop-rest-test.ensures in
    let n = c.loop-rest.tally.good + c.loop-rest.tally.refused + 1 in
    let count = counted (record_in (line_of rest)) in
    record {
      shown = _;
      took = took_more v.shown _ v.took e.shown;
      all = shown_more rest some _ e.rest n _ v.shown _ _ (omega (arith, e.good, e.refused, count)) refl v.all;
      good = omega (arith, e.good, v.good, good_more rest some _ e.rest);
      refused = omega (arith, e.refused, v.refused, refused_more rest some _ e.rest);
      within = omega (arith, e.good, e.refused, count, v.within, ap length e.rest, past_less 10 rest some);
    }
