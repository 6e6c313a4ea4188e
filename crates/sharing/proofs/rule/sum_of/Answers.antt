use Rattle.std.proofs.Common.{◌≡◌, ◌<◌, ◌^◌, sum, ◌∙◌, rules, arith}
use Rattle.sharing.specs.Keeps.{row_parts}
use Rattle.sharing.proofs.Steps.{sum_is, total_most}
use Rattle.sharing.proofs.rule.sum_of.Goals as goal

pub sum-requires-clause-fits : goal.sum-requires-clause-fits
sum-requires-clause-fits c =
    let r = row_parts c.args.row.now c.requires in
    let fits : sum c.args.row.now < 2 ^ 32 = omega (arith, sum_is c.args.row.now, total_most c.args.row.now r.each, r.few) in
    search rules

pub returns : goal.returns
returns c = let is : c.sum.result ≡ sum c.args.row.now = search rules in is ∙ sum_is c.args.row.now
