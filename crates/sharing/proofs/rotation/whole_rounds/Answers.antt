use Rattle.std.proofs.Common.{◌-◌, ◌<◌, sym, subst, arith, rules}
use Rattle.sharing.specs.Keeps.{shareable_parts}
use Rattle.sharing.proofs.Levels.{Stands, stands_first, none_left, kinds, kinds_less, is_next, next_level, last_level}
use Rattle.sharing.proofs.rotation.whole_rounds.Goals as goal

pub loop-unfilled-init : goal.loop-unfilled-init
loop-unfilled-init c = stands_first _ _ (shareable_parts c.args.row.now c.args.quantity c.requires)

pub cost-cost-requires : goal.cost-cost-requires
cost-cost-requires c =
    let u = c.in-Some.unfilled in
    omega (arith, c.in-Some.ensures.least, (is_next _ _ _ _ u.count u.least c.loop-unfilled.invariant u.some c.in-Some.ensures.count c.in-Some.ensures.least).over)

pub returns-then-cost-left : goal.returns-then-cost-left
returns-then-cost-left c =
    let u = c.in-Some.unfilled in
    last_level _ _ _ _ u.count u.least c.loop-unfilled.invariant u.some c.in-Some.ensures.count c.in-Some.ensures.least (omega (arith, c.if-cost-left.true, c.cost-cost.ensures)) _ c.rounds_paid-rise.ensures.rounds

pub loop-unfilled-smaller : goal.loop-unfilled-smaller
loop-unfilled-smaller c =
    let u = c.in-Some.unfilled in
    let next = is_next _ _ _ _ u.count u.least c.loop-unfilled.invariant u.some c.in-Some.ensures.count c.in-Some.ensures.least in
    subst (λ x. kinds x c.args.row.now < kinds c.loop-unfilled.level c.args.row.now) (sym c.in-Some.ensures.least) (kinds_less c.loop-unfilled.level _ c.args.row.now next.over next.held)

pub loop-unfilled-preserved : goal.loop-unfilled-preserved
loop-unfilled-preserved c =
    let u = c.in-Some.unfilled in
    let cost = c.cost-cost.ensures in
    subst (λ x. Stands c.args.row.now c.args.quantity u.least (c.loop-unfilled.left - x)) (sym cost)
    (next_level _ _ _ _ u.count u.least c.loop-unfilled.invariant u.some c.in-Some.ensures.count c.in-Some.ensures.least (omega (arith, c.if-cost-left.false, cost)))

pub returns : goal.returns
returns c = none_left _ _ _ _ c.loop-unfilled.invariant (search rules)
