use Rattle.std.proofs.Common.{◌≡◌, ◌++◌, take, drop}
use Rattle.sharing.specs.Levels.{in_order_above}
use Rattle.sharing.proofs.rule.give_in_order.Given as goal

abbrev pub invariant-loop-entry : goal.invariant-loop-entry
invariant-loop-entry l = take l.entry-index l.row ++ in_order_above l.level l.most (drop l.entry-index l.row) l.left ≡ in_order_above l.level l.most l.initial.row l.quantity
