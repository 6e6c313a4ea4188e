use Rattle.std.proofs.Common.{◌≡◌, sym, ◌∙◌, subst, arith, rules}
use Rattle.sharing.specs.Turns.{in_row_order, KeepsOrder, Alone}
use Rattle.sharing.proofs.Steps.{order_from_none}
use Rattle.sharing.proofs.Taking.{order_alone}
use Rattle.sharing.proofs.time_priority.TimePriorityShareOut.share_out.Goals as goal

pub returns-then-can_share : goal.returns-then-can_share
returns-then-can_share c =
    let row = c.args.row.now in
    let q = c.args.quantity in
    let is : c.give_in_order.new.row ≡ in_row_order row q = c.give_in_order.ensures ∙ order_from_none _ row q (omega arith) in
    record { gifts = search rules; alone = λ can. subst (Alone KeepsOrder row q) (sym is) (order_alone row q can) }
