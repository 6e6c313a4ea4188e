use Rattle.std.proofs.Common.{◌≡◌, sym, ◌∙◌, subst}
use Rattle.sharing.specs.Turns.{in_rounds, TakesTurns, Alone}
use Rattle.sharing.proofs.Taking.{rounds_alone}
use Rattle.sharing.proofs.rotation.RotationShareOut.share_out.Goals as goal

pub returns-then-can_share-clause-alone : goal.returns-then-can_share-clause-alone
returns-then-can_share-clause-alone c can =
    let row = c.args.row.now in
    let q = c.args.quantity in
    let is : c.give_in_order.new.row ≡ in_rounds row q = c.give_in_order.ensures ∙ c.whole_rounds-paid.ensures in
    subst (Alone TakesTurns row q) (sym is) (rounds_alone row q can)
