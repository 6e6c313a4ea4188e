use Rattle.std.proofs.Common.{◌≡◌, ◌+◌, ◌-◌, ◌<◌, ◌≤◌, ◌++◌, length, take, drop, set, sym, ap, ◌∙◌, arith, rules}
use borrow.Rule.Slice.PartMut.{put_mid}
use Rattle.std.specs.List.{insert}
use Rattle.std.proofs.lemmas.List.{length-take-le}
use Rattle.market.specs.Files.{ahead, filed}
use Rattle.market.proofs.Filing.{filed_is, front_filed, filing}
use Rattle.market.proofs.Moves.{turned_in}
use Rattle.market.proofs.file.put_in.Goals as goal

pub returns : goal.returns
returns g c =
    let items = c.args.file.now in
    let held = c.args.held in
    let x = c.args.newcomer in
    let at = c.place_of-at.result in
    let before = g.T.Ranked.before in
    let lt : held < length items = omega arith in
    let within : at ≤ held = omega (arith, c.place_of-at.ensures.within, length-take-le held items (omega arith)) in
    let place : at ≡ ahead before x (take held items) = search rules in
    let after = put_mid at (held + 1 - at) (set items held x) c.rotate_right.new.self in
    let file : after ≡ filed before x (take held items) ++ drop (held + 1) items =
    turned_in items held at x _ within lt c.rotate_right.ensures.after
    ∙ ap (λ n. insert (take held items) n x ++ drop (held + 1) items) place
    ∙ ap (λ l. l ++ drop (held + 1) items) (sym (filed_is before x (take held items))) in
    record { place = place; slots = file; front = front_filed before x items after held lt file; lawful = filing before g.T.Ranked.strict x items after held lt file }
