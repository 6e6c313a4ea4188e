use Rattle.std.proofs.Common.{◌≡◌, ◌-◌, ◌∷◌, ◌++◌, length, take, drop, sym, refl, ◌∙◌, arith}
use borrow.Rule.Slice.PartMut.{put_mid}
use Rattle.std.specs.List.{remove}
use Rattle.std.proofs.lemmas.List.{get_or-take, length-take-le}
use Rattle.std.proofs.lemmas.Option.{slice_get_read}
use Rattle.market.proofs.Filing.{front_removed, removal}
use Rattle.market.proofs.Moves.{turned_out}
use Rattle.market.proofs.file.take_out.Goals as goal

pub returns : goal.returns
returns g c =
    let items = c.args.file.now in
    let held = c.args.held in
    let at = c.args.at in
    let x = c.index-file-at.result in
    let is = c.index-file-at.is in
    let there = c.requires.there in
    let within = c.requires.within in
    let after = put_mid at (held - at) items c.rotate_left.new.self in
    let n = length-take-le held items within in
    let file : after ≡ remove (take held items) at ++ (x ∷ drop held items) = turned_out items held at x _ there within is c.rotate_left.ensures.after in
    record {
      taken = slice_get_read (take held items) (length (take held items)) at x refl (omega arith) (is ∙ sym (get_or-take held items at x there));
      slots = file;
      front = front_removed x items after held at there within file;
      lawful = removal x items after held at there within file is;
    }
