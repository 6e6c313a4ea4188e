use Rattle.std.proofs.Common.{◌≡◌, ◌+◌, ◌-◌, ◌++◌, length, take, drop, refl, sym, ◌∙◌, append_assoc, arith}
use borrow.Rule.Slice.PartMut.{post_of, Post-is}
use Rattle.playback.proofs.Placing.{left_out, written_down}
use Rattle.playback.proofs.places.noting.PlacesNotes.note.Goals as goal

pub returns-else-has_room : goal.returns-else-has_room
returns-else-has_room c = λ o xs h. left_out h _ (sym c.has_room.ensures ∙ c.if-has_room.false) refl refl refl refl refl refl (refl, refl, refl)

pub returns-then-has_room : goal.returns-then-has_room
returns-then-has_room c =
    let s = c.args.self.now in
    let ls = c.args.lines.now in
    let ys = c.copy_from_slice.new.self in
    let k = s.used + length ls - s.used in
    let tape : take s.used s.tape.now ++ (ys ++ post_of s.used k s.tape.now) ≡ take s.used s.tape.now ++ ls ++ drop (s.used + length ls) s.tape.now =
    (λ i. take s.used s.tape.now ++ (c.copy_from_slice.ensures.after i ++ Post-is s.used (s.used + length ls) s.tape.now (omega arith) i)) ∙ sym (append_assoc (take s.used s.tape.now) ls (drop (s.used + length ls) s.tape.now)) in
    λ o xs h. written_down h _ (sym c.has_room.ensures ∙ c.if-has_room.true) c.args.reply refl refl refl tape refl refl refl (refl, refl, refl)
