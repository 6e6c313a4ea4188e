-- Bytes of printed lines, one behind the other.
use Rattle.std.proofs.Common.{◌≡◌, ℕ, ◌+◌, ◌<◌, List, [], ◌∷◌, ◌++◌, length, take, map, get_or, refl, ap, sym, ◌∙◌, append_assoc}
use Rattle.std.proofs.lemmas.List.{append-nil, map-append, take_more}
use Rattle.market.specs.declared.words.TapeLine.{TapeLine}
use Rattle.text.specs.declared.printed.Printed.{Printed}
use Rattle.text.specs.declared.printed.Printed.TheVariants.{Tape}
use Rattle.text.specs.Printed.{printed_bytes, bytes_of}

pub bytes_append : (ps qs : List Printed) → bytes_of (ps ++ qs) ≡ bytes_of ps ++ bytes_of qs
bytes_append [] qs = refl
bytes_append (p ∷ ps) qs = ap (λ bs. printed_bytes p ++ bs) (bytes_append ps qs) ∙ sym (append_assoc (printed_bytes p) (bytes_of ps) (bytes_of qs))

pub tape_more : (lines : List TapeLine) (i : ℕ) (other : TapeLine) → i < length lines → bytes_of (map Tape (take (i + 1) lines)) ≡ bytes_of (map Tape (take i lines)) ++ printed_bytes (Tape (get_or lines i other))
tape_more lines i other h =
    let line = get_or lines i other in
    ap (λ ls. bytes_of (map Tape ls)) (take_more lines i other h) ∙ ap bytes_of (map-append Tape (take i lines) (line ∷ [])) ∙ bytes_append (map Tape (take i lines)) (Tape line ∷ []) ∙ ap (λ bs. bytes_of (map Tape (take i lines)) ++ bs) (append-nil (printed_bytes (Tape line)))
