-- Bytes that are written in the middle of a buffer.
use Rattle.std.proofs.Common.{◌≡◌, ℕ, ◌+◌, ◌-◌, ◌≤◌, List, ◌++◌, Option, length, take, drop, sym, ap, ◌∙◌, subst, arith}
use Rattle.std.proofs.lemmas.List.{take-append-le, take_all, length-drop, length-take-le}
use Rattle.std.proofs.Math.Seq.{take-append-add, take-add}
use borrow.Rule.Slice.PartMut.{put_mid, post_of}
use Rattle.std.specs.Io.KnownBytes.{Appends}
use Rattle.streams.proofs.Known.{appends_more}

pub placed : (at k n : ℕ) (b new : List ℕ) → at ≤ length b → n ≤ length new → take (at + n) (put_mid at k b new) ≡ take at b ++ take n new
placed at k n b new h i =
    let rest = new ++ post_of at k b in
    ap (λ m. take (m + n) (take at b ++ rest)) (sym (length-take-le at b h)) ∙ take-append-add (take at b) rest n ∙ ap (λ l. take at b ++ l) (take-append-le n new (post_of at k b) i)

pub placed_all : (at k : ℕ) (b new bytes : List ℕ) → at ≤ length b → new ≡ bytes → take (at + length bytes) (put_mid at k b new) ≡ take at b ++ bytes
placed_all at k b new bytes h e = placed at k (length bytes) b new h (omega (arith, ap length e)) ∙ ap (λ l. take at b ++ l) (ap (take (length bytes)) e ∙ take_all (length bytes) bytes (omega arith))

-- a writer took some more of the rest
pub front_more : (a b c : Option (List ℕ)) (done n : ℕ) (bytes : List ℕ) → done ≤ length bytes → Appends a b (take done bytes) → n ≤ length (take (length bytes - done) (drop done bytes)) → Appends b c (take n (take (length bytes - done) (drop done bytes)))
    → (done + n ≤ length bytes) × Appends a c (take (done + n) bytes)
front_more a b c done n bytes h p k q =
    let rest : take (length bytes - done) (drop done bytes) ≡ drop done bytes = take_all (length bytes - done) (drop done bytes) (omega (arith, length-drop done bytes)) in
    (omega (arith, h, k, ap length rest, length-drop done bytes), subst (Appends a c) (ap (λ l. take done bytes ++ take n l) rest ∙ sym (take-add done n bytes)) (appends_more a b c (take done bytes) (take n (take (length bytes - done) (drop done bytes))) p q))
