-- A text that is too long prints the same, however much of it was read past the limit.
use Rattle.std.proofs.Common.{◌≡◌, ℕ, ◌+◌, ◌<◌, ◌≤◌, cond, List, [], ◌∷◌, length, take, sym, ap, ◌∙◌, ⊎_elim, arith}
use Rattle.std.proofs.lemmas.List.{length-take-le, take_all}
use Rattle.std.proofs.lemmas.Bool.{lt-ltb, cases_lt}
use Rattle.sharing.specs.Turns.{by_time}
use Rattle.text.specs.Printed.{bytes_of}
use Rattle.replay.specs.Days.{new_day}
use Rattle.session.specs.Hearing.{heard}
use Rattle.session.specs.Transcripts.{too_long, printed, day_shown}

refused_whole : (text : List ℕ) → 32768 < length text → day_shown text ≡ bytes_of (too_long ∷ [])
refused_whole text h = ap (λ b. bytes_of (cond b (too_long ∷ []) (printed by_time 512 2049 1 new_day (heard text)))) (lt-ltb 32768 (length text) h)

pub cut_same : (text : List ℕ) → day_shown (take (32768 + 1) text) ≡ day_shown text
cut_same text =
    ⊎_elim
    (λ (long : 32768 < length text). refused_whole (take (32768 + 1) text) (omega (arith, length-take-le (32768 + 1) text (omega arith))) ∙ sym (refused_whole text long))
    (λ (short : length text ≤ 32768). ap day_shown (take_all (32768 + 1) text (omega arith)))
    (cases_lt 32768 (length text))
