-- An input that is too long shows the same, however much of it was read past the limit.
use Rattle.std.proofs.Common.{◌≡◌, ℕ, ◌+◌, ◌<◌, ◌≤◌, cond, List, [], ◌++◌, length, take, sym, ap, ◌∙◌, ⊎_elim, ◌==◌, arith}
use Rattle.std.proofs.lemmas.List.{length-take-le, take_all}
use Rattle.std.proofs.lemmas.Bool.{lt-ltb, cases_lt}
use Rattle.text.specs.declared.printed.Layer.TheVariants.{Text}
use Rattle.text.specs.declared.refusal.Refusal.TheVariants.{InputTooLong}
use Rattle.text.specs.Refusals.{code_of}
use Rattle.text.specs.Printed.{refused_bytes}
use Rattle.text.specs.Inspection.{lines_of, shown_from, summary_line, good_in, refused_in, inspected}

too_long : (text : List ℕ) → 32768 < length text → inspected text ≡ refused_bytes 0 Text (code_of InputTooLong) 0
too_long text h =
    ap
    (λ b.
    cond b (refused_bytes 0 Text (code_of InputTooLong) 0)
    (cond (length text == 0) [] (shown_from 1 (lines_of text) ++ summary_line (good_in (lines_of text)) (refused_in (lines_of text)))))
    (lt-ltb 32768 (length text) h)

pub cut_same : (text : List ℕ) → inspected (take (32768 + 1) text) ≡ inspected text
cut_same text =
    ⊎_elim
    (λ (long : 32768 < length text). too_long (take (32768 + 1) text) (omega (arith, length-take-le (32768 + 1) text (omega arith))) ∙ sym (too_long text long))
    (λ (short : length text ≤ 32768). ap inspected (take_all (32768 + 1) text (omega arith)))
    (cases_lt 32768 (length text))
