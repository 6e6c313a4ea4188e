-- The `!` lines that are printed of a text are those of its refused lines.
use Rattle.std.proofs.Common.{◌≡◌, ℕ, suc, ◌+◌, Bool, true, false, cond, not, ◌&&◌, List, [], ◌∷◌, ◌++◌, length, map, Some, None, Option, Result, Ok, Err, refl, ap, ◌∙◌}
use Rattle.std.proofs.lemmas.List.Elements.{filter-append}
use Rattle.market.specs.declared.words.TapeLine.{TapeLine}
use Rattle.text.specs.declared.fault.LineFault.{LineFault}
use Rattle.text.specs.declared.printed.Printed.{Printed}
use Rattle.text.specs.declared.printed.Printed.TheVariants.{Accepted, Tape}
use Rattle.replay.specs.Days.{Day, Phase, Closed, Rule, Call}
use Rattle.replay.specs.Calls.{refusal, checks, is_phase, handed, decided, answered, became, perform, step}
use Rattle.replay.specs.Questions.{totals}
use Rattle.playback.specs.declared.call.Call.{Call as Asked}
use Rattle.playback.specs.Stages.{call_of}
use Rattle.session.specs.Transcripts.{spoken, totals_line, closing, said, said_of, day_behind, printed}
use Rattle.session.specs.Refusals.{is_refusal, refusals_in, refused_by, refusal_of, refusals_from}
use Rattle.session.proofs.Counting.{brings_order, said_first}
use Rattle.session.proofs.Standing.{said_refused}

tape_only : (ls : List TapeLine) → refusals_in (map Tape ls) ≡ []
tape_only [] = refl
tape_only (l ∷ ls) = tape_only ls

totals_only : (f : Phase) (d : Day) → refusals_in (closing f d) ≡ []
totals_only f d = go (is_phase Closed d.phase && not (is_phase Closed f))
  where
    go : (b : Bool) → refusals_in (cond b (totals_line (totals d) ∷ []) []) ≡ []
    go true = refl
    go false = refl

number_only : (n : ℕ) (d : Day) (c : Call) (e : Day) → refusals_in (spoken n (answered d c e)) ≡ []
number_only n d c e = ap refusals_in (said_first n d c e) ∙ go (brings_order c)
  where
    go : (b : Bool) → refusals_in (cond b (Accepted (suc (length d.roll)) ∷ []) []) ≡ []
    go true = refl
    go false = refl

module _ (gifts : Rule) (room free : ℕ) where
  refused_said : (n : ℕ) (d : Day) (c : Call) → refusals_in (said n d (step gifts room d c)) ≡ refused_by n (refusal (checks room d c))
  unfolding step perform
  refused_said n d c = go (refusal (checks room d c))
    where
      e : Day
      e = became gifts d c

      go : (x : Option ℕ) → refusals_in (said n d (decided x d (perform gifts d c))) ≡ refused_by n x
      go None =
          let first : List Printed = spoken n (answered d c e) in
          let lines : List Printed = map Tape (handed d e) in
          filter-append is_refusal (first ++ lines) (closing d.phase e)
          ∙ ap (λ ps. ps ++ refusals_in (closing d.phase e)) (filter-append is_refusal first lines ∙ ap (λ ps. ps ++ refusals_in lines) (number_only n d c e) ∙ tape_only (handed d e))
          ∙ totals_only d.phase e
      go (Some k) = ap refusals_in (said_refused n d k)

  pub refused_printed : (n : ℕ) (d : Day) (xs : List (Result Asked LineFault)) → refusals_in (printed gifts room free n d xs) ≡ refusals_from gifts room free n d xs
  unfolding printed refusals_from
  refused_printed n d [] = refl
  refused_printed n d (x ∷ xs) =
      filter-append is_refusal (said_of gifts room free n d x) (printed gifts room free (n + 1) (day_behind gifts room free d x) xs)
      ∙ ap (λ ps. ps ++ refusals_in (printed gifts room free (n + 1) (day_behind gifts room free d x) xs)) (at x)
      ∙ ap (λ ps. refusal_of gifts room free n d x ++ ps) (refused_printed (n + 1) (day_behind gifts room free d x) xs)
    where
      at : (x : Result Asked LineFault) → refusals_in (said_of gifts room free n d x) ≡ refusal_of gifts room free n d x
      at (Ok c) = refused_said n d (call_of free c)
      at (Err f) = refl
