-- What stands among the lines that are printed of a call: its lines of the tape, its number, its refusal.
use Rattle.std.proofs.Common.{◌≡◌, ℕ, Bool, true, false, cond, not, ◌&&◌, List, [], ◌∷◌, ◌++◌, map, None, Option, sym, refl, ap, ◌∙◌}
use Rattle.std.specs.List.{filter_map, cons_option}
use Rattle.std.proofs.lemmas.List.{append-nil}
use Rattle.std.proofs.lemmas.List.Elements.{filter_map-append}
use Rattle.market.specs.declared.words.TapeLine.{TapeLine}
use Rattle.text.specs.declared.printed.Printed.{Printed}
use Rattle.text.specs.declared.printed.Printed.TheVariants.{Tape}
use Rattle.replay.specs.Days.{Day, Phase, Closed, Rule, Outcome, Answer}
use Rattle.replay.specs.Days as days
use Rattle.replay.specs.Calls.{is_phase, handed, step}
use Rattle.replay.specs.Questions.{Totals, totals}
use Rattle.replay.specs.History.{Bare}
use Rattle.replay.proofs.History.{step_bare}
use Rattle.session.specs.Transcripts.{spoken, totals_line, closing, said}
use Rattle.session.specs.Above.{tape_line, tape_in, number_on, numbers_in, line_refused, lines_refused}

module _ {A : Type 0} (h : Printed → Option A) where
  no_tape : ((l : TapeLine) → h (Tape l) ≡ None) → (ls : List TapeLine) → filter_map h (map Tape ls) ≡ []
  no_tape e [] = refl
  no_tape e (l ∷ ls) = ap (λ o. cons_option o (filter_map h (map Tape ls))) (e l) ∙ no_tape e ls

  no_closing : ((t : Totals) → h (totals_line t) ≡ None) → (f : Phase) (e : Day) → filter_map h (closing f e) ≡ []
  no_closing n f e = go (is_phase Closed e.phase && not (is_phase Closed f))
    where
      go : (b : Bool) → filter_map h (cond b (totals_line (totals e) ∷ []) []) ≡ []
      go true = ap (λ o. cons_option o []) (n (totals e))
      go false = refl

  -- piece by piece
  in_said : ((t : Totals) → h (totals_line t) ≡ None) → (n : ℕ) (d : Day) (r : Outcome) → filter_map h (said n d r) ≡ filter_map h (spoken n r.answer) ++ filter_map h (map Tape (handed d r.day))
  in_said none n d r =
      filter_map-append h (spoken n r.answer ++ map Tape (handed d r.day)) (closing d.phase r.day)
      ∙ ap (λ xs. filter_map h (spoken n r.answer ++ map Tape (handed d r.day)) ++ xs) (no_closing none d.phase r.day)
      ∙ append-nil _
      ∙ filter_map-append h (spoken n r.answer) (map Tape (handed d r.day))

  -- what no line of the tape and no totals have
  only_spoken : ((l : TapeLine) → h (Tape l) ≡ None) → ((t : Totals) → h (totals_line t) ≡ None) → (n : ℕ) (d : Day) (r : Outcome) → filter_map h (said n d r) ≡ filter_map h (spoken n r.answer)
  only_spoken e none n d r = in_said none n d r ∙ ap (λ xs. filter_map h (spoken n r.answer) ++ xs) (no_tape e (handed d r.day)) ∙ append-nil _

tape_spoken : (n : ℕ) (a : Answer) → tape_in (spoken n a) ≡ []
tape_spoken n days.Done = refl
tape_spoken n (days.Number k) = refl
tape_spoken n (days.Lines k) = refl
tape_spoken n (days.Entered k j) = refl
tape_spoken n (days.Refused k) = refl

tape_lines : (ls : List TapeLine) → tape_in (map Tape ls) ≡ ls
tape_lines [] = refl
tape_lines (l ∷ ls) = ap (λ ks. l ∷ ks) (tape_lines ls)

-- with what a call says first, and with its totals
pub tape_pieces : (n : ℕ) (a : Answer) (ls : List TapeLine) → tape_in (spoken n a ++ map Tape ls) ≡ ls
tape_pieces n a ls = filter_map-append tape_line (spoken n a) (map Tape ls) ∙ ap (λ ks. ks ++ tape_in (map Tape ls)) (tape_spoken n a) ∙ tape_lines ls

pub tape_said : (n : ℕ) (d : Day) (r : Outcome) → tape_in (said n d r) ≡ handed d r.day
tape_said n d r = in_said tape_line (λ t. refl) n d r ∙ sym (filter_map-append tape_line (spoken n r.answer) (map Tape (handed d r.day))) ∙ tape_pieces n r.answer (handed d r.day)

-- the tape after a call
pub tape_after : (gifts : Rule) (room : ℕ) (d : Day) (c : days.Call) → (step gifts room d c).day.tape ≡ d.tape ++ handed d (step gifts room d c).day
tape_after gifts room d c = let s : Bare gifts room d c = step_bare gifts room d c in s.tape ∙ ap (λ ls. d.tape ++ ls) (sym s.lines)

pub numbers_said : (n : ℕ) (d : Day) (r : Outcome) → numbers_in (said n d r) ≡ numbers_in (spoken n r.answer)
numbers_said n d r = only_spoken number_on (λ l. refl) (λ t. refl) n d r

pub lines_said : (n : ℕ) (d : Day) (r : Outcome) → lines_refused (said n d r) ≡ lines_refused (spoken n r.answer)
lines_said n d r = only_spoken line_refused (λ l. refl) (λ t. refl) n d r
