-- A text midway: what was printed so far, and what is still to come.
use Rattle.std.proofs.Common.{◌≡◌, ℕ, ◌+◌, ◌<◌, ◌≤◌, Bool, true, false, cond, not, ◌&&◌, eqb, List, [], ◌∷◌, ◌++◌, length, take, map, Result, Ok, Err, sym, refl, ap, ◌∙◌, subst, append_assoc, arith}
use Rattle.std.proofs.lemmas.List.{append-nil}
use Rattle.std.proofs.lemmas.Bool.Decides.{nat_tests}
use Rattle.market.specs.declared.words.TapeLine.{TapeLine}
use Rattle.streams.specs.Sinks.{SinkState, Took}
use Rattle.streams.proofs.Taking.{took_none, took_more}
use Rattle.text.specs.declared.fault.LineFault.{LineFault}
use Rattle.text.specs.declared.read.Fault.{Fault}
use Rattle.text.specs.declared.record.Record.{Record}
use Rattle.text.specs.declared.printed.Printed.{Printed}
use Rattle.text.specs.declared.printed.Printed.TheVariants.{Tape}
use Rattle.text.specs.Cuts.{line_of, rest_of, next_of}
use Rattle.text.specs.Reading.{record_in}
use Rattle.text.specs.Inspection.{lines_of}
use Rattle.text.specs.Printed.{bytes_of}
use Rattle.text.proofs.Inspecting.{lines_more}
use Rattle.text.proofs.Printing.{bytes_append}
use Rattle.replay.specs.Days.{Day, Phase, Closed, new_day, Rule, Outcome}
use Rattle.replay.specs.Calls.{is_phase, handed, step}
use Rattle.replay.specs.Questions.{totals}
use Rattle.replay.specs.History.{bare, Bare}
use Rattle.replay.proofs.History.{step_bare}
use Rattle.playback.specs.declared.call.Call.{Call}
use Rattle.playback.specs.declared.reply.Reply.{Reply}
use Rattle.playback.specs.Stages.{call_of}
use Rattle.playback.specs.Lent.{over, lent}
use Rattle.session.specs.declared.fault.Cause.{Cause}
use Rattle.session.specs.declared.fault.Cause.TheVariants.{Text}
use Rattle.session.specs.Hearing.{call_for, ending_at, hear, phase_behind, heard_from, heard, with_call, calls_among}
use Rattle.session.specs.Transcripts.{spoken, closing, said_of, day_behind, printed}
use Rattle.session.specs.Turns.{first_said, lines_in, shown, Came}
use Rattle.session.proofs.Phases.{line_phase}
use Rattle.session.proofs.Turning.{Told, told_of}

-- no day has just closed that was closed before
not_both : (b : Bool) (ps : List Printed) → cond (b && not b) ps [] ≡ []
not_both true ps = refl
not_both false ps = refl

closing_bare : (f : Phase) (e d : Day) → e ≡ bare d → closing f e ≡ closing f d
unfolding totals
closing_bare f e d x = ap (closing f) x

-- whether the day has just closed
abbrev pub closes : Day → Day → Bool
closes d e = is_phase Closed e.phase && not (is_phase Closed d.phase)

-- A line's turn: what is printed, the day behind it, what the lent lines hold, and that there are as many.
pub record Turned (gifts : Rule) (room n : ℕ) (d : Day) (q : Result Call LineFault) (a : Result Reply Cause) (e : Day) (ls ls' : List TapeLine) : Type 0 where
  pub day : e ≡ bare (day_behind gifts room (length ls) d q)
  pub said : shown n a ls' (closes d e) (totals e) ≡ said_of gifts room (length ls) n d q
  pub lines : (cs : List Call) → lent gifts room (day_behind gifts room (length ls) d q) (map (call_of (length ls)) cs) ls' ≡ lent gifts room d (map (call_of (length ls)) (with_call q cs)) ls
  pub fits : lines_in a ≤ length ls'

module _ {gifts : Rule} {room : ℕ} {a : Result Reply Cause} {e : Day} {ls ls' : List TapeLine} (n : ℕ) (d : Day) where
  pub turned : (place : ℕ) (q : Result Record LineFault) → Came gifts room (bare d) (ending_at place q) a e ls ls' → Turned gifts room n d (hear d.phase q) a e ls ls'
  unfolding lent
  turned place (Ok r) came =
      let c : Call = call_for d.phase r in
      let p : Told gifts room n d c a e ls ls' = told_of n d c came in
      let s : Bare gifts room d (call_of (length ls) c) = step_bare gifts room d (call_of (length ls) c) in
      let x : Outcome = step gifts room d (call_of (length ls) c) in
      let end : e ≡ bare x.day = p.day ∙ sym s.day in
      record {
        day = end;
        said =
            ap (λ ps. ps ++ map Tape (take (lines_in a) ls') ++ closing d.phase e) (p.said ∙ ap (spoken n) (sym s.answer))
            ∙ ap (λ ts. spoken n x.answer ++ map Tape ts ++ closing d.phase e) (p.lines ∙ sym s.lines)
            ∙ ap (λ ps. spoken n x.answer ++ map Tape (handed d x.day) ++ ps) (closing_bare d.phase e x.day end);
        lines = λ cs. ap (lent gifts room x.day (map (call_of (length ls)) cs)) (p.lent ∙ ap (λ ts. over ts ls) (sym s.lines));
        fits = p.fits;
      }
  turned place (Err f) came =
      let b : Result Reply Cause = Err (Text (record { cause = f.cause; field = f.field; next = place })) in
      record {
        day = came.day;
        said =
            ap (λ b. shown n b ls' (closes d e) (totals e)) came.said
            ∙ ap (λ ps. first_said n b ++ ps) (ap (λ y. closing d.phase y) came.day ∙ not_both (is_phase Closed d.phase) _);
        lines = λ cs. ap (lent gifts room d (map (call_of (length ls)) cs)) came.lines;
        fits = subst (λ b. lines_in b ≤ length ls') (sym came.said) (omega arith);
      }

-- Some lines of a text had their turn, and the rest are still to come: the day with its history, all bytes, and what the lent lines hold in the end.
pub record Midway (gifts : Rule) (room free : ℕ) (whole : List ℕ) (last : List TapeLine) (start now : SinkState) (n : ℕ) (b : Day) (rest : List ℕ) (ls : List TapeLine) : Type 0 where
  pub day : Day
  pub shown : b ≡ bare day
  pub done : List ℕ
  pub took : Took start now done
  pub bytes : done ++ bytes_of (printed gifts room free n day (heard_from day.phase (lines_of rest))) ≡ whole
  pub lines : lent gifts room day (map (call_of free) (calls_among (heard_from day.phase (lines_of rest)))) ls ≡ last

pub begun : {gifts : Rule} {room free : ℕ} {start : SinkState} {b : Day} {text : List ℕ} {ls : List TapeLine} → b ≡ new_day
    → Midway gifts room free (bytes_of (printed gifts room free 1 new_day (heard text))) (lent gifts room new_day (map (call_of free) (calls_among (heard text))) ls) start start 1 b text ls
unfolding new_day
begun {start = start} e = record { day = new_day; shown = e; done = []; took = took_none start; bytes = refl; lines = refl }

pub ended : {gifts : Rule} {room free n : ℕ} {whole rest : List ℕ} {start now : SinkState} {last ls : List TapeLine} {b : Day} → rest ≡ [] → Midway gifts room free whole last start now n b rest ls → Took start now whole × (ls ≡ last)
unfolding printed heard_from lent
ended {gifts} {room} {free} {n} {whole} {start = start} {now = now} {ls = ls} e m = (
  subst (Took start now) (sym (append-nil m.done) ∙ ap (λ l. m.done ++ bytes_of (printed gifts room free n m.day (heard_from m.day.phase (lines_of l)))) (sym e) ∙ m.bytes) m.took,
  ap (λ l. lent gifts room m.day (map (call_of free) (calls_among (heard_from m.day.phase (lines_of l)))) ls) (sym e) ∙ m.lines,
)

module _ {gifts : Rule} {room n : ℕ} {whole rest' : List ℕ} {last : List TapeLine} {start now now' : SinkState} {e : Day} {a : Result Reply Cause} {ls ls' : List TapeLine} where
  -- one line more
  on_day : (rest done : List ℕ) (d : Day) (q : Result Record LineFault) → done ++ bytes_of (printed gifts room (length ls) n d (heard_from d.phase (lines_of rest))) ≡ whole
      → lent gifts room d (map (call_of (length ls)) (calls_among (heard_from d.phase (lines_of rest)))) ls ≡ last → 0 < length rest → q ≡ record_in (line_of rest) → rest' ≡ rest_of rest
      → Turned gifts room n d (hear d.phase q) a e ls ls' → Took start now done → Took now now' (bytes_of (shown n a ls' (closes d e) (totals e))) → Midway gifts room (length ls) whole last start now' (n + 1) e rest' ls'
  unfolding printed heard_from
  on_day rest done d q so held some read left x took more =
      let f : ℕ = length ls in
      let d' : Day = day_behind gifts room f d (hear d.phase q) in
      let line : List ℕ = bytes_of (said_of gifts room f n d (hear d.phase q)) in
      let coming : List (Result Call LineFault) = heard_from (phase_behind d.phase q) (lines_of (rest_of rest)) in
      let later : List Printed = printed gifts room f (n + 1) d' coming in
      let ahead : heard_from d'.phase (lines_of rest') ≡ coming = ap (λ p. heard_from p (lines_of rest')) (line_phase gifts room d f q) ∙ ap (λ l. heard_from (phase_behind d.phase q) (lines_of l)) left in
      let all : hear d.phase q ∷ coming ≡ heard_from d.phase (lines_of rest)
      = ap (λ r. hear d.phase r ∷ heard_from (phase_behind d.phase r) (lines_of (rest_of rest))) read ∙ ap (λ l. heard_from d.phase l) (sym (lines_more rest some)) in
      record {
        day = d';
        shown = x.day;
        done = done ++ line;
        took = took_more done line took (subst (λ ps. Took now now' (bytes_of ps)) x.said more);
        bytes =
            ap (λ xs. (done ++ line) ++ bytes_of (printed gifts room f (n + 1) d' xs)) ahead
            ∙ append_assoc done line (bytes_of later)
            ∙ ap (λ o. done ++ o) (sym (bytes_append (said_of gifts room f n d (hear d.phase q)) later))
            ∙ ap (λ xs. done ++ bytes_of (printed gifts room f n d xs)) all
            ∙ so;
        lines =
            ap (λ xs. lent gifts room d' (map (call_of f) (calls_among xs)) ls') ahead
            ∙ x.lines (calls_among coming)
            ∙ ap (λ xs. lent gifts room d (map (call_of f) (calls_among xs)) ls) all
            ∙ held;
      }

-- what the loop knows of a line's turn
module _ {gifts gifts' : Rule} {room room' free n : ℕ} {whole rest : List ℕ} {last : List TapeLine} {start now : SinkState} {b e : Day} {ls ls' : List TapeLine} (a : Result Reply Cause)
    (m : Midway gifts room free whole last start now n b rest ls) (same : gifts' ≡ gifts) (fits : room' ≡ room) (read : Result Record Fault) (is : read ≡ ending_at (next_of rest) (record_in (line_of rest))) (came : Came gifts' room' b read a e ls ls') where
  pub turn : Turned gifts room n m.day (hear m.day.phase (record_in (line_of rest))) a e ls ls'
  turn =
      turned n m.day (next_of rest) (record_in (line_of rest))
      (subst (λ d. Came gifts room d (ending_at (next_of rest) (record_in (line_of rest))) a e ls ls') m.shown
      (subst (λ r. Came gifts room b r a e ls ls') is
      (subst (λ y. Came gifts y b read a e ls ls') fits (subst (λ y. Came y room' b read a e ls ls') same came))))

  pub went_on : (rest' : List ℕ) (now' : SinkState) → length ls ≡ free → 0 < length rest → rest' ≡ rest_of rest
      → Took now now' (bytes_of (shown n a ls' (closes b e) (totals e))) → Midway gifts room free whole last start now' (n + 1) e rest' ls'
  went_on rest' now' long some left more =
      subst (λ f. Midway gifts room f whole last start now' (n + 1) e rest' ls') long
      (on_day rest m.done m.day (record_in (line_of rest)) (ap (λ f. m.done ++ bytes_of (printed gifts room f n m.day (heard_from m.day.phase (lines_of rest)))) long ∙ m.bytes)
      (ap (λ f. lent gifts room m.day (map (call_of f) (calls_among (heard_from m.day.phase (lines_of rest)))) ls) long ∙ m.lines) some refl left
      turn m.took
      (subst (λ d. Took now now' (bytes_of (shown n a ls' (closes d e) (totals e)))) m.shown more))

pub none_left : (text : List ℕ) → true ≡ eqb (length text) 0 → text ≡ []
none_left [] e = refl
none_left (c ∷ cs) e = absurd (grind (arith, nat_tests))
