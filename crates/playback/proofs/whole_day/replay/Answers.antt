use Rattle.std.proofs.Common.{rules, ◌≡◌, ◌∷◌, ◌++◌, ◌<◌, ◌-◌, ◌+◌, [], length, get_or, take, map, sym, refl, ap, ◌∙◌, subst, arith}
use Rattle.std.proofs.lemmas.List.{take_more, map-append, take_all}
use Rattle.replay.specs.Days.{new_day}
use Rattle.replay.specs.Calls.{after_calls}
use Rattle.playback.specs.declared.call.Call.TheVariants.{Set}
use Rattle.playback.specs.Lent.{over, lent}
use Rattle.playback.specs.Reached.{Reached, Went}
use Rattle.playback.specs.ReachedDays.{day_at}
use Rattle.playback.specs.Replies.{answer_of, lines_of}
use Rattle.playback.specs.Seen.{Follows, seen}
use Rattle.playback.specs.Stages.{call_of}
use Rattle.playback.proofs.Lawful.{list_laws}
use Rattle.playback.proofs.OneMore.{written, fits}
use Rattle.playback.proofs.Noted.{follows_more, seen_more, lent_more, telling, view_at, went_by, whole_tape, adds_up}
use Rattle.playback.proofs.whole_day.replay.Goals as goal

pub loop-call-init : goal.loop-call-init
unfolding new_day lent seen after_calls
loop-call-init g c =
    let b = c.begin-day.ensures in
    record { long = refl; rule = b.keeps.1; room = b.keeps.0; reached = b.day; told = refl; lines = refl }

pub slice_bounds-note-end : goal.slice_bounds-note-end
slice_bounds-note-end g c =
    let v = c.loop-call.invariant in
    let x = get_or c.args.calls.now c.loop-call.call-index (Set 0 0 0) in
    let w = went_by x _ (ap g.R.ShareOut.gifts v.rule) v.room v.long c.put-reply.ensures.went v.reached in
    let count : c.map_or-used.result ≡ lines_of c.put-reply.result = search rules in
    omega (arith, count, fits c.put-reply.result w)

pub loop-call-preserved : goal.loop-call-preserved
loop-call-preserved g c =
    let v = c.loop-call.invariant in
    let xs = c.args.calls.now in
    let i = c.loop-call.call-index in
    let n = length c.args.lines.now in
    let lt : i < length xs = omega arith in
    let x = get_or xs i (Set 0 0 0) in
    let gifts = g.R.ShareOut.gifts c.args.rule in
    let room = g.F.StopFile.room c.args.file in
    let cs = map (call_of n) (take i xs) in
    let day = c.put-reply.new.self in
    let w : Went gifts room cs (call_of n x) (answer_of c.put-reply.result) (day_at day) c.loop-call.lines c.put-reply.new.lines = went_by x cs (ap g.R.ShareOut.gifts v.rule) v.room v.long c.put-reply.ensures.went v.reached in
    let more : map (call_of n) (take (i + 1) xs) ≡ cs ++ call_of n x ∷ [] = ap (map (call_of n)) (take_more xs i (Set 0 0 0) lt) ∙ map-append (call_of n) (take i xs) (x ∷ []) in
    let used : c.map_or-used.result ≡ lines_of c.put-reply.result = search rules in
    let count : c.map_or-used.result - 0 ≡ lines_of c.put-reply.result = omega (arith, used) in
    let view = view_at day.stage c.of.ensures c.board.ensures.board in
    let tells = subst (λ s. g.N.Notes.notes c.loop-call.notes s c.note.new.self) (sym (telling c.put-reply.result w c.of.result _ count view)) c.note.ensures in
    record {
      long = c.put-reply.auto.lines ∙ v.long;
      rule = c.put-reply.ensures.keeps.1 ∙ v.rule;
      room = c.put-reply.ensures.keeps.0 ∙ v.room;
      reached = subst (λ y. Reached gifts room y (day_at day)) (sym more) w.reached;
      told =
          subst (λ l. Follows g.N.Notes.notes c.args.notes.now l c.note.new.self) (sym (ap (seen gifts room new_day) more ∙ seen_more gifts room new_day cs (call_of n x)))
          (follows_more g.N.Notes.notes c.args.notes.now (seen gifts room new_day cs) v.told tells);
      lines = w.lines ∙ ap (over (written gifts room cs (call_of n x))) v.lines ∙ sym (ap (λ y. lent gifts room new_day y c.args.lines.now) more ∙ lent_more gifts room cs (call_of n x) c.args.lines.now);
    }

pub returns-clause-sums : goal.returns-clause-sums
returns-clause-sums g c =
    let v = c.loop-call.invariant in
    let all = ap (map (call_of (length c.args.lines.now))) (take_all c.loop-call.call-index c.args.calls.now (omega arith)) in
    adds_up (g.R.ShareOut.lawful c.args.rule) _ _ (subst (λ y. Reached (g.R.ShareOut.gifts c.args.rule) (g.F.StopFile.room c.args.file) y (day_at c.loop-call.day)) all v.reached)

pub returns-clause-laws : goal.returns-clause-laws
returns-clause-laws g c = list_laws _ (g.R.ShareOut.lawful c.args.rule) _ _

pub returns-clause-tape : goal.returns-clause-tape
returns-clause-tape g c = sym (whole_tape _ _ _)
