use Rattle.std.proofs.Common.{map, length, sym, subst, ap, ◌∙◌}
use Rattle.replay.specs.Days.{new_day}
use Rattle.replay.specs.Calls.{after_calls}
use Rattle.replay.specs.StopsUnseen.{Unelected}
use Rattle.replay.specs.History.{bare}
use Rattle.std.specs.List.{AllZip}
use Rattle.playback.specs.Alike.{Alike}
use Rattle.playback.specs.Laws.{ListLaws}
use Rattle.playback.specs.Lent.{lent}
use Rattle.playback.specs.Seen.{seen, Follows}
use Rattle.playback.specs.Stages.{call_of}
use Rattle.playback.proofs.Noted.{seen_alike}
use Rattle.playback.proofs.two_days.replay_both.Goals as goal

pub returns : goal.returns
returns g c =
    let gifts = g.R.ShareOut.gifts c.args.rule in
    let n = length c.args.lines.now in
    let capacity = g.F.StopFile.room c.args.file in
    let other = g.G.StopFile.room c.args.other in
    let xs = map (call_of n) c.args.calls.now in
    let ys = map (call_of n) c.args.others.now in
    let p = c.replay-day.ensures in
    let q = c.replay-other_day.ensures in
    let l = c.replay-day.auto.lines in
    record {
      first = p.told;
      second = subst (λ k. Follows g.M.Notes.notes c.args.second.now (seen gifts other new_day (map (call_of k) c.args.others.now)) c.replay-other_day.new.notes) l q.told;
      unseen =
          λ D same pairs u v.
          let all = seen_alike gifts D capacity new_day new_day xs ys (p.laws.invisible D ys pairs u (subst (λ r. Unelected D (after_calls gifts r new_day ys)) (sym same) v)) in
          subst (λ r. AllZip (Alike D) (seen gifts capacity new_day xs) (seen gifts r new_day ys)) same all;
      days = (p.day, q.day ∙ ap (λ k. bare (after_calls gifts other new_day (map (call_of k) c.args.others.now))) l);
      lines = q.lines ∙ (λ i. lent gifts other new_day (map (call_of (l i)) c.args.others.now) (p.lines i));
      laws = (p.laws, subst (λ k. ListLaws gifts other (map (call_of k) c.args.others.now)) l q.laws);
      keeps = (p.keeps.0, q.keeps.0, p.keeps.1, q.keeps.1);
    }
