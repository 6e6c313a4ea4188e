use Rattle.std.proofs.Common.{rules, ◌≡◌, [], length, map, ap}
use Rattle.replay.specs.Days.{new_day}
use Rattle.playback.specs.Seen.{seen}
use Rattle.playback.specs.Stages.{call_of}
use Rattle.playback.proofs.Placing.{held, holds_none}
use Rattle.worked.proofs.SameNoted.{same_noted}
use Rattle.worked.proofs.replays.replay_both.Goals as goal

pub returns : goal.returns
returns g c =
    let k = c.clear.ensures in
    let k' = c.clear-2.ensures in
    let r = c.replay_both.ensures in
    let room : length c.new-by_arrival.result.slots.now ≡ 512 = search rules in
    let first = held c.args.arrival.now [] _ _ _ (holds_none c.args.arrival.now c.clear.new.self k.lent.0 k.lent.1 k.lent.2 k.none.0 k.none.1 k.none.2 k.same) r.first in
    let second = held c.args.price.now [] _ _ _ (holds_none c.args.price.now c.clear-2.new.self k'.lent.0 k'.lent.1 k'.lent.2 k'.none.0 k'.none.1 k'.none.2 k'.same) r.second in
    record {
      alike = λ s. same_noted {p = c.replay_both.new.first} {p' = c.replay_both.new.second} s (ap (λ n. seen (g.R.ShareOut.gifts c.args.rule) n new_day (map (call_of 2049) c.args.calls.now)) room) first second;
      same = (first.lent, second.lent);
    }
