use Rattle.std.proofs.Common.{◌≡◌, Some, None, sym, ap, ◌∙◌, rules}
use Rattle.std.specs.List.{position}
use Rattle.stops.specs.Slots.{filled}
use Rattle.stops.specs.Stops.{numbered, shares_in}
use Rattle.stops.proofs.Firsts.{placed, unplaced, untaken}
use Rattle.stops.proofs.arrival.ArrivalFileStopFile.remove.Goals as goal

pub returns-in_err-at : goal.returns-in_err-at
returns-in_err-at c =
    let xs = filled c.args.self.now.held c.args.self.now.slots.now in
    let at : None ≡ position (numbered c.args.number) xs = search rules in
    let none = unplaced (numbered c.args.number) xs at in
    record { value = c.from_residual.ensures ∙ sym (ap shares_in none); listed = sym (untaken (numbered c.args.number) xs none).same; keeps = search rules }

pub returns : goal.returns
returns c =
    let xs = filled c.args.self.now.held c.args.self.now.slots.now in
    let at : Some c.in_ok-at.at ≡ position (numbered c.args.number) xs = search rules in
    let p = placed (numbered c.args.number) xs c.in_ok-at.at at in
    let shares : c.map.result ≡ shares_in c.pull.result = search rules in
    record { value = shares ∙ ap shares_in (c.pull.ensures.value ∙ p.0); listed = c.pull.ensures.listed ∙ p.1; keeps = search rules }
