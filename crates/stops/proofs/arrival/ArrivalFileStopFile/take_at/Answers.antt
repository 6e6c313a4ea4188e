use Rattle.std.proofs.Common.{◌≡◌, Some, None, sym, ◌∙◌, rules}
use Rattle.std.specs.List.{position}
use Rattle.stops.specs.Rising.{lowest_first}
use Rattle.stops.specs.Slots.{filled}
use Rattle.stops.specs.Stops.{elects}
use Rattle.stops.proofs.Firsts.{placed, unplaced, untaken}
use Rattle.stops.proofs.arrival.ArrivalFileStopFile.take_at.Goals as goal

pub returns-in_err-at : goal.returns-in_err-at
returns-in_err-at c =
    let t = elects c.args.price in
    let xs = filled c.args.self.now.held c.args.self.now.slots.now in
    let at : None ≡ position (elects c.args.price) xs = search rules in
    let none = unplaced t xs at in
    record { value = c.from_residual.ensures ∙ sym none; lowest = λ up. c.from_residual.ensures ∙ sym (lowest_first t xs up ∙ none); listed = sym (untaken t xs none).same; keeps = search rules }

pub returns : goal.returns
returns c =
    let t = elects c.args.price in
    let xs = filled c.args.self.now.held c.args.self.now.slots.now in
    let at : Some c.in_ok-at.at ≡ position (elects c.args.price) xs = search rules in
    let p = placed t xs c.in_ok-at.at at in
    let value = c.pull.ensures.value ∙ p.0 in
    record { value = value; lowest = λ up. value ∙ sym (lowest_first t xs up); listed = c.pull.ensures.listed ∙ p.1; keeps = search rules }
