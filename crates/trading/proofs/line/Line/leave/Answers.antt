use Rattle.std.proofs.Common.{◌+◌, drop, Some, sym, refl, ap, ◌∙◌}
use Rattle.std.proofs.lemmas.List.{drop-drop}
use Rattle.trading.specs.Waiting.{line_of}
use Rattle.trading.proofs.Queue.{nobody_out, somebody_out, drop_removed}
use Rattle.trading.proofs.line.Line.leave.Goals as goal

pub returns-in-None-clause-line : goal.returns-in-None-clause-line
returns-in-None-clause-line c = nobody_out c.args.number (line_of c.args.self.now) (sym c.in-None.is ∙ c.place_of.ensures.place)

pub returns-in-Some-eq0-clause-line : goal.returns-in-Some-eq0-clause-line
returns-in-Some-eq0-clause-line c =
    let l = c.args.self.now in
    sym (drop-drop 1 l.gone l.numbers.items)
    ∙ somebody_out c.args.number 0 (line_of l) (ap Some (sym c.in-Some-eq0.field-0-test) ∙ sym c.in-Some-eq0.is ∙ c.place_of.ensures.place) c.requires

pub returns-in-Some-clause-line : goal.returns-in-Some-clause-line
returns-in-Some-clause-line c =
    let l = c.args.self.now in
    ap (drop l.gone) c.remove.ensures.items ∙ drop_removed l.gone c.in-Some.place (l.gone + c.in-Some.place) l.numbers.items refl
    ∙ somebody_out c.args.number c.in-Some.place (line_of l) (sym c.in-Some.is ∙ c.place_of.ensures.place) c.requires
