use Rattle.text.proofs.Marks.{found_front, found_past, whole_front, end_past}
use Rattle.text.proofs.cut.split_at_mark.Goals as goal

pub returns-in-Some-clause-front : goal.returns-in-Some-clause-front
returns-in-Some-clause-front c = found_front c.args.mark c.args.text.now c.in-Some.n c.in-Some.ensures

pub returns-in-Some-clause-behind : goal.returns-in-Some-clause-behind
returns-in-Some-clause-behind c = found_past c.args.mark c.args.text.now c.in-Some.n c.in-Some.ensures

pub returns-in-None-clause-front : goal.returns-in-None-clause-front
returns-in-None-clause-front c = whole_front c.args.mark c.args.text.now c.in-None.ensures

pub returns-in-None-clause-behind : goal.returns-in-None-clause-behind
returns-in-None-clause-behind c = end_past c.args.mark c.args.text.now c.in-None.ensures
