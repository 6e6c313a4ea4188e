use Rattle.std.proofs.Common.{rules}
use Rattle.market.proofs.Filing.{inserted, in_file}
use Rattle.market.proofs.file.insert_in_order.Goals as goal

pub returns-clause-file : goal.returns-clause-file
returns-clause-file g c = inserted g.T.Ranked.before c.args.newcomer c.args.file.now.items c.try_insert.new.self.items c.place_of-at.result (search rules) (search rules)

pub returns-clause-lawful : goal.returns-clause-lawful
returns-clause-lawful g c =
    in_file g.T.Ranked.before g.T.Ranked.strict c.args.newcomer c.args.file.now.items c.try_insert.new.self.items
    (inserted g.T.Ranked.before c.args.newcomer c.args.file.now.items c.try_insert.new.self.items c.place_of-at.result (search rules) (search rules))
