use Rattle.std.proofs.Common.{rules, arith, tests}
use Rattle.std.proofs.lemmas.Iterator.{YieldsList-from_slice}
use Rattle.std.proofs.lemmas.Iterator.Search.{all_from_yields_List}
use Rattle.std.proofs.lemmas.Bool.Decides.{nat_tests}
use Rattle.sharing.specs.Shares.{whole_lots, most_shares}
use Rattle.sharing.proofs.rule.is_lawful_row.Goals as goal

pub returns-then-contains : goal.returns-then-contains
returns-then-contains c =
    let all = all_from_yields_List (whole_lots most_shares) _ _ c.all.result c.all.ensures.ran (YieldsList-from_slice c.args.row.now cc) (λ x b q k. search (rules, tests)) in
    grind (arith, nat_tests)
