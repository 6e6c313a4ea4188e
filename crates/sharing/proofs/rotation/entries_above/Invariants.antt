use Rattle.std.proofs.Common.{◌≡◌, ◌+◌, ◌≤◌, min, drop}
use Rattle.sharing.specs.Shares.{most_shares}
use Rattle.sharing.specs.Levels.{above, least_above}
use Rattle.sharing.proofs.rotation.entries_above.Given as goal

abbrev pub invariant-loop-entry : goal.invariant-loop-entry
invariant-loop-entry l =
    record {
      count : l.count + above l.level (drop l.entry-index l.row) ≡ above l.level l.row;
      few : l.count ≤ l.entry-index;
      least : min l.least (least_above l.level (drop l.entry-index l.row)) ≡ least_above l.level l.row;
      lawful : l.least ≤ most_shares;
    }
