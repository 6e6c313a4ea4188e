use Rattle.std.proofs.Common.{◌≡◌, true}
use Rattle.stopfiles.proofs.drive.drive.Given as goal

abbrev pub invariant-loop : goal.invariant-loop
invariant-loop g l =
    let F = g.F.StopFile in
    let G = g.G.StopFile in
    F.stops l.initial.first ≡ G.stops l.initial.second → F.room l.initial.first ≡ G.room l.initial.second → (F.stops l.first ≡ G.stops l.second) × (F.room l.first ≡ G.room l.second) × (l.tally.same ≡ true)
