use Rattle.std.proofs.Common.{◌≡◌, ap}
use Rattle.replay.specs.StopFile.{file_of}
use Rattle.playback.specs.declared.stage.Stage.{Stage}
use Rattle.playback.specs.declared.stage.Stage.TheVariants.{Load, Trade, Shut}
use Rattle.playback.specs.Stages.{day_in, file_in, rule_in}
use Rattle.playback.proofs.Boards.{stage_bare}
use Rattle.playback.proofs.Refusing.{unaltered}
use Rattle.playback.proofs.OneMore.{reached_more, went, adds_reached, fits_reached}
use Rattle.playback.proofs.reached.ReachedDay.put.Goals as goal

pub invariant_of-self : goal.invariant_of-self
invariant_of-self g c =
    let old = c.args.self.now in
    let keeps = c.put.ensures.keeps in
    record { reached = reached_more (ap g.R.ShareOut.gifts keeps.1) keeps.0 old.reached (λ cs r. went c.put.ensures.did cs r (g.R.ShareOut.lawful (rule_in old.stage))) }

pub returns-clause-went : goal.returns-clause-went
returns-clause-went g c = λ cs r. went c.put.ensures.did cs r (g.R.ShareOut.lawful (rule_in c.args.self.now.stage))

pub returns-clause-sums : goal.returns-clause-sums
returns-clause-sums g c = adds_reached (g.R.ShareOut.lawful (rule_in c.args.self.now.stage)) c.put.result c.put.ensures.did c.args.self.now.reached

pub returns-clause-within : goal.returns-clause-within
returns-clause-within g c = fits_reached (g.R.ShareOut.lawful (rule_in c.args.self.now.stage)) c.put.result c.put.ensures.did c.args.self.now.reached

pub returns-clause-refused : goal.returns-clause-refused
returns-clause-refused g c =
    let st = c.args.self.now.stage in
    let filed : g.F.StopFile.stops (file_in st) ≡ file_of (day_in st).roll =
    elim st as (λ (x : Stage g.row.R.Denot g.row.F.Denot g.F.StopFile). g.F.StopFile.stops (file_in x) ≡ file_of (day_in x).roll) [ Load d ↦ d.filed | Trade d ↦ d.filed | Shut d ↦ d.filed ] in
    unaltered c.put.result (stage_bare st) filed c.put.ensures.did
