use Rattle.std.proofs.Common.{◌≡◌, false, ◌⊎◌, [], sym, rules, ap, ◌∙◌, subst, inl, inr, ⊎_elim}
use Rattle.market.specs.declared.words.Kind.TheVariants.{ImmediateOrCancel}
use Rattle.orderbook.specs.Trades.{next}
use Rattle.replay.specs.Days.{Day}
use Rattle.replay.specs.RollHolds.{Numbered}
use Rattle.replay.specs.Moves.{admit}
use Rattle.replay.specs.Runs.{join}
use Rattle.replay.specs.StopFile.{file_of}
use Rattle.trading.specs.Tapes.{written}
use Rattle.trading.specs.Shows.{Shows}
use Rattle.trading.proofs.Comparing.{same_kind, other_kind}
use Rattle.trading.proofs.Taking.{numbered_of}
use Rattle.trading.proofs.Tape.{with_lines}
use Rattle.trading.proofs.Joining.{start_of, join_away, join_works, away_file}
use Rattle.trading.proofs.board.Board.enter.Goals as goal
use Rattle.trading.proofs.board.Board.enter.Goals.{else-self-via-then-self+else-eq, else-self-via-else-self}

pub returns-then-eq-clause-day : goal.returns-then-eq-clause-day
returns-then-eq-clause-day g c =
    let b = c.args.self.now in
    let t = c.args.ticket in
    let gifts = g.R.ShareOut.gifts c.args.rule.now in
    let a = c.turn_away-number in
    let away : t.kind ≡ ImmediateOrCancel = same_kind t.kind ImmediateOrCancel c.if-eq.ensures in
    λ f d s fl.
    let u : Shows f a.new.self (written a.new.tape) (join gifts (next t d.roll) d) × (g.F.StopFile.stops c.args.file.now ≡ file_of (join gifts (next t d.roll) d).roll) =
    subst (λ (x : Day). Shows f a.new.self (written a.new.tape) x × (g.F.StopFile.stops c.args.file.now ≡ file_of x.roll)) (join_away gifts t d (sym s.paused ∙ c.if-self.true) away)
    (a.ensures.day f d (with_lines s c.new-tape.ensures.written), fl ∙ away_file t d (subst (Numbered 1) s.roll (numbered_of b.ruled)) away) in
    (with_lines u.0 (search rules), u.1)

pub returns-clause-day : goal.returns-clause-day
returns-clause-day g c =
    let b = c.args.self.now in
    let t = c.args.ticket in
    let gifts = g.R.ShareOut.gifts c.args.rule.now in
    let a = c.admit-number in
    let w = c.work in
    let ways : (b.paused ≡ false) ⊎ (t.kind ≡ ImmediateOrCancel → ⊥) = elim c.else-self.branch [
      | else-self-via-then-self+else-eq v ↦ inr (other_kind t.kind ImmediateOrCancel v.if-eq.ensures)
      | else-self-via-else-self v ↦ inl v.if-self.false
    ] in
    λ f d s fl.
    let o = next t d.roll in
    let place : c.start_place-place.result ≡ start_of t d.roll = c.start_place-place.ensures ∙ ap (start_of t) s.roll in
    let s₁ : Shows f a.new.self [] (admit o (start_of t d.roll) d) = subst (λ p. Shows f a.new.self [] (admit o p d)) place (a.ensures.day [] f d s) in
    let u = subst (λ (x : Day). Shows f w.new.self (written w.new.tape) x × (g.F.StopFile.stops w.new.file ≡ file_of x.roll)) (join_works gifts t d (⊎_elim (λ e. inl (sym s.paused ∙ e)) inr ways))
    (w.ensures.day f (admit o (start_of t d.roll) d) (with_lines s₁ c.new-tape.ensures.written) fl) in
    (with_lines u.0 (search rules), u.1)
