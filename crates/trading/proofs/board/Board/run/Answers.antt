use Rattle.std.proofs.Common.{◌≡◌, ◌<◌, true, ◌⊎◌, length, Some, sym, ap, ◌∙◌, subst, inl, inr, ⊎_elim, arith}
use Rattle.market.specs.declared.words.Order.{Order}
use Rattle.replay.specs.Days.{Day, Trading}
use Rattle.replay.specs.Rolls.{look}
use Rattle.replay.specs.Runs.{settle, elect_at, centre_if, run_of}
use Rattle.replay.specs.StopFile.{file_of}
use Rattle.replay.proofs.Runs.{look_number}
use Rattle.trading.specs.Boards.{orders_of, waiting_of}
use Rattle.trading.specs.Ruling.{Waits}
use Rattle.trading.specs.Tapes.{written}
use Rattle.trading.specs.Shows.{Shows, Printed, printed}
use Rattle.trading.proofs.Tape.{grew_more}
use Rattle.trading.proofs.Running.{waits_of, runs, settled_file, settled_out, centre_file, centre_line, centre_paused, run_is, day_with, shown}
use Rattle.trading.proofs.board.Board.run.Goals as goal

pub prints-prints-requires-clause-runner : goal.prints-prints-requires-clause-runner
prints-prints-requires-clause-runner g c =
    let b = c.args.self.now in
    runs (orders_of b) c.args.number c.unwrap-order.result (waits_of b.ruled c.requires.first) (sym c.get.ensures ∙ c.unwrap-order.ensures)

pub returns : goal.returns
returns g c =
    let b = c.args.self.now in
    let gifts = g.R.ShareOut.gifts c.args.rule.now in
    let n = c.args.number in
    let r : Order = c.unwrap-order.result in
    let ls = written c.args.tape.now in
    let found : look n (orders_of b) ≡ Some r = sym c.get.ensures ∙ c.unwrap-order.ensures in
    let number : r.number ≡ n = look_number n (orders_of b) r found in
    let waits : Waits (orders_of b) n = waits_of b.ruled c.requires.first in
    let pr = c.prints-prints in
    let st = c.settle in
    let e₁ = c.elect_at in
    let e₂ = c.elect_at-2 in
    let ce = c.centre_first in
    -- the day that the board shows by itself, for what holds of line and pause
    let d₀ : Day = day_with Trading b ls in
    let s₂ : Shows Trading st.new.self (written st.new.tape) (settle r (printed gifts r d₀)) = st.ensures.day Trading (printed gifts r d₀) (pr.ensures.day Trading d₀ (shown Trading b ls)).shows in
    let ls₅ = written e₂.new.tape in
    let d₄ : Day = day_with Trading e₂.new.self ls₅ in
    let s₅ : Shows Trading ce.new.self ls₅ (centre_if b.range pr.result.first d₄) = ce.ensures ls₅ Trading d₄ (shown Trading e₂.new.self ls₅) in
    let line₅ : waiting_of ce.new.self ≡ waiting_of e₂.new.self = s₅.line ∙ centre_line b.range pr.result.first d₄ in
    let paused₅ : ce.new.self.paused ≡ st.new.self.paused = s₅.paused ∙ centre_paused b.range pr.result.first d₄ ∙ e₂.ensures.beside.paused ∙ e₁.ensures.beside.paused in
    let out : (st.new.self.paused ≡ true) ⊎ (length (waiting_of st.new.self) < length (waiting_of b)) =
    ⊎_elim (λ p. inl (s₂.paused ∙ p)) (λ h. inr (omega (arith, h, ap length s₂.line))) (settled_out gifts r n d₀ number c.requires.first) in
    record {
      bound = ⊎_elim (λ p. inl (paused₅ ∙ p)) (λ h. inr (omega (arith, h, ap length line₅, pr.ensures.used, st.ensures.used, e₁.ensures.bound, e₂.ensures.bound))) out;
      less = ⊎_elim (λ p. inl (paused₅ ∙ p)) (λ h. inr (omega (arith, h, ap length line₅, e₁.ensures.few, e₂.ensures.few))) out;
      keeps = e₂.ensures.keeps ∙ e₁.ensures.keeps;
      day = λ f d s fl.
          let p : Printed gifts r f pr.result.first pr.result.second pr.new.self (written pr.new.tape) d = pr.ensures.day f d s in
          let w : Waits d.roll r.number = subst (λ os. Waits os r.number) s.roll (subst (Waits (orders_of b)) (sym number) waits) in
          let t₂ = st.ensures.day f (printed gifts r d) p.shows in
          let t₃ = e₁.ensures.day f (settle r (printed gifts r d)) t₂ (fl ∙ sym (settled_file gifts r d w)) in
          let t₄ = e₂.ensures.day f (elect_at pr.result.first (settle r (printed gifts r d))) t₃.0 t₃.1 in
          let d₅ : Day = elect_at pr.result.second (elect_at pr.result.first (settle r (printed gifts r d))) in
          let t₅ = ce.ensures ls₅ f d₅ t₄.0 in
          let is : centre_if b.range pr.result.first d₅ ≡ run_of gifts n (look n d.roll) d =
          run_is gifts r d s.range p.first p.second ∙ ap (λ x. run_of gifts n x d) (sym (ap (look n) (sym s.roll) ∙ found)) in
          subst (λ (x : Day). Shows f ce.new.self ls₅ x × (g.F.StopFile.stops e₂.new.file ≡ file_of x.roll)) is (t₅, t₄.1 ∙ sym (centre_file b.range pr.result.first d₅));
      grew = grew_more pr.ensures.grew (grew_more st.ensures.grew (grew_more e₁.ensures.grew e₂.ensures.grew));
    }
