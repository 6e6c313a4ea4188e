-- The loop that works off the line.
use Rattle.std.proofs.Common.{◌≡◌, ℕ, zero, suc, ◌≤◌, Bool, true, false, ◌⊎◌, List, [], ◌∷◌, length, Some, None, Option, sym, refl, ap, ◌∙◌, subst, inl, inr, ⊎_elim, arith}
use Rattle.std.proofs.lemmas.Bool.{false≢true}
use Rattle.market.specs.declared.words.Stop.{Stop}
use Rattle.market.specs.declared.words.Order.{Order}
use Rattle.market.specs.declared.words.TapeLine.{TapeLine}
use Rattle.replay.specs.Days.{Day, Phase, Rule}
use Rattle.replay.specs.Rolls.{look}
use Rattle.replay.specs.Runs.{run_of, turn_of, turn, turns, busy, work}
use Rattle.replay.specs.StopFile.{file_of}
use Rattle.replay.proofs.Runs.{look_number}
use Rattle.replay.proofs.Turns.{Less, run_less, leave_less, empty}
use Rattle.replay.proofs.Need.{paused_still}
use Rattle.trading.specs.declared.board.Board.{Board}
use Rattle.trading.specs.Waiting.{first_of}
use Rattle.trading.specs.Boards.{waiting_of}
use Rattle.trading.specs.Shows.{Shows, up_next}
use Rattle.trading.proofs.Running.{first_is_lem}

-- a day to which so many turns more make what working off the line was to make
pub record Turning (gifts : Rule) (whole : Day) (f : Phase) (b : Board) (ss : List Stop) (ls : List TapeLine) : Type 0 where
  pub day : Day
  pub shows : Shows f b ls day
  pub file : ss ≡ file_of day.roll
  pub fuel : ℕ
  pub same : turns gifts fuel day ≡ whole
  pub enough : (day.paused ≡ true) ⊎ (busy day ≤ fuel)

pub record Working (gifts : Rule) (b₀ : Board) (ss₀ : List Stop) (ls₀ : List TapeLine) (b : Board) (ss : List Stop) (ls : List TapeLine) : Type 0 where
  pub carry : (f : Phase) (d : Day) → Shows f b₀ ls₀ d → ss₀ ≡ file_of d.roll → Turning gifts (work gifts d) f b ss ls

pub working_none : (gifts : Rule) (b : Board) (ss : List Stop) (ls : List TapeLine) → Working gifts b ss ls b ss ls
unfolding work
working_none gifts b ss ls = record { carry = λ f d s e. record { day = d; shows = s; file = e; fuel = busy d; same = refl; enough = inr (omega arith) } }

up_running : (p : Bool) (ns : List ℕ) (n : ℕ) → Some n ≡ up_next p ns → (p ≡ false) × (first_of ns ≡ Some n)
up_running true ns n e = absurd (let z : ◌≡◌ {A = ℕ} 0 1 = cc in omega arith)
up_running false ns n e = (refl, sym e)

pub up_first : (p : Bool) (ns : List ℕ) (n : ℕ) → Some n ≡ up_next p ns → first_of ns ≡ Some n
up_first p ns n e = (up_running p ns n e).1

pub up_runs : (p : Bool) (ns : List ℕ) (n : ℕ) → Some n ≡ up_next p ns → p ≡ false
up_runs p ns n e = (up_running p ns n e).0

module _ (gifts : Rule) where
  -- a turn with somebody in line
  turn_is : (d : Day) (n : ℕ) (ns : List ℕ) → d.paused ≡ false → d.line ≡ n ∷ ns → turn gifts d ≡ run_of gifts n (look n d.roll) d
  unfolding turn
  turn_is d n ns p e = ap (λ b. turn_of gifts b d.line d) p ∙ ap (λ l. turn_of gifts false l d) e

  less : (d : Day) (n : ℕ) (ns : List ℕ) → d.line ≡ n ∷ ns → Less gifts (busy d) (run_of gifts n (look n d.roll) d)
  less d n ns e = go (look n d.roll) refl
    where
      go : (x : Option Order) → look n d.roll ≡ x → Less gifts (busy d) (run_of gifts n x d)
      go None i = inr (leave_less gifts n ns d e)
      go (Some r) i = run_less gifts r ns d (e ∙ ap (λ m. m ∷ ns) (sym (look_number n d.roll r i)))

  some_busy : (d : Day) (n : ℕ) (ns : List ℕ) → d.line ≡ n ∷ ns → 1 ≤ busy d
  unfolding busy
  some_busy d n ns e = omega (arith, ap length e)

  turning_on : {whole : Day} {f : Phase} {b : Board} {ss : List Stop} {ls : List TapeLine} {b' : Board} {ss' : List Stop} {ls' : List TapeLine} {n : ℕ}
      → Some n ≡ up_next b.paused (waiting_of b)
      → ((f : Phase) (d : Day) → Shows f b ls d → ss ≡ file_of d.roll → Shows f b' ls' (run_of gifts n (look n d.roll) d) × (ss' ≡ file_of (run_of gifts n (look n d.roll) d).roll))
      → Turning gifts whole f b ss ls → Turning gifts whole f b' ss' ls'
  unfolding turns
  turning_on {whole} {f} {b} {ss} {ls} {b'} {ss'} {ls'} {n} up did t =
      let d : Day = t.day in
      let x : (ns : List ℕ) × (d.line ≡ n ∷ ns) = first_is_lem d.line n (ap first_of (sym t.shows.line) ∙ up_first b.paused (waiting_of b) n up) in
      let p : d.paused ≡ false = sym t.shows.paused ∙ up_runs b.paused (waiting_of b) n up in
      let r : Shows f b' ls' (run_of gifts n (look n d.roll) d) × (ss' ≡ file_of (run_of gifts n (look n d.roll) d).roll) = did f d t.shows t.file in
      go t.fuel t.same (⊎_elim (λ e. absurd (false≢true (sym p ∙ e))) (λ h. h) t.enough) d x p r
    where
      go : (k : ℕ) → turns gifts k t.day ≡ whole → busy t.day ≤ k → (d : Day) → (x : (ns : List ℕ) × (t.day.line ≡ n ∷ ns)) → t.day.paused ≡ false
          → Shows f b' ls' (run_of gifts n (look n t.day.roll) t.day) × (ss' ≡ file_of (run_of gifts n (look n t.day.roll) t.day).roll) → Turning gifts whole f b' ss' ls'
      go zero e h d x p r = absurd (let z = some_busy t.day n x.0 x.1 in omega arith)
      go (suc k) e h d x p r = record {
        day = run_of gifts n (look n t.day.roll) t.day;
        shows = r.0;
        file = r.1;
        fuel = k;
        same = ap (turns gifts k) (sym (turn_is t.day n x.0 p x.1)) ∙ e;
        enough = ⊎_elim inl (λ l. inr (omega arith)) (less t.day n x.0 x.1);
      }

  pub working_more : {b₀ : Board} {ss₀ : List Stop} {ls₀ : List TapeLine} {b : Board} {ss : List Stop} {ls : List TapeLine} {b' : Board} {ss' : List Stop} {ls' : List TapeLine} {n : ℕ}
      → Working gifts b₀ ss₀ ls₀ b ss ls → Some n ≡ up_next b.paused (waiting_of b)
      → ((f : Phase) (d : Day) → Shows f b ls d → ss ≡ file_of d.roll → Shows f b' ls' (run_of gifts n (look n d.roll) d) × (ss' ≡ file_of (run_of gifts n (look n d.roll) d).roll))
      → Working gifts b₀ ss₀ ls₀ b' ss' ls'
  working_more w up did = record { carry = λ f d s e. turning_on up did (w.carry f d s e) }

  -- nobody runs next
  still : (p : Bool) (ns : List ℕ) → None ≡ up_next p ns → (p ≡ true) ⊎ (ns ≡ [])
  still true ns e = inl refl
  still false [] e = inr refl
  still false (n ∷ ns) e = absurd (let z : ◌≡◌ {A = ℕ} 0 1 = cc in omega arith)

  pub working_done : {b₀ : Board} {ss₀ : List Stop} {ls₀ : List TapeLine} {b : Board} {ss : List Stop} {ls : List TapeLine} → Working gifts b₀ ss₀ ls₀ b ss ls → None ≡ up_next b.paused (waiting_of b)
      → (f : Phase) (d : Day) → Shows f b₀ ls₀ d → ss₀ ≡ file_of d.roll → Shows f b ls (work gifts d) × (ss ≡ file_of (work gifts d).roll)
  working_done {b₀} {ss₀} {ls₀} {b} {ss} {ls} w up f d s e =
      let t : Turning gifts (work gifts d) f b ss ls = w.carry f d s e in
      let end : t.day ≡ work gifts d = ⊎_elim
      (λ p. sym (paused_still gifts t.fuel t.day (sym t.shows.paused ∙ p)))
      (λ l. sym (empty gifts t.fuel t.day (sym t.shows.line ∙ l)))
      (still b.paused (waiting_of b) up)
      ∙ t.same in
      subst (λ (x : Day). Shows f b ls x × (ss ≡ file_of x.roll)) end (t.shows, t.file)
