-- The loop that takes elected stops as long as there are any.
use Rattle.std.proofs.Common.{◌≡◌, ℕ, suc, ◌+◌, ◌≤◌, Bool, true, false, cond, List, [], ◌∷◌, ◌++◌, length, Some, None, sym, ap, ◌∙◌, subst, arith}
use Rattle.std.proofs.lemmas.Bool.{false≢true}
use Rattle.market.specs.declared.words.Place.TheVariants.{Line}
use Rattle.market.specs.declared.words.Stop.{Stop}
use Rattle.market.specs.declared.words.Order.{Order}
use Rattle.market.specs.declared.words.TapeLine.{TapeLine}
use Rattle.market.specs.declared.words.TapeLine.TheVariants.{Elect}
use Rattle.market.specs.Orders.{put}
use Rattle.stops.specs.Stops.{elects, first_by, without_by}
use Rattle.replay.specs.Days.{Day, Phase}
use Rattle.replay.specs.Rolls.{look, alter}
use Rattle.replay.specs.RollHolds.{Numbered}
use Rattle.replay.specs.Moves.{elect}
use Rattle.replay.specs.StopFile.{file_of}
use Rattle.replay.proofs.Lists.{length_push}
use Rattle.trading.specs.declared.board.Board.{Board}
use Rattle.trading.specs.Ruling.{Ruled}
use Rattle.trading.specs.Boards.{orders_of, waiting_of}
use Rattle.trading.specs.Shows.{Shows, Beside, filed_of, may_print}
use Rattle.trading.proofs.Ruled.{ruled}
use Rattle.trading.proofs.Electing.{Called, one_called, none_called, elect_one, elect_more, elect_none, one_fewer}

-- the orders of a board are numbered in turn
pub numbered_of : {os : List Order} {l : List ℕ} {j : ℕ} → ∥ Ruled os l j ∥₁ → Numbered 1 os
numbered_of x = (ruled x).numbered

-- what is left to elect, from a board, a file and lines as they were, to those now
pub record Electing (p : ℕ) (b₀ : Board) (ss₀ : List Stop) (ls₀ : List TapeLine) (b : Board) (ss : List Stop) (ls : List TapeLine) : Type 0 where
  pub carry : (f : Phase) (d : Day) → Shows f b₀ ls₀ d → ss₀ ≡ file_of d.roll → (e : Day) × Shows f b ls e × (ss ≡ file_of e.roll) × (elect p e ≡ elect p d)
  pub beside : Beside b₀ b

-- lines and stops
pub record Spent (used₀ : ℕ) (b₀ : Board) (ss₀ : List Stop) (used : ℕ) (b : Board) (ss : List Stop) : Type 0 where
  pub high : used + length ss ≤ used₀ + length ss₀
  pub bound : used + may_print b ss ≤ used₀ + may_print b₀ ss₀
  pub few : length (waiting_of b) + length ss ≤ length (waiting_of b₀) + length ss₀

beside_trans : {a b c : Board} → Beside a b → Beside b c → Beside a c
beside_trans x y = record { paused = y.paused ∙ x.paused; range = y.range ∙ x.range; last = y.last ∙ x.last; class = y.class ∙ x.class; column = y.column ∙ x.column }

module _ {p : ℕ} {b₀ : Board} {ss₀ : List Stop} {ls₀ : List TapeLine} {b : Board} {ss : List Stop} {ls : List TapeLine} (inv : Electing p b₀ ss₀ ls₀ b ss ls)
    {s : Stop} {b' : Board} {ss' : List Stop} {r : Bool} (num : Numbered 1 (orders_of b)) (was : Some s ≡ first_by (elects p) ss) (is : ss' ≡ without_by (elects p) ss)
    (answer : r ≡ filed_of (look s.number (orders_of b)))
    (roll : orders_of b' ≡ cond r (alter s.number (put Line) (orders_of b)) (orders_of b)) (line : waiting_of b' ≡ cond r (waiting_of b ++ s.number ∷ []) (waiting_of b)) (beside : Beside b b') where
  -- the stop taken is one of the roll
  one : (f : Phase) (e : Day) → Shows f b ls e → ss ≡ file_of e.roll → Called p s.number e.roll
  one f e sh fl = one_called p 1 e.roll s (subst (Numbered 1) sh.roll num) (ap (first_by (elects p)) (sym fl) ∙ sym was)

  is_filed_lem : (f : Phase) (e : Day) → Shows f b ls e → ss ≡ file_of e.roll → r ≡ true
  is_filed_lem f e sh fl = answer ∙ ap (λ os. filed_of (look s.number os)) sh.roll ∙ (one f e sh fl).filed

  pub electing_more : {ls' : List TapeLine} → r ≡ true → ls' ≡ ls ++ (Elect s.number ∷ []) → Electing p b₀ ss₀ ls₀ b' ss' ls'
  electing_more {ls'} t w = record {
    carry = λ f d sh fl.
        let i : (e : Day) × Shows f b ls e × (ss ≡ file_of e.roll) × (elect p e ≡ elect p d) = inv.carry f d sh fl in
        let e : Day = i.0 in
        let k : Called p s.number e.roll = one f e i.1 i.2 in
        let now : orders_of b' ≡ alter s.number (put Line) e.roll = roll ∙ ap (λ c. cond c (alter s.number (put Line) (orders_of b)) (orders_of b)) t ∙ ap (alter s.number (put Line)) i.1.roll in (
          elect_one p s.number e,
          record {
            roll = now;
            line = line ∙ ap (λ c. cond c (waiting_of b ++ s.number ∷ []) (waiting_of b)) t ∙ ap (λ l. l ++ s.number ∷ []) i.1.line;
            paused = beside.paused ∙ i.1.paused;
            range = beside.range ∙ i.1.range;
            last = beside.last ∙ i.1.last;
            class = beside.class ∙ i.1.class;
            column = beside.column ∙ i.1.column;
            phase = i.1.phase;
            tape = w ∙ ap (λ l. l ++ (Elect s.number ∷ [])) i.1.tape;
          },
          is ∙ ap (without_by (elects p)) i.2 ∙ k.file,
          elect_more p s.number e k ∙ i.3,
        );
    beside = beside_trans inv.beside beside;
  }

  -- a number that is no filed stop of the roll: then the file was not the roll's
  pub electing_past : r ≡ false → Electing p b₀ ss₀ ls₀ b' ss' ls
  electing_past t = record {
    carry = λ f d sh fl. let i : (e : Day) × Shows f b ls e × (ss ≡ file_of e.roll) × (elect p e ≡ elect p d) = inv.carry f d sh fl in absurd (false≢true (sym t ∙ is_filed_lem f i.0 i.1 i.2));
    beside = beside_trans inv.beside beside;
  }

  fewer : length ss' + 1 ≡ length ss
  fewer = ap (λ l. length l + 1) is ∙ one_fewer (elects p) ss s (sym was)

  pub spent_more : {used₀ used : ℕ} → r ≡ true → Spent used₀ b₀ ss₀ used b ss → Spent used₀ b₀ ss₀ (used + 1) b' ss'
  spent_more {used₀} {used} t x =
      let l : length (waiting_of b') ≡ length (waiting_of b ++ s.number ∷ []) = ap length (line ∙ ap (λ c. cond c (waiting_of b ++ s.number ∷ []) (waiting_of b)) t) in
      let m : length (waiting_of b ++ s.number ∷ []) ≡ suc (length (waiting_of b)) = length_push (waiting_of b) s.number in
      record { high = omega (arith, x.high, fewer); bound = omega (arith, x.bound, fewer, l, m); few = omega (arith, x.few, fewer, l, m) }

  pub spent_past : {used₀ used : ℕ} → r ≡ false → Spent used₀ b₀ ss₀ used b ss → Spent used₀ b₀ ss₀ used b' ss'
  spent_past {used₀} {used} t x =
      let l : length (waiting_of b') ≡ length (waiting_of b) = ap length (line ∙ ap (λ c. cond c (waiting_of b ++ s.number ∷ []) (waiting_of b)) t) in
      record { high = omega (arith, x.high, fewer); bound = omega (arith, x.bound, fewer, l); few = omega (arith, x.few, fewer, l) }

-- nothing is elected any more
pub electing_done : {p : ℕ} {b₀ : Board} {ss₀ : List Stop} {ls₀ : List TapeLine} {b : Board} {ss : List Stop} {ls : List TapeLine} {ss' : List Stop} → Electing p b₀ ss₀ ls₀ b ss ls → None ≡ first_by (elects p) ss → ss' ≡ ss
    → (f : Phase) (d : Day) → Shows f b₀ ls₀ d → ss₀ ≡ file_of d.roll → Shows f b ls (elect p d) × (ss' ≡ file_of (elect p d).roll)
electing_done {p} {b₀} {ss₀} {ls₀} {b} {ss} {ls} {ss'} inv was same f d sh fl =
    let i : (e : Day) × Shows f b ls e × (ss ≡ file_of e.roll) × (elect p e ≡ elect p d) = inv.carry f d sh fl in
    let e : Day = i.0 in
    let end : e ≡ elect p d = sym (elect_none p e (none_called p e.roll (ap (first_by (elects p)) (sym i.2) ∙ sym was))) ∙ i.3 in
    subst (λ (x : Day). Shows f b ls x × (ss' ≡ file_of x.roll)) end (i.1, same ∙ i.2)
