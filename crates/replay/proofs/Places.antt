-- The roll holds 512 orders, numbered in turn.
use Rattle.std.proofs.Common.{◌≡◌, ℕ, suc, ◌<◌, Bool, true, false, List, [], ◌∷◌, length, Some, refl, arith}
use Rattle.std.specs.List.{AllByRecursion}
use Rattle.std.proofs.lemmas.Bool.{leb-true}
use Rattle.market.specs.declared.words.Order.{Order}
use Rattle.replay.specs.Days.{Day, Call, Set, LoadLimit, LoadStop, Open, Enter, CancelOrder, FloorTrade, Resume, Close, new_day}
use Rattle.replay.specs.Calls.{Check, first_of, refusal, checks, after_calls}
use Rattle.replay.specs.RollHolds.{Numbered, RollHolds}
use Rattle.replay.proofs.Runs.{Sound, Counted, numbers}
use Rattle.replay.proofs.Calls.{calls_sound, new_sound}

pub numbered : (k : ℕ) (os : List Order) → Counted k (numbers os) → Numbered k os
numbered k [] h = tt
numbered k (o ∷ os) h = (h.0, numbered (suc k) os h.1)

-- a refusal whose every check passes is not given
not_given : (k : ℕ) (cs : List Check) → AllByRecursion (λ (c : Check). c.code ≡ k → c.fails ≡ true → ⊥) cs → refusal cs ≡ Some k → ⊥
not_given k [] a e = let z : ◌≡◌ {A = ℕ} 0 1 = cc in omega arith
not_given k (c ∷ cs) a e = go c.fails a.0 e (not_given k cs a.1)
  where
    go : (b : Bool) → (c.code ≡ k → b ≡ true → ⊥) → first_of b c.code (refusal cs) ≡ Some k → (refusal cs ≡ Some k → ⊥) → ⊥
    go true f e ih = let z : c.code ≡ k = cc in f z refl
    go false f e ih = ih e

room_left : (room : ℕ) (d : Day) (c : Call) → length d.roll < 512 → refusal (checks room d c) ≡ Some 43 → ⊥
unfolding checks
room_left room d (Set k c p) h e = not_given 43 (checks room d (Set k c p)) ((λ e f. omega arith), ((λ e f. omega arith), ((λ e f. omega arith), ((λ e f. omega arith), tt)))) e
room_left room d (LoadLimit s m p q) h e =
    not_given 43 (checks room d (LoadLimit s m p q))
    ((λ e f. omega arith), ((λ e f. omega arith), ((λ e f. omega arith), ((λ e f. omega arith), ((λ e f. omega (arith, leb-true 512 (length d.roll) f)), ((λ e f. omega arith), tt)))))) e
room_left room d (LoadStop s m p q) h e =
    not_given 43 (checks room d (LoadStop s m p q))
    ((λ e f. omega arith), ((λ e f. omega arith), ((λ e f. omega arith), ((λ e f. omega arith), ((λ e f. omega (arith, leb-true 512 (length d.roll) f)), ((λ e f. omega arith), tt)))))) e
room_left room d Open h e = not_given 43 (checks room d Open) ((λ e f. omega arith), tt) e
room_left room d (Enter k s m p q g) h e =
    not_given 43 (checks room d (Enter k s m p q g))
    ((λ e f. omega arith), ((λ e f. omega arith), ((λ e f. omega arith), ((λ e f. omega arith), ((λ e f. omega (arith, leb-true 512 (length d.roll) f)), ((λ e f. omega arith), ((λ e f. omega arith), tt))))))) e
room_left room d (CancelOrder m n g) h e =
    not_given 43 (checks room d (CancelOrder m n g)) ((λ e f. omega arith), ((λ e f. omega arith), ((λ e f. omega arith), ((λ e f. omega arith), ((λ e f. omega arith), tt))))) e
room_left room d (FloorTrade p q g) h e =
    not_given 43 (checks room d (FloorTrade p q g)) ((λ e f. omega arith), ((λ e f. omega arith), ((λ e f. omega arith), ((λ e f. omega arith), ((λ e f. omega arith), tt))))) e
room_left room d (Resume g) h e = not_given 43 (checks room d (Resume g)) ((λ e f. omega arith), ((λ e f. omega arith), ((λ e f. omega arith), tt))) e
room_left room d Close h e = not_given 43 (checks room d Close) ((λ e f. omega arith), tt) e

pub roll_holds : RollHolds
roll_holds = record {
  kept = λ gifts lawful room cs.
      let s : Sound (after_calls gifts room new_day cs) = calls_sound gifts lawful room cs new_day (new_sound gifts lawful) in
      record { numbered = numbered 1 (after_calls gifts room new_day cs).roll s.counted; most = s.books.few };
  room_left = room_left;
}
