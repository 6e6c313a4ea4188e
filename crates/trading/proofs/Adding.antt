-- A stop is added to the stop file of a roll.
use Rattle.std.proofs.Common.{◌≡◌, ℕ, suc, ◌+◌, ◌<◌, ◌≤◌, Bool, true, false, cond, eqb, ltb, List, [], ◌∷◌, ◌++◌, map, length, Ok, Err, Result, sym, refl, ap, ◌∙◌, subst, arith, MatchResult}
use Rattle.std.proofs.lemmas.Bool.{and_from, lt-ltb, ne_eqb}
use Rattle.market.specs.declared.words.Kind.{Kind}
use Rattle.market.specs.declared.words.Kind.TheVariants.{Stop as StopKind}
use Rattle.market.specs.declared.words.Stop.{Stop}
use Rattle.market.specs.declared.words.Order.{Order}
use Rattle.market.specs.declared.refusal.Refusal.{Refusal}
use Rattle.stops.specs.declared.stop_file.NotAdded.{NotAdded}
use Rattle.stops.specs.declared.stop_file.NotAdded.TheVariants.{NotAbove, Full}
use Rattle.stops.specs.Stops.{above_all, adding, after_adding}
use Rattle.replay.specs.Lists.{those, kept}
use Rattle.replay.specs.Rolls.{is_filed}
use Rattle.replay.specs.RollHolds.{Numbered}
use Rattle.replay.specs.StopFile.{stop_of, file_of}
use Rattle.trading.specs.Deeds.{with_stop, when_added}

-- the next number is above those of the file
pub file_above : (n k : ℕ) (os : List Order) → Numbered k os → k + length os ≤ n → above_all n (file_of os) ≡ true
file_above n k [] h le = refl
file_above n k (o ∷ os) h le = go (is_filed o.place) (file_above n (suc k) os h.1 (omega arith))
  where
    go : (b : Bool) → above_all n (file_of os) ≡ true → above_all n (map stop_of (kept b o (those (λ o. is_filed o.place) os))) ≡ true
    go true ih = and_from (ltb o.number n) (above_all n (file_of os)) (lt-ltb o.number n (omega (arith, h.0))) ih
    go false ih = ih

-- added or not
pub listed : (k : Kind) (o : Order) (ss ss' : List Stop) (s : Stop) (x : Result (Unit {0}) NotAdded) (r : Result (Unit {0}) Refusal) → k ≡ StopKind → s ≡ stop_of o → r ≡ when_added x → ss' ≡ after_adding x s ss
    → MatchResult r (λ u. ss' ≡ with_stop k o ss) (λ e. ss' ≡ ss)
listed k o ss ss' s (Ok u) r ke se re e =
    subst (λ y. MatchResult y (λ u. ss' ≡ with_stop k o ss) (λ e. ss' ≡ ss)) (sym re) (e ∙ ap (λ y. ss ++ y ∷ []) se ∙ ap (λ y. with_stop y o ss) (sym ke))
listed k o ss ss' s (Err u) r ke se re e = subst (λ y. MatchResult y (λ u. ss' ≡ with_stop k o ss) (λ e. ss' ≡ ss)) (sym re) e

-- where there is room, it is added
pub added : (n room : ℕ) (ss : List Stop) (s : Stop) (r : Result (Unit {0}) Refusal) → s.number ≡ n → above_all n ss ≡ true → length ss < room → r ≡ when_added (adding room s ss) → r ≡ Ok tt
added n room ss s r ne above lt e =
    e ∙ ap (λ b. when_added (cond b (cond (eqb (length ss) room) (Err Full) (Ok tt)) (Err NotAbove))) (ap (λ m. above_all m ss) ne ∙ above)
    ∙ ap (λ b. when_added (cond b (Err Full) (Ok tt))) (ne_eqb (length ss) room (λ q. omega arith))
