-- A cancelled order leaves the stop file.
use Rattle.std.proofs.Common.{◌≡◌, ℕ, suc, ◌<◌, Bool, true, false, cond, eqb, List, [], ◌∷◌, map, sym, refl, ap, ◌∙◌, subst, arith}
use Rattle.std.proofs.lemmas.Bool.{eqb-true, ne_eqb}
use Rattle.market.specs.declared.words.Stop.{Stop}
use Rattle.market.specs.declared.words.Order.{Order}
use Rattle.market.specs.Orders.{cancel}
use Rattle.stops.specs.Stops.{numbered, without_by}
use Rattle.replay.specs.Lists.{those, kept}
use Rattle.replay.specs.Days.{Day}
use Rattle.replay.specs.Rolls.{is_filed, look, alter, here}
use Rattle.replay.specs.RollHolds.{Numbered}
use Rattle.replay.specs.Moves.{withdraw}
use Rattle.replay.specs.StopFile.{stop_of, file_of}
use Rattle.replay.proofs.FileOfRoll.{file_alter}
use Rattle.trading.specs.Shows.{filed_of}

abbrev is_kept : Order → Bool
is_kept o = is_filed o.place

-- no stop has a number that is below those of the roll
above : (n k : ℕ) (os : List Order) → n < k → Numbered k os → without_by (numbered n) (file_of os) ≡ file_of os
above n k [] h c = refl
above n k (o ∷ os) h c = go (is_filed o.place) (above n (suc k) os (omega arith) c.1)
  where
    go : (b : Bool) → without_by (numbered n) (file_of os) ≡ file_of os → without_by (numbered n) (map stop_of (kept b o (those is_kept os))) ≡ map stop_of (kept b o (those is_kept os))
    go true ih = ap (λ v. cond v (file_of os) (stop_of o ∷ without_by (numbered n) (file_of os))) (ne_eqb o.number n (λ e. omega (arith, c.0))) ∙ ap (λ l. stop_of o ∷ l) ih
    go false ih = ih

removed : (n k : ℕ) (os : List Order) → Numbered k os → without_by (numbered n) (file_of os) ≡ file_of (alter n cancel os)
unfolding alter
removed n k [] c = refl
removed n k (o ∷ os) c = go (eqb o.number n) refl (removed n (suc k) os c.1)
  where
    past : eqb o.number n ≡ true → without_by (numbered n) (file_of os) ≡ file_of os
    past e = above n (suc k) os (let z : o.number ≡ n = eqb-true o.number n e in omega (arith, c.0)) c.1

    struck : (b : Bool) → eqb o.number n ≡ true → without_by (numbered n) (map stop_of (kept b o (those is_kept os))) ≡ file_of os
    struck true e = ap (λ v. cond v (file_of os) (stop_of o ∷ without_by (numbered n) (file_of os))) e
    struck false e = past e

    kept_on : (b : Bool) → eqb o.number n ≡ false → without_by (numbered n) (file_of os) ≡ file_of (alter n cancel os)
        → without_by (numbered n) (map stop_of (kept b o (those is_kept os))) ≡ map stop_of (kept b o (those is_kept (alter n cancel os)))
    kept_on true e ih = ap (λ v. cond v (file_of os) (stop_of o ∷ without_by (numbered n) (file_of os))) e ∙ ap (λ l. stop_of o ∷ l) ih
    kept_on false e ih = ih

    go : (t : Bool) → eqb o.number n ≡ t → without_by (numbered n) (file_of os) ≡ file_of (alter n cancel os)
        → without_by (numbered n) (map stop_of (kept (is_filed o.place) o (those is_kept os))) ≡ file_of (here t cancel o os (alter n cancel os))
    go true e ih = struck (is_filed o.place) e
    go false e ih = kept_on (is_filed o.place) e ih

-- a filed stop
pub cancel_filed : (n : ℕ) (d : Day) {os : List Order} {ss ss' : List Stop} → Numbered 1 os → os ≡ d.roll → ss' ≡ without_by (numbered n) ss → ss ≡ file_of d.roll → ss' ≡ file_of (withdraw n d).roll
unfolding withdraw
cancel_filed n d num r out e = out ∙ ap (without_by (numbered n)) e ∙ removed n 1 d.roll (subst (Numbered 1) r num)

-- any other order, or none
pub cancel_other : (n : ℕ) (d : Day) {os : List Order} {ss ss' : List Stop} → filed_of (look n os) ≡ false → os ≡ d.roll → ss' ≡ ss → ss ≡ file_of d.roll → ss' ≡ file_of (withdraw n d).roll
unfolding withdraw
cancel_other n d {os} off r same e =
    same ∙ e ∙ sym (file_alter n cancel d.roll (λ o is. (ap filed_of (sym is ∙ ap (look n) (sym r)) ∙ off, refl)))
