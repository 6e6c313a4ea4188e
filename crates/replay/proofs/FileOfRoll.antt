-- The stop file of a roll: what the moves do to it.
use Rattle.std.proofs.Common.{◌≡◌, ℕ, suc, ◌+◌, ◌-◌, ◌<◌, Bool, true, false, cond, not, ◌&&◌, eqb, List, [], ◌∷◌, ◌++◌, map, length, Some, sym, refl, ap, ◌∙◌, arith}
use Rattle.std.proofs.lemmas.Bool.{false≢true, ne_eqb, eqb-true}
use Rattle.market.specs.declared.words.Side.{Side}
use Rattle.market.specs.declared.words.Stop.{Stop}
use Rattle.market.specs.declared.words.Place.{Place}
use Rattle.market.specs.declared.words.Place.TheVariants.{Book, Line, StopFile, Nowhere}
use Rattle.market.specs.declared.words.Order.{Order}
use Rattle.market.specs.Sides.{as_good}
use Rattle.market.specs.Orders.{is_book, fill, cancel, put}
use Rattle.replay.specs.Lists.{only, those, kept}
use Rattle.replay.specs.Rolls.{is_filed, look, found, alter, here, filed}
use Rattle.replay.specs.Book.{is_at, is_better}
use Rattle.replay.specs.Moves.{dealt, deal, after, is_elected, called}
use Rattle.replay.specs.StopFile.{elects_stop, stop_of, file_of}
use Rattle.replay.proofs.Rolls.{dealt_is, no_part}
use Rattle.replay.proofs.Runs.{Counted, numbers}

abbrev elected : ℕ → List Stop → List Stop
elected p ts = those (elects_stop p) ts

abbrev others : ℕ → List Stop → List Stop
others p ts = those (λ t. not (elects_stop p t)) ts

-- the file of a roll -----------------------------------------------------------------------------------------------------------------------
abbrev is_kept : Order → Bool
is_kept o = is_filed o.place

pub file_count : (os : List Order) → length (file_of os) ≡ filed os
file_count [] = refl
file_count (o ∷ os) = go (is_filed o.place) (file_count os)
  where
    go : (b : Bool) → length (file_of os) ≡ filed os → length (map stop_of (kept b o (those is_kept os))) ≡ only b 1 + filed os
    go true ih = omega arith
    go false ih = omega arith

-- elections: the numbers elected are those that taking gives, and the file afterwards is what it leaves
pub elected_numbers : (p : ℕ) (os : List Order) → map (λ o. o.number) (those (is_elected p) os) ≡ map (λ t. t.number) (elected p (file_of os))
elected_numbers p [] = refl
elected_numbers p (o ∷ os) = go (is_filed o.place) (as_good o.side p o.price) refl (elected_numbers p os)
  where
    go : (b t : Bool) → as_good o.side p o.price ≡ t → map (λ o. o.number) (those (is_elected p) os) ≡ map (λ t. t.number) (elected p (file_of os))
        → map (λ o. o.number) (kept (b && t) o (those (is_elected p) os)) ≡ map (λ t. t.number) (elected p (map stop_of (kept b o (those is_kept os))))
    go true true e ih = ap (λ x. o.number ∷ x) ih ∙ ap (λ b. map (λ (t : Stop). t.number) (kept b (stop_of o) (elected p (file_of os)))) (sym e)
    go true false e ih = ih ∙ ap (λ b. map (λ (t : Stop). t.number) (kept b (stop_of o) (elected p (file_of os)))) (sym e)
    go false t e ih = ih

pub elected_file : (p : ℕ) (os : List Order) → file_of (map (λ o. called (is_elected p o) o) os) ≡ others p (file_of os)
elected_file p [] = refl
elected_file p (o ∷ os) = go (is_filed o.place) (as_good o.side p o.price) refl refl (elected_file p os)
  where
    new : List Order
    new = map (λ o. called (is_elected p o) o) os

    go : (b t : Bool) → is_filed o.place ≡ b → as_good o.side p o.price ≡ t → file_of new ≡ others p (file_of os)
        → map stop_of (kept (is_filed (called (b && t) o).place) (called (b && t) o) (those is_kept new)) ≡ others p (map stop_of (kept b o (those is_kept os)))
    go true true e f ih = ih ∙ ap (λ b. kept (not b) (stop_of o) (others p (file_of os))) (sym f)
    go true false e f ih = ap (λ b. map stop_of (kept b o (those is_kept new))) e ∙ ap (λ x. stop_of o ∷ x) ih ∙ ap (λ b. kept (not b) (stop_of o) (others p (file_of os))) (sym f)
    go false t e f ih = ap (λ b. map stop_of (kept b o (those is_kept new))) e ∙ ih

-- an order more
pub file_push : (os : List Order) (o : Order) → file_of (os ++ (put StopFile o ∷ [])) ≡ file_of os ++ (stop_of o ∷ [])
file_push [] o = refl
file_push (x ∷ os) o = go (is_filed x.place) (file_push os o)
  where
    go : (b : Bool) → file_of (os ++ (put StopFile o ∷ [])) ≡ file_of os ++ (stop_of o ∷ []) → map stop_of (kept b x (those is_kept (os ++ (put StopFile o ∷ [])))) ≡ map stop_of (kept b x (those is_kept os)) ++ (stop_of o ∷ [])
    go true ih = ap (λ y. stop_of x ∷ y) ih
    go false ih = ih

pub file_other : (os : List Order) (o : Order) → is_filed o.place ≡ false → file_of (os ++ (o ∷ [])) ≡ file_of os
file_other [] o e = ap (λ b. map stop_of (kept b o [])) e
file_other (x ∷ os) o e = go (is_filed x.place) (file_other os o e)
  where
    go : (b : Bool) → file_of (os ++ (o ∷ [])) ≡ file_of os → map stop_of (kept b x (those is_kept (os ++ (o ∷ [])))) ≡ map stop_of (kept b x (those is_kept os))
    go true ih = ap (λ y. stop_of x ∷ y) ih
    go false ih = ih

-- a change of an order that is not filed, before or after
pub file_alter : (n : ℕ) (f : Order → Order) (os : List Order) → ((o : Order) → look n os ≡ Some o → (is_filed o.place ≡ false) × (is_filed (f o).place ≡ false)) → file_of (alter n f os) ≡ file_of os
unfolding alter look
file_alter n f [] h = refl
file_alter n f (o ∷ os) h = go (eqb o.number n) h (file_alter n f os)
  where
    go : (b : Bool) → ((r : Order) → found b o (look n os) ≡ Some r → (is_filed r.place ≡ false) × (is_filed (f r).place ≡ false))
        → (((r : Order) → look n os ≡ Some r → (is_filed r.place ≡ false) × (is_filed (f r).place ≡ false)) → file_of (alter n f os) ≡ file_of os)
        → file_of (here b f o os (alter n f os)) ≡ map stop_of (kept (is_filed o.place) o (those is_kept os))
    go true h ih = ap (λ b. map stop_of (kept b (f o) (those is_kept os))) (h o refl).1 ∙ sym (ap (λ b. map stop_of (kept b o (those is_kept os))) (h o refl).0)
    go false h ih = step (is_filed o.place) (ih h)
      where
        step : (b : Bool) → file_of (alter n f os) ≡ file_of os → map stop_of (kept b o (those is_kept (alter n f os))) ≡ map stop_of (kept b o (those is_kept os))
        step true e = ap (λ y. stop_of o ∷ y) e
        step false e = e

-- a cancelled stop leaves the file: removing by number
above : (k j : ℕ) (os : List Order) → k < j → Counted j (numbers os) → those (λ (t : Stop). not (eqb t.number k)) (file_of os) ≡ file_of os
above k j [] h c = refl
above k j (o ∷ os) h c = go (is_filed o.place) (above k (suc j) os (omega arith) c.1)
  where
    go : (b : Bool) → those (λ (t : Stop). not (eqb t.number k)) (file_of os) ≡ file_of os
        → those (λ (t : Stop). not (eqb t.number k)) (map stop_of (kept b o (those is_kept os))) ≡ map stop_of (kept b o (those is_kept os))
    go true ih = ap (λ b. kept (not b) (stop_of o) (those (λ (t : Stop). not (eqb t.number k)) (file_of os))) (ne_eqb o.number k (λ e. omega (arith, c.0))) ∙ ap (λ x. stop_of o ∷ x) ih
    go false ih = ih

pub file_cancel : (n k : ℕ) (os : List Order) → Counted k (numbers os) → file_of (alter n cancel os) ≡ those (λ t. not (eqb t.number n)) (file_of os)
unfolding alter
file_cancel n k [] c = refl
file_cancel n k (o ∷ os) c = go (eqb o.number n) refl (file_cancel n (suc k) os c.1)
  where
    struck : (b : Bool) → eqb o.number n ≡ true → file_of os ≡ those (λ t. not (eqb t.number n)) (map stop_of (kept b o (those is_kept os)))
    struck true e = sym (ap (λ b. kept (not b) (stop_of o) (those (λ (t : Stop). not (eqb t.number n)) (file_of os))) e ∙ above n (suc k) os (let z : o.number ≡ n = eqb-true o.number n e in omega (arith, c.0)) c.1)
    struck false e = sym (above n (suc k) os (let z : o.number ≡ n = eqb-true o.number n e in omega (arith, c.0)) c.1)

    kept_on : (b : Bool) → eqb o.number n ≡ false → file_of (alter n cancel os) ≡ those (λ t. not (eqb t.number n)) (file_of os)
        → map stop_of (kept b o (those is_kept (alter n cancel os))) ≡ those (λ t. not (eqb t.number n)) (map stop_of (kept b o (those is_kept os)))
    kept_on true e ih = ap (λ y. stop_of o ∷ y) ih ∙ sym (ap (λ b. kept (not b) (stop_of o) (those (λ (t : Stop). not (eqb t.number n)) (file_of os))) e)
    kept_on false e ih = ih

    go : (b : Bool) → eqb o.number n ≡ b → file_of (alter n cancel os) ≡ those (λ t. not (eqb t.number n)) (file_of os)
        → file_of (here b cancel o os (alter n cancel os)) ≡ those (λ t. not (eqb t.number n)) (map stop_of (kept (is_filed o.place) o (those is_kept os)))
    go true e ih = struck (is_filed o.place) e
    go false e ih = kept_on (is_filed o.place) e ih

-- sharing out leaves the file alone
fill_off : (q : ℕ) (o : Order) → is_filed o.place ≡ false → is_filed (fill q o).place ≡ false
fill_off q o e = go (eqb (o.«open» - q) 0)
  where
    go : (b : Bool) → is_filed (cond b Nowhere o.place) ≡ false
    go true = refl
    go false = e

pub file_deal : (c : Side) (p : ℕ) (os : List Order) (gs : List ℕ) → file_of (deal c p os gs) ≡ file_of os
unfolding deal
file_deal c p [] gs = refl
file_deal c p (o ∷ os) gs = go (is_filed o.place) refl (file_deal c p os (after (is_at c p o) gs))
  where
    rest : List Order
    rest = deal c p os (after (is_at c p o) gs)

    not_book : (w : Place) → is_filed w ≡ true → is_book w ≡ false
    not_book Book e = absurd (false≢true e)
    not_book Line e = refl
    not_book StopFile e = refl
    not_book Nowhere e = refl

    go : (b : Bool) → is_filed o.place ≡ b → file_of rest ≡ file_of os
        → map stop_of (kept (is_filed (dealt (is_better c p o) (is_at c p o) gs o).place) (dealt (is_better c p o) (is_at c p o) gs o) (those is_kept rest)) ≡ map stop_of (kept b o (those is_kept os))
    go true e ih =
        ap (λ (x : Order). map stop_of (kept (is_filed x.place) x (those is_kept rest))) (no_part c p gs o (not_book o.place e))
        ∙ ap (λ b. map stop_of (kept b o (those is_kept rest))) e ∙ ap (λ ts. stop_of o ∷ ts) ih
    go false e ih =
        ap (λ b. map stop_of (kept b (dealt (is_better c p o) (is_at c p o) gs o) (those is_kept rest)))
        (dealt_is (λ u. is_filed u.place ≡ false) (is_better c p o) (is_at c p o) gs o (λ q. fill_off q o e) e) ∙ ih
