-- A print, as the book does it, and who may run on after it.
use Rattle.std.proofs.Common.{◌≡◌, ℕ, ◌-◌, Bool, true, false, cond, not, eqb, List, Some, None, Option, sym, refl, ap, ◌∙◌, subst}
use Rattle.std.proofs.lemmas.Bool.{false≢true}
use Rattle.market.specs.declared.words.Side.{Side}
use Rattle.market.specs.declared.words.Place.{Place}
use Rattle.market.specs.declared.words.Place.TheVariants.{Nowhere, Book, Line, StopFile}
use Rattle.market.specs.declared.words.Order.{Order}
use Rattle.market.specs.Sides.{opposite}
use Rattle.market.specs.Orders.{is_book, fill}
use Rattle.orderbook.specs.Trades.{is_off, contra_of, traded}
use Rattle.replay.specs.Days.{Rule}
use Rattle.replay.specs.Rolls.{look, is_filed}
use Rattle.replay.specs.Book.{row, ahead}
use Rattle.replay.specs.Moves.{deal, size}
use Rattle.replay.proofs.Rolls.{look_same, look_deal}
use Rattle.trading.specs.Shows.{Runner, filed_of}

-- the first of two, as the test holds
pub chosen : {X : Type 0} (t : Bool) (a b : X) {u : X} → u ≡ cond t a b → t ≡ true → u ≡ a
chosen t a b e h = e ∙ ap (λ x. cond x a b) h

pub traded_is : (gifts : Rule) (p : ℕ) {os us : List Order} {r : Order} → us ≡ cond (is_off (look r.number os)) (traded gifts r.number (contra_of (look r.number os)) p os) os
    → Runner os r → us ≡ traded gifts r.number (opposite r.side) p os
traded_is gifts p {os} {us} {r} e k = chosen _ (traded gifts r.number (contra_of (look r.number os)) p os) os e k.off ∙ ap (λ c. traded gifts r.number c p os) k.contra

not_book : (b : Bool) → not b ≡ true → b ≡ false
not_book true e = sym e
not_book false e = refl

off_fill : (q : ℕ) (o : Order) → is_book o.place ≡ false → not (is_book (fill q o).place) ≡ true
off_fill q o e = go (eqb (o.«open» - q) 0)
  where
    go : (b : Bool) → not (is_book (cond b Nowhere o.place)) ≡ true
    go true = refl
    go false = ap not e

-- the order that runs is still off the book, and on the same side
pub runner_stays : (gifts : Rule) (c : Side) (p : ℕ) {os us : List Order} {r : Order} → us ≡ traded gifts r.number c p os → Runner os r → Runner us r
runner_stays gifts c p {os} {us} {r} e k = subst (λ x. Runner x r) (sym e) (go (look r.number os) refl k.off k.contra)
  where
    q : ℕ
    q = size r.number c p os

    gs : List ℕ
    gs = gifts (row c p os) (q - ahead c p os)

    go : (x : Option Order) → look r.number os ≡ x → is_off x ≡ true → contra_of x ≡ opposite r.side → Runner (traded gifts r.number c p os) r
    go None i off contra = absurd (false≢true off)
    go (Some o) i off contra =
        let out : is_book o.place ≡ false = not_book (is_book o.place) off in
        let there : look r.number (traded gifts r.number c p os) ≡ Some (fill q o) =
        look_same r.number (fill q) (deal c p os gs) o (λ u. refl) (look_deal r.number c p os gs o i out) in
        record { off = ap is_off there ∙ off_fill q o out; contra = ap contra_of there ∙ contra }

-- a stop in the file
pub filed_off : (x : Option Order) → filed_of x ≡ true → is_off x ≡ true
filed_off None e = absurd (false≢true e)
filed_off (Some o) e = go o.place e
  where
    go : (w : Place) → is_filed w ≡ true → not (is_book w) ≡ true
    go Nowhere e = refl
    go Book e = absurd (false≢true e)
    go Line e = refl
    go StopFile e = refl
