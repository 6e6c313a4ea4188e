-- Orders of a roll that is numbered from 1, by number and by place.
use Rattle.std.proofs.Common.{◌≡◌, ℕ, suc, ◌+◌, ◌-◌, ◌<◌, ◌≤◌, Bool, true, false, cond, ◌&&◌, eqb, List, [], ◌∷◌, ◌++◌, length, get_or, set, Some, None, Option, not, sym, refl, ap, ◌∙◌, ⊎_elim, arith}
use Rattle.std.proofs.lemmas.Bool.{not-true, eqb-true, eqb-false, eq-eqb, ne_eqb, cases_eq, cases_lt, lt-ltb, le-ltb}
use Rattle.std.proofs.ByRecursion.{All-get_or}
use Rattle.market.specs.declared.words.Order.{Order}
use Rattle.market.specs.declared.words.Side.{Side}
use Rattle.market.specs.declared.words.Side.TheVariants.{Buy, Sell}
use Rattle.market.specs.declared.words.Place.{Place}
use Rattle.market.specs.declared.words.Place.TheVariants.{Nowhere, Book, Line, StopFile}
use Rattle.market.specs.declared.change.Change.{Change}
use Rattle.market.specs.declared.change.Change.TheVariants.{Cancel}
use Rattle.market.specs.Changes.{does, blank, order_at, does_at}
use Rattle.market.specs.Sides.{same_side}
use Rattle.market.specs.Orders.{is_book, rests_on, cancel}
use Rattle.replay.specs.Rolls.{look, found, alter, here, open_of, left}
use Rattle.replay.specs.RollHolds.{Numbered}
use Rattle.orderbook.specs.Sorted.{Sums, Sound}
use Rattle.orderbook.specs.Trades.{is_off}

-- by place ------------------------------------------------------------------------------------------------------------
pub alter_from : (f : Order → Order) (n k : ℕ) (os : List Order) → Numbered k os → k ≤ n → n < k + length os → alter n f os ≡ set os (n - k) (f (get_or os (n - k) blank))
unfolding alter
alter_from f n k [] h lo hi = refl
alter_from f n k (o ∷ os) h lo hi = go (eqb o.number n) refl (alter_from f n (suc k) os h.1)
  where
    go : (b : Bool) → eqb o.number n ≡ b → (suc k ≤ n → n < suc k + length os → alter n f os ≡ set os (n - suc k) (f (get_or os (n - suc k) blank)))
        → here b f o os (alter n f os) ≡ set (o ∷ os) (n - k) (f (get_or (o ∷ os) (n - k) blank))
    go true e ih =
        let z : 0 ≡ n - k = omega (arith, eqb-true o.number n e, h.0) in
        ap (λ m. set (o ∷ os) m (f (get_or (o ∷ os) m blank))) z
    go false e ih =
        let ne : o.number ≡ n → ⊥ = eqb-false o.number n e in
        let lt : suc k ≤ n = omega (arith, h.0) in
        let z : suc (n - suc k) ≡ n - k = omega arith in
        ap (λ l. o ∷ l) (ih lt (omega arith)) ∙ ap (λ m. set (o ∷ os) m (f (get_or (o ∷ os) m blank))) z

pub look_from : (n k : ℕ) (os : List Order) → Numbered k os → k ≤ n → n < k + length os → look n os ≡ Some (get_or os (n - k) blank)
unfolding look
look_from n k [] h lo hi = absurd (let z : ◌≡◌ {A = ℕ} 0 1 = omega arith in omega arith)
look_from n k (o ∷ os) h lo hi = go (eqb o.number n) refl (look_from n (suc k) os h.1)
  where
    go : (b : Bool) → eqb o.number n ≡ b → (suc k ≤ n → n < suc k + length os → look n os ≡ Some (get_or os (n - suc k) blank))
        → found b o (look n os) ≡ Some (get_or (o ∷ os) (n - k) blank)
    go true e ih =
        let z : 0 ≡ n - k = omega (arith, eqb-true o.number n e, h.0) in
        ap (λ m. Some (get_or (o ∷ os) m blank)) z
    go false e ih =
        let ne : o.number ≡ n → ⊥ = eqb-false o.number n e in
        let lt : suc k ≤ n = omega (arith, h.0) in
        let z : suc (n - suc k) ≡ n - k = omega arith in
        ih lt (omega arith) ∙ ap (λ m. Some (get_or (o ∷ os) m blank)) z

pub number_from : (n k : ℕ) (os : List Order) → Numbered k os → k ≤ n → n < k + length os → (get_or os (n - k) blank).number ≡ n
number_from n k [] h lo hi = absurd (let z : ◌≡◌ {A = ℕ} 0 1 = omega arith in omega arith)
number_from n k (o ∷ os) h lo hi =
    ⊎_elim
    (λ (e : k ≡ n). let z : n - k ≡ 0 = omega arith in ap (λ m. (get_or (o ∷ os) m blank).number) z ∙ h.0 ∙ e)
    (λ (ne : k ≡ n → ⊥). let lt : suc k ≤ n = omega arith in let z : n - k ≡ suc (n - suc k) = omega arith in ap (λ m. (get_or (o ∷ os) m blank).number) z ∙ number_from n (suc k) os h.1 lt (omega arith))
    (cases_eq k n)

-- no order has a lower number, nor one beyond the end
look_below : (n k : ℕ) (os : List Order) → Numbered k os → n < k → look n os ≡ None
unfolding look
look_below n k [] h lt = refl
look_below n k (o ∷ os) h lt =
    let ne : eqb o.number n ≡ false = ne_eqb o.number n (λ e. absurd (let z : ◌≡◌ {A = ℕ} 0 1 = omega (arith, e, h.0) in omega arith)) in
    ap (λ b. found b o (look n os)) ne ∙ look_below n (suc k) os h.1 (omega arith)

look_above : (n k : ℕ) (os : List Order) → Numbered k os → k + length os ≤ n → look n os ≡ None
unfolding look
look_above n k [] h le = refl
look_above n k (o ∷ os) h le =
    let ne : eqb o.number n ≡ false = ne_eqb o.number n (λ e. absurd (let z : ◌≡◌ {A = ℕ} 0 1 = omega (arith, e, h.0) in omega arith)) in
    ap (λ b. found b o (look n os)) ne ∙ look_above n (suc k) os h.1 (omega arith)

-- an order that is not there is not changed
pub alter_none : (n : ℕ) (f : Order → Order) (os : List Order) → look n os ≡ None → alter n f os ≡ os
unfolding look alter
alter_none n f [] e = refl
alter_none n f (o ∷ os) e = go (eqb o.number n) e (alter_none n f os)
  where
    go : (b : Bool) → found b o (look n os) ≡ None → (look n os ≡ None → alter n f os ≡ os) → here b f o os (alter n f os) ≡ o ∷ os
    go true e ih = absurd (let z : ◌≡◌ {A = ℕ} 0 1 = cc in omega arith)
    go false e ih = ap (λ l. o ∷ l) (ih e)

-- the end of a roll
pub look_push : (n k : ℕ) (os : List Order) (o : Order) → Numbered k os → o.number ≡ n → n ≡ length os + k → look n (os ++ (o ∷ [])) ≡ Some o
unfolding look
look_push n k [] o h e m = ap (λ b. found b o None) (eq-eqb o.number n e)
look_push n k (x ∷ os) o h e m =
    let ne : eqb x.number n ≡ false = ne_eqb x.number n (λ e. absurd (let z : ◌≡◌ {A = ℕ} 0 1 = omega (arith, e, h.0, m) in omega arith)) in
    ap (λ b. found b x (look n (os ++ (o ∷ [])))) ne ∙ look_push n (suc k) os o h.1 e (omega (arith, m))

pub alter_push : (f : Order → Order) (n k : ℕ) (os : List Order) (o : Order) → Numbered k os → o.number ≡ n → n ≡ length os + k → alter n f (os ++ (o ∷ [])) ≡ os ++ (f o ∷ [])
unfolding alter
alter_push f n k [] o h e m = ap (λ b. here b f o [] []) (eq-eqb o.number n e)
alter_push f n k (x ∷ os) o h e m =
    let ne : eqb x.number n ≡ false = ne_eqb x.number n (λ e. absurd (let z : ◌≡◌ {A = ℕ} 0 1 = omega (arith, e, h.0, m) in omega arith)) in
    ap (λ b. here b f x (os ++ (o ∷ [])) (alter n f (os ++ (o ∷ [])))) ne ∙ ap (λ l. x ∷ l) (alter_push f n (suc k) os o h.1 e (omega (arith, m)))

-- a roll numbered from 1 ----------------------------------------------------------------------------------------------
-- an order of a roll
pub record Found (n : ℕ) (os : List Order) (o : Order) : Type 0 where
  pub low : 1 ≤ n
  pub high : n ≤ length os
  pub is : o ≡ get_or os (n - 1) blank

module _ {os : List Order} (s : Sound os) where
  h : Numbered 1 os
  h = s.numbered

  pub alter_at : (n : ℕ) (f : Order → Order) → 1 ≤ n → n ≤ length os → alter n f os ≡ set os (n - 1) (f (get_or os (n - 1) blank))
  alter_at n f lo hi = alter_from f n 1 os h lo (omega arith)

  pub look_at : (n : ℕ) → 1 ≤ n → n ≤ length os → look n os ≡ Some (get_or os (n - 1) blank)
  look_at n lo hi = look_from n 1 os h lo (omega arith)

  pub number_at : (n : ℕ) → 1 ≤ n → n ≤ length os → (get_or os (n - 1) blank).number ≡ n
  number_at n lo hi = number_from n 1 os h lo (omega arith)

  pub look_zero : (n : ℕ) → n ≡ 0 → look n os ≡ None
  look_zero n e = look_below n 1 os h (omega arith)

  pub left_at : (n : ℕ) → 1 ≤ n → n ≤ length os → left n os ≡ (get_or os (n - 1) blank).«open»
  unfolding left
  left_at n lo hi = ap open_of (look_at n lo hi)

  pub look_order : (n : ℕ) → 1 ≤ n → look n os ≡ order_at (n - 1) os
  look_order n lo =
      ⊎_elim
      (λ (lt : n - 1 < length os). look_at n lo (omega arith) ∙ ap (λ b. cond b (Some (get_or os (n - 1) blank)) None) (sym (lt-ltb (n - 1) (length os) lt)))
      (λ (le : length os ≤ n - 1). look_above n 1 os h (omega arith) ∙ ap (λ b. cond b (Some (get_or os (n - 1) blank)) None) (sym (le-ltb (n - 1) (length os) le)))
      (cases_lt (n - 1) (length os))

  pub look_some : (n : ℕ) (o : Order) → look n os ≡ Some o → Found n os o
  look_some n o e =
      ⊎_elim
      (λ (lt : n < 1). absurd (none (look_below n 1 os h lt)))
      (λ (lo : 1 ≤ n).
      ⊎_elim
      (λ (lt : n < 1 + length os). let i : look n os ≡ Some (get_or os (n - 1) blank) = look_at n lo (omega arith) in record { low = lo; high = omega arith; is = cc })
      (λ (le : 1 + length os ≤ n). absurd (none (look_above n 1 os h le)))
      (cases_lt n (1 + length os)))
      (cases_lt n 1)
    where
      none : look n os ≡ None → ⊥
      none i = let z : ◌≡◌ {A = ℕ} 0 1 = cc in omega arith

  pub does_at_lem : (c : Change) (n : ℕ) → 1 ≤ n → n ≤ length os → does_at c (n - 1) os ≡ alter n (does c) os
  does_at_lem c n lo hi = ap (λ b. cond b (set os (n - 1) (does c (get_or os (n - 1) blank))) os) (lt-ltb (n - 1) (length os) (omega arith)) ∙ sym (alter_at n (does c) lo hi)

pub sums_at : {os : List Order} (s : Sound os) (n : ℕ) → 1 ≤ n → n ≤ length os → Sums (get_or os (n - 1) blank)
sums_at {os} s n lo hi = All-get_or Sums os (n - 1) blank (omega arith) s.sums

-- an order of a sound roll adds up, so that it may be cancelled
pub cancel_at : {os : List Order} (s : Sound os) (n : ℕ) → 1 ≤ n → n ≤ length os → does_at Cancel (n - 1) os ≡ alter n cancel os
cancel_at {os} s n lo hi =
    let o : Order = get_or os (n - 1) blank in
    does_at_lem s Cancel n lo hi ∙ alter_at s n (does Cancel) lo hi
    ∙ ap (λ b. set os (n - 1) (cond b (cancel o) o)) (eq-eqb _ _ (sums_at s n lo hi).whole)
    ∙ sym (alter_at s n cancel lo hi)

-- an order that was found ---------------------------------------------------------------------------------------------
not_book : (w : Place) → (w ≡ Book → ⊥) → is_book w ≡ false
not_book Nowhere h = refl
not_book Book h = absurd (h refl)
not_book Line h = refl
not_book StopFile h = refl

pub same_self : (c : Side) → same_side c c ≡ true
same_self Buy = refl
same_self Sell = refl

module _ {n : ℕ} {os : List Order} {o : Order} (f : Found n os o) where
  pub there_at : (1 ≤ n) × (n ≤ length os)
  there_at = (f.low, f.high)

  pub off_at : (o.place ≡ Book → ⊥) → is_book (get_or os (n - 1) blank).place ≡ false
  off_at h = ap (λ (x : Order). is_book x.place) (sym f.is) ∙ not_book o.place h

  pub side_at : (c : Side) → o.side ≡ c → (get_or os (n - 1) blank).side ≡ c
  side_at c e = ap (λ (x : Order). x.side) (sym f.is) ∙ e

  pub rests_at : (c : Side) → o.place ≡ Book → o.side ≡ c → rests_on c (get_or os (n - 1) blank) ≡ true
  rests_at c e s = ap (rests_on c) (sym f.is) ∙ ap (λ w. is_book w && same_side o.side c) e ∙ ap (λ x. same_side x c) s ∙ same_self c

  pub price_at : o.price ≡ (get_or os (n - 1) blank).price
  price_at = ap (λ (x : Order). x.price) f.is

-- an order that was found off the book
pub record OffBook (n : ℕ) (os : List Order) (o : Order) : Type 0 where
  pub found : Found n os o
  pub off : is_book o.place ≡ false

pub off_some : {os : List Order} → Sound os → (n : ℕ) {r : Option Order} {o : Order} → r ≡ cond (is_off (look n os)) (look n os) None → r ≡ Some o → OffBook n os o
off_some {os} s n {r} {o} e i = go (look n os) refl (sym e ∙ i)
  where
    some : (b : Bool) (u : Order) → cond b (Some u) None ≡ Some o → (b ≡ true) × (u ≡ o)
    some true u j = (refl, cc)
    some false u j = absurd (let z : ◌≡◌ {A = ℕ} 0 1 = cc in omega arith)

    go : (l : Option Order) → look n os ≡ l → cond (is_off l) l None ≡ Some o → OffBook n os o
    go None k j = absurd (let z : ◌≡◌ {A = ℕ} 0 1 = cc in omega arith)
    go (Some u) k j =
        let t = some (not (is_book u.place)) u j in
        record { found = look_some s n o (k ∙ ap (λ (x : Order). Some x) t.1); off = ap (λ (x : Order). is_book x.place) (sym t.1) ∙ not-true (is_book u.place) t.0 }

module _ {n : ℕ} {os : List Order} {o : Order} (f : OffBook n os o) where
  pub off_there : (1 ≤ n) × (n ≤ length os)
  off_there = there_at f.found

  pub off_off : is_book (get_or os (n - 1) blank).place ≡ false
  off_off = ap (λ (x : Order). is_book x.place) (sym f.found.is) ∙ f.off

  pub off_side : (c : Side) → o.side ≡ c → (get_or os (n - 1) blank).side ≡ c
  off_side c e = side_at f.found c e

-- an order that is cancelled
pub cancelled_some : {os us : List Order} → Sound os → (n : ℕ) {o : Order} → Some o ≡ look n os → us ≡ does_at Cancel (n - 1) os → us ≡ alter n cancel os
cancelled_some s n {o} e i = let f = look_some s n o (sym e) in i ∙ cancel_at s n f.low f.high
