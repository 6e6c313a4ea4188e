-- What a board keeps: it is a proposition, and the moves keep it.
use Rattle.std.proofs.Common.{◌≡◌, ℕ, suc, ◌+◌, ◌-◌, ◌<◌, ◌≤◌, Bool, true, false, cond, eqb, List, [], ◌∷◌, ◌++◌, length, Some, None, Option, sym, refl, ap, ◌∙◌, subst, inl, inr, arith}
use mathlib.Core.Logic.{∥∥₁_elim}
use native.Mathlib.Bridge.{le_prop}
use base.Stored.{Coded-set, coded_ℕ, coded_bool}
use Rattle.std.specs.List.{AllByRecursion}
use Rattle.std.proofs.lemmas.Bool.{false≢true, eqb-true, eqb-false}
use Rattle.market.specs.declared.words.Side.{Side}
use Rattle.market.specs.declared.words.Place.{Place}
use Rattle.market.specs.declared.words.Place.TheVariants.{Nowhere, Book, Line, StopFile}
use Rattle.market.specs.declared.words.Order.{Order}
use Rattle.market.specs.Orders.{fill, put}
use Rattle.orderbook.specs.Trades.{traded}
use Rattle.replay.specs.Lists.{only}
use Rattle.replay.specs.Days.{Rule}
use Rattle.replay.specs.Rolls.{look, alter, is_filed, filed}
use Rattle.replay.specs.Book.{row, ahead}
use Rattle.replay.specs.Moves.{without, deal, size}
use Rattle.replay.specs.RollHolds.{Numbered}
use Rattle.replay.proofs.Lists.{length_map, all_map, all_push}
use Rattle.replay.proofs.Rolls.{val, total_alter}
use Rattle.replay.proofs.Idle.{upon, look_alter, look_past, Dealt, look_dealt}
use Rattle.replay.proofs.Runs.{Counted, numbers, numbers_alter, numbers_deal}
use Rattle.replay.proofs.Places.{numbered}
use Rattle.replay.proofs.Turns.{filed_fill, filed_deal, filed_alter}
use Rattle.trading.specs.Waiting.{Once}
use Rattle.trading.specs.Ruling.{is_loose, loose_of, Waits, Ruled}
use Rattle.trading.specs.Shows.{filed_of}
use Rattle.trading.proofs.Queue.{all_without, once_without, once_push}

-- at most one proof ------------------------------------------------------------------------------------------------------
all_prop : {X : Type 0} (P : X → Type 0) → ((x : X) → IsProp (P x)) → (xs : List X) → IsProp (AllByRecursion P xs)
all_prop P h [] p q = refl
all_prop P h (x ∷ xs) p q = λ i. (h x p.0 q.0 i, all_prop P h xs p.1 q.1 i)

numbered_prop : (k : ℕ) (os : List Order) → IsProp (Numbered k os)
numbered_prop k [] p q = refl
numbered_prop k (o ∷ os) p q = λ i. (Coded-set coded_ℕ o.number k p.0 q.0 i, numbered_prop (suc k) os p.1 q.1 i)

once_prop : (ns : List ℕ) → IsProp (Once ns)
once_prop [] p q = refl
once_prop (n ∷ ns) p q = λ i. (all_prop (λ m. eqb m n ≡ false) (λ m. Coded-set coded_bool (eqb m n) false) ns p.0 q.0 i, once_prop ns p.1 q.1 i)

pub ruled_prop : (os : List Order) (l : List ℕ) (j : ℕ) → IsProp (Ruled os l j)
ruled_prop os l j p q = λ i. record {
  numbered = numbered_prop 1 os p.numbered q.numbered i;
  few = le_prop p.few q.few i;
  waits = all_prop (Waits os) (λ n. Coded-set coded_bool (loose_of (look n os)) true) l p.waits q.waits i;
  once = once_prop l p.once q.once i;
  room = le_prop p.room q.room i;
}

pub ruled : {os : List Order} {l : List ℕ} {j : ℕ} → ∥ Ruled os l j ∥₁ → Ruled os l j
ruled {os} {l} {j} x = ∥∥₁_elim x (ruled_prop os l j) (λ r. r)

-- numbers ----------------------------------------------------------------------------------------------------------------
counted : (k : ℕ) (os : List Order) → Numbered k os → Counted k (numbers os)
counted k [] h = tt
counted k (o ∷ os) h = (h.0, counted (suc k) os h.1)

numbered_same : (os us : List Order) → numbers us ≡ numbers os → Numbered 1 os → Numbered 1 us
numbered_same os us e h = numbered 1 us (subst (Counted 1) (sym e) (counted 1 os h))

length_same : (os us : List Order) → numbers us ≡ numbers os → length us ≡ length os
length_same os us e = sym (length_map (λ (o : Order). o.number) us) ∙ ap length e ∙ length_map (λ (o : Order). o.number) os

-- what the moves keep ----------------------------------------------------------------------------------------------------
pub ruled_same : {os us : List Order} {l : List ℕ} {j : ℕ} → numbers us ≡ numbers os → ((m : ℕ) → Waits os m → Waits us m) → filed us ≤ filed os → Ruled os l j → Ruled us l j
ruled_same {os} {us} {l} {j} e w f r = record {
  numbered = numbered_same os us e r.numbered;
  few = omega (arith, length_same os us e, r.few);
  waits = all_map (Waits os) (Waits us) l w r.waits;
  once = r.once;
  room = omega (arith, length_same os us e, r.room);
}

pub ruled_out : (n : ℕ) {os us : List Order} {l l' : List ℕ} {j j' : ℕ} → numbers us ≡ numbers os → ((m : ℕ) → (m ≡ n → ⊥) → Waits os m → Waits us m) → filed us ≤ filed os
    → l' ≡ without n l → j' ≤ j → Ruled os l j → Ruled us l' j'
ruled_out n {os} {us} {l} {l'} {j} {j'} e w f out le r = subst (λ x. Ruled us x j') (sym out) (record {
  numbered = numbered_same os us e r.numbered;
  few = omega (arith, length_same os us e, r.few);
  waits = all_without n (Waits us) l (all_map (Waits os) (λ m. (m ≡ n → ⊥) → Waits us m) l (λ m h ne. w m ne h) r.waits);
  once = once_without n l r.once;
  room = omega (arith, length_same os us e, r.room);
})

waits_other : (n m : ℕ) (f : Order → Order) (os : List Order) → ((o : Order) → (f o).number ≡ o.number) → (m ≡ n → ⊥) → Waits os m → Waits (alter n f os) m
waits_other n m f os k ne w = ap loose_of (look_past m n f os k ne) ∙ w

-- somebody leaves the line and nothing else happens
pub ruled_left : (n : ℕ) {os : List Order} {l l' : List ℕ} {j j' : ℕ} → l' ≡ without n l → j' ≤ j → Ruled os l j → Ruled os l' j'
ruled_left n {os} out le r = ruled_out n {os = os} {us = os} refl (λ m ne w. w) (omega arith) out le r

-- somebody leaves the line and changes otherwise
pub ruled_alter : (n : ℕ) (f : Order → Order) → ((o : Order) → (f o).number ≡ o.number) → ((o : Order) → only (is_filed (f o).place) 1 ≤ only (is_filed o.place) 1)
    → {os us : List Order} {l l' : List ℕ} {j j' : ℕ} → us ≡ alter n f os → l' ≡ without n l → j' ≤ j → Ruled os l j → Ruled us l' j'
ruled_alter n f k g {os} {us} {l} {l'} {j} {j'} e out le r =
    subst (λ x. Ruled x l' j') (sym e)
    (ruled_out n (numbers_alter n f k os) (λ m ne w. waits_other n m f os k ne w) (filed_alter n f g os) out le r)

-- a print ----------------------------------------------------------------------------------------------------------------
pub loose_fill : (q : ℕ) (o : Order) → is_loose o.place ≡ true → is_loose (fill q o).place ≡ true
loose_fill q o e = go (eqb (o.«open» - q) 0)
  where
    go : (b : Bool) → is_loose (cond b Nowhere o.place) ≡ true
    go true = refl
    go false = e

waits_dealt : (m : ℕ) (c : Side) (p : ℕ) (os : List Order) (gs : List ℕ) → Waits os m → Waits (deal c p os gs) m
unfolding Dealt
waits_dealt m c p os gs w = go (look m os) (look m (deal c p os gs)) (look_dealt m c p os gs) w
  where
    go : (x y : Option Order) → Dealt x y → loose_of x ≡ true → loose_of y ≡ true
    go None y h w = absurd (false≢true w)
    go (Some o) None h w = absurd h
    go (Some o) (Some u) (inl h) w = ap (λ (x : Order). is_loose x.place) h ∙ w
    go (Some o) (Some u) (inr h) w = ap (λ (x : Order). is_loose x.place) h.1 ∙ loose_fill h.0 o w

waits_alter : (m n : ℕ) (f : Order → Order) (os : List Order) → ((o : Order) → (f o).number ≡ o.number) → ((o : Order) → is_loose o.place ≡ true → is_loose (f o).place ≡ true)
    → Waits os m → Waits (alter n f os) m
waits_alter m n f os k h w = go (eqb m n) refl
  where
    same : (x : Option Order) → loose_of x ≡ true → loose_of (upon f x) ≡ true
    same None w = absurd (false≢true w)
    same (Some o) w = h o w

    go : (b : Bool) → eqb m n ≡ b → Waits (alter n f os) m
    go true e =
        let i : m ≡ n = eqb-true m n e in
        subst (λ x. Waits (alter n f os) x) (sym i) (ap loose_of (look_alter n f os k) ∙ same (look n os) (subst (Waits os) i w))
    go false e = waits_other n m f os k (eqb-false m n e) w

pub ruled_traded : (gifts : Rule) (n : ℕ) (c : Side) (p : ℕ) {os us : List Order} {l : List ℕ} {j : ℕ} → us ≡ traded gifts n c p os → Ruled os l j → Ruled us l j
ruled_traded gifts n c p {os} {us} {l} {j} e r =
    let q : ℕ = size n c p os in
    let gs : List ℕ = gifts (row c p os) (q - ahead c p os) in
    let ds : List Order = deal c p os gs in
    subst (λ x. Ruled x l j) (sym e)
    (ruled_same (numbers_alter n (fill q) (λ o. refl) ds ∙ numbers_deal c p os gs)
    (λ m w. waits_alter m n (fill q) ds (λ o. refl) (loose_fill q) (waits_dealt m c p os gs w))
    (omega (arith, filed_alter n (fill q) (filed_fill q) ds, filed_deal c p os gs)) r)

-- a filed stop joins the line --------------------------------------------------------------------------------------------
loose_filed : (x : Option Order) → loose_of x ≡ true → filed_of x ≡ true → ⊥
loose_filed None w e = false≢true w
loose_filed (Some o) w e = go o.place w e
  where
    go : (v : Place) → is_loose v ≡ true → is_filed v ≡ true → ⊥
    go Nowhere w e = false≢true e
    go Book w e = false≢true e
    go Line w e = false≢true e
    go StopFile w e = false≢true w

filed_one : (x : Option Order) → filed_of x ≡ true → val (λ o. only (is_filed o.place) 1) x ≡ 1
filed_one None e = absurd (false≢true e)
filed_one (Some o) e = ap (λ b. only b 1) e

filed_gone : (x : Option Order) → val (λ o. only (is_filed (put Line o).place) 1) x ≡ 0
filed_gone None = refl
filed_gone (Some o) = refl

pub filed_less : (n : ℕ) (os : List Order) → filed_of (look n os) ≡ true → filed (alter n (put Line) os) + 1 ≡ filed os
filed_less n os e = omega (arith, total_alter (λ o. only (is_filed o.place) 1) n (put Line) os, filed_one (look n os) e, filed_gone (look n os))

-- so there is room in line
pub room_in : (n : ℕ) {os : List Order} {l : List ℕ} {j : ℕ} → filed_of (look n os) ≡ true → Ruled os l j → j < 512
room_in n {os} e r = omega (arith, filed_less n os e, r.room, r.few)

upon_line : (x : Option Order) → filed_of x ≡ true → loose_of (upon (put Line) x) ≡ true
upon_line None e = absurd (false≢true e)
upon_line (Some o) e = refl

pub ruled_in : (n : ℕ) {os us : List Order} {l l' : List ℕ} {j j' : ℕ} → us ≡ alter n (put Line) os → filed_of (look n os) ≡ true → l' ≡ l ++ n ∷ [] → j' ≡ j + 1
    → Ruled os l j → Ruled us l' j'
ruled_in n {os} {us} {l} {l'} {j} {j'} e f into more r =
    let vs : List Order = alter n (put Line) os in
    let same : numbers vs ≡ numbers os = numbers_alter n (put Line) (λ o. refl) os in
    let other : (m : ℕ) → Waits os m → m ≡ n → ⊥ = λ m w i. loose_filed (look n os) (subst (Waits os) i w) f in
    subst (λ x. Ruled x l' j') (sym e) (subst (λ x. Ruled vs x j') (sym into) (record {
      numbered = numbered_same os vs same r.numbered;
      few = omega (arith, length_same os vs same, r.few);
      waits = all_push (Waits vs) l n (all_map (Waits os) (Waits vs) l (λ m w. waits_other n m (put Line) os (λ o. refl) (other m w) w) r.waits)
          (ap loose_of (look_alter n (put Line) os (λ o. refl)) ∙ upon_line (look n os) f);
      once = once_push n l (all_map (Waits os) (λ m. m ≡ n → ⊥) l other r.waits) r.once;
      room = omega (arith, more, length_same os vs same, filed_less n os f, r.room);
    }))
