-- No order is elected twice.
use Rattle.std.proofs.Common.{◌≡◌, ℕ, suc, ◌+◌, ◌-◌, ◌<◌, ◌≤◌, Bool, true, false, eqb, List, [], ◌∷◌, ◌++◌, map, Some, None, Option, sym, refl, ap, ◌∙◌, subst, inl, inr, ⊎_elim, arith}
use Rattle.std.proofs.lemmas.Bool.{false≢true, and_parts, eq-eqb, ne_eqb, eqb-true, cases_eq}
use Rattle.market.specs.declared.words.Side.{Side}
use Rattle.market.specs.declared.words.Place.TheVariants.{Book}
use Rattle.market.specs.declared.words.Order.{Order}
use Rattle.market.specs.declared.words.TapeLine.{TapeLine}
use Rattle.market.specs.declared.words.TapeLine.TheVariants.{Print, Cancel, Elect, Floor}
use Rattle.market.specs.Sides.{opposite, as_good}
use Rattle.market.specs.Orders.{fill, cancel, put}
use Rattle.sharing.specs.Shares.{LawfulRule}
use Rattle.replay.specs.Lists.{only, those, kept}
use Rattle.replay.specs.Days.{Day, Rule, new_day}
use Rattle.replay.specs.Rolls.{is_filed, look, found, alter, left, fresh}
use Rattle.replay.specs.Book.{row, ahead}
use Rattle.replay.specs.Moves.{low_of, high_of, deal, size, trade, leave, withdraw, rest, pause, elect, is_elected, called, centre, admit, floored, resumed, set_up, to}
use Rattle.replay.specs.Calls.{after_calls}
use Rattle.replay.specs.Elections.{elects}
use Rattle.replay.specs.OnlyFiled.{elections_of, ElectedOnce}
use Rattle.replay.proofs.Lists.{total_append, total_push}
use Rattle.replay.proofs.Runs.{Counted, numbers, fill_number, called_number}
use Rattle.replay.proofs.Calls.{put_number}
use Rattle.replay.proofs.Keeps.{Keeps, always}
use Rattle.replay.proofs.Idle.{upon, look_alter, look_past, Dealt, look_dealt}
use Rattle.replay.proofs.FiledBefore.{cancel_number, unfile_fill}

-- no order is elected twice -----------------------------------------------------------------------------------------------------------------------------
-- an order may be elected once while it is in the file or has not yet come
spare : Option Order → ℕ
spare None = 1
spare (Some o) = only (is_filed o.place) 1

module _ (n : ℕ) where
  abbrev Once : Day → Type 0
  Once d = elections_of n d.tape + spare (look n d.roll) ≤ 1

  spare_upon : (f : Order → Order) (x : Option Order) → ((o : Order) → is_filed (f o).place ≡ true → is_filed o.place ≡ true) → spare (upon f x) ≤ spare x
  unfolding spare
  spare_upon f None h = omega arith
  spare_upon f (Some o) h = go (is_filed (f o).place) (is_filed o.place) (h o)
    where
      go : (a b : Bool) → (a ≡ true → b ≡ true) → only a 1 ≤ only b 1
      go true true h = omega arith
      go true false h = absurd (false≢true (h refl))
      go false b h = omega arith

  spare_alter : (k : ℕ) (f : Order → Order) (os : List Order) → ((o : Order) → (f o).number ≡ o.number) → ((o : Order) → is_filed (f o).place ≡ true → is_filed o.place ≡ true) → spare (look n (alter k f os)) ≤ spare (look n os)
  spare_alter k f os e h = ⊎_elim
      (λ i. subst (λ m. spare (look n (alter m f os)) ≤ spare (look n os)) i (subst (λ x. spare x ≤ spare (look n os)) (sym (look_alter n f os e)) (spare_upon f (look n os) h)))
      (λ ne. subst (λ x. spare x ≤ spare (look n os)) (sym (look_past n k f os e ne)) (omega arith)) (cases_eq n k)

  spare_deal : (c : Side) (p : ℕ) (os : List Order) (gs : List ℕ) → spare (look n (deal c p os gs)) ≤ spare (look n os)
  unfolding Dealt
  spare_deal c p os gs = go (look n os) (look n (deal c p os gs)) (look_dealt n c p os gs)
    where
      go : (x y : Option Order) → Dealt x y → spare y ≤ spare x
      go None None h = omega arith
      go None (Some u) h = absurd h
      go (Some o) None h = absurd h
      go (Some o) (Some u) (inl h) = subst (λ v. spare (Some u) ≤ spare (Some v)) h (omega arith)
      go (Some o) (Some u) (inr h) = subst (λ v. spare (Some v) ≤ spare (Some o)) (sym h.1) (spare_upon (fill h.0) (Some o) (λ o x. unfile_fill h.0 o x))

  spare_push : (os : List Order) (x : Order) → spare (look n (os ++ (x ∷ []))) ≤ spare (look n os)
  unfolding look spare
  spare_push [] x = go (eqb x.number n) (is_filed x.place)
    where
      go : (b a : Bool) → spare (found b x None) ≤ 1
      go true a = one (is_filed x.place)
        where
          one : (a : Bool) → only a 1 ≤ 1
          one true = omega arith
          one false = omega arith
      go false a = omega arith
  spare_push (y ∷ os) x = go (eqb y.number n) (spare_push os x)
    where
      go : (b : Bool) → spare (look n (os ++ (x ∷ []))) ≤ spare (look n os) → spare (found b y (look n (os ++ (x ∷ [])))) ≤ spare (found b y (look n os))
      go true ih = omega arith
      go false ih = ih

  -- those above have no E line among the elected
  above : (t : Order → Bool) (j : ℕ) (os : List Order) → n < j → Counted j (numbers os) → elections_of n (map Elect (numbers (those t os))) ≡ 0
  above t j [] h c = refl
  above t j (o ∷ os) h c = go (t o) (above t (suc j) os (omega arith) c.1)
    where
      go : (b : Bool) → elections_of n (map Elect (numbers (those t os))) ≡ 0 → elections_of n (map Elect (numbers (kept b o (those t os)))) ≡ 0
      go true ih = ap (λ b. only b 1 + elections_of n (map Elect (numbers (those t os)))) (ne_eqb o.number n (λ e. omega (arith, c.0))) ∙ omega arith
      go false ih = ih

  elected_spare : (p j : ℕ) (os : List Order) → Counted j (numbers os)
      → elections_of n (map Elect (numbers (those (is_elected p) os))) + spare (look n (map (λ o. called (is_elected p o) o) os)) ≤ spare (look n os)
  unfolding look spare
  elected_spare p j [] c = omega arith
  elected_spare p j (o ∷ os) c = go (eqb o.number n) refl (elected_spare p (suc j) os c.1)
    where
      new : List Order
      new = map (λ o. called (is_elected p o) o) os

      mine : (t : Bool) → is_elected p o ≡ t → o.number ≡ n → elections_of n (map Elect (numbers (kept t o (those (is_elected p) os)))) + spare (Some (called t o)) ≤ spare (Some o)
      mine true h e =
          let f : is_filed o.place ≡ true = (and_parts (is_filed o.place) (as_good o.side p o.price) h).0 in
          let z : elections_of n (map Elect (numbers (those (is_elected p) os))) ≡ 0 = above (is_elected p) (suc j) os (omega (arith, c.0)) c.1 in
          let y : only (eqb o.number n) 1 ≡ 1 = ap (λ b. only b 1) (eq-eqb o.number n e) in
          let x : only (is_filed o.place) 1 ≡ 1 = ap (λ b. only b 1) f in
          omega arith
      mine false h e =
          let z : elections_of n (map Elect (numbers (those (is_elected p) os))) ≡ 0 = above (is_elected p) (suc j) os (omega (arith, c.0)) c.1 in
          omega arith

      other : (t : Bool) → eqb o.number n ≡ false → elections_of n (map Elect (numbers (kept t o (those (is_elected p) os)))) ≡ elections_of n (map Elect (numbers (those (is_elected p) os)))
      other true e = ap (λ b. only b 1 + elections_of n (map Elect (numbers (those (is_elected p) os)))) e ∙ omega arith
      other false e = refl

      number : eqb (called (is_elected p o) o).number n ≡ eqb o.number n
      number = ap (λ m. eqb m n) (called_number (is_elected p o) o)

      go : (b : Bool) → eqb o.number n ≡ b → elections_of n (map Elect (numbers (those (is_elected p) os))) + spare (look n new) ≤ spare (look n os)
          → elections_of n (map Elect (numbers (kept (is_elected p o) o (those (is_elected p) os)))) + spare (found (eqb (called (is_elected p o) o).number n) (called (is_elected p o) o) (look n new)) ≤ spare (found b o (look n os))
      go true e ih = subst (λ b. elections_of n (map Elect (numbers (kept (is_elected p o) o (those (is_elected p) os)))) + spare (found b (called (is_elected p o) o) (look n new)) ≤ spare (Some o)) (sym (number ∙ e))
          (mine (is_elected p o) refl (eqb-true o.number n e))
      go false e ih = subst (λ b. elections_of n (map Elect (numbers (kept (is_elected p o) o (those (is_elected p) os)))) + spare (found b (called (is_elected p o) o) (look n new)) ≤ spare (look n os)) (sym (number ∙ e))
          (subst (λ k. k + spare (look n new) ≤ spare (look n os)) (sym (other (is_elected p o) e)) ih)

  abbrev of_n : TapeLine → ℕ
  of_n x = only (elects n x) 1

  module _ (gifts : Rule) (lawful : LawfulRule gifts) where
    trade_once : (r : Order) (p : ℕ) (d : Day) → Once d → Once (trade gifts r.number (opposite r.side) p d)
    unfolding trade
    trade_once r p d h =
        let q : ℕ = size r.number (opposite r.side) p d.roll in
        let os : List Order = deal (opposite r.side) p d.roll (gifts (row (opposite r.side) p d.roll) (q - ahead (opposite r.side) p d.roll)) in
        omega (
          arith,
          total_push of_n d.tape (Print r.number p q (low_of d.range) (high_of d.range)),
          spare_deal (opposite r.side) p d.roll (gifts (row (opposite r.side) p d.roll) (q - ahead (opposite r.side) p d.roll)),
          spare_alter r.number (fill q) os (λ o. fill_number q o) (λ o x. unfile_fill q o x),
        )

    once_keeps : Keeps gifts lawful Once
    unfolding trade leave withdraw rest pause elect centre admit floored resumed set_up to
    once_keeps = record {
      trade = λ r p d m k h. trade_once r p d h;
      leave = λ r d m e h. h;
      withdraw = λ k d c h. omega (arith, total_push of_n d.tape (Cancel k (left k d.roll)), spare_alter k cancel d.roll cancel_number (λ o x. absurd (false≢true x)));
      rest = λ r d m w e c h. omega (arith, spare_alter r.number (put Book) d.roll (put_number Book) (λ o x. absurd (false≢true x)));
      pause = λ d h. h;
      elect = λ p d s h. omega (arith, total_append of_n d.tape (map Elect (numbers (those (is_elected p) d.roll))), elected_spare p 1 d.roll s.counted);
      centre = λ d h. h;
      admit = λ k s m p q w d sd ch pl h. omega (arith, spare_push d.roll (put w (fresh k s m p q d.roll)));
      floored = λ p q d _ h. omega (arith, total_push of_n d.tape (Floor p q));
      resumed = λ d h. h;
      set_up = λ k c p d _ _ h. h;
      to = λ f d h. h;
    }

    new_once : Once new_day
    unfolding new_day look spare
    new_once = omega arith

pub elected_once : ElectedOnce
elected_once gifts lawful room cs n = let h : Once n (after_calls gifts room new_day cs) = always gifts lawful (Once n) (once_keeps n gifts lawful) (new_once n gifts lawful) room cs in omega arith
