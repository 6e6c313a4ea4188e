-- An order that has run is out of the line, unless trading is paused; and who is out stays out.
use Rattle.std.proofs.Common.{◌≡◌, ℕ, zero, suc, ◌-◌, Bool, true, false, cond, ◌&&◌, eqb, ◌⊎◌, List, [], ◌∷◌, ◌++◌, map, Some, None, Option, sym, refl, ap, ◌∙◌, subst, inl, inr, ⊎_elim, arith}
use Rattle.std.proofs.lemmas.Bool.{false≢true, cases_eq}
use Rattle.market.specs.declared.words.Side.{Side}
use Rattle.market.specs.declared.words.Kind.{Kind}
use Rattle.market.specs.declared.words.Kind.TheVariants.{Limit, Market, ImmediateOrCancel, Stop}
use Rattle.market.specs.declared.words.Place.{Place}
use Rattle.market.specs.declared.words.Place.TheVariants.{Nowhere, Book, Line, StopFile}
use Rattle.market.specs.declared.words.Order.{Order}
use Rattle.market.specs.Sides.{opposite, as_good}
use Rattle.market.specs.Orders.{where_with, fill, cancel, put}
use Rattle.sharing.specs.Shares.{LawfulRule}
use Rattle.replay.specs.Lists.{any}
use Rattle.replay.specs.Days.{Day, Rule}
use Rattle.replay.specs.Rolls.{is_filed, look, found, alter, left, open_of, fresh}
use Rattle.replay.specs.Book.{is_contra}
use Rattle.replay.specs.Moves.{deal, size, trade, leave, withdraw, rest, pause, elect, is_elected, called, centre, admit, floored, resumed, set_up, to}
use Rattle.replay.specs.Runs.{residual, settle_of, settle}
use Rattle.replay.proofs.Runs.{Mid, fill_number, called_number}
use Rattle.replay.proofs.Calls.{put_number}
use Rattle.replay.proofs.Keeps.{Keeps}
use Rattle.replay.proofs.Idle.{upon, look_alter, look_past, Dealt, look_dealt}

-- looking up -------------------------------------------------------------------------------------------------------------------------------------
pub look_map : (n : ℕ) (f : Order → Order) (os : List Order) → ((o : Order) → (f o).number ≡ o.number) → look n (map f os) ≡ upon f (look n os)
unfolding look
look_map n f [] k = refl
look_map n f (o ∷ os) k = ap (λ m. found (eqb m n) (f o) (look n (map f os))) (k o) ∙ go (eqb o.number n) (look_map n f os k)
  where
    go : (b : Bool) → look n (map f os) ≡ upon f (look n os) → found b (f o) (look n (map f os)) ≡ upon f (found b o (look n os))
    go true ih = refl
    go false ih = ih

pub look_elected : (n p : ℕ) (os : List Order) → look n (map (λ o. called (is_elected p o) o) os) ≡ upon (λ o. called (is_elected p o) o) (look n os)
look_elected n p os = look_map n (λ o. called (is_elected p o) o) os (λ o. called_number (is_elected p o) o)

pub look_front : (n : ℕ) (os ys : List Order) (o : Order) → look n os ≡ Some o → look n (os ++ ys) ≡ Some o
unfolding look
look_front n [] ys o i = absurd (let z : ◌≡◌ {A = ℕ} 0 1 = cc in omega arith)
look_front n (x ∷ os) ys o i = go (eqb x.number n) i (look_front n os ys o)
  where
    go : (b : Bool) → found b x (look n os) ≡ Some o → (look n os ≡ Some o → look n (os ++ ys) ≡ Some o) → found b x (look n (os ++ ys)) ≡ Some o
    go true i ih = i
    go false i ih = ih i

-- out of the line, and not in the stop file --------------------------------------------------------------------------------------------------------
abbrev pub is_done : Place → Bool
is_done Nowhere = true
is_done Book = true
is_done Line = false
is_done StopFile = false

not_filed : (w : Place) → is_done w ≡ true → is_filed w ≡ false
not_filed Nowhere e = refl
not_filed Book e = refl
not_filed Line e = refl
not_filed StopFile e = absurd (false≢true e)

fill_done : (q : ℕ) (o : Order) → is_done o.place ≡ true → is_done (fill q o).place ≡ true
fill_done q o e = go (eqb (o.«open» - q) 0)
  where
    go : (b : Bool) → is_done (cond b Nowhere o.place) ≡ true
    go true = refl
    go false = e

cancel_number : (o : Order) → (cancel o).number ≡ o.number
cancel_number o = refl

cancel_done : (o : Order) → is_done (cancel o).place ≡ true
cancel_done o = refl

rest_done : (o : Order) → is_done (put Book o).place ≡ true
rest_done o = refl

module _ (n : ℕ) where
  abbrev pub Done : List Order → Type 0
  Done os = (o : Order) × (look n os ≡ Some o) × (is_done o.place ≡ true)

  -- it is out, or nobody may run
  abbrev pub Out : Day → Type 0
  Out d = (d.paused ≡ true) ⊎ Done d.roll

  done_alter : (k : ℕ) (f : Order → Order) (os : List Order) → ((o : Order) → (f o).number ≡ o.number) → ((o : Order) → is_done o.place ≡ true → is_done (f o).place ≡ true) → Done os → Done (alter k f os)
  done_alter k f os e h g = ⊎_elim
      (λ i. (f g.0, subst (λ x. look n (alter x f os) ≡ Some (f g.0)) i (look_alter n f os e ∙ ap (upon f) g.1), h g.0 g.2))
      (λ ne. (g.0, look_past n k f os e ne ∙ g.1, g.2)) (cases_eq n k)

  done_deal : (c : Side) (p : ℕ) (os : List Order) (gs : List ℕ) → Done os → Done (deal c p os gs)
  unfolding Dealt
  done_deal c p os gs g = go (look n (deal c p os gs)) refl (subst (λ x. Dealt x (look n (deal c p os gs))) g.1 (look_dealt n c p os gs))
    where
      go : (y : Option Order) → look n (deal c p os gs) ≡ y → Dealt (Some g.0) y → Done (deal c p os gs)
      go None i h = absurd h
      go (Some u) i (inl h) = (u, i, ap (λ (x : Order). is_done x.place) h ∙ g.2)
      go (Some u) i (inr h) = (u, i, ap (λ (x : Order). is_done x.place) h.1 ∙ fill_done h.0 g.0 g.2)

  done_elect : (p : ℕ) (d : Day) → Done d.roll → Done (elect p d).roll
  unfolding elect
  done_elect p d g =
      let o : Order = g.0 in
      (o, look_elected n p d.roll ∙ ap (upon (λ x. called (is_elected p x) x)) g.1 ∙ ap (λ b. Some (called (b && as_good o.side p o.price) o)) (not_filed o.place g.2), g.2)

  pub done_keeps : (gifts : Rule) (lawful : LawfulRule gifts) → Keeps gifts lawful (λ d. Done d.roll)
  unfolding trade leave withdraw rest pause centre admit floored resumed set_up to
  done_keeps gifts lawful = record {
    trade = λ r p d m k h. done_alter r.number (fill (size r.number (opposite r.side) p d.roll)) _ (λ o. fill_number (size r.number (opposite r.side) p d.roll) o) (λ o. fill_done (size r.number (opposite r.side) p d.roll) o)
        (done_deal (opposite r.side) p d.roll _ h);
    leave = λ r d m e h. h;
    withdraw = λ k d c h. done_alter k cancel d.roll cancel_number (λ o _. cancel_done o) h;
    rest = λ r d m w e c h. done_alter r.number (put Book) d.roll (put_number Book) (λ o _. rest_done o) h;
    pause = λ d h. h;
    elect = λ p d s h. done_elect p d h;
    centre = λ d h. h;
    admit = λ k s m p q w d sd ch pl h. (h.0, look_front n d.roll (put w (fresh k s m p q d.roll) ∷ []) h.0 h.1, h.2);
    floored = λ p q d _ h. h;
    resumed = λ d h. h;
    set_up = λ k c p d _ _ h. h;
    to = λ f d h. h;
  }

  pub out_elect : (p : ℕ) (d : Day) → Out d → Out (elect p d)
  unfolding elect
  out_elect p d (inl e) = inl e
  out_elect p d (inr h) = inr (done_elect p d h)

  pub out_centre : (d : Day) → Out d → Out (centre d)
  unfolding centre
  out_centre d h = h

-- what is left of an order is settled: it is out, or trading is paused ------------------------------------------------------------------------------
withdraw_out : (r : Order) (d : Day) → Mid r d → Done r.number (withdraw r.number d).roll
unfolding withdraw
withdraw_out r d m = (cancel m.runner, look_alter r.number cancel d.roll cancel_number ∙ ap (upon cancel) m.is, cancel_done m.runner)

rest_out : (r : Order) (d : Day) → Mid r d → Done r.number (rest r.number d).roll
unfolding rest
rest_out r d m = (put Book m.runner, look_alter r.number (put Book) d.roll (put_number Book) ∙ ap (upon (put Book)) m.is, rest_done m.runner)

leave_out : (r : Order) (d : Day) → Mid r d → left r.number d.roll ≡ 0 → Done r.number (leave r.number d).roll
unfolding leave left
leave_out r d m e = (m.runner, m.is, ap is_done m.spotted ∙ ap (λ k. is_done (where_with k Line)) (sym (ap open_of m.is) ∙ e))

residual_out : (r : Order) (b : Bool) (k : Kind) (d : Day) → Mid r d → Out r.number (residual r.number b k d)
unfolding pause
residual_out r true Limit d m = inl refl
residual_out r true Market d m = inl refl
residual_out r true Stop d m = inl refl
residual_out r true ImmediateOrCancel d m = inl refl
residual_out r false Limit d m = inr (rest_out r d m)
residual_out r false Market d m = inr (withdraw_out r d m)
residual_out r false Stop d m = inr (withdraw_out r d m)
residual_out r false ImmediateOrCancel d m = inr (withdraw_out r d m)

pub settle_out : (r : Order) (d : Day) → Mid r d → Out r.number (settle r d)
unfolding settle
settle_out r d m = go (left r.number d.roll) refl
  where
    go : (l : ℕ) → left r.number d.roll ≡ l → Out r.number (settle_of l r.number (any (is_contra r) d.roll) r.kind d)
    go zero e = inr (leave_out r d m e)
    go (suc l) e = residual_out r (any (is_contra r) d.roll) r.kind d m
