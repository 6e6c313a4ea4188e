-- No fill passes its order's limit or the range in force; an order's filled shares are the sum of its fills.
use Rattle.std.proofs.Common.{◌≡◌, ℕ, zero, suc, ◌+◌, ◌-◌, ◌<◌, ◌≤◌, Bool, true, false, ◌&&◌, eqb, leb, ◌⊎◌, List, [], ◌∷◌, ◌++◌, map, length, Some, None, Option, sym, refl, ap, ◌∙◌, subst, inl, inr, ⊎_elim, arith}
use Rattle.std.proofs.lemmas.Bool.{and_parts, eq-eqb, ne_eqb, eqb-true, cases_eq, ltb-true, leb-true, le-leb}
use Rattle.std.specs.List.{AllZip, AllByRecursion}
use Rattle.market.specs.declared.words.Side.{Side}
use Rattle.market.specs.declared.words.Side.TheVariants.{Buy, Sell}
use Rattle.market.specs.declared.words.Kind.{Kind}
use Rattle.market.specs.declared.words.Kind.TheVariants.{Limit, Market, ImmediateOrCancel, Stop}
use Rattle.market.specs.declared.words.Place.{Place}
use Rattle.market.specs.declared.words.Place.TheVariants.{Book, Line}
use Rattle.market.specs.declared.words.Order.{Order}
use Rattle.market.specs.declared.words.Range.{Range}
use Rattle.market.specs.declared.words.TapeLine.{TapeLine}
use Rattle.market.specs.declared.words.TapeLine.TheVariants.{Print, Cancel, Elect, Floor}
use Rattle.market.specs.Sides.{opposite, same_side, better, as_good}
use Rattle.market.specs.Orders.{rests_on, is_book, fill, cancel, put, in_limit, within_limit}
use Rattle.market.specs.Ranges.{in_range}
use Rattle.sharing.specs.Shares.{LawfulRule}
use Rattle.replay.specs.Lists.{only, total, those, kept}
use Rattle.replay.specs.Days.{Fill, Day, Rule, new_day}
use Rattle.replay.specs.Rolls.{look, found, alter, left, fresh}
use Rattle.replay.specs.Book.{is_at, is_better, row, ahead}
use Rattle.replay.specs.Moves.{low_of, high_of, deal, part, gift, after, filled_by, taken, size, trade, leave, withdraw, rest, pause, elect, is_elected, called, centre, admit, floored, resumed, set_up, to, dealt}
use Rattle.replay.specs.BookInOrder.{InShown, WithinLimit, shares_of, OfPrint, FilledBy}
use Rattle.replay.proofs.Lists.{append_append, append_none, total_append, total_push, all_append, all_map}
use Rattle.replay.proofs.Sharing.{Gift}
use Rattle.replay.proofs.Rolls.{is_better_is_at, val, total_alter, only_add, only_zero, look_deal, same_side_lem}
use Rattle.replay.proofs.Conservation.{Ready, fits, zip, gs_sum}
use Rattle.replay.proofs.Moves.{total_called}
use Rattle.replay.proofs.Runs.{Sound, Mid, Prints, Counted, numbers, fill_number, called_number, trade_ready, look_number}
use Rattle.replay.proofs.Calls.{put_number}
use Rattle.replay.proofs.Keeps.{Keeps}
use Rattle.replay.proofs.Idle.{upon, look_alter, look_past, Dealt, look_dealt, counted_look}

-- sums ------------------------------------------------------------------------------------------------------------------------------------
abbrev filled_of : ℕ → Order → ℕ
filled_of m o = only (eqb o.number m) o.filled

total_filled_by : (m q n p : ℕ) (g : Option Range) (fs : List Fill) → total (shares_of m) (filled_by q n p g fs) ≡ only (eqb n m) q + total (shares_of m) fs
total_filled_by m zero n p g fs = omega (arith, only_zero (eqb n m))
total_filled_by m (suc q) n p g fs = refl

dealt_filled : (m : ℕ) (b t : Bool) (gs : List ℕ) (o : Order) → filled_of m (dealt b t gs o) ≡ filled_of m o + only (eqb o.number m) (part b t o.«open» gs)
dealt_filled m true t gs o = only_add (eqb o.number m) o.filled o.«open»
dealt_filled m false true gs o = only_add (eqb o.number m) o.filled (gift gs)
dealt_filled m false false gs o = omega (arith, only_zero (eqb o.number m))

deal_fills : (m : ℕ) (c : Side) (p : ℕ) (g : Option Range) (os : List Order) (gs : List ℕ)
    → total (filled_of m) (deal c p os gs) ≡ total (filled_of m) os + total (shares_of m) (taken c p g os gs)
unfolding deal taken
deal_fills m c p g [] gs = refl
deal_fills m c p g (o ∷ os) gs =
    let q : ℕ = part (is_better c p o) (is_at c p o) o.«open» gs in
    let gs' : List ℕ = after (is_at c p o) gs in
    let e : filled_of m (dealt (is_better c p o) (is_at c p o) gs o) ≡ filled_of m o + only (eqb o.number m) q = dealt_filled m (is_better c p o) (is_at c p o) gs o in
    let f : total (shares_of m) (filled_by q o.number p g (taken c p g os gs')) ≡ only (eqb o.number m) q + total (shares_of m) (taken c p g os gs') = total_filled_by m q o.number p g (taken c p g os gs') in
    omega (arith, e, f, deal_fills m c p g os gs')

-- a roll on which every order is found again, with its terms -----------------------------------------------------------------------------------
pub record Terms (o u : Order) : Type 0 where
  pub side : u.side ≡ o.side
  pub kind : u.kind ≡ o.kind
  pub price : u.price ≡ o.price

abbrev pub Kept : List Order → List Order → Type 0
Kept os us = (n : ℕ) (o : Order) → look n os ≡ Some o → (u : Order) × (look n us ≡ Some u) × Terms o u

some_inj : {x y : Order} → Some x ≡ Some y → x ≡ y
some_inj e = cc

terms_limit : (o u : Order) (p : ℕ) → Terms o u → in_limit o p ≡ true → in_limit u p ≡ true
terms_limit o u p t e = ap (λ z. test z u.kind u.price) t.side ∙ ap (λ z. test o.side z u.price) t.kind ∙ ap (λ z. test o.side o.kind z) t.price ∙ e
  where
    test : Side → Kind → ℕ → Bool
    test s k l = within_limit k s l p

kept_limit : (os us : List Order) → Kept os us → (f : Fill) → WithinLimit os f → WithinLimit us f
kept_limit os us k f w =
    let h : (u : Order) × (look f.order us ≡ Some u) × Terms w.0 u = k f.order w.0 w.1 in
    (h.0, h.1, terms_limit w.0 h.0 f.price h.2 w.2)

terms_self : (o : Order) → Terms o o
terms_self o = record { side = refl; kind = refl; price = refl }

pub kept_self : (os : List Order) → Kept os os
kept_self os n o e = (o, e, terms_self o)

pub kept_trans : (os us vs : List Order) → Kept os us → Kept us vs → Kept os vs
kept_trans os us vs j k n o e =
    let h : (u : Order) × (look n us ≡ Some u) × Terms o u = j n o e in
    let i : (v : Order) × (look n vs ≡ Some v) × Terms h.0 v = k n h.0 h.1 in
    (i.0, i.1, record { side = i.2.side ∙ h.2.side; kind = i.2.kind ∙ h.2.kind; price = i.2.price ∙ h.2.price })

pub kept_alter : (n : ℕ) (f : Order → Order) (os : List Order) → ((o : Order) → (f o).number ≡ o.number) → ((o : Order) → Terms o (f o)) → Kept os (alter n f os)
kept_alter n f os k t m o e = ⊎_elim
    (λ h. (f o, subst (λ x. look x (alter n f os) ≡ Some (f o)) (sym h) (look_alter n f os k ∙ ap (upon f) (subst (λ x. look x os ≡ Some o) h e)), t o))
    (λ ne. (o, look_past m n f os k ne ∙ e, terms_self o)) (cases_eq m n)

pub terms_fill : (q : ℕ) (o : Order) → Terms o (fill q o)
terms_fill q o = record { side = refl; kind = refl; price = refl }

pub kept_deal : (c : Side) (p : ℕ) (os : List Order) (gs : List ℕ) → Kept os (deal c p os gs)
unfolding Dealt
kept_deal c p os gs n o e = go (look n (deal c p os gs)) refl (subst (λ x. Dealt x (look n (deal c p os gs))) e (look_dealt n c p os gs))
  where
    go : (y : Option Order) → look n (deal c p os gs) ≡ y → Dealt (Some o) y → (u : Order) × (look n (deal c p os gs) ≡ Some u) × Terms o u
    go None i h = absurd h
    go (Some u) i (inl h) = (u, i, subst (Terms o) (sym h) (terms_self o))
    go (Some u) i (inr h) = (u, i, subst (Terms o) (sym h.1) (terms_fill h.0 o))

terms_called : (t : Bool) (o : Order) → Terms o (called t o)
terms_called true o = record { side = refl; kind = refl; price = refl }
terms_called false o = terms_self o

pub kept_called : (p : ℕ) (os : List Order) → Kept os (map (λ o. called (is_elected p o) o) os)
unfolding look
kept_called p [] n o e = (o, e, terms_self o)
kept_called p (x ∷ os) n o e = go (eqb x.number n) (ap (λ m. eqb m n) (called_number (is_elected p x) x)) e (kept_called p os n o)
  where
    new : List Order
    new = map (λ o. called (is_elected p o) o) os

    go : (b : Bool) → eqb (called (is_elected p x) x).number n ≡ b → found b x (look n os) ≡ Some o → (look n os ≡ Some o → (u : Order) × (look n new ≡ Some u) × Terms o u)
        → (u : Order) × (found (eqb (called (is_elected p x) x).number n) (called (is_elected p x) x) (look n new) ≡ Some u) × Terms o u
    go true t e ih = (called (is_elected p x) x, ap (λ b. found b (called (is_elected p x) x) (look n new)) t, subst (λ z. Terms z (called (is_elected p x) x)) (some_inj e) (terms_called (is_elected p x) x))
    go false t e ih = let h : (u : Order) × (look n new ≡ Some u) × Terms o u = ih e in (h.0, ap (λ b. found b (called (is_elected p x) x) (look n new)) t ∙ h.1, h.2)

pub kept_push : (os : List Order) (x : Order) → Kept os (os ++ (x ∷ []))
unfolding look
kept_push [] x n o e = absurd (let z : ◌≡◌ {A = ℕ} 0 1 = cc in omega arith)
kept_push (y ∷ os) x n o e = go (eqb y.number n) e (kept_push os x n o)
  where
    go : (b : Bool) → found b y (look n os) ≡ Some o → (look n os ≡ Some o → (u : Order) × (look n (os ++ (x ∷ [])) ≡ Some u) × Terms o u)
        → (u : Order) × (found b y (look n (os ++ (x ∷ []))) ≡ Some u) × Terms o u
    go true e ih = (o, e, terms_self o)
    go false e ih = ih e

-- the fills of one print -----------------------------------------------------------------------------------------------------------------------
shown : (g : Option Range) (n p q : ℕ) → in_range g p ≡ true → InShown (record { order = n; price = p; shares = q; low = low_of g; high = high_of g })
shown None n p q e = inl (refl, refl)
shown (Some g) n p q e =
    let lo : ℕ = g.low in
    let hi : ℕ = g.high in
    let h : (leb lo p ≡ true) × (leb p hi ≡ true) = and_parts (leb lo p) (leb p hi) e in inr (leb-true lo p h.0, leb-true p hi h.1)

pub all_filled_by : (Q : Fill → Type 0) (q n p : ℕ) (g : Option Range) (fs : List Fill) → (0 < q → Q (record { order = n; price = p; shares = q; low = low_of g; high = high_of g })) → AllByRecursion Q fs → AllByRecursion Q (filled_by q n p g fs)
all_filled_by Q zero n p g fs h a = a
all_filled_by Q (suc q) n p g fs h a = (h (omega arith), a)

taken_shown : (c : Side) (p : ℕ) (g : Option Range) → in_range g p ≡ true → (os : List Order) (gs : List ℕ) → AllByRecursion InShown (taken c p g os gs)
unfolding taken
taken_shown c p g e [] gs = tt
taken_shown c p g e (o ∷ os) gs =
    all_filled_by InShown (part (is_better c p o) (is_at c p o) o.«open» gs) o.number p g _ (λ _. shown g o.number p (part (is_better c p o) (is_at c p o) o.«open» gs) e) (taken_shown c p g e os (after (is_at c p o) gs))

-- who gives shares at p does not pass its limit
no_worse : (s c : Side) (x p : ℕ) → s ≡ c → (better c x p ≡ true) ⊎ (eqb x p ≡ true) → as_good (opposite s) p x ≡ true
no_worse s c x p e h = ap (λ z. as_good (opposite z) p x) e ∙ go c h
  where
    go : (c : Side) → (better c x p ≡ true) ⊎ (eqb x p ≡ true) → as_good (opposite c) p x ≡ true
    go Buy (inl h) = le-leb p x (omega (arith, ltb-true p x h))
    go Buy (inr h) = le-leb p x (omega (arith, eqb-true x p h))
    go Sell (inl h) = le-leb x p (omega (arith, ltb-true x p h))
    go Sell (inr h) = le-leb x p (omega (arith, eqb-true x p h))

gives : (c : Side) (p : ℕ) (o : Order) (gs : List ℕ) → 0 < part (is_better c p o) (is_at c p o) o.«open» gs → in_limit o p ≡ true
gives c p o gs h = go (is_better c p o) (is_at c p o) refl refl h
  where
    of : (t : Bool) → (rests_on c o && t) ≡ true → (o.side ≡ c) × (t ≡ true)
    of t e = let h : (rests_on c o ≡ true) × (t ≡ true) = and_parts (rests_on c o) t e in (same_side_lem o.side c (and_parts (is_book o.place) (same_side o.side c) h.0).1, h.1)

    by_kind : (k : Kind) → as_good (opposite o.side) p o.price ≡ true → within_limit k o.side o.price p ≡ true
    by_kind Limit e = e
    by_kind Market e = refl
    by_kind ImmediateOrCancel e = e
    by_kind Stop e = refl

    go : (b t : Bool) → is_better c p o ≡ b → is_at c p o ≡ t → 0 < part b t o.«open» gs → in_limit o p ≡ true
    go true t e f h = let k : (o.side ≡ c) × (better c o.price p ≡ true) = of (better c o.price p) e in by_kind o.kind (no_worse o.side c o.price p k.0 (inl k.1))
    go false true e f h = let k : (o.side ≡ c) × (eqb o.price p ≡ true) = of (eqb o.price p) f in by_kind o.kind (no_worse o.side c o.price p k.0 (inr k.1))
    go false false e f h = absurd (omega arith)

taken_limit : (c : Side) (p : ℕ) (g : Option Range) (os xs : List Order) (gs : List ℕ) → AllByRecursion (λ o. look o.number os ≡ Some o) xs → AllByRecursion (WithinLimit os) (taken c p g xs gs)
unfolding taken
taken_limit c p g os [] gs a = tt
taken_limit c p g os (o ∷ xs) gs a =
    all_filled_by (WithinLimit os) (part (is_better c p o) (is_at c p o) o.«open» gs) o.number p g _ (λ h. (o, a.0, gives c p o gs h)) (taken_limit c p g os xs (after (is_at c p o) gs) a.1)

-- the law ---------------------------------------------------------------------------------------------------------------------------------------
pub record Fair (d : Day) : Type 0 where
  pub sums : (m : ℕ) → total (filled_of m) d.roll ≡ total (shares_of m) d.fills
  pub limit : AllByRecursion (WithinLimit d.roll) d.fills
  pub range : AllByRecursion InShown d.fills

fair_same : (d e : Day) → ((m : ℕ) → total (filled_of m) e.roll ≡ total (filled_of m) d.roll) → Kept d.roll e.roll → e.fills ≡ d.fills → Fair d → Fair e
fair_same d e s k f h = record {
  sums = λ m. s m ∙ h.sums m ∙ ap (λ fs. total (shares_of m) fs) (sym f);
  limit = subst (λ fs. AllByRecursion (WithinLimit e.roll) fs) (sym f) (all_map _ _ d.fills (λ x w. kept_limit d.roll e.roll k x w) h.limit);
  range = subst (λ fs. AllByRecursion InShown fs) (sym f) h.range;
}

cancel_sums : (n : ℕ) (os : List Order) (m : ℕ) → total (filled_of m) (alter n cancel os) ≡ total (filled_of m) os
cancel_sums n os m = omega (arith, total_alter (filled_of m) n cancel os)

put_sums : (w : Place) (n : ℕ) (os : List Order) (m : ℕ) → total (filled_of m) (alter n (put w) os) ≡ total (filled_of m) os
put_sums w n os m = omega (arith, total_alter (filled_of m) n (put w) os)

push_sums : (w : Place) (k : Kind) (s : Side) (j p q : ℕ) (os : List Order) (m : ℕ) → total (filled_of m) (os ++ (put w (fresh k s j p q os) ∷ [])) ≡ total (filled_of m) os
unfolding fresh
push_sums w k s j p q os m = total_push (filled_of m) os (put w (fresh k s j p q os)) ∙ omega (arith, only_zero (eqb (suc (length os)) m))

pub cancel_number : (o : Order) → (cancel o).number ≡ o.number
cancel_number o = refl

pub cancel_terms : (o : Order) → Terms o (cancel o)
cancel_terms o = record { side = refl; kind = refl; price = refl }

pub put_terms : (o : Order) → Terms o (put Book o)
put_terms o = record { side = refl; kind = refl; price = refl }

waiting_same : (j : ℕ) (o : Order) → filled_of j (put Line o) ≡ filled_of j o
waiting_same j o = refl

fill_add : (j : ℕ) (x : Order) (q a b : ℕ) → a + filled_of j x ≡ b + filled_of j (fill q x) → a ≡ b + only (eqb x.number j) q
fill_add j x q a b h = omega (arith, only_add (eqb x.number j) x.filled q)

module _ (gifts : Rule) (lawful : LawfulRule gifts) where
  trade_fair : (r : Order) (p : ℕ) (d : Day) → Mid r d → Prints r p d → Fair d → Fair (trade gifts r.number (opposite r.side) p d)
  unfolding trade
  trade_fair r p d m k h = record {
    sums = λ j. sums j;
    limit = all_append (WithinLimit new) d.fills _ (all_map _ _ d.fills (λ f w. kept_limit os new kept_new f w) h.limit)
        (all_filled_by (WithinLimit new) q n p d.range _ (λ _. mine)
        (all_map _ _ (taken c p d.range os gs) (λ f w. kept_limit os new kept_new f w) (taken_limit c p d.range os os gs (counted_look 1 os m.counted))));
    range = all_append InShown d.fills _ h.range (all_filled_by InShown q n p d.range _ (λ _. shown d.range n p q k.range) (taken_shown c p d.range k.range os gs));
  }
    where
      n : ℕ
      n = r.number

      c : Side
      c = opposite r.side

      os : List Order
      os = d.roll

      q : ℕ
      q = size n c p os

      gs : List ℕ
      gs = gifts (row c p os) (q - ahead c p os)

      new : List Order
      new = alter n (fill q) (deal c p os gs)

      kept_new : Kept os new
      kept_new = kept_trans os (deal c p os gs) new (kept_deal c p os gs) (kept_alter n (fill q) (deal c p os gs) (λ o. fill_number q o) (λ o. terms_fill q o))

      ready : Ready n m.runner c p os
      ready = trade_ready gifts lawful r p d m k

      there : look n (deal c p os gs) ≡ Some m.runner
      there = look_deal n c p os gs m.runner m.is (ap is_book ready.waits)

      mine : WithinLimit new (record { order = n; price = p; shares = q; low = low_of d.range; high = high_of d.range })
      mine = kept_limit os new kept_new (record { order = n; price = p; shares = q; low = low_of d.range; high = high_of d.range }) (m.runner, m.is, terms_limit r m.runner p (record { side = m.side; kind = m.kind; price = m.price }) k.limit)

      runs : (j : ℕ) → total (filled_of j) new ≡ total (filled_of j) (deal c p os gs) + only (eqb n j) q
      runs j = go j m.runner there (total_alter (filled_of j) n (fill q) (deal c p os gs))
        where
          go : (j : ℕ) (x : Order) → look n (deal c p os gs) ≡ Some x
              → total (filled_of j) new + val (filled_of j) (look n (deal c p os gs)) ≡ total (filled_of j) (deal c p os gs) + val (λ o. filled_of j (fill q o)) (look n (deal c p os gs))
              → total (filled_of j) new ≡ total (filled_of j) (deal c p os gs) + only (eqb n j) q
          go j x e h = add j x (number_of x e) (subst (λ y. total (filled_of j) new + val (filled_of j) y ≡ total (filled_of j) (deal c p os gs) + val (λ o. filled_of j (fill q o)) y) e h)
            where
              number_of : (x : Order) → look n (deal c p os gs) ≡ Some x → x.number ≡ n
              number_of x e = look_number n (deal c p os gs) x e

              add : (j : ℕ) (x : Order) → x.number ≡ n → total (filled_of j) new + filled_of j x ≡ total (filled_of j) (deal c p os gs) + filled_of j (fill q x)
                  → total (filled_of j) new ≡ total (filled_of j) (deal c p os gs) + only (eqb n j) q
              add j x e h = subst (λ y. total (filled_of j) new ≡ total (filled_of j) (deal c p os gs) + only (eqb y j) q) e (fill_add j x q (total (filled_of j) new) (total (filled_of j) (deal c p os gs)) h)

      sums : (j : ℕ) → total (filled_of j) new ≡ total (shares_of j) (d.fills ++ filled_by q n p d.range (taken c p d.range os gs))
      sums j =
          let e₁ : total (filled_of j) new ≡ total (filled_of j) (deal c p os gs) + only (eqb n j) q = runs j in
          let e₂ : total (filled_of j) (deal c p os gs) ≡ total (filled_of j) os + total (shares_of j) (taken c p d.range os gs) = deal_fills j c p d.range os gs in
          let e₃ : total (filled_of j) os ≡ total (shares_of j) d.fills = h.sums j in
          let e₄ : total (shares_of j) (d.fills ++ filled_by q n p d.range (taken c p d.range os gs)) ≡ total (shares_of j) d.fills + total (shares_of j) (filled_by q n p d.range (taken c p d.range os gs))
          = total_append (shares_of j) d.fills (filled_by q n p d.range (taken c p d.range os gs)) in
          let e₅ : total (shares_of j) (filled_by q n p d.range (taken c p d.range os gs)) ≡ only (eqb n j) q + total (shares_of j) (taken c p d.range os gs)
          = total_filled_by j q n p d.range (taken c p d.range os gs) in
          omega (arith, e₁, e₂, e₃, e₄, e₅)

  pub fair_keeps : Keeps gifts lawful Fair
  unfolding leave withdraw rest pause elect centre admit floored resumed set_up to
  fair_keeps = record {
    trade = λ r p d m k h. trade_fair r p d m k h;
    leave = λ r d m e h. fair_same d _ (λ j. refl) (kept_self d.roll) refl h;
    withdraw = λ n d c h. fair_same d _ (cancel_sums n d.roll) (kept_alter n cancel d.roll cancel_number cancel_terms) refl h;
    rest = λ r d m w e c h. fair_same d _ (put_sums Book r.number d.roll) (kept_alter r.number (put Book) d.roll (put_number Book) put_terms) refl h;
    pause = λ d h. fair_same d _ (λ j. refl) (kept_self d.roll) refl h;
    elect = λ p d s h. fair_same d _ (λ j. total_called (filled_of j) (λ o. waiting_same j o) p d.roll) (kept_called p d.roll) refl h;
    centre = λ d h. fair_same d _ (λ j. refl) (kept_self d.roll) refl h;
    admit = λ k s m p q w d sd ch pl h. fair_same d _ (push_sums w k s m p q d.roll) (kept_push d.roll (put w (fresh k s m p q d.roll))) refl h;
    floored = λ p q d _ h. fair_same d _ (λ j. refl) (kept_self d.roll) refl h;
    resumed = λ d h. fair_same d _ (λ j. refl) (kept_self d.roll) refl h;
    set_up = λ k c p d _ _ h. fair_same d _ (λ j. refl) (kept_self d.roll) refl h;
    to = λ f d h. fair_same d _ (λ j. refl) (kept_self d.roll) refl h;
  }

  pub new_fair : Fair new_day
  unfolding new_day
  new_fair = record { sums = λ m. refl; limit = tt; range = tt }

-- the fills of the P lines -----------------------------------------------------------------------------------------------------------------------
abbrev shares : Fill → ℕ
shares f = f.shares

shares_by : (q n p : ℕ) (g : Option Range) (fs : List Fill) → total shares (filled_by q n p g fs) ≡ q + total shares fs
shares_by zero n p g fs = omega arith
shares_by (suc q) n p g fs = refl

-- what the resting orders give is what stands ahead, and the gifts
pub taken_sum : (c : Side) (p : ℕ) (g : Option Range) (os : List Order) (gs : List ℕ) → AllZip Gift gs (row c p os) → total shares (taken c p g os gs) ≡ ahead c p os + total (λ n. n) gs
unfolding taken row ahead
taken_sum c p g [] [] z = refl
taken_sum c p g [] (x ∷ gs) z = absurd z
taken_sum c p g (o ∷ os) gs z = go (is_better c p o) (is_at c p o) gs (is_better_is_at c p o) z (taken_sum c p g os)
  where
    go : (b t : Bool) (gs : List ℕ) → (b ≡ true → t ≡ true → ⊥) → AllZip Gift gs (map (λ o. o.«open») (kept t o (those (is_at c p) os)))
        → ((gs : List ℕ) → AllZip Gift gs (row c p os) → total shares (taken c p g os gs) ≡ ahead c p os + total (λ n. n) gs)
        → total shares (filled_by (part b t o.«open» gs) o.number p g (taken c p g os (after t gs))) ≡ (only b o.«open» + ahead c p os) + total (λ n. n) gs
    go true true gs x z ih = absurd (x refl refl)
    go true false gs x z ih = omega (arith, shares_by o.«open» o.number p g (taken c p g os gs), ih gs z)
    go false true [] x z ih = absurd z
    go false true (h ∷ gs) x z ih = omega (arith, shares_by h o.number p g (taken c p g os gs), ih gs z.1)
    go false false gs x z ih = omega (arith, ih gs z)

of_print : (g : Option Range) (n p q : ℕ) → OfPrint p (low_of g) (high_of g) (record { order = n; price = p; shares = q; low = low_of g; high = high_of g })
of_print g n p q = record { price = refl; low = refl; high = refl }

taken_print : (c : Side) (p : ℕ) (g : Option Range) (os : List Order) (gs : List ℕ) → AllByRecursion (OfPrint p (low_of g) (high_of g)) (taken c p g os gs)
unfolding taken
taken_print c p g [] gs = tt
taken_print c p g (o ∷ os) gs =
    all_filled_by (OfPrint p (low_of g) (high_of g)) (part (is_better c p o) (is_at c p o) o.«open» gs) o.number p g _ (λ _. of_print g o.number p _) (taken_print c p g os (after (is_at c p o) gs))

filled_append : (ls ks : List TapeLine) (fs gs : List Fill) → FilledBy ls fs → FilledBy ks gs → FilledBy (ls ++ ks) (fs ++ gs)
filled_append [] ks fs gs h k = subst (λ xs. FilledBy ks (xs ++ gs)) (sym h) k
filled_append (Print n p q lo hi ∷ ls) ks fs gs h k = (
  h.0,
  h.1 ++ gs,
  ap (λ xs. xs ++ gs) h.2 ∙ ap (λ xs. record { order = n; price = p; shares = q; low = lo; high = hi } ∷ xs) (append_append h.0 h.1 gs),
  h.3,
  h.4,
  filled_append ls ks h.1 gs h.5 k,
)
filled_append (Cancel n q ∷ ls) ks fs gs h k = filled_append ls ks fs gs h k
filled_append (Elect n ∷ ls) ks fs gs h k = filled_append ls ks fs gs h k
filled_append (Floor p q ∷ ls) ks fs gs h k = filled_append ls ks fs gs h k

filled_silent : (ls ks : List TapeLine) (fs : List Fill) → FilledBy ls fs → FilledBy ks [] → FilledBy (ls ++ ks) fs
filled_silent ls ks fs h k = subst (FilledBy (ls ++ ks)) (append_none fs) (filled_append ls ks fs [] h k)

no_fills : (ns : List ℕ) → FilledBy (map Elect ns) []
no_fills [] = refl
no_fills (n ∷ ns) = no_fills ns

one_print : (n p q : ℕ) (g : Option Range) (fs : List Fill) → 0 < q → AllByRecursion (OfPrint p (low_of g) (high_of g)) fs → total shares fs ≡ q → FilledBy (Print n p q (low_of g) (high_of g) ∷ []) (filled_by q n p g fs)
one_print n p zero g fs h a e = absurd (omega arith)
one_print n p (suc q) g fs h a e = (fs, [], ap (λ xs. record { order = n; price = p; shares = suc q; low = low_of g; high = high_of g } ∷ xs) (sym (append_none fs)), a, e, refl)

module _ (gifts : Rule) (lawful : LawfulRule gifts) where
  trade_filled : (r : Order) (p : ℕ) (d : Day) → Mid r d → Prints r p d → FilledBy d.tape d.fills
      → FilledBy (trade gifts r.number (opposite r.side) p d).tape (trade gifts r.number (opposite r.side) p d).fills
  unfolding trade
  trade_filled r p d m k h =
      let n : ℕ = r.number in
      let c : Side = opposite r.side in
      let os : List Order = d.roll in
      let q : ℕ = size n c p os in
      let gs : List ℕ = gifts (row c p os) (q - ahead c p os) in
      let ready : Ready n m.runner c p os = trade_ready gifts lawful r p d m k in
      let over : 100 ≤ q - ahead c p os = (fits gifts lawful n m.runner c p d ready m.books).over in
      let z : AllZip Gift gs (row c p os) = zip gifts lawful n m.runner c p d ready m.books in
      let e : ahead c p os + total (λ n. n) gs ≡ q = gs_sum gifts lawful n m.runner c p d ready m.books in
      filled_append d.tape (Print n p q (low_of d.range) (high_of d.range) ∷ []) d.fills (filled_by q n p d.range (taken c p d.range os gs)) h
      (one_print n p q d.range (taken c p d.range os gs) (omega arith) (taken_print c p d.range os gs) (taken_sum c p d.range os gs z ∙ e))

  pub filled_keeps : Keeps gifts lawful (λ d. FilledBy d.tape d.fills)
  unfolding leave withdraw rest pause elect centre admit floored resumed set_up to
  filled_keeps = record {
    trade = λ r p d m k h. trade_filled r p d m k h;
    leave = λ r d m e h. h;
    withdraw = λ n d c h. filled_silent d.tape (Cancel n (left n d.roll) ∷ []) d.fills h refl;
    rest = λ r d m w e c h. h;
    pause = λ d h. h;
    elect = λ p d s h. filled_silent d.tape (map Elect (map (λ o. o.number) (those (is_elected p) d.roll))) d.fills h (no_fills (map (λ o. o.number) (those (is_elected p) d.roll)));
    centre = λ d h. h;
    admit = λ k s m p q w d sd ch pl h. h;
    floored = λ p q d _ h. filled_silent d.tape (Floor p q ∷ []) d.fills h refl;
    resumed = λ d h. h;
    set_up = λ k c p d _ _ h. h;
    to = λ f d h. h;
  }

  pub new_filled : FilledBy new_day.tape new_day.fills
  unfolding new_day
  new_filled = refl

-- of each order -----------------------------------------------------------------------------------------------------------------------------------
own : (n k : ℕ) (os : List Order) → Counted k (numbers os) → n < k → total (filled_of n) os ≡ 0
own n k [] c h = refl
own n k (o ∷ os) c h = omega (arith, ap (λ b. only b o.filled) (ne_eqb o.number n (λ e. omega (arith, c.0))), own n (suc k) os c.1 (omega arith))

each_own : (k : ℕ) (os : List Order) → Counted k (numbers os) → AllByRecursion (λ o. total (filled_of o.number) os ≡ o.filled) os
each_own k [] c = tt
each_own k (o ∷ os) c = (
  omega (arith, ap (λ b. only b o.filled) (eq-eqb o.number o.number refl), own o.number (suc k) os c.1 (omega (arith, c.0))),
  later os (above os (suc k) c.1 (omega arith)) (each_own (suc k) os c.1),
)
  where
    above : (xs : List Order) (j : ℕ) → Counted j (numbers xs) → k < j → AllByRecursion (λ x. k < x.number) xs
    above [] j c h = tt
    above (x ∷ xs) j c h = (omega (arith, c.0), above xs (suc j) c.1 (omega arith))

    later : (xs : List Order) → AllByRecursion (λ x. k < x.number) xs → AllByRecursion (λ x. total (filled_of x.number) os ≡ x.filled) xs
        → AllByRecursion (λ x. only (eqb o.number x.number) o.filled + total (filled_of x.number) os ≡ x.filled) xs
    later [] a b = tt
    later (x ∷ xs) a b = (omega (arith, ap (λ t. only t o.filled) (ne_eqb o.number x.number (λ h. omega (arith, c.0, a.0))), b.0), later xs a.1 b.1)

pub filled_sums : (d : Day) → Sound d → Fair d → AllByRecursion (λ o. o.filled ≡ total (shares_of o.number) d.fills) d.roll
filled_sums d s f = all_map _ _ d.roll (λ o h. sym h ∙ f.sums o.number) (each_own 1 d.roll s.counted)
