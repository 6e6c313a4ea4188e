-- Two days that differ only in price and shares of hidden stops stay alike while no hidden stop is elected.
use Rattle.std.proofs.Common.{◌≡◌, ℕ, zero, suc, ◌-◌, min, Bool, true, false, cond, ◌&&◌, ◌||◌, eqb, leb, ◌⊎◌, List, [], ◌∷◌, ◌++◌, map, Some, None, Option, sym, refl, ap, ◌∙◌, subst, inl, inr, ⊎_elim, arith}
use mathlib.Core.Path.{fun_ext}
use Rattle.std.proofs.lemmas.Bool.{false≢true}
use Rattle.std.specs.List.{AllZip, AllByRecursion}
use Rattle.market.specs.declared.words.Side.{Side}
use Rattle.market.specs.declared.words.Kind.{Kind}
use Rattle.market.specs.declared.words.Kind.TheVariants.{Limit, Market, ImmediateOrCancel, Stop}
use Rattle.market.specs.declared.words.Place.{Place}
use Rattle.market.specs.declared.words.Place.TheVariants.{Book, Line, StopFile, Nowhere}
use Rattle.market.specs.declared.words.Order.{Order}
use Rattle.market.specs.declared.words.Range.{Range}
use Rattle.market.specs.declared.words.TapeLine.{TapeLine}
use Rattle.market.specs.declared.words.TapeLine.TheVariants.{Print, Cancel, Elect}
use Rattle.market.specs.Sides.{opposite}
use Rattle.market.specs.Orders.{rests_on, is_book, where_with, fill, cancel, put, in_limit}
use Rattle.market.specs.Ranges.{in_range, range_around}
use Rattle.sharing.specs.Shares.{LawfulRule}
use Rattle.replay.specs.Lists.{only, total, those, kept, any}
use Rattle.replay.specs.Days.{Day, Rule}
use Rattle.replay.specs.Rolls.{look, found, alter, here, left, open_of, place_of}
use Rattle.replay.specs.Book.{best, is_at, is_better, is_up_to, ahead, row, depth, prices, is_contra, is_reached}
use Rattle.replay.specs.Moves.{low_of, high_of, deal, after, size, trade, leave, withdraw, rest, pause, elect, is_elected, called, centre, without, dealt}
use Rattle.replay.specs.Runs.{allowed, first_price, clean_up, or, if_left, next_price, print_at, residual, settle_of, settle, elect_at, centre_if, run, run_of, turn_of, turn, turns}
use Rattle.replay.specs.StopsUnseen.{SameLine, unelected, Unelected}
use Rattle.replay.proofs.Moves.{Waits}
use Rattle.replay.proofs.Rolls.{Held, look_deal, look_same, no_part}
use Rattle.replay.proofs.Runs.{Sound, waiter, look_number, turn_sound, fill_number}

-- neither resting nor waiting
abbrev pub Aside : Place → Type 0
Aside Book = ⊥
Aside Line = ⊥
Aside StopFile = Unit {0}
Aside Nowhere = Unit {0}

module _ (N : ℕ → Bool) where
  -- a hidden stop: price and shares may differ
  pub record Hidden (o u : Order) : Type 0 where
    pub number : o.number ≡ u.number
    pub named : N o.number ≡ true
    pub member : o.member ≡ u.member
    pub place : o.place ≡ u.place
    pub aside : Aside o.place
    pub held : Held o.place o.«open»
    pub held' : Held u.place u.«open»

  abbrev pub Alike : Order → Order → Type 0
  Alike o u = (o ≡ u) ⊎ Hidden o u

  abbrev pub Rolls : List Order → List Order → Type 0
  Rolls os us = AllZip Alike os us

  abbrev pub Same : TapeLine → TapeLine → Type 0
  Same = SameLine N

  pub record Twin (d e : Day) : Type 0 where
    pub roll : Rolls d.roll e.roll
    pub line : d.line ≡ e.line
    pub paused : d.paused ≡ e.paused
    pub range : d.range ≡ e.range
    pub last : d.last ≡ e.last
    pub class : d.class ≡ e.class
    pub column : d.column ≡ e.column
    pub phase : d.phase ≡ e.phase
    pub tape : AllZip Same d.tape e.tape

  aside_book : (w : Place) → Aside w → is_book w ≡ false
  aside_book Book h = absurd h
  aside_book Line h = absurd h
  aside_book StopFile h = refl
  aside_book Nowhere h = refl

  hidden_left : (o u : Order) → Hidden o u → is_book o.place ≡ false
  hidden_left o u h = aside_book o.place h.aside

  hidden_right : (o u : Order) → Hidden o u → is_book u.place ≡ false
  hidden_right o u h = ap is_book (sym h.place) ∙ hidden_left o u h

  -- a test that fails at orders that do not rest sees no difference ------------------------------------------------------------------
  module _ (t : Order → Bool) (dull : (o : Order) → is_book o.place ≡ false → t o ≡ false) where
    pub blind_those : (os us : List Order) → Rolls os us → those t os ≡ those t us
    blind_those [] [] z = refl
    blind_those [] (u ∷ us) z = absurd z
    blind_those (o ∷ os) [] z = absurd z
    blind_those (o ∷ os) (u ∷ us) z = ⊎_elim
        (λ e. ap (λ x. kept (t x) x (those t os)) e ∙ ap (kept (t u) u) (blind_those os us z.1))
        (λ h. ap (λ b. kept b o (those t os)) (dull o (hidden_left o u h)) ∙ blind_those os us z.1 ∙ sym (ap (λ b. kept b u (those t us)) (dull u (hidden_right o u h)))) z.0

    blind_total : (os us : List Order) → Rolls os us → total (λ o. only (t o) o.«open») os ≡ total (λ o. only (t o) o.«open») us
    blind_total [] [] z = refl
    blind_total [] (u ∷ us) z = absurd z
    blind_total (o ∷ os) [] z = absurd z
    blind_total (o ∷ os) (u ∷ us) z =
        let ih : total (λ o. only (t o) o.«open») os ≡ total (λ o. only (t o) o.«open») us = blind_total os us z.1 in
        let h : only (t o) o.«open» ≡ only (t u) u.«open» = ⊎_elim
        (λ e. ap (λ x. only (t x) x.«open») e)
        (λ h. ap (λ b. only b o.«open») (dull o (hidden_left o u h)) ∙ sym (ap (λ b. only b u.«open») (dull u (hidden_right o u h)))) z.0 in
        omega arith

    pub blind_any : (os us : List Order) → Rolls os us → any t os ≡ any t us
    blind_any [] [] z = refl
    blind_any [] (u ∷ us) z = absurd z
    blind_any (o ∷ os) [] z = absurd z
    blind_any (o ∷ os) (u ∷ us) z = ⊎_elim
        (λ e. ap (λ x. t x || any t os) e ∙ ap (λ b. t u || b) (blind_any os us z.1))
        (λ h. ap (λ b. b || any t os) (dull o (hidden_left o u h)) ∙ blind_any os us z.1 ∙ sym (ap (λ b. b || any t us) (dull u (hidden_right o u h)))) z.0

  same_ahead : (c : Side) (p : ℕ) (os us : List Order) → Rolls os us → ahead c p os ≡ ahead c p us
  unfolding ahead
  same_ahead c p os us z = blind_total (is_better c p) (λ o e. rw e refl) os us z

  same_depth : (c : Side) (p : ℕ) (os us : List Order) → Rolls os us → depth c p os ≡ depth c p us
  unfolding depth
  same_depth c p os us z = blind_total (is_up_to c p) (λ o e. rw e refl) os us z

  pub same_row : (c : Side) (p : ℕ) (os us : List Order) → Rolls os us → row c p os ≡ row c p us
  unfolding row
  same_row c p os us z = ap (map (λ o. o.«open»)) (blind_those (is_at c p) (λ o e. rw e refl) os us z)

  pub same_contra : (r : Order) (os us : List Order) → Rolls os us → any (is_contra r) os ≡ any (is_contra r) us
  same_contra r os us z = blind_any (is_contra r) (λ o e. rw e refl) os us z

  pub same_best : (c : Side) (os us : List Order) → Rolls os us → prices (rests_on c) os ≡ prices (rests_on c) us
  unfolding prices
  same_best c os us z = ap (map (λ o. o.price)) (blind_those (rests_on c) (λ o e. rw e refl) os us z)

  same_reach : (r : Order) (g : Option Range) (os us : List Order) → Rolls os us → prices (is_reached r g) os ≡ prices (is_reached r g) us
  unfolding prices
  same_reach r g os us z = ap (map (λ o. o.price)) (blind_those (is_reached r g) (λ o e. rw e refl) os us z)

  -- looking up -------------------------------------------------------------------------------------------------------------------------
  abbrev pub Found : Option Order → Option Order → Type 0
  Found None None = Unit {0}
  Found None (Some u) = ⊥
  Found (Some o) None = ⊥
  Found (Some o) (Some u) = Alike o u

  alike_number : (o u : Order) → Alike o u → o.number ≡ u.number
  alike_number o u a = ⊎_elim (λ e. ap (λ (x : Order). x.number) e) (λ h. h.number) a

  pub look_alike : (n : ℕ) (os us : List Order) → Rolls os us → Found (look n os) (look n us)
  unfolding look
  look_alike n [] [] z = tt
  look_alike n [] (u ∷ us) z = absurd z
  look_alike n (o ∷ os) [] z = absurd z
  look_alike n (o ∷ os) (u ∷ us) z = go (eqb o.number n) (ap (λ m. eqb m n) (sym (alike_number o u z.0))) (look_alike n os us z.1)
    where
      go : (b : Bool) → eqb u.number n ≡ b → Found (look n os) (look n us) → Found (found b o (look n os)) (found (eqb u.number n) u (look n us))
      go true e ih = subst (λ b. Found (Some o) (found b u (look n us))) (sym e) z.0
      go false e ih = subst (λ b. Found (look n os) (found b u (look n us))) (sym e) ih

  waits_same : (n : ℕ) (os us : List Order) → Rolls os us → Waits os n → look n os ≡ look n us
  waits_same n os us z w = go (look n os) (look n us) (look_alike n os us z) w
    where
      go : (x y : Option Order) → Found x y → place_of x ≡ Line → x ≡ y
      go None None f w = refl
      go None (Some u) f w = absurd f
      go (Some o) None f w = absurd f
      go (Some o) (Some u) (inl e) w = ap Some e
      go (Some o) (Some u) (inr h) w = absurd (subst Aside w h.aside)

  -- changes of the roll ------------------------------------------------------------------------------------------------------------------
  alter_alike : (n : ℕ) (f : Order → Order) (x : Order) (os us : List Order) → Rolls os us → look n os ≡ Some x → look n us ≡ Some x → Rolls (alter n f os) (alter n f us)
  unfolding look alter
  alter_alike n f x [] [] z e e' = tt
  alter_alike n f x [] (u ∷ us) z e e' = absurd z
  alter_alike n f x (o ∷ os) [] z e e' = absurd z
  alter_alike n f x (o ∷ os) (u ∷ us) z e e' = go (eqb o.number n) (ap (λ m. eqb m n) (sym (alike_number o u z.0))) e e' (alter_alike n f x os us z.1)
    where
      go : (b : Bool) → eqb u.number n ≡ b → found b o (look n os) ≡ Some x → found (eqb u.number n) u (look n us) ≡ Some x
          → (look n os ≡ Some x → look n us ≡ Some x → Rolls (alter n f os) (alter n f us))
          → Rolls (here b f o os (alter n f os)) (here (eqb u.number n) f u us (alter n f us))
      go true t e e' ih =
          let k : Some u ≡ Some x = ap (λ b. found b u (look n us)) (sym t) ∙ e' in
          subst (λ b. Rolls (f o ∷ os) (here b f u us (alter n f us))) (sym t) (inl (let s : o ≡ u = cc in ap f s), z.1)
      go false t e e' ih = subst (λ b. Rolls (o ∷ alter n f os) (here b f u us (alter n f us))) (sym t) (z.0, ih e (ap (λ b. found b u (look n us)) (sym t) ∙ e'))

  dull_after : (c : Side) (p : ℕ) (gs : List ℕ) (o : Order) → is_book o.place ≡ false → after (is_at c p o) gs ≡ gs
  dull_after c p gs o e = rw e refl

  deal_alike : (c : Side) (p : ℕ) (os us : List Order) (gs : List ℕ) → Rolls os us → Rolls (deal c p os gs) (deal c p us gs)
  unfolding deal
  deal_alike c p [] [] gs z = tt
  deal_alike c p [] (u ∷ us) gs z = absurd z
  deal_alike c p (o ∷ os) [] gs z = absurd z
  deal_alike c p (o ∷ os) (u ∷ us) gs z = go (λ gs. deal_alike c p os us gs z.1) z.0
    where
      go : ((gs : List ℕ) → Rolls (deal c p os gs) (deal c p us gs)) → Alike o u → Alike (dealt (is_better c p o) (is_at c p o) gs o) (dealt (is_better c p u) (is_at c p u) gs u)
          × Rolls (deal c p os (after (is_at c p o) gs)) (deal c p us (after (is_at c p u) gs))
      go ih (inl e) = (
        inl (ap (λ x. dealt (is_better c p x) (is_at c p x) gs x) e),
        subst (λ x. Rolls (deal c p os (after (is_at c p o) gs)) (deal c p us (after (is_at c p x) gs))) e (ih (after (is_at c p o) gs)),
      )
      go ih (inr h) = (
        inr (subst (λ x. Hidden x (dealt (is_better c p u) (is_at c p u) gs u)) (sym (no_part c p gs o (hidden_left o u h)))
            (subst (λ x. Hidden o x) (sym (no_part c p gs u (hidden_right o u h))) h)),
        subst (λ g. Rolls (deal c p os g) (deal c p us (after (is_at c p u) gs))) (sym (dull_after c p gs o (hidden_left o u h)))
            (subst (λ g. Rolls (deal c p os gs) (deal c p us g)) (sym (dull_after c p gs u (hidden_right o u h))) (ih gs)),
      )

  pub zip_push : {A : Type 0} (Q : A → A → Type 0) (xs ys : List A) (x y : A) → AllZip Q xs ys → Q x y → AllZip Q (xs ++ (x ∷ [])) (ys ++ (y ∷ []))
  zip_push Q [] [] x y z q = (q, tt)
  zip_push Q [] (b ∷ ys) x y z q = absurd z
  zip_push Q (a ∷ xs) [] x y z q = absurd z
  zip_push Q (a ∷ xs) (b ∷ ys) x y z q = (z.0, zip_push Q xs ys x y z.1 q)

  -- a trade: both days print the same line -----------------------------------------------------------------------------------------------
  trade_twin : (gifts : Rule) (n : ℕ) (c : Side) (p : ℕ) (x : Order) (d e : Day) → Twin d e → look n d.roll ≡ Some x → look n e.roll ≡ Some x → is_book x.place ≡ false
      → Twin (trade gifts n c p d) (trade gifts n c p e)
  unfolding trade size left
  trade_twin gifts n c p x d e t i j w =
      let os : List Order = d.roll in
      let us : List Order = e.roll in
      let z : Rolls os us = t.roll in
      let l : look n os ≡ look n us = i ∙ sym j in
      let q : size n c p os ≡ size n c p us = ap (λ y. min (open_of y) (depth c p os)) l ∙ ap (λ y. min (open_of (look n us)) y) (same_depth c p os us z) in
      let g : gifts (row c p os) (size n c p os - ahead c p os) ≡ gifts (row c p us) (size n c p us - ahead c p us)
      = ap (λ y. gifts y (size n c p os - ahead c p os)) (same_row c p os us z) ∙ ap (λ y. gifts (row c p us) (y - ahead c p os)) q
      ∙ ap (λ y. gifts (row c p us) (size n c p us - y)) (same_ahead c p os us z) in
      let gs : List ℕ = gifts (row c p os) (size n c p os - ahead c p os) in
      record {
        roll = subst (λ y. Rolls (alter n (fill (size n c p os)) (deal c p os gs)) (alter n (fill y) (deal c p us (gifts (row c p us) (size n c p us - ahead c p us))))) q
            (subst (λ y. Rolls (alter n (fill (size n c p os)) (deal c p os gs)) (alter n (fill (size n c p os)) (deal c p us y))) g
            (whole gs (size n c p os)));
        line = t.line;
        paused = t.paused;
        range = t.range;
        last = refl;
        class = t.class;
        column = t.column;
        phase = t.phase;
        tape = zip_push Same d.tape e.tape _ _ t.tape
            (inl (ap (λ y. Print n p y (low_of d.range) (high_of d.range)) q ∙ ap (λ y. Print n p (size n c p us) (low_of y) (high_of y)) t.range));
      }
    where
      whole : (gs : List ℕ) (k : ℕ) → Rolls (alter n (fill k) (deal c p d.roll gs)) (alter n (fill k) (deal c p e.roll gs))
      whole gs k = alter_alike n (fill k) x (deal c p d.roll gs) (deal c p e.roll gs) (deal_alike c p d.roll e.roll gs t.roll)
          (look_deal n c p d.roll gs x i w) (look_deal n c p e.roll gs x j w)

  -- elections ------------------------------------------------------------------------------------------------------------------------------
  abbrev pub quiet : TapeLine → Type 0
  quiet = unelected N

  -- no hidden stop is elected on the day's tape
  abbrev pub Quiet : Day → Type 0
  Quiet = Unelected N

  pub all_front : {A : Type 0} (Q : A → Type 0) (xs ys : List A) → AllByRecursion Q (xs ++ ys) → AllByRecursion Q xs
  all_front Q [] ys a = tt
  all_front Q (x ∷ xs) ys a = (a.0, all_front Q xs ys a.1)

  all_back : {A : Type 0} (Q : A → Type 0) (xs ys : List A) → AllByRecursion Q (xs ++ ys) → AllByRecursion Q ys
  all_back Q [] ys a = a
  all_back Q (x ∷ xs) ys a = all_back Q xs ys a.1

  quiet_numbers : (ns : List ℕ) → AllByRecursion quiet (map Elect ns) → AllByRecursion (λ n. N n ≡ false) ns
  quiet_numbers [] a = tt
  quiet_numbers (n ∷ ns) a = (a.0, quiet_numbers ns a.1)

  abbrev elected : ℕ → List Order → List ℕ
  elected p os = map (λ o. o.number) (those (is_elected p) os)

  elect_alike : (p : ℕ) (os us : List Order) → Rolls os us → AllByRecursion (λ n. N n ≡ false) (elected p os) → AllByRecursion (λ n. N n ≡ false) (elected p us)
      → Rolls (map (λ o. called (is_elected p o) o) os) (map (λ o. called (is_elected p o) o) us) × (elected p os ≡ elected p us)
  elect_alike p [] [] z a b = (tt, refl)
  elect_alike p [] (u ∷ us) z a b = absurd z
  elect_alike p (o ∷ os) [] z a b = absurd z
  elect_alike p (o ∷ os) (u ∷ us) z a b = same z.0 (λ x y. elect_alike p os us z.1 x y)
    where
      Goal : Type 0
      Goal = (Alike (called (is_elected p o) o) (called (is_elected p u) u) × Rolls (map (λ o. called (is_elected p o) o) os) (map (λ o. called (is_elected p o) o) us))
          × (elected p (o ∷ os) ≡ elected p (u ∷ us))

      Tail : Type 0
      Tail = AllByRecursion (λ n. N n ≡ false) (elected p os) → AllByRecursion (λ n. N n ≡ false) (elected p us)
          → Rolls (map (λ o. called (is_elected p o) o) os) (map (λ o. called (is_elected p o) o) us) × (elected p os ≡ elected p us)

      drop : (b : Bool) (o : Order) (os : List Order) → AllByRecursion (λ n. N n ≡ false) (map (λ o. o.number) (kept b o (those (is_elected p) os))) → AllByRecursion (λ n. N n ≡ false) (elected p os)
      drop true o os a = a.1
      drop false o os a = a

      out : (b : Bool) (o : Order) (os : List Order) → N o.number ≡ true → AllByRecursion (λ n. N n ≡ false) (map (λ o. o.number) (kept b o (those (is_elected p) os))) → b ≡ false
      out true o os n a = absurd (false≢true (sym a.0 ∙ n))
      out false o os n a = refl

      same : Alike o u → Tail → Goal
      same (inl e) ih =
          let t : Rolls (map (λ o. called (is_elected p o) o) os) (map (λ o. called (is_elected p o) o) us) × (elected p os ≡ elected p us) = ih (drop (is_elected p o) o os a) (drop (is_elected p u) u us b) in (
            (inl (ap (λ x. called (is_elected p x) x) e), t.0),
            ap (λ x. map (λ o. o.number) (kept (is_elected p x) x (those (is_elected p) os))) e ∙ numbers_kept (is_elected p u) t.1,
          )
        where
          numbers_kept : (b : Bool) → elected p os ≡ elected p us → map (λ o. o.number) (kept b u (those (is_elected p) os)) ≡ map (λ o. o.number) (kept b u (those (is_elected p) us))
          numbers_kept true e = ap (λ x. u.number ∷ x) e
          numbers_kept false e = e
      same (inr h) ih =
          let t : Rolls (map (λ o. called (is_elected p o) o) os) (map (λ o. called (is_elected p o) o) us) × (elected p os ≡ elected p us) = ih (drop (is_elected p o) o os a) (drop (is_elected p u) u us b) in
          let x : is_elected p o ≡ false = out (is_elected p o) o os h.named a in
          let y : is_elected p u ≡ false = out (is_elected p u) u us (ap N (sym h.number) ∙ h.named) b in (
            (subst (λ v. Alike (called v o) (called (is_elected p u) u)) (sym x) (subst (λ v. Alike o (called v u)) (sym y) (inr h)), t.0),
            ap (λ v. map (λ o. o.number) (kept v o (those (is_elected p) os))) x ∙ t.1 ∙ sym (ap (λ v. map (λ o. o.number) (kept v u (those (is_elected p) us))) y),
          )

  zip_append : {A : Type 0} (Q : A → A → Type 0) → ((x : A) → Q x x) → (xs ys zs : List A) → AllZip Q xs ys → AllZip Q (xs ++ zs) (ys ++ zs)
  zip_append Q r [] [] zs z = self zs
    where
      self : (zs : List _) → AllZip Q zs zs
      self [] = tt
      self (x ∷ zs) = (r x, self zs)
  zip_append Q r [] (y ∷ ys) zs z = absurd z
  zip_append Q r (x ∷ xs) [] zs z = absurd z
  zip_append Q r (x ∷ xs) (y ∷ ys) zs z = (z.0, zip_append Q r xs ys zs z.1)

  pub elect_twin : (p : ℕ) (d e : Day) → Twin d e → Quiet (elect p d) → Quiet (elect p e) → Twin (elect p d) (elect p e)
  unfolding elect
  elect_twin p d e t a b =
      let k : Rolls (map (λ o. called (is_elected p o) o) d.roll) (map (λ o. called (is_elected p o) o) e.roll) × (elected p d.roll ≡ elected p e.roll)
      = elect_alike p d.roll e.roll t.roll (quiet_numbers (elected p d.roll) (all_back quiet d.tape _ a)) (quiet_numbers (elected p e.roll) (all_back quiet e.tape _ b)) in
      record {
        roll = k.0;
        line = ap (λ x. x ++ elected p d.roll) t.line ∙ ap (λ x. e.line ++ x) k.1;
        paused = t.paused;
        range = t.range;
        last = t.last;
        class = t.class;
        column = t.column;
        phase = t.phase;
        tape = subst (λ ns. AllZip Same (d.tape ++ map Elect (elected p d.roll)) (e.tape ++ map Elect ns)) k.1
            (zip_append Same (λ l. inl refl) d.tape e.tape (map Elect (elected p d.roll)) t.tape);
      }

  -- cancellation, also of a hidden stop ---------------------------------------------------------------------------------------------------
  hidden_cancel : (o u : Order) → Alike o u → Alike (cancel o) (cancel u)
  hidden_cancel o u (inl e) = inl (ap cancel e)
  hidden_cancel o u (inr h) = inr (record { number = h.number; named = h.named; member = h.member; place = refl; aside = tt; held = refl; held' = refl })

  alter_cancel : (n : ℕ) (os us : List Order) → Rolls os us → Rolls (alter n cancel os) (alter n cancel us)
  unfolding alter
  alter_cancel n [] [] z = tt
  alter_cancel n [] (u ∷ us) z = absurd z
  alter_cancel n (o ∷ os) [] z = absurd z
  alter_cancel n (o ∷ os) (u ∷ us) z = go (eqb o.number n) (ap (λ m. eqb m n) (sym (alike_number o u z.0))) (alter_cancel n os us z.1)
    where
      go : (b : Bool) → eqb u.number n ≡ b → Rolls (alter n cancel os) (alter n cancel us) → Rolls (here b cancel o os (alter n cancel os)) (here (eqb u.number n) cancel u us (alter n cancel us))
      go true e ih = subst (λ b. Rolls (cancel o ∷ os) (here b cancel u us (alter n cancel us))) (sym e) (hidden_cancel o u z.0, z.1)
      go false e ih = subst (λ b. Rolls (o ∷ alter n cancel os) (here b cancel u us (alter n cancel us))) (sym e) (z.0, ih)

  withdraw_line : (n : ℕ) (os us : List Order) → Rolls os us → Same (Cancel n (left n os)) (Cancel n (left n us))
  unfolding left
  withdraw_line n os us z = go (look n os) (look n us) refl (look_alike n os us z)
    where
      go : (x y : Option Order) → look n os ≡ x → Found x y → Same (Cancel n (open_of x)) (Cancel n (open_of y))
      go None None i f = inl refl
      go None (Some u) i f = absurd f
      go (Some o) None i f = absurd f
      go (Some o) (Some u) i (inl e) = inl (ap (λ (x : Order). Cancel n x.«open») e)
      go (Some o) (Some u) i (inr h) = inr (n, o.«open», u.«open», ap N (sym (look_number n os o i)) ∙ h.named, refl, refl)

  pub withdraw_twin : (n : ℕ) (d e : Day) → Twin d e → Twin (withdraw n d) (withdraw n e)
  unfolding withdraw
  withdraw_twin n d e t = record {
    roll = alter_cancel n d.roll e.roll t.roll;
    line = ap (without n) t.line;
    paused = t.paused;
    range = t.range;
    last = t.last;
    class = t.class;
    column = t.column;
    phase = t.phase;
    tape = zip_push Same d.tape e.tape _ _ t.tape (withdraw_line n d.roll e.roll t.roll);
  }

  leave_twin : (n : ℕ) (d e : Day) → Twin d e → Twin (leave n d) (leave n e)
  unfolding leave
  leave_twin n d e t = record { roll = t.roll; line = ap (without n) t.line; paused = t.paused; range = t.range; last = t.last; class = t.class; column = t.column; phase = t.phase; tape = t.tape }

  pause_twin : (b : Bool) (d e : Day) → Twin d e → Twin (pause b d) (pause b e)
  unfolding pause
  pause_twin b d e t = record { roll = t.roll; line = t.line; paused = ap (λ x. b || x) t.paused; range = t.range; last = t.last; class = t.class; column = t.column; phase = t.phase; tape = t.tape }

  pub centre_twin : (d e : Day) → Twin d e → Twin (centre d) (centre e)
  unfolding centre
  centre_twin d e t = record {
    roll = t.roll;
    line = t.line;
    paused = t.paused;
    range = ap (λ x. range_around x d.column d.last) t.class ∙ ap (λ x. range_around e.class x d.last) t.column ∙ ap (λ x. range_around e.class e.column x) t.last;
    last = t.last;
    class = t.class;
    column = t.column;
    phase = t.phase;
    tape = t.tape;
  }

  rest_twin : (n : ℕ) (x : Order) (d e : Day) → look n d.roll ≡ Some x → look n e.roll ≡ Some x → Twin d e → Twin (rest n d) (rest n e)
  unfolding rest
  rest_twin n x d e i j t = record {
    roll = alter_alike n (put Book) x d.roll e.roll t.roll i j;
    line = ap (without n) t.line;
    paused = t.paused;
    range = t.range;
    last = t.last;
    class = t.class;
    column = t.column;
    phase = t.phase;
    tape = t.tape;
  }

  -- in the midst of a run: the runner is the same order on both days
  pub record MidTwin (n : ℕ) (d e : Day) : Type 0 where
    pub twin : Twin d e
    pub runner : Order
    pub is : look n d.roll ≡ Some runner
    pub is' : look n e.roll ≡ Some runner
    pub off : is_book runner.place ≡ false

  spot_off : (m : ℕ) (w : Place) → is_book w ≡ false → is_book (where_with m w) ≡ false
  spot_off m w h = go (eqb m 0)
    where
      go : (b : Bool) → is_book (cond b Nowhere w) ≡ false
      go true = refl
      go false = h

  residual_twin : (n : ℕ) (b : Bool) (k : Kind) (d e : Day) → MidTwin n d e → Twin (residual n b k d) (residual n b k e)
  residual_twin n true Limit d e m = pause_twin true d e m.twin
  residual_twin n true Market d e m = pause_twin true d e m.twin
  residual_twin n true Stop d e m = pause_twin true d e m.twin
  residual_twin n true ImmediateOrCancel d e m = pause_twin true (withdraw n d) (withdraw n e) (withdraw_twin n d e m.twin)
  residual_twin n false Limit d e m = rest_twin n m.runner d e m.is m.is' m.twin
  residual_twin n false Market d e m = withdraw_twin n d e m.twin
  residual_twin n false Stop d e m = withdraw_twin n d e m.twin
  residual_twin n false ImmediateOrCancel d e m = withdraw_twin n d e m.twin

  same_left : (n : ℕ) (d e : Day) → MidTwin n d e → left n d.roll ≡ left n e.roll
  unfolding left
  same_left n d e m = ap open_of (m.is ∙ sym m.is')

  settle_twin : (r : Order) (d e : Day) → MidTwin r.number d e → Twin (settle r d) (settle r e)
  unfolding settle
  settle_twin r d e m =
      subst (λ l. Twin (settle r d) (settle_of l r.number (any (is_contra r) e.roll) r.kind e)) (same_left r.number d e m)
      (subst (λ b. Twin (settle r d) (settle_of (left r.number d.roll) r.number b r.kind e)) (same_contra r d.roll e.roll m.twin.roll)
      (go (left r.number d.roll) (any (is_contra r) d.roll)))
    where
      go : (l : ℕ) (b : Bool) → Twin (settle_of l r.number b r.kind d) (settle_of l r.number b r.kind e)
      go zero b = leave_twin r.number d e m.twin
      go (suc l) b = residual_twin r.number b r.kind d e m

  same_first : (r : Order) (d e : Day) → Twin d e → first_price r d ≡ first_price r e
  unfolding first_price
  same_first r d e t =
      ap (λ g. allowed (λ p. in_limit r p && in_range g p) (best (opposite r.side) (prices (rests_on (opposite r.side)) d.roll))) t.range
      ∙ ap (λ ps. allowed (λ p. in_limit r p && in_range e.range p) (best (opposite r.side) ps)) (same_best (opposite r.side) d.roll e.roll t.roll)

  same_clean_up : (r : Order) (d e : Day) → MidTwin r.number d e → clean_up r d ≡ clean_up r e
  unfolding clean_up
  same_clean_up r d e m =
      let c : Side = opposite r.side in
      ap (λ g. price (left r.number d.roll) (λ p. depth c p d.roll) (prices (is_reached r g) d.roll)) m.twin.range
      ∙ ap (λ ps. price (left r.number d.roll) (λ p. depth c p d.roll) ps) (same_reach r e.range d.roll e.roll m.twin.roll)
      ∙ ap (λ l. price l (λ p. depth c p d.roll) (prices (is_reached r e.range) e.roll)) (same_left r.number d e m)
      ∙ ap (λ f. price (left r.number e.roll) f (prices (is_reached r e.range) e.roll)) (fun_ext (λ p. same_depth c p d.roll e.roll m.twin.roll))
    where
      price : ℕ → (ℕ → ℕ) → List ℕ → Option ℕ
      price l f ps = or (best (opposite r.side) (those (λ p. leb l (f p)) ps)) (best (opposite (opposite r.side)) ps)

  module _ (gifts : Rule) (lawful : LawfulRule gifts) where
    trade_mid_twin : (n : ℕ) (c : Side) (p : ℕ) (d e : Day) → MidTwin n d e → MidTwin n (trade gifts n c p d) (trade gifts n c p e)
    unfolding trade size left
    trade_mid_twin n c p d e m =
        let x : Order = m.runner in
        let q : size n c p d.roll ≡ size n c p e.roll
        = ap (λ y. min y (depth c p d.roll)) (same_left n d e m) ∙ ap (λ y. min (left n e.roll) y) (same_depth c p d.roll e.roll m.twin.roll) in
        record {
          twin = trade_twin gifts n c p x d e m.twin m.is m.is' m.off;
          runner = fill (size n c p d.roll) x;
          is = look_same n (fill (size n c p d.roll)) _ x (fill_number (size n c p d.roll)) (look_deal n c p d.roll _ x m.is m.off);
          is' = look_same n (fill (size n c p e.roll)) _ x (fill_number (size n c p e.roll)) (look_deal n c p e.roll _ x m.is' m.off)
              ∙ ap (λ k. Some (fill k x)) (sym q);
          off = spot_off (x.«open» - size n c p d.roll) x.place m.off;
        }

    print_at_twin : (r : Order) (x : Option ℕ) (d e : Day) → MidTwin r.number d e → MidTwin r.number (print_at gifts r x d) (print_at gifts r x e)
    print_at_twin r None d e m = m
    print_at_twin r (Some p) d e m = trade_mid_twin r.number (opposite r.side) p d e m

    same_next : (x : Option ℕ) (r : Order) (d e : Day) → MidTwin r.number d e → next_price x r d ≡ next_price x r e
    same_next None r d e m = refl
    same_next (Some p) r d e m = ap (λ l. if_left l (clean_up r d)) (same_left r.number d e m) ∙ ap (if_left (left r.number e.roll)) (same_clean_up r d e m)

    elect_at_twin : (x : Option ℕ) (d e : Day) → Twin d e → Quiet (elect_at x d) → Quiet (elect_at x e) → Twin (elect_at x d) (elect_at x e)
    elect_at_twin None d e t a b = t
    elect_at_twin (Some p) d e t a b = elect_twin p d e t a b

    elect_at_back : (x : Option ℕ) (d : Day) → Quiet (elect_at x d) → Quiet d
    unfolding elect
    elect_at_back None d a = a
    elect_at_back (Some p) d a = all_front quiet d.tape _ a

    centre_if_back : (g : Option Range) (x : Option ℕ) (d : Day) → Quiet (centre_if g x d) → Quiet d
    unfolding centre
    centre_if_back None None d a = a
    centre_if_back None (Some p) d a = a
    centre_if_back (Some g) x d a = a

    centre_if_twin : (g : Option Range) (x : Option ℕ) (d e : Day) → Twin d e → Twin (centre_if g x d) (centre_if g x e)
    centre_if_twin None None d e t = t
    centre_if_twin None (Some p) d e t = centre_twin d e t
    centre_if_twin (Some g) x d e t = t

    -- the last part of a run, where the prices are known
    closing : Order → Option Range → Option ℕ → Option ℕ → Day → Day
    closing r g a b d = centre_if g a (elect_at b (elect_at a (settle r d)))

    closing_twin : (r : Order) (g : Option Range) (a b : Option ℕ) (d e : Day) → MidTwin r.number d e → Quiet (closing r g a b d) → Quiet (closing r g a b e) → Twin (closing r g a b d) (closing r g a b e)
    unfolding closing
    closing_twin r g a b d e m x y =
        let x₁ : Quiet (elect_at b (elect_at a (settle r d))) = centre_if_back g a _ x in
        let y₁ : Quiet (elect_at b (elect_at a (settle r e))) = centre_if_back g a _ y in
        centre_if_twin g a _ _ (elect_at_twin b _ _ (elect_at_twin a _ _ (settle_twin r d e m) (elect_at_back b _ x₁) (elect_at_back b _ y₁)) x₁ y₁)

    run_twin : (r : Order) (d e : Day) → MidTwin r.number d e → Quiet (run gifts r d) → Quiet (run gifts r e) → Twin (run gifts r d) (run gifts r e)
    unfolding run closing
    run_twin r d e m x y =
        subst (λ z. Twin (run gifts r d) z) same_run (closing_twin r d.range a b _ _ m₂ x (subst Quiet (sym same_run) y))
      where
        a : Option ℕ
        a = first_price r d

        b : Option ℕ
        b = next_price a r (print_at gifts r a d)

        m₁ : MidTwin r.number (print_at gifts r a d) (print_at gifts r a e)
        m₁ = print_at_twin r a d e m

        m₂ : MidTwin r.number (print_at gifts r b (print_at gifts r a d)) (print_at gifts r b (print_at gifts r a e))
        m₂ = print_at_twin r b _ _ m₁

        -- the run of e, with the prices of d
        same_run : closing r d.range a b (print_at gifts r b (print_at gifts r a e)) ≡ run gifts r e
        same_run = ap (λ z. closing r d.range a z (print_at gifts r z (print_at gifts r a e))) (same_next a r _ _ m₁)
            ∙ ap (λ g. closing r g a (next_price a r (print_at gifts r a e)) (print_at gifts r (next_price a r (print_at gifts r a e)) (print_at gifts r a e))) m.twin.range
            ∙ ap (λ z. closing r e.range z (next_price z r (print_at gifts r z e)) (print_at gifts r (next_price z r (print_at gifts r z e)) (print_at gifts r z e))) (same_first r d e m.twin)

    leave_quiet : (n : ℕ) (d : Day) → Quiet (leave n d) → Quiet d
    unfolding leave
    leave_quiet n d a = a

    -- the tape only grows
    trade_back : (r : Order) (x : Option ℕ) (d : Day) → Quiet (print_at gifts r x d) → Quiet d
    unfolding trade
    trade_back r None d a = a
    trade_back r (Some p) d a = all_front quiet d.tape _ a

    residual_back : (n : ℕ) (b : Bool) (k : Kind) (d : Day) → Quiet (residual n b k d) → Quiet d
    unfolding withdraw rest pause
    residual_back n true Limit d a = a
    residual_back n true Market d a = a
    residual_back n true Stop d a = a
    residual_back n true ImmediateOrCancel d a = all_front quiet d.tape _ a
    residual_back n false Limit d a = a
    residual_back n false Market d a = all_front quiet d.tape _ a
    residual_back n false Stop d a = all_front quiet d.tape _ a
    residual_back n false ImmediateOrCancel d a = all_front quiet d.tape _ a

    settle_back : (r : Order) (d : Day) → Quiet (settle r d) → Quiet d
    unfolding settle leave
    settle_back r d a = go (left r.number d.roll) a
      where
        go : (l : ℕ) → Quiet (settle_of l r.number (any (is_contra r) d.roll) r.kind d) → Quiet d
        go zero a = a
        go (suc l) a = residual_back r.number (any (is_contra r) d.roll) r.kind d a

    run_back : (r : Order) (d : Day) → Quiet (run gifts r d) → Quiet d
    unfolding run
    run_back r d a =
        trade_back r (first_price r d) d (trade_back r _ _ (settle_back r _ (elect_at_back (first_price r d) _ (elect_at_back _ _ (centre_if_back d.range (first_price r d) _ a)))))

    turn_back : (d : Day) → Quiet (turn gifts d) → Quiet d
    unfolding turn
    turn_back d a = go d.paused d.line a
      where
        at : (n : ℕ) (x : Option Order) → Quiet (run_of gifts n x d) → Quiet d
        at n None a = leave_quiet n d a
        at n (Some r) a = run_back r d a

        go : (b : Bool) (ns : List ℕ) → Quiet (turn_of gifts b ns d) → Quiet d
        go true ns a = a
        go false [] a = a
        go false (n ∷ ns) a = at n (look n d.roll) a

    pub turns_back : (k : ℕ) (d : Day) → Quiet (turns gifts k d) → Quiet d
    unfolding turns
    turns_back zero d a = a
    turns_back (suc k) d a = turn_back d (turns_back k (turn gifts d) a)

    -- turns ------------------------------------------------------------------------------------------------------------------------------
    turn_twin : (d e : Day) → Sound d → Twin d e → Quiet (turn gifts d) → Quiet (turn gifts e) → Twin (turn gifts d) (turn gifts e)
    unfolding turn
    turn_twin d e s t x y = subst (λ b. Twin (turn gifts d) (turn_of gifts b e.line e)) t.paused
        (subst (λ ns. Twin (turn gifts d) (turn_of gifts d.paused ns e)) t.line
        (go d.paused d.line s.line x (subst (λ ns. Quiet (turn_of gifts d.paused ns e)) (sym t.line) (subst (λ b. Quiet (turn_of gifts b e.line e)) (sym t.paused) y))))
      where
        go : (b : Bool) (ns : List ℕ) → AllByRecursion (Waits d.roll) ns → Quiet (turn_of gifts b ns d) → Quiet (turn_of gifts b ns e) → Twin (turn_of gifts b ns d) (turn_of gifts b ns e)
        go true ns a x y = t
        go false [] a x y = t
        go false (n ∷ ns) a x y =
            let w : (r : Order) × (look n d.roll ≡ Some r) × (r.place ≡ Line) = waiter d.roll n a.0 in
            let r : Order = w.0 in
            let i : look n d.roll ≡ Some r = w.1 in
            let j : look n e.roll ≡ Some r = sym (waits_same n d.roll e.roll t.roll a.0) ∙ i in
            let k : r.number ≡ n = look_number n d.roll r i in
            let m : MidTwin r.number d e = record {
              twin = t;
              runner = r;
              is = subst (λ z. look z d.roll ≡ Some r) (sym k) i;
              is' = subst (λ z. look z e.roll ≡ Some r) (sym k) j;
              off = ap is_book w.2;
            } in
            subst (λ z. Twin (run_of gifts n z d) (run_of gifts n (look n e.roll) e)) (sym i)
            (subst (λ z. Twin (run gifts r d) (run_of gifts n z e)) (sym j)
            (run_twin r d e m (subst (λ z. Quiet (run_of gifts n z d)) i x) (subst (λ z. Quiet (run_of gifts n z e)) j y)))

    pub turns_twin : (k : ℕ) (d e : Day) → Sound d → Twin d e → Quiet (turns gifts k d) → Quiet (turns gifts k e) → Twin (turns gifts k d) (turns gifts k e)
    unfolding turns
    turns_twin zero d e s t x y = t
    turns_twin (suc k) d e s t x y =
        turns_twin k (turn gifts d) (turn gifts e) (turn_sound gifts lawful d s)
        (turn_twin d e s t (turns_back k (turn gifts d) x) (turns_back k (turn gifts e) y)) x y
