-- A run, and so a call, keeps the day sound.
use Rattle.std.proofs.Common.{◌≡◌, ℕ, zero, suc, ◌-◌, ◌<◌, ◌≤◌, Bool, true, false, cond, not, ◌&&◌, eqb, List, [], ◌∷◌, map, Some, None, Option, sym, refl, ap, ◌∙◌, subst, ⊎_elim, arith}
use Rattle.std.proofs.lemmas.Bool.{false≢true, and_parts, and_from, eq-eqb, ne_eqb, eqb-true, eqb-false, cases_eq}
use Rattle.std.specs.List.{AllByRecursion}
use Rattle.market.specs.declared.words.Side.{Side}
use Rattle.market.specs.declared.words.Kind.{Kind}
use Rattle.market.specs.declared.words.Kind.TheVariants.{Limit, Market, ImmediateOrCancel, Stop}
use Rattle.market.specs.declared.words.Place.{Place}
use Rattle.market.specs.declared.words.Place.TheVariants.{Book, Line, Nowhere}
use Rattle.market.specs.declared.words.Order.{Order}
use Rattle.market.specs.declared.words.Range.{Range}
use Rattle.market.specs.Sides.{opposite, same_side, better, as_good}
use Rattle.market.specs.Orders.{rests_on, is_book, where_with, fill, cancel, put, in_limit}
use Rattle.market.specs.Ranges.{in_range}
use Rattle.sharing.specs.Shares.{LawfulRule}
use Rattle.replay.specs.Lists.{those, kept, any}
use Rattle.replay.specs.Days.{Day, Rule}
use Rattle.replay.specs.Rolls.{is_filed, look, found, alter, here, left, open_of, place_of}
use Rattle.replay.specs.Book.{best, is_at, is_better, ahead, row, prices, is_contra, is_reached}
use Rattle.replay.specs.Moves.{deal, after, size, trade, leave, withdraw, rest, pause, elect, is_elected, called, centre, without}
use Rattle.replay.specs.Runs.{only_if, allowed, first_price, clean_up, if_left, next_price, print_at, residual, settle_of, settle, elect_at, centre_if, run, run_of, turn_of, turn, turns, work, busy}
use Rattle.replay.proofs.Lists.{all_append, all_map}
use Rattle.replay.proofs.Rolls.{Good, Held, dealt_is, dealt_number, all_alter, look_same, look_other, look_deal}
use Rattle.replay.proofs.Conservation.{Books, Ready, trade_books, find_all}
use Rattle.replay.proofs.Moves.{Waits, leave_books, pause_books, centre_books, withdraw_books, rest_books, elect_books}
use Rattle.replay.proofs.Prices.{Among, among_any, among_map, best_all, best_in, of_prices, in_prices, none_ahead, in_reach, at_reach, clean_up_short}

abbrev pub numbers : List Order → List ℕ
numbers os = map (λ o. o.number) os

abbrev pub Counted : ℕ → List ℕ → Type 0
Counted k [] = Unit {0}
Counted k (n ∷ ns) = (n ≡ k) × Counted (suc k) ns

pub record Sound (d : Day) : Type 0 where
  pub books : Books d
  pub counted : Counted 1 (numbers d.roll)
  pub line : AllByRecursion (Waits d.roll) d.line

-- in the midst of the run of order r, as it was when it came to run
pub record Mid (r : Order) (d : Day) : Type 0 where
  pub books : Books d
  pub counted : Counted 1 (numbers d.roll)
  pub line : AllByRecursion (λ m. (m ≡ r.number → ⊥) → Waits d.roll m) d.line
  pub runner : Order
  pub is : look r.number d.roll ≡ Some runner
  pub spotted : runner.place ≡ where_with runner.«open» Line
  pub side : runner.side ≡ r.side
  pub kind : runner.kind ≡ r.kind
  pub price : runner.price ≡ r.price

-- what is known of a price at which the order prints
pub record Prints (r : Order) (p : ℕ) (d : Day) : Type 0 where
  pub pos : 0 < left r.number d.roll
  pub some : any (is_at (opposite r.side) p) d.roll ≡ true
  pub short : ahead (opposite r.side) p d.roll < left r.number d.roll
  pub limit : in_limit r p ≡ true
  pub range : in_range d.range p ≡ true

-- numbers are kept ---------------------------------------------------------------------------------------------------------------
pub numbers_alter : (n : ℕ) (f : Order → Order) → ((o : Order) → (f o).number ≡ o.number) → (os : List Order) → numbers (alter n f os) ≡ numbers os
unfolding alter
numbers_alter n f k [] = refl
numbers_alter n f k (o ∷ os) = go (eqb o.number n) (numbers_alter n f k os)
  where
    go : (b : Bool) → numbers (alter n f os) ≡ numbers os → numbers (here b f o os (alter n f os)) ≡ o.number ∷ numbers os
    go true ih = ap (λ x. x ∷ numbers os) (k o)
    go false ih = ap (λ x. o.number ∷ x) ih

pub numbers_deal : (c : Side) (p : ℕ) (os : List Order) (gs : List ℕ) → numbers (deal c p os gs) ≡ numbers os
unfolding deal
numbers_deal c p [] gs = refl
numbers_deal c p (o ∷ os) gs =
    ap (λ x. x ∷ numbers (deal c p os (after (is_at c p o) gs))) (dealt_number (is_better c p o) (is_at c p o) gs o) ∙ ap (λ x. o.number ∷ x) (numbers_deal c p os (after (is_at c p o) gs))

pub called_number : (t : Bool) (o : Order) → (called t o).number ≡ o.number
called_number true o = refl
called_number false o = refl

numbers_called : (p : ℕ) (os : List Order) → numbers (map (λ o. called (is_elected p o) o) os) ≡ numbers os
numbers_called p [] = refl
numbers_called p (o ∷ os) = ap (λ x. x ∷ numbers (map (λ o. called (is_elected p o) o) os)) (called_number (is_elected p o) o) ∙ ap (λ x. o.number ∷ x) (numbers_called p os)

-- who waits goes on waiting ---------------------------------------------------------------------------------------------------------
pub waiter : (os : List Order) (m : ℕ) → Waits os m → (r : Order) × (look m os ≡ Some r) × (r.place ≡ Line)
waiter os m w = go (look m os) refl w
  where
    go : (x : Option Order) → look m os ≡ x → place_of x ≡ Line → (r : Order) × (look m os ≡ Some r) × (r.place ≡ Line)
    go None e w = absurd (let z : ◌≡◌ {A = ℕ} 0 1 = cc in omega arith)
    go (Some r) e w = (r, e, w)

waits_from : (os : List Order) (m : ℕ) (r : Order) → look m os ≡ Some r → r.place ≡ Line → Waits os m
waits_from os m r e w = ap place_of e ∙ w

waits_other : (n m : ℕ) (f : Order → Order) (os : List Order) → ((o : Order) → (f o).number ≡ o.number) → (m ≡ n → ⊥) → Waits os m → Waits (alter n f os) m
waits_other n m f os k ne w = ap place_of (look_other m n f os k ne) ∙ w

pub spot_open : (m : ℕ) (w : Place) → 0 < m → where_with m w ≡ w
spot_open m w h = ap (λ b. cond b Nowhere w) (ne_eqb m 0 (λ e. omega arith))

pub waiting_held : (w : Place) (n : ℕ) → w ≡ Line → Held w n → 100 ≤ n
waiting_held w n e h = subst (λ x. Held x n) e h

waits_deal : (c : Side) (p : ℕ) (os : List Order) (gs : List ℕ) (m : ℕ) → AllByRecursion Good os → Waits os m → Waits (deal c p os gs) m
waits_deal c p os gs m a w =
    let x : (r : Order) × (look m os ≡ Some r) × (r.place ≡ Line) = waiter os m w in
    let h : 100 ≤ x.0.«open» = waiting_held x.0.place x.0.«open» x.2 (find_all Good m os x.0 x.1 a).held in
    waits_from (deal c p os gs) m x.0 (look_deal m c p os gs x.0 x.1 (ap is_book x.2)) x.2

filed_called : (p : ℕ) (o : Order) → o.place ≡ Line → called (is_elected p o) o ≡ o
filed_called p o e = ap (λ b. called (b && as_good o.side p o.price) o) (ap is_filed e)

waits_called : (p m : ℕ) (os : List Order) → Waits os m → Waits (map (λ o. called (is_elected p o) o) os) m
unfolding look
waits_called p m [] w = w
waits_called p m (o ∷ os) w = go (eqb o.number m) (ap (λ x. eqb x m) (called_number (is_elected p o) o)) w (waits_called p m os)
  where
    go : (b : Bool) → eqb (called (is_elected p o) o).number m ≡ b → place_of (found b o (look m os)) ≡ Line → (Waits os m → Waits (map (λ o. called (is_elected p o) o) os) m)
        → place_of (found (eqb (called (is_elected p o) o).number m) (called (is_elected p o) o) (look m (map (λ o. called (is_elected p o) o) os))) ≡ Line
    go true e w ih = ap (λ b. place_of (found b (called (is_elected p o) o) (look m (map (λ o. called (is_elected p o) o) os)))) e ∙ ap (λ (x : Order). x.place) (filed_called p o w) ∙ w
    go false e w ih = ap (λ b. place_of (found b (called (is_elected p o) o) (look m (map (λ o. called (is_elected p o) o) os)))) e ∙ ih w

-- numbers of those elected are above k
above : (t : Order → Bool) (k : ℕ) (os : List Order) → Counted (suc k) (numbers os) → AllByRecursion (λ m. k < m) (numbers (those t os))
above t k os a = go t k (suc k) os (omega arith) a
  where
    go : (t : Order → Bool) (k j : ℕ) (os : List Order) → k < j → Counted j (numbers os) → AllByRecursion (λ m. k < m) (numbers (those t os))
    go t k j [] h a = tt
    go t k j (o ∷ os) h a = pick (t o) (go t k (suc j) os (omega arith) a.1)
      where
        pick : (b : Bool) → AllByRecursion (λ m. k < m) (numbers (those t os)) → AllByRecursion (λ m. k < m) (numbers (kept b o (those t os)))
        pick true ih = (omega (arith, a.0), ih)
        pick false ih = ih

waits_new : (p k : ℕ) (os : List Order) → Counted k (numbers os) → AllByRecursion (Waits (map (λ o. called (is_elected p o) o) os)) (numbers (those (is_elected p) os))
unfolding look
waits_new p k [] a = tt
waits_new p k (o ∷ os) a = go (is_elected p o) (all_map _ _ (numbers (those (is_elected p) os)) (λ m h. h) (below (numbers (those (is_elected p) os)) (above (is_elected p) k os a.1) (waits_new p (suc k) os a.1)))
  where
    new : List Order
    new = map (λ o. called (is_elected p o) o) os

    below : (ms : List ℕ) → AllByRecursion (λ m. k < m) ms → AllByRecursion (Waits new) ms → AllByRecursion (λ m. (b : Bool) → Waits (called b o ∷ new) m) ms
    below [] x y = tt
    below (m ∷ ms) x y = (
      (λ b. let e : eqb (called b o).number m ≡ false = ne_eqb (called b o).number m (λ h. omega (arith, called_number b o, a.0, x.0)) in
          ap (λ t. place_of (found t (called b o) (look m new))) e ∙ y.0),
      below ms x.1 y.1,
    )

    go : (b : Bool) → AllByRecursion (λ m. (b : Bool) → Waits (called b o ∷ new) m) (numbers (those (is_elected p) os)) → AllByRecursion (Waits (called b o ∷ new)) (numbers (kept b o (those (is_elected p) os)))
    go true ih =
        (ap (λ t. place_of (found t (put Line o) (look o.number new))) (eq-eqb o.number o.number refl), all_map _ _ (numbers (those (is_elected p) os)) (λ m h. h true) ih)
    go false ih = all_map _ _ (numbers (those (is_elected p) os)) (λ m h. h false) ih

pub elect_sound : (p : ℕ) (d : Day) → Sound d → Sound (elect p d)
unfolding elect
elect_sound p d s = record {
  books = elect_books p d s.books;
  counted = subst (Counted 1) (sym (numbers_called p d.roll)) s.counted;
  line = all_append (Waits (map (λ o. called (is_elected p o) o) d.roll)) d.line (numbers (those (is_elected p) d.roll))
      (all_map _ _ d.line (λ m w. waits_called p m d.roll w) s.line) (waits_new p 1 d.roll s.counted);
}

-- a trade ------------------------------------------------------------------------------------------------------------------------
some_inj : {x y : Order} → Some x ≡ Some y → x ≡ y
some_inj e = cc

pub fill_number : (q : ℕ) (o : Order) → (fill q o).number ≡ o.number
fill_number q o = refl

all_without : (n : ℕ) (Q : ℕ → Type 0) (ms : List ℕ) → AllByRecursion (λ m. (m ≡ n → ⊥) → Q m) ms → AllByRecursion Q (without n ms)
all_without n Q [] a = tt
all_without n Q (m ∷ ms) a = go (eqb m n) refl (all_without n Q ms a.1)
  where
    go : (b : Bool) → eqb m n ≡ b → AllByRecursion Q (without n ms) → AllByRecursion Q (kept (not b) m (without n ms))
    go true e ih = ih
    go false e ih = (a.0 (eqb-false m n e), ih)

pub but : (n : ℕ) (f : Order → Order) (d : Day) → ((o : Order) → (f o).number ≡ o.number)
    → AllByRecursion (λ m. (m ≡ n → ⊥) → Waits d.roll m) d.line → AllByRecursion (Waits (alter n f d.roll)) (without n d.line)
but n f d k a = all_without n _ d.line (all_map _ _ d.line (λ m h ne. waits_other n m f d.roll k ne (h ne)) a)

pub look_number : (n : ℕ) (os : List Order) (r : Order) → look n os ≡ Some r → r.number ≡ n
unfolding look
look_number n [] r e = cc
look_number n (o ∷ os) r e = go (eqb o.number n) refl e (look_number n os r)
  where
    go : (b : Bool) → eqb o.number n ≡ b → found b o (look n os) ≡ Some r → (look n os ≡ Some r → r.number ≡ n) → r.number ≡ n
    go true t e ih = ap (λ (x : Order). x.number) (sym (some_inj e)) ∙ eqb-true o.number n t
    go false t e ih = ih e

module _ (gifts : Rule) (lawful : LawfulRule gifts) where
  pub trade_ready : (r : Order) (p : ℕ) (d : Day) (m : Mid r d) → Prints r p d → Ready r.number m.runner (opposite r.side) p d.roll
  unfolding left
  trade_ready r p d m k =
      let o : open_of (look r.number d.roll) ≡ m.runner.«open» = ap open_of m.is in
      record { is = m.is; waits = m.spotted ∙ spot_open m.runner.«open» Line (omega (arith, k.pos)); contra = ap opposite (sym m.side); some = k.some; short = omega (arith, k.short) }

  pub trade_mid : (r : Order) (p : ℕ) (d : Day) → Mid r d → Prints r p d → Mid r (trade gifts r.number (opposite r.side) p d)
  unfolding trade left
  trade_mid r p d m z =
      let n : ℕ = r.number in
      let os : List Order = d.roll in
      let c : Side = opposite r.side in
      let pos : 0 < left n os = z.pos in
      let x : Order = m.runner in
      let q : ℕ = size n c p os in
      let gs : List ℕ = gifts (row c p os) (q - ahead c p os) in
      let o : open_of (look n os) ≡ x.«open» = ap open_of m.is in
      let w : x.place ≡ Line = m.spotted ∙ spot_open x.«open» Line (omega arith) in
      let k : Ready n x c p os = trade_ready r p d m z in
      record {
        books = trade_books gifts lawful n x c p d k m.books;
        counted = subst (Counted 1) (sym (numbers_alter n (fill q) (fill_number q) (deal c p os gs) ∙ numbers_deal c p os gs)) m.counted;
        line = all_map _ _ d.line (λ j h ne. waits_other n j (fill q) (deal c p os gs) (fill_number q) ne (waits_deal c p os gs j m.books.orders (h ne))) m.line;
        runner = fill q x;
        is = look_same n (fill q) (deal c p os gs) x (fill_number q) (look_deal n c p os gs x m.is (ap is_book w));
        spotted = ap (λ y. where_with (x.«open» - q) y) w;
        side = m.side;
        kind = m.kind;
        price = m.price;
      }

  -- nothing resting is better than the first price
  abbrev pub Clear : Side → ℕ → List Order → Type 0
  Clear c f os = AllByRecursion (λ o. rests_on c o ≡ true → better c o.price f ≡ false) os

  pub rests_on_fill : (c : Side) (q : ℕ) (o : Order) → rests_on c (fill q o) ≡ true → rests_on c o ≡ true
  rests_on_fill c q o e = go (eqb (o.«open» - q) 0) e
    where
      go : (b : Bool) → (is_book (cond b Nowhere o.place) && same_side o.side c) ≡ true → (is_book o.place && same_side o.side c) ≡ true
      go true e = absurd (false≢true e)
      go false e = e

  clear_fill : (c : Side) (f q : ℕ) (o : Order) → (rests_on c o ≡ true → better c o.price f ≡ false) → rests_on c (fill q o) ≡ true → better c (fill q o).price f ≡ false
  clear_fill c f q o h e = h (rests_on_fill c q o e)

  clear_deal : (c : Side) (f p : ℕ) (os : List Order) (gs : List ℕ) → Clear c f os → Clear c f (deal c p os gs)
  unfolding deal
  clear_deal c f p [] gs a = tt
  clear_deal c f p (o ∷ os) gs a = (dealt_is (λ u. rests_on c u ≡ true → better c u.price f ≡ false) (is_better c p o) (is_at c p o) gs o (λ q. clear_fill c f q o a.0) a.0, clear_deal c f p os (after (is_at c p o) gs) a.1)

  pub clear_trade : (c : Side) (f n p : ℕ) (d : Day) → Clear c f d.roll → Clear c f (trade gifts n c p d).roll
  unfolding trade
  clear_trade c f n p d a =
      all_alter (λ o. rests_on c o ≡ true → better c o.price f ≡ false) n (fill (size n c p d.roll)) (deal c p d.roll _)
      (λ o e h. clear_fill c f (size n c p d.roll) o h) (clear_deal c f p d.roll _ a)

  -- the first price
  allowed_some : (t : ℕ → Bool) (x : Option ℕ) (p : ℕ) → allowed t x ≡ Some p → (x ≡ Some p) × (t p ≡ true)
  allowed_some t None p e = absurd (let z : ◌≡◌ {A = ℕ} 0 1 = cc in omega arith)
  allowed_some t (Some q) p e = go (t q) refl e
    where
      go : (b : Bool) → t q ≡ b → only_if b q ≡ Some p → (Some q ≡ Some p) × (t p ≡ true)
      go true h e = let s : q ≡ p = cc in (e, subst (λ x. t x ≡ true) s h)
      go false h e = absurd (let z : ◌≡◌ {A = ℕ} 0 1 = cc in omega arith)

  pub record First (r : Order) (p : ℕ) (d : Day) : Type 0 where
    pub some : any (is_at (opposite r.side) p) d.roll ≡ true
    pub clear : Clear (opposite r.side) p d.roll
    pub limit : in_limit r p ≡ true
    pub range : in_range d.range p ≡ true

  pub first_is_lem : (r : Order) (p : ℕ) (d : Day) → first_price r d ≡ Some p → First r p d
  unfolding first_price
  first_is_lem r p d e =
      let c : Side = opposite r.side in
      let h : (best c (prices (rests_on c) d.roll) ≡ Some p) × ((in_limit r p && in_range d.range p) ≡ true)
      = allowed_some (λ p. in_limit r p && in_range d.range p) (best c (prices (rests_on c) d.roll)) p e in
      record {
        some = among_any (is_at c p) d.roll (among_map _ _ d.roll (λ o b. and_from (rests_on c o) (eqb o.price p) b.0 (eq-eqb o.price p b.1))
            (in_prices (rests_on c) (λ q. q ≡ p) d.roll (best_in c (prices (rests_on c) d.roll) p h.0)));
        clear = of_prices (rests_on c) (λ q. better c q p ≡ false) d.roll (best_all c (prices (rests_on c) d.roll) p h.0);
        limit = (and_parts (in_limit r p) (in_range d.range p) h.1).0;
        range = (and_parts (in_limit r p) (in_range d.range p) h.1).1;
      }

  -- settling ------------------------------------------------------------------------------------------------------------------------
  leave_sound : (r : Order) (d : Day) → Mid r d → Sound (leave r.number d)
  unfolding leave
  leave_sound r d m = let n : ℕ = r.number in record { books = leave_books n d m.books; counted = m.counted; line = all_without n (Waits d.roll) d.line m.line }

  withdraw_sound : (r : Order) (d : Day) → Mid r d → Sound (withdraw r.number d)
  unfolding withdraw
  withdraw_sound r d m = let n : ℕ = r.number in record {
    books = withdraw_books n d m.books;
    counted = subst (Counted 1) (sym (numbers_alter n cancel (λ o. refl) d.roll)) m.counted;
    line = but n cancel d (λ o. refl) m.line;
  }

  rest_sound : (r : Order) (d : Day) → Waits d.roll r.number → Mid r d → Sound (rest r.number d)
  unfolding rest
  rest_sound r d w m = let n : ℕ = r.number in record {
    books = rest_books n d w m.books;
    counted = subst (Counted 1) (sym (numbers_alter n (put Book) (λ o. refl) d.roll)) m.counted;
    line = but n (put Book) d (λ o. refl) m.line;
  }

  stay_sound : (r : Order) (d : Day) → Waits d.roll r.number → Mid r d → Sound (pause true d)
  unfolding pause
  stay_sound r d w m = let n : ℕ = r.number in record {
    books = pause_books true d m.books;
    counted = m.counted;
    line = all_map _ _ d.line (λ j h. ⊎_elim (λ e. subst (Waits d.roll) (sym e) w) (λ ne. h ne) (cases_eq j n)) m.line;
  }

  pause_sound : (b : Bool) (d : Day) → Sound d → Sound (pause b d)
  unfolding pause
  pause_sound b d s = record { books = pause_books b d s.books; counted = s.counted; line = s.line }

  residual_sound : (r : Order) (b : Bool) (k : Kind) (d : Day) → Waits d.roll r.number → Mid r d → Sound (residual r.number b k d)
  residual_sound r true Limit d w m = stay_sound r d w m
  residual_sound r true Market d w m = stay_sound r d w m
  residual_sound r true Stop d w m = stay_sound r d w m
  residual_sound r true ImmediateOrCancel d w m = pause_sound true (withdraw r.number d) (withdraw_sound r d m)
  residual_sound r false Limit d w m = rest_sound r d w m
  residual_sound r false Market d w m = withdraw_sound r d m
  residual_sound r false Stop d w m = withdraw_sound r d m
  residual_sound r false ImmediateOrCancel d w m = withdraw_sound r d m

  pub mid_waits : (r : Order) (d : Day) (m : Mid r d) → 0 < left r.number d.roll → Waits d.roll r.number
  unfolding left
  mid_waits r d m pos = ap place_of m.is ∙ m.spotted ∙ spot_open m.runner.«open» Line (omega (arith, ap open_of m.is))

  pub settle_sound : (r : Order) (d : Day) → Mid r d → Sound (settle r d)
  unfolding settle
  settle_sound r d m = go (left r.number d.roll) refl
    where
      go : (l : ℕ) → left r.number d.roll ≡ l → Sound (settle_of l r.number (any (is_contra r) d.roll) r.kind d)
      go zero e = leave_sound r d m
      go (suc l) e = residual_sound r (any (is_contra r) d.roll) r.kind d (mid_waits r d m (omega arith)) m

  pub centre_sound : (d : Day) → Sound d → Sound (centre d)
  unfolding centre
  centre_sound d s = record { books = centre_books d s.books; counted = s.counted; line = s.line }

  -- the run ---------------------------------------------------------------------------------------------------------------------------
  pub elect_at_sound : (x : Option ℕ) (d : Day) → Sound d → Sound (elect_at x d)
  elect_at_sound None d s = s
  elect_at_sound (Some p) d s = elect_sound p d s

  centre_if_sound : (g : Option Range) (x : Option ℕ) (d : Day) → Sound d → Sound (centre_if g x d)
  centre_if_sound None None d s = s
  centre_if_sound None (Some p) d s = centre_sound d s
  centre_if_sound (Some g) x d s = s

  pub trade_range : (n : ℕ) (c : Side) (p : ℕ) (d : Day) → (trade gifts n c p d).range ≡ d.range
  unfolding trade
  trade_range n c p d = refl

  -- the two prints
  pub first_prints : (r : Order) (p : ℕ) (d : Day) → 0 < left r.number d.roll → first_price r d ≡ Some p → Prints r p d
  first_prints r p d pos e =
      let k : First r p d = first_is_lem r p d e in
      record { pos = pos; some = k.some; short = subst (λ x. x < left r.number d.roll) (sym (none_ahead (opposite r.side) p d.roll k.clear)) pos; limit = k.limit; range = k.range }

  pub next_prints : (r : Order) (f : ℕ) (d : Day) → Clear (opposite r.side) f d.roll → in_range d.range f ≡ true
      → (p : ℕ) → if_left (left r.number d.roll) (clean_up r d) ≡ Some p → Prints r p d
  unfolding clean_up
  next_prints r f d cl fr p e = go (left r.number d.roll) refl e
    where
      c : Side
      c = opposite r.side

      go : (l : ℕ) → left r.number d.roll ≡ l → if_left l (clean_up r d) ≡ Some p → Prints r p d
      go zero h e = absurd (let z : ◌≡◌ {A = ℕ} 0 1 = cc in omega arith)
      go (suc l) h e =
          let at : Among (λ o. (is_reached r d.range o ≡ true) × (o.price ≡ p)) d.roll = in_reach r d.range (left r.number d.roll) f p d.roll e in
          let lr : (in_limit r p ≡ true) × (in_range d.range p ≡ true) = at_reach r d.range p d.roll at in
          record {
            pos = omega arith;
            some = among_any (is_at c p) d.roll (among_map _ _ d.roll
                (λ o b. and_from (rests_on c o) (eqb o.price p)
                (and_parts (rests_on c o) (in_limit r o.price) (and_parts (is_contra r o) (in_range d.range o.price) b.0).0).0 (eq-eqb o.price p b.1)) at);
            short = clean_up_short r d.range (left r.number d.roll) f p d.roll e (omega arith) fr cl;
            limit = lr.0;
            range = lr.1;
          }

  next_mid : (r : Order) (f : ℕ) (d : Day) → Mid r d → Clear (opposite r.side) f d.roll → in_range d.range f ≡ true
      → (x : Option ℕ) → if_left (left r.number d.roll) (clean_up r d) ≡ x → Mid r (print_at gifts r x d)
  next_mid r f d m cl fr None e = m
  next_mid r f d m cl fr (Some p) e = trade_mid r p d m (next_prints r f d cl fr p e)

  run_sound : (r : Order) (d : Day) → Mid r d → 0 < left r.number d.roll → Sound (run gifts r d)
  unfolding run
  run_sound r d m pos = go (first_price r d) refl
    where
      go : (a : Option ℕ) → first_price r d ≡ a
          → Sound (centre_if d.range a (elect_at (next_price a r (print_at gifts r a d)) (elect_at a (settle r (print_at gifts r (next_price a r (print_at gifts r a d)) (print_at gifts r a d))))))
      go None e = centre_if_sound d.range None _ (settle_sound r d m)
      go (Some p) e =
          let k : First r p d = first_is_lem r p d e in
          let c : Side = opposite r.side in
          let d₁ : Day = trade gifts r.number c p d in
          let m₁ : Mid r d₁ = trade_mid r p d m (first_prints r p d pos e) in
          let b : Option ℕ = if_left (left r.number d₁.roll) (clean_up r d₁) in
          centre_if_sound d.range (Some p) _ (elect_at_sound b _ (elect_sound p _ (settle_sound r _
          (next_mid r p d₁ m₁ (clear_trade c p r.number p d k.clear) (ap (λ g. in_range g p) (trade_range r.number c p d) ∙ k.range) b refl))))

  -- the first of the line comes to run
  pub starts : (n : ℕ) (r : Order) (d : Day) → Sound d → look n d.roll ≡ Some r → r.place ≡ Line → Mid r d × (0 < left r.number d.roll)
  unfolding left
  starts n r d s e w =
      let k : r.number ≡ n = look_number n d.roll r e in
      let i : look r.number d.roll ≡ Some r = subst (λ k. look k d.roll ≡ Some r) (sym k) e in
      let h : 100 ≤ r.«open» = waiting_held r.place r.«open» w (find_all Good n d.roll r e s.books.orders).held in (
        record {
          books = s.books;
          counted = s.counted;
          line = all_map _ _ d.line (λ j w _. w) s.line;
          runner = r;
          is = i;
          spotted = w ∙ sym (spot_open r.«open» Line (omega arith));
          side = refl;
          kind = refl;
          price = refl;
        },
        omega (arith, ap open_of i),
      )

  pub turn_sound : (d : Day) → Sound d → Sound (turn gifts d)
  unfolding turn left
  turn_sound d s = go d.paused d.line s.line
    where
      go : (b : Bool) (ns : List ℕ) → AllByRecursion (Waits d.roll) ns → Sound (turn_of gifts b ns d)
      go true ns a = s
      go false [] a = s
      go false (n ∷ ns) a =
          let x : (r : Order) × (look n d.roll ≡ Some r) × (r.place ≡ Line) = waiter d.roll n a.0 in
          let y : Mid x.0 d × (0 < left x.0.number d.roll) = starts n x.0 d s x.1 x.2 in
          subst (λ y. Sound (run_of gifts n y d)) (sym x.1) (run_sound x.0 d y.0 y.1)

  pub turns_sound : (k : ℕ) (d : Day) → Sound d → Sound (turns gifts k d)
  unfolding turns
  turns_sound zero d s = s
  turns_sound (suc k) d s = turns_sound k (turn gifts d) (turn_sound d s)

  pub work_sound : (d : Day) → Sound d → Sound (work gifts d)
  unfolding work
  work_sound d s = turns_sound (busy d) d s
