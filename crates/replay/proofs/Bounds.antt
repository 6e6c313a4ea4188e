-- The numbers of a day stay small: what the code's arithmetic needs.
use Rattle.std.proofs.Common.{◌≡◌, ℕ, ◌-◌, ◌≤◌, Bool, true, false, cond, not, ◌&&◌, ◌||◌, eqb, leb, ◌⊎◌, List, [], ◌∷◌, ◌++◌, map, Some, None, sym, refl, ap, ◌∙◌, subst, inl, inr, arith}
use Rattle.std.proofs.lemmas.Bool.{false≢true, not-false, and_parts, and_from, eqb-true, leb-true, le-leb}
use Rattle.std.specs.List.{AllByRecursion}
use Rattle.market.specs.declared.words.Side.{Side}
use Rattle.market.specs.declared.words.Kind.{Kind}
use Rattle.market.specs.declared.words.Kind.TheVariants.{Limit, Market, ImmediateOrCancel, Stop}
use Rattle.market.specs.declared.words.Place.{Place}
use Rattle.market.specs.declared.words.Place.TheVariants.{Book, Line, StopFile, Nowhere}
use Rattle.market.specs.declared.words.Column.{Column}
use Rattle.market.specs.declared.words.Column.TheVariants.{Lower, Higher}
use Rattle.market.specs.declared.words.Order.{Order}
use Rattle.market.specs.declared.words.Range.{Range}
use Rattle.market.specs.Sides.{opposite, same_side}
use Rattle.market.specs.Orders.{rests_on, fill, cancel, put, is_book}
use Rattle.market.specs.Ranges.{range_around, around, Band, bands, of_column, of_band, value_in}
use Rattle.sharing.specs.Shares.{LawfulRule}
use Rattle.replay.specs.Lists.{any}
use Rattle.replay.specs.Days.{Rule, Call, new_day}
use Rattle.replay.specs.Rolls.{fresh, price_of, is_market}
use Rattle.replay.specs.Book.{is_at, is_better}
use Rattle.replay.specs.Moves.{deal, after, size, trade, leave, withdraw, rest, pause, elect, is_elected, called, centre, admit, floored, resumed, set_up, to}
use Rattle.replay.specs.Calls.{after_calls}
use Rattle.replay.specs.Bounds.{Fine, FineRange, Bounds, NumbersInBounds}
use Rattle.replay.proofs.Rolls.{all_alter, dealt_is}
use Rattle.replay.proofs.Prices.{Among, meet}
use Rattle.replay.proofs.Calls.{Checked}
use Rattle.replay.proofs.Keeps.{Keeps, always}
use Rattle.market.specs.Bounds.{is_price, is_member, is_class, is_last_sale}

-- orders -------------------------------------------------------------------------------------------------------------------------------------------
fill_fine : (q : ℕ) (o : Order) → Fine o → Fine (fill q o)
fill_fine q o f = record { price = f.price; priced = f.priced; member = f.member; book = λ e. f.book (go (eqb (o.«open» - q) 0) e) }
  where
    go : (b : Bool) → cond b Nowhere o.place ≡ Book → o.place ≡ Book
    go true e = absurd (let z : ◌≡◌ {A = ℕ} 0 1 = cc in omega arith)
    go false e = e

cancel_fine : (o : Order) → Fine o → Fine (cancel o)
cancel_fine o f = record { price = f.price; priced = f.priced; member = f.member; book = λ e. absurd (let z : ◌≡◌ {A = ℕ} 0 1 = cc in omega arith) }

rest_fine : (o : Order) → o.kind ≡ Limit → Fine o → Fine (put Book o)
rest_fine o k f = record { price = f.price; priced = f.priced; member = f.member; book = λ e. k }

called_fine : (b : Bool) (o : Order) → Fine o → Fine (called b o)
called_fine true o f = record { price = f.price; priced = f.priced; member = f.member; book = λ e. absurd (let z : ◌≡◌ {A = ℕ} 0 1 = cc in omega arith) }
called_fine false o f = f

all_deal : (c : Side) (p : ℕ) (os : List Order) (gs : List ℕ) → AllByRecursion Fine os → AllByRecursion Fine (deal c p os gs)
unfolding deal
all_deal c p [] gs a = tt
all_deal c p (o ∷ os) gs a = (dealt_is Fine (is_better c p o) (is_at c p o) gs o (λ q. fill_fine q o a.0) a.0, all_deal c p os (after (is_at c p o) gs) a.1)

all_called : (p : ℕ) (os : List Order) → AllByRecursion Fine os → AllByRecursion Fine (map (λ o. called (is_elected p o) o) os)
all_called p [] a = tt
all_called p (o ∷ os) a = (called_fine (is_elected p o) o a.0, all_called p os a.1)

all_push : (os : List Order) (x : Order) → AllByRecursion Fine os → Fine x → AllByRecursion Fine (os ++ (x ∷ []))
all_push [] x a f = (f, tt)
all_push (o ∷ os) x a f = (a.0, all_push os x a.1 f)

any_among : (t : Order → Bool) (os : List Order) → any t os ≡ true → Among (λ o. t o ≡ true) os
any_among t [] e = absurd (false≢true e)
any_among t (o ∷ os) e = go (t o) refl e (any_among t os)
  where
    go : (b : Bool) → t o ≡ b → (b || any t os) ≡ true → (any t os ≡ true → Among (λ o. t o ≡ true) os) → (t o ≡ true) ⊎ Among (λ o. t o ≡ true) os
    go true f e ih = inl f
    go false f e ih = inr (ih e)

-- a price at which somebody rests
pub on_book : (w : Place) → is_book w ≡ true → w ≡ Book
on_book Nowhere e = absurd (false≢true e)
on_book Book e = refl
on_book Line e = absurd (false≢true e)
on_book StopFile e = absurd (false≢true e)

-- who rests has a price
pub resting_priced : (c : Side) (p : ℕ) (os : List Order) → any (is_at c p) os ≡ true → AllByRecursion Fine os → 1 ≤ p
resting_priced c p os e a = meet Fine (λ o. is_at c p o ≡ true) (1 ≤ p) os
    (λ o f h.
    let x : (rests_on c o ≡ true) × (eqb o.price p ≡ true) = and_parts (rests_on c o) (eqb o.price p) h in
    let b : o.place ≡ Book = on_book o.place (and_parts (is_book o.place) (same_side o.side c) x.0).0 in
    subst (λ z. 1 ≤ z) (eqb-true o.price p x.1) (f.priced (ap is_market (f.book b)))) a (any_among (is_at c p) os e)

pub resting_price : (c : Side) (p : ℕ) (os : List Order) → any (is_at c p) os ≡ true → AllByRecursion Fine os → p ≤ 100000
resting_price c p os e a = meet Fine (λ o. is_at c p o ≡ true) (p ≤ 100000) os
    (λ o f h. let z : o.price ≡ p = eqb-true o.price p (and_parts (rests_on c o) (eqb o.price p) h).1 in omega (arith, f.price)) a (any_among (is_at c p) os e)

-- the range ------------------------------------------------------------------------------------------------------------------------------------------
unfoldable Low : Band → Type 0
Low b = (b.first.0 ≤ 200) × (b.first.1 ≤ 200) × (b.others.0 ≤ 200) × (b.others.1 ≤ 200)

in_band : (k : ℕ) (c : Column) (b : Band) → Low b → of_band k c b ≤ 200
unfolding Low
in_band k c b h = go (eqb k 1) c
  where
    go : (t : Bool) (c : Column) → of_column c (cond t b.first b.others) ≤ 200
    go true Lower = h.0
    go true Higher = h.1
    go false Lower = h.2
    go false Higher = h.3

value_most : (bs : List Band) (k : ℕ) (c : Column) (p : ℕ) → AllByRecursion Low bs → value_in bs k c p ≤ 200
value_most [] k c p a = omega arith
value_most (b ∷ bs) k c p a = go (leb p b.to) (in_band k c b a.0) (value_most bs k c p a.1)
  where
    go : (t : Bool) → of_band k c b ≤ 200 → value_in bs k c p ≤ 200 → cond t (of_band k c b) (value_in bs k c p) ≤ 200
    go true x y = x
    go false x y = y

bands_low : AllByRecursion Low bands
unfolding Low
bands_low = ((omega arith, omega arith, omega arith, omega arith), ((omega arith, omega arith, omega arith, omega arith), ((omega arith, omega arith, omega arith, omega arith), ((omega arith, omega arith, omega arith, omega arith), ((omega arith, omega arith, omega arith, omega arith), ((omega arith, omega arith, omega arith, omega arith), tt))))))

pub range_fine : (k : ℕ) (c : Column) (p : ℕ) → p ≤ 100000 → FineRange (range_around k c p)
range_fine k c p h = go (is_class k && is_price p) (λ e. leb-true 1 p (and_parts (leb 1 p) (leb p 100000) (and_parts (is_class k) (is_price p) e).1).0)
  where
    at : (v : ℕ) → v ≤ 200 → 1 ≤ p → FineRange (Some (around p v))
    at v m l = (omega arith, omega arith, omega arith)

    go : (b : Bool) → (b ≡ true → 1 ≤ p) → FineRange (cond b (Some (around p (value_in bands k c p))) None)
    go true l = at (value_in bands k c p) (value_most bands k c p bands_low) (l refl)
    go false l = tt

-- a lawful class and price have a range
pub range_is : (k : ℕ) (c : Column) (p : ℕ) → (1 ≤ k) × (k ≤ 3) → 1 ≤ p → p ≤ 100000 → range_around k c p ≡ Some (around p (value_in bands k c p))
range_is k c p h l m =
    ap (λ b. cond b (Some (around p (value_in bands k c p))) None)
    (and_from (is_class k) (is_price p) (and_from (leb 1 k) (leb k 3) (le-leb 1 k h.0) (le-leb k 3 h.1)) (and_from (leb 1 p) (leb p 100000) (le-leb 1 p l) (le-leb p 100000 m)))

pub range_some : (k : ℕ) (c : Column) (p : ℕ) → (1 ≤ k) × (k ≤ 3) → 1 ≤ p → p ≤ 100000 → (g : Range) × (range_around k c p ≡ Some g)
range_some k c p h l m = (around p (value_in bands k c p), range_is k c p h l m)

-- checks ---------------------------------------------------------------------------------------------------------------------------------------------
good_price : (p : ℕ) → not (is_price p) ≡ false → (1 ≤ p) × (p ≤ 100000)
good_price p e =
    let h : (leb 1 p ≡ true) × (leb p 100000 ≡ true) = and_parts (leb 1 p) (leb p 100000) (not-false (is_price p) e) in (leb-true 1 p h.0, leb-true p 100000 h.1)

good_member : (m : ℕ) → not (is_member m) ≡ false → (1 ≤ m) × (m ≤ 255)
good_member m e =
    let h : (leb 1 m ≡ true) × (leb m 255 ≡ true) = and_parts (leb 1 m) (leb m 255) (not-false (is_member m) e) in (leb-true 1 m h.0, leb-true m 255 h.1)

good_class : (k : ℕ) → not (is_class k) ≡ false → (1 ≤ k) × (k ≤ 3)
good_class k e =
    let h : (leb 1 k ≡ true) × (leb k 3 ≡ true) = and_parts (leb 1 k) (leb k 3) (not-false (is_class k) e) in (leb-true 1 k h.0, leb-true k 3 h.1)

price_fine : (k : Kind) (p : ℕ) → (not (is_market k) && not (is_price p)) ≡ false → (price_of k p ≤ 100000) × (is_market k ≡ false → 1 ≤ price_of k p)
price_fine Limit p e = let h : (1 ≤ p) × (p ≤ 100000) = good_price p e in (h.1, λ _. h.0)
price_fine Market p e = (omega arith, λ x. absurd (false≢true (sym x)))
price_fine ImmediateOrCancel p e = let h : (1 ≤ p) × (p ≤ 100000) = good_price p e in (h.1, λ _. h.0)
price_fine Stop p e = let h : (1 ≤ p) × (p ≤ 100000) = good_price p e in (h.1, λ _. h.0)

fresh_fine : (k : Kind) (s : Side) (m p q : ℕ) (w : Place) (os : List Order) → Checked k m p q → (w ≡ Book → k ≡ Limit) → Fine (put w (fresh k s m p q os))
unfolding fresh
fresh_fine k s m p q w os c b = let h : (price_of k p ≤ 100000) × (is_market k ≡ false → 1 ≤ price_of k p) = price_fine k p c.price in
    record { price = h.0; priced = h.1; member = good_member m c.member; book = b }

module _ (gifts : Rule) (lawful : LawfulRule gifts) where
  pub bounds_keeps : Keeps gifts lawful Bounds
  unfolding trade leave withdraw rest pause elect centre admit floored resumed set_up to
  bounds_keeps = record {
    trade = λ r p d m k b. record {
      orders = all_alter Fine r.number (fill (size r.number (opposite r.side) p d.roll)) _ (λ o e f. fill_fine _ o f) (all_deal (opposite r.side) p d.roll _ b.orders);
      last = resting_price (opposite r.side) p d.roll k.some b.orders;
      class = b.class;
      range = b.range;
    };
    leave = λ r d m e b. record { orders = b.orders; last = b.last; class = b.class; range = b.range };
    withdraw = λ n d c b. record { orders = all_alter Fine n cancel d.roll (λ o e f. cancel_fine o f) b.orders; last = b.last; class = b.class; range = b.range };
    rest = λ r d m w e c b. record {
      orders = all_alter Fine r.number (put Book) d.roll
          (λ o i f. rest_fine o (ap (λ (x : Order). x.kind) (some_inj (sym i ∙ m.is)) ∙ m.kind ∙ e) f) b.orders;
      last = b.last;
      class = b.class;
      range = b.range;
    };
    pause = λ d b. record { orders = b.orders; last = b.last; class = b.class; range = b.range };
    elect = λ p d s b. record { orders = all_called p d.roll b.orders; last = b.last; class = b.class; range = b.range };
    centre = λ d b. record { orders = b.orders; last = b.last; class = b.class; range = range_fine d.class d.column d.last b.last };
    admit = λ k s m p q w d sd ch pl b. record { orders = all_push d.roll (put w (fresh k s m p q d.roll)) b.orders (fresh_fine k s m p q w d.roll ch (λ e. (pl e).0)); last = b.last; class = b.class; range = b.range };
    floored = λ p q d e b. record { orders = b.orders; last = (good_price p e).1; class = b.class; range = range_fine d.class d.column p (good_price p e).1 };
    resumed = λ d b. record { orders = b.orders; last = b.last; class = b.class; range = range_fine d.class d.column d.last b.last };
    set_up = λ k c p d e f b. record { orders = b.orders; last = leb-true p 100000 (not-false (is_last_sale p) f); class = good_class k e; range = b.range };
    to = λ f d b. record { orders = b.orders; last = b.last; class = b.class; range = b.range };
  }
    where
      some_inj : {x y : Order} → Some x ≡ Some y → x ≡ y
      some_inj e = cc

pub new_bounds : Bounds new_day
unfolding new_day
new_bounds = record { orders = tt; last = omega arith; class = (omega arith, omega arith); range = tt }

pub always_bounded : (gifts : Rule) → LawfulRule gifts → (room : ℕ) (cs : List Call) → Bounds (after_calls gifts room new_day cs)
always_bounded gifts lawful room cs = always gifts lawful Bounds (bounds_keeps gifts lawful) new_bounds room cs

pub numbers_in_bounds : NumbersInBounds
numbers_in_bounds = always_bounded
