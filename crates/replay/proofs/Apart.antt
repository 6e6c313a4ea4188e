-- Bid below offer: which changes of the roll keep it.
use Rattle.std.proofs.Common.{◌≡◌, ℕ, ◌-◌, ◌<◌, Bool, true, false, cond, ◌&&◌, eqb, leb, List, [], ◌∷◌, ◌++◌, map, Some, None, Option, sym, refl, ap, ◌∙◌, subst, arith}
use Rattle.std.proofs.lemmas.Bool.{false≢true, and_parts, or_parts, leb-false}
use Rattle.std.specs.List.{AllZip, AllByRecursion}
use Rattle.market.specs.declared.words.Side.{Side}
use Rattle.market.specs.declared.words.Side.TheVariants.{Buy, Sell}
use Rattle.market.specs.declared.words.Kind.{Kind}
use Rattle.market.specs.declared.words.Kind.TheVariants.{Limit}
use Rattle.market.specs.declared.words.Place.{Place}
use Rattle.market.specs.declared.words.Place.TheVariants.{Book, Line, StopFile, Nowhere}
use Rattle.market.specs.declared.words.Order.{Order}
use Rattle.market.specs.Sides.{opposite, same_side, as_good}
use Rattle.market.specs.Orders.{rests_on, is_book, fill, cancel, put, within_limit}
use Rattle.sharing.specs.Shares.{LawfulRule}
use Rattle.replay.specs.Lists.{any, total}
use Rattle.replay.specs.Days.{Day, Rule, new_day}
use Rattle.replay.specs.Rolls.{look, alter, here, fresh}
use Rattle.replay.specs.Book.{best, row, prices, is_at, is_better, is_contra}
use Rattle.replay.specs.Moves.{size, trade, leave, withdraw, rest, pause, elect, centre, admit, floored, resumed, set_up, to, deal, after, is_elected, called}
use Rattle.replay.specs.Questions.{quote, quote_of}
use Rattle.replay.proofs.Lists.{all_push, all_map}
use Rattle.replay.proofs.Calls.{put_place, fresh_limit}
use Rattle.replay.proofs.Keeps.{Placed, Keeps}
use Rattle.replay.proofs.Rolls.{all_alter, dealt_is}
use Rattle.replay.proofs.Prices.{Among, meet, in_prices, best_in}

abbrev pub Below : Order → Order → Type 0
Below b o = rests_on Buy b ≡ true → rests_on Sell o ≡ true → b.price < o.price

abbrev pub Apart : List Order → Type 0
Apart os = AllByRecursion (λ b. AllByRecursion (Below b) os) os

-- o' is o at the same price, and rests only if o does
pub record Thin (o o' : Order) : Type 0 where
  pub rest : (c : Side) → rests_on c o' ≡ true → rests_on c o ≡ true
  pub price : o'.price ≡ o.price

thin_all : (Q : Order → Type 0) (os us : List Order) → ((o u : Order) → Thin o u → Q o → Q u) → AllZip Thin os us → AllByRecursion Q os → AllByRecursion Q us
thin_all Q [] [] f z a = tt
thin_all Q [] (u ∷ us) f z a = absurd z
thin_all Q (o ∷ os) [] f z a = absurd z
thin_all Q (o ∷ os) (u ∷ us) f z a = (f o u z.0 a.0, thin_all Q os us f z.1 a.1)

pub apart_thin : (os us : List Order) → AllZip Thin os us → Apart os → Apart us
apart_thin os us z a =
    thin_all (λ b. AllByRecursion (Below b) us) os us (λ b b' t h. all_map _ _ us (λ o k x y. subst (λ p. p < o.price) (sym t.price) (k (t.rest Buy x) y)) h) z
    (all_map _ _ os (λ b h. thin_all (Below b) os us (λ o o' t k x y. subst (λ p. b.price < p) (sym t.price) (k x (t.rest Sell y))) z h) a)

thin_self : (os : List Order) → AllZip Thin os os
thin_self [] = tt
thin_self (o ∷ os) = (record { rest = λ c e. e; price = refl }, thin_self os)

pub thin_alter : (n : ℕ) (f : Order → Order) → ((o : Order) → Thin o (f o)) → (os : List Order) → AllZip Thin os (alter n f os)
unfolding alter
thin_alter n f k [] = tt
thin_alter n f k (o ∷ os) = go (eqb o.number n) (thin_alter n f k os)
  where
    go : (b : Bool) → AllZip Thin os (alter n f os) → AllZip Thin (o ∷ os) (here b f o os (alter n f os))
    go true ih = (k o, thin_self os)
    go false ih = (record { rest = λ c e. e; price = refl }, ih)

pub thin_fill : (q : ℕ) (o : Order) → Thin o (fill q o)
thin_fill q o = record { rest = λ c e. go c (eqb (o.«open» - q) 0) e; price = refl }
  where
    go : (c : Side) (b : Bool) → (is_book (cond b Nowhere o.place) && same_side o.side c) ≡ true → rests_on c o ≡ true
    go c true e = absurd (false≢true e)
    go c false e = e

pub thin_cancel : (o : Order) → Thin o (cancel o)
thin_cancel o = record { rest = λ c e. absurd (false≢true e); price = refl }

pub thin_deal : (c : Side) (p : ℕ) (os : List Order) (gs : List ℕ) → AllZip Thin os (deal c p os gs)
unfolding deal
thin_deal c p [] gs = tt
thin_deal c p (o ∷ os) gs = (dealt_is (Thin o) (is_better c p o) (is_at c p o) gs o (λ q. thin_fill q o) (record { rest = λ c e. e; price = refl }), thin_deal c p os (after (is_at c p o) gs))

pub thin_called : (p : ℕ) (os : List Order) → AllZip Thin os (map (λ o. called (is_elected p o) o) os)
thin_called p [] = tt
thin_called p (o ∷ os) = (go (is_elected p o), thin_called p os)
  where
    go : (b : Bool) → Thin o (called b o)
    go true = record { rest = λ c e. absurd (false≢true e); price = refl }
    go false = record { rest = λ c e. e; price = refl }

-- an order that comes to rest where no contra order is within its limit
pub apart_rest : (n : ℕ) (f : Order → Order) (r : Order) (os : List Order) → look n os ≡ Some r → AllByRecursion (λ o. Below (f r) o × Below o (f r)) os → Below (f r) (f r) → Apart os → Apart (alter n f os)
apart_rest n f r os i c s a =
    all_alter (λ b. AllByRecursion (Below b) (alter n f os)) n f os
    (λ o e _. subst (λ x. AllByRecursion (Below (f x)) (alter n f os)) (same o e)
    (all_alter (Below (f r)) n f os (λ u e _. subst (λ x. Below (f r) (f x)) (same u e) s) (all_map _ _ os (λ u h. h.0) c)))
    (all_map_two os (all_map _ _ os (λ o h. h.1) c) a)
  where
    same : (o : Order) → look n os ≡ Some o → r ≡ o
    same o e = some_inj (sym i ∙ e)
      where
        some_inj : {x y : Order} → Some x ≡ Some y → x ≡ y
        some_inj e = cc

    all_map_two : (bs : List Order) → AllByRecursion (λ o. Below o (f r)) bs → AllByRecursion (λ b. AllByRecursion (Below b) os) bs → AllByRecursion (λ b. AllByRecursion (Below b) (alter n f os)) bs
    all_map_two [] x y = tt
    all_map_two (b ∷ bs) x y = (all_alter (Below b) n f os (λ u e _. subst (λ z. Below b (f z)) (same u e) x.0) y.0, all_map_two bs x.1 y.1)

none : (t : Order → Bool) (os : List Order) → any t os ≡ false → AllByRecursion (λ o. t o ≡ false) os
none t [] e = tt
none t (o ∷ os) e = let h : (t o ≡ false) × (any t os ≡ false) = or_parts (t o) (any t os) e in (h.0, none t os h.1)

pub clear_of : (r : Order) (os : List Order) → r.kind ≡ Limit → any (is_contra r) os ≡ false → AllByRecursion (λ o. Below (put Book r) o × Below o (put Book r)) os
clear_of r os k e = all_map _ _ os (λ o h. both r.side o (limit o h)) (none (is_contra r) os e)
  where
    limit : (o : Order) → is_contra r o ≡ false → (rests_on (opposite r.side) o && as_good (opposite r.side) o.price r.price) ≡ false
    limit o h = subst (λ z. (rests_on (opposite r.side) o && within_limit z r.side r.price o.price) ≡ false) k h

    past : (a b : Bool) → (a && b) ≡ false → a ≡ true → b ≡ false
    past true b e h = e
    past false b e h = absurd (false≢true h)

    both : (s : Side) (o : Order) → (rests_on (opposite s) o && as_good (opposite s) o.price r.price) ≡ false
        → (same_side s Buy ≡ true → rests_on Sell o ≡ true → r.price < o.price) × (rests_on Buy o ≡ true → same_side s Sell ≡ true → o.price < r.price)
    both Buy o h = (λ x y. leb-false o.price r.price (past (rests_on Sell o) (leb o.price r.price) h y), λ x y. absurd (false≢true y))
    both Sell o h = (λ x y. absurd (false≢true x), λ x y. leb-false r.price o.price (past (rests_on Buy o) (leb r.price o.price) h x))

-- the law, kept by every move ----------------------------------------------------------------------------------------------------------
one_side : (o : Order) → Below o o
one_side o x y = absurd (go o.side (and_parts (is_book o.place) (same_side o.side Buy) x).1 (and_parts (is_book o.place) (same_side o.side Sell) y).1)
  where
    go : (s : Side) → same_side s Buy ≡ true → same_side s Sell ≡ true → ⊥
    go Buy x y = false≢true y
    go Sell x y = false≢true x

apart_push : (os : List Order) (x : Order) → AllByRecursion (λ o. Below x o × Below o x) os → Apart os → Apart (os ++ (x ∷ []))
apart_push os x c a = all_push (λ b. AllByRecursion (Below b) (os ++ (x ∷ []))) os x (two os c a) (all_push (Below x) os x (all_map _ _ os (λ o h. h.0) c) (one_side x))
  where
    two : (bs : List Order) → AllByRecursion (λ o. Below x o × Below o x) bs → AllByRecursion (λ b. AllByRecursion (Below b) os) bs → AllByRecursion (λ b. AllByRecursion (Below b) (os ++ (x ∷ []))) bs
    two [] c a = tt
    two (b ∷ bs) c a = (all_push (Below b) os x a.0 c.0.1, two bs c.1 a.1)

-- who does not rest is apart from all
off_book : (x : Order) → is_book x.place ≡ false → (os : List Order) → AllByRecursion (λ o. Below x o × Below o x) os
off_book x e [] = tt
off_book x e (o ∷ os) = (((λ a _. absurd (false≢true (sym e ∙ (and_parts (is_book x.place) (same_side x.side Buy) a).0))), (λ _ b. absurd (false≢true (sym e ∙ (and_parts (is_book x.place) (same_side x.side Sell) b).0)))), off_book x e os)

same_contra : (x r : Order) (os : List Order) → x.side ≡ r.side → x.kind ≡ r.kind → x.price ≡ r.price → any (is_contra x) os ≡ any (is_contra r) os
same_contra x r os s k p =
    ap (λ z. test z x.kind x.price) s ∙ ap (λ z. test r.side z x.price) k ∙ ap (λ z. test r.side r.kind z) p
  where
    test : Side → Kind → ℕ → Bool
    test s k p = any (λ o. rests_on (opposite s) o && within_limit k s p o.price) os

module _ (gifts : Rule) (lawful : LawfulRule gifts) where
  pub apart_keeps : Keeps gifts lawful (λ d. Apart d.roll)
  unfolding trade leave withdraw rest pause elect centre admit floored resumed set_up to
  apart_keeps = record {
    trade = λ r p d m k a. apart_thin _ _ (thin_alter r.number (fill (size r.number (opposite r.side) p d.roll)) (λ o. thin_fill _ o) _) (apart_thin _ _ (thin_deal (opposite r.side) p d.roll _) a);
    leave = λ r d m e a. a;
    withdraw = λ n d c a. apart_thin _ _ (thin_alter n cancel thin_cancel d.roll) a;
    rest = λ r d m w e c a. apart_rest r.number (put Book) m.runner d.roll m.is
        (clear_of m.runner d.roll (m.kind ∙ e) (same_contra m.runner r d.roll m.side m.kind m.price ∙ c)) (one_side (put Book m.runner)) a;
    pause = λ d a. a;
    elect = λ p d s a. apart_thin _ _ (thin_called p d.roll) a;
    centre = λ d a. a;
    admit = λ k s m p q w d sd ch pl a. apart_push d.roll (put w (fresh k s m p q d.roll)) (go k s m p q w d pl) a;
    floored = λ p q d _ a. a;
    resumed = λ d a. a;
    set_up = λ k c p d _ _ a. a;
    to = λ f d a. a;
  }
    where
      at_book : (k : Kind) (s : Side) (m p q : ℕ) (d : Day) → k ≡ Limit → any (is_contra (fresh k s m p q d.roll)) d.roll ≡ false
          → AllByRecursion (λ o. Below (put Book (fresh k s m p q d.roll)) o × Below o (put Book (fresh k s m p q d.roll))) d.roll
      at_book k s m p q d e c = clear_of (fresh k s m p q d.roll) d.roll (fresh_limit k s m p q d.roll e) c

      go : (k : Kind) (s : Side) (m p q : ℕ) (w : Place) (d : Day) → Placed gifts lawful k w (any (is_contra (fresh k s m p q d.roll)) d.roll)
          → AllByRecursion (λ o. Below (put w (fresh k s m p q d.roll)) o × Below o (put w (fresh k s m p q d.roll))) d.roll
      go k s m p q Book d pl = at_book k s m p q d (pl refl).0 (pl refl).1
      go k s m p q Line d pl = off_book (put Line (fresh k s m p q d.roll)) (ap is_book (put_place Line (fresh k s m p q d.roll))) d.roll
      go k s m p q StopFile d pl = off_book (put StopFile (fresh k s m p q d.roll)) (ap is_book (put_place StopFile (fresh k s m p q d.roll))) d.roll
      go k s m p q Nowhere d pl = off_book (put Nowhere (fresh k s m p q d.roll)) (ap is_book (put_place Nowhere (fresh k s m p q d.roll))) d.roll

-- said of the quotes
best_of : (c : Side) (d : Day) (x : ℕ × ℕ) → quote c d ≡ Some x → Among (λ o. (rests_on c o ≡ true) × (o.price ≡ x.0)) d.roll
unfolding quote
best_of c d x e = go (best c (prices (rests_on c) d.roll)) refl e
  where
    go : (y : Option ℕ) → best c (prices (rests_on c) d.roll) ≡ y → quote_of c d.roll y ≡ Some x → Among (λ o. (rests_on c o ≡ true) × (o.price ≡ x.0)) d.roll
    go None i e = absurd (let z : ◌≡◌ {A = ℕ} 0 1 = cc in omega arith)
    go (Some p) i e =
        let z : (p, total (λ n. n) (row c p d.roll)) ≡ x = some_inj e in
        in_prices (rests_on c) (λ q. q ≡ x.0) d.roll (best_in c (prices (rests_on c) d.roll) x.0 (i ∙ ap (λ (y : ℕ × ℕ). Some y.0) z))
      where
        some_inj : {x y : ℕ × ℕ} → Some x ≡ Some y → x ≡ y
        some_inj e = cc

pub bid_below : (d : Day) → Apart d.roll → (b o : ℕ × ℕ) → quote Buy d ≡ Some b → quote Sell d ≡ Some o → b.0 < o.0
bid_below d a b o x y =
    meet (λ u. AllByRecursion (Below u) d.roll) (λ u. (rests_on Buy u ≡ true) × (u.price ≡ b.0)) (b.0 < o.0) d.roll
    (λ u h k. meet (Below u) (λ v. (rests_on Sell v ≡ true) × (v.price ≡ o.0)) (b.0 < o.0) d.roll
    (λ v f g. let z : u.price < v.price = f k.0 g.0 in omega (arith, k.1, g.1)) h (best_of Sell d o y)) a (best_of Buy d b x)

pub new_apart : Apart new_day.roll
unfolding new_day
new_apart = tt
