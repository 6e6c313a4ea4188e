-- A table that is tied to the roll: its rows, and the orders of the book that they stand for.
use Rattle.std.proofs.Common.{◌≡◌, ℕ, ◌+◌, ◌-◌, ◌<◌, ◌≤◌, Bool, true, false, eqb, List, [], ◌∷◌, map, length, get_or, take, filter, sum, sym, refl, ap, ◌∙◌, subst, arith}
use Rattle.std.specs.List.{AllByRecursion, prefix_len, sum_by}
use Rattle.std.proofs.ByRecursion.{All-get_or}
use Rattle.std.proofs.lemmas.List.{get_or-map, length-map, take-map}
use Rattle.std.proofs.lemmas.List.Sums.{sum-map, prefix_len-le-length}
use Rattle.std.proofs.lemmas.Simd.{map-map}
use Rattle.std.proofs.lemmas.List.Folds.{length-prefix_len}
use Rattle.market.specs.declared.words.Side.{Side}
use Rattle.market.specs.declared.words.Order.{Order}
use Rattle.market.specs.declared.side.Resting.{Resting}
use Rattle.market.specs.Sides.{better, as_good}
use Rattle.market.specs.Changes.{blank}
use Rattle.replay.specs.Lists.{total, kept, those}
use Rattle.replay.specs.Book.{row}
use Rattle.orderbook.specs.Sorted.{Key, key_of, precedes, before, book, Sums, Tied}
use Rattle.orderbook.specs.Tables.{key_in, keys}
use Rattle.orderbook.proofs.Fronts.{those_front, filter_those, prefix_len-map, filter-map, total_sum_by}
use Rattle.orderbook.proofs.Sorting.{Read, all_read, all_book, length_book, sorted_book, not_better_stays, worse_stays, level_as_good, row_book}
use Rattle.orderbook.proofs.Summing.{few}

-- the open shares of those that pass a test, as the roll has them
open_read : (os : List Order) (t : Order → Bool) (xs : List Order) → AllByRecursion (Read 1 os) xs
    → map (λ (o : Order). (get_or os (o.number - 1) blank).«open») (those t xs) ≡ map (λ o. o.«open») (those t xs)
open_read os t [] a = refl
open_read os t (x ∷ xs) a = go (t x) (open_read os t xs a.1)
  where
    go : (b : Bool) → map (λ (o : Order). (get_or os (o.number - 1) blank).«open») (those t xs) ≡ map (λ o. o.«open») (those t xs)
        → map (λ (o : Order). (get_or os (o.number - 1) blank).«open») (kept b x (those t xs)) ≡ map (λ o. o.«open») (kept b x (those t xs))
    go true ih = ap (λ (o : Order). o.«open» ∷ map (λ (o : Order). (get_or os (o.number - 1) blank).«open») (those t xs)) a.0.is ∙ ap (λ l. x.«open» ∷ l) ih
    go false ih = ih

-- some of the shares of a list
those_few : (t : Order → Bool) (xs : List Order) → total (λ n. n) (map (λ o. o.«open») (those t xs)) ≤ total (λ o. o.«open») xs
those_few t [] = omega arith
those_few t (x ∷ xs) = go (t x) (those_few t xs)
  where
    go : (b : Bool) → total (λ n. n) (map (λ o. o.«open») (those t xs)) ≤ total (λ o. o.«open») xs → total (λ n. n) (map (λ o. o.«open») (kept b x (those t xs))) ≤ x.«open» + total (λ o. o.«open») xs
    go true ih = omega arith
    go false ih = omega arith

-- the open share of a row's order
abbrev pub open_in : {S : Type 0} → List Order → Resting S → ℕ
open_in os e = (get_or os (e.number - 1) blank).«open»

-- row e stands at place i of the book, and o is its order
pub record ReadAt {S : Type 0} (c : Side) (os : List Order) (i : ℕ) (e : Resting S) (o : Order) : Type 0 where
  pub there : i < length (book c os)
  pub is : o ≡ get_or (book c os) i blank
  pub price : e.price ≡ o.price
  pub few : o.«open» ≤ 1000000

module _ {S : Type 0} (c : Side) (os : List Order) (t : List (Resting S)) (tied : Tied c os (keys t)) where
  pub as_long : length t ≡ length (book c os)
  as_long = sym (length-map t key_in) ∙ ap length tied.shows ∙ length-map (book c os) key_of

  pub few_rows : length t ≤ 512
  few_rows = omega (arith, as_long, length_book c os, tied.sound.few)

  keyed : (i : ℕ) (e : Resting S) → i < length t → key_in (get_or t i e) ≡ key_of (get_or (book c os) i blank)
  keyed i e h =
      sym (get_or-map key_in t i e (key_in e) h) ∙ ap (λ ks. get_or ks i (key_in e)) tied.shows
      ∙ get_or-map key_of (book c os) i blank (key_in e) (omega (arith, as_long))

  -- what is read at a row
  pub row_at : (i : ℕ) → i < length t → {e : Resting S} → e ≡ get_or t i e → {o : Order} → o ≡ get_or os (e.number - 1) blank → ReadAt c os i e o
  row_at i h {e} d {o} f =
      let there : i < length (book c os) = omega (arith, as_long) in
      let key : key_in e ≡ key_of (get_or (book c os) i blank) = ap key_in d ∙ keyed i e h in
      let s : Sums (get_or (book c os) i blank) = All-get_or Sums (book c os) i blank there (all_book Sums c os tied.sound.sums) in
      let is : o ≡ get_or (book c os) i blank =
      f ∙ ap (λ (k : Key). get_or os (k.number - 1) blank) key ∙ (All-get_or (Read 1 os) (book c os) i blank there (all_book (Read 1 os) c os (all_read 1 os tied.sound.numbered))).is in
      record {
        there = there;
        is = is;
        price = ap (λ (k : Key). k.price) key ∙ ap (λ (u : Order). u.price) (sym is);
        few = omega (arith, s.whole, s.most, ap (λ (u : Order). u.«open») is);
      }

  -- the shares of some of the orders
  pub few_shares : (u : Order → Bool) → sum (map (λ o. o.«open») (those u (book c os))) ≤ 512000000
  few_shares u =
      subst (λ n. n ≤ 512000000) (sym (total_sum_by (λ n. n) (map (λ o. o.«open») (those u (book c os))))) (omega (
        arith,
        those_few u (book c os),
        few (λ o. o.«open») (λ o s. omega (arith, s.whole, s.most)) (book c os) (all_book Sums c os tied.sound.sums),
        length_book c os,
        tied.sound.few,
      ))

  -- the rows at the front that pass a test of keys, and the orders of the book that pass it
  module _ (w : Key → Bool) (stops : (a b : Key) → precedes c a b ≡ true → w a ≡ false → w b ≡ false) where
    front_keys : keys (take (prefix_len (λ e. w (key_in e)) t) t) ≡ map key_of (those (λ o. w (key_of o)) (book c os))
    front_keys =
        sym (take-map key_in (prefix_len (λ e. w (key_in e)) t) t)
        ∙ ap (λ n. take n (keys t)) (sym (prefix_len-map key_in w t))
        ∙ ap (λ ks. take (prefix_len w ks) ks) tied.shows
        ∙ ap (λ n. take n (map key_of (book c os))) (prefix_len-map key_of w (book c os))
        ∙ take-map key_of (prefix_len (λ o. w (key_of o)) (book c os)) (book c os)
        ∙ ap (map key_of) (those_front (before c) (λ o. w (key_of o)) (λ a b. stops (key_of a) (key_of b)) (book c os) (sorted_book c 1 os tied.sound.numbered))

    front_count : prefix_len (λ e. w (key_in e)) t ≡ length (those (λ o. w (key_of o)) (book c os))
    front_count =
        sym (length-prefix_len (λ e. w (key_in e)) t) ∙ sym (length-map (take (prefix_len (λ e. w (key_in e)) t) t) key_in) ∙ ap length front_keys
        ∙ length-map (those (λ o. w (key_of o)) (book c os)) key_of

    read : (u : Order → Bool) → map (λ (o : Order). (get_or os (o.number - 1) blank).«open») (those u (book c os)) ≡ map (λ o. o.«open») (those u (book c os))
    read u = open_read os u (book c os) (all_book (Read 1 os) c os (all_read 1 os tied.sound.numbered))

    open_key : Key → ℕ
    open_key k = (get_or os (k.number - 1) blank).«open»

    front_open : map (open_in os) (take (prefix_len (λ e. w (key_in e)) t) t) ≡ map (λ o. o.«open») (those (λ o. w (key_of o)) (book c os))
    unfolding open_key
    front_open =
        sym (map-map open_key key_in (take (prefix_len (λ e. w (key_in e)) t) t)) ∙ ap (map open_key) front_keys
        ∙ map-map open_key key_of (those (λ o. w (key_of o)) (book c os)) ∙ read (λ o. w (key_of o))

    filtered_open : (q : Key → Bool) → ((k : Key) → w k ≡ false → q k ≡ false)
        → map (open_in os) (filter (λ e. q (key_in e)) (take (prefix_len (λ e. w (key_in e)) t) t)) ≡ map (λ o. o.«open») (those (λ o. q (key_of o)) (book c os))
    unfolding open_key
    filtered_open q k =
        sym (map-map open_key key_in (filter (λ e. q (key_in e)) (take (prefix_len (λ e. w (key_in e)) t) t)))
        ∙ ap (map open_key) (sym (filter-map key_in q (take (prefix_len (λ e. w (key_in e)) t) t)) ∙ ap (filter q) front_keys ∙ filter-map key_of q (those (λ o. w (key_of o)) (book c os)))
        ∙ map-map open_key key_of (filter (λ o. q (key_of o)) (those (λ o. w (key_of o)) (book c os)))
        ∙ ap (map (λ (o : Order). open_key (key_of o))) (filter_those (λ o. w (key_of o)) (λ o. q (key_of o)) (λ o. k (key_of o)) (book c os)) ∙ read (λ o. q (key_of o))

  module _ (p : ℕ) where
    pub better_count : prefix_len (λ (e : Resting S). better c e.price p) t ≡ length (those (λ o. better c o.price p) (book c os))
    better_count = front_count (λ k. better c k.price p) (λ a b. not_better_stays c a b p)

    pub good_open : map (open_in os) (take (prefix_len (λ (e : Resting S). as_good c e.price p) t) t) ≡ map (λ o. o.«open») (those (λ o. as_good c o.price p) (book c os))
    good_open = front_open (λ k. as_good c k.price p) (λ a b. worse_stays c a b p)

    pub good_few : length (take (prefix_len (λ (e : Resting S). as_good c e.price p) t) t) ≤ 512
    good_few = omega (arith, length-prefix_len (λ (e : Resting S). as_good c e.price p) t, prefix_len-le-length (λ (e : Resting S). as_good c e.price p) t, few_rows)

    pub level_open : map (open_in os) (filter (λ (e : Resting S). eqb e.price p) (take (prefix_len (λ (e : Resting S). as_good c e.price p) t) t)) ≡ row c p os
    level_open =
        filtered_open (λ k. as_good c k.price p) (λ a b. worse_stays c a b p) (λ k. eqb k.price p) (λ k. level_as_good c k.price p) ∙ row_book c p os tied.sound.numbered

    level_shares : row c p os ≡ map (λ o. o.«open») (those (λ o. eqb o.price p) (book c os))
    level_shares = sym (row_book c p os tied.sound.numbered)

    pub level_few : sum_by (open_in os) (filter (λ (e : Resting S). eqb e.price p) (take (prefix_len (λ (e : Resting S). as_good c e.price p) t) t)) ≤ 512000000
    level_few =
        let at = filter (λ (e : Resting S). eqb e.price p) (take (prefix_len (λ (e : Resting S). as_good c e.price p) t) t) in
        subst (λ n. n ≤ 512000000) (sym (ap sum (level_open ∙ level_shares)) ∙ sum-map (open_in os) at) (few_shares (λ o. eqb o.price p))
