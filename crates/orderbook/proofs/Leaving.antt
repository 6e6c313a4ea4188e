-- Orders that leave the book, and a table from which their rows were taken.
use Rattle.std.proofs.Common.{◌≡◌, ℕ, zero, suc, ◌-◌, Bool, true, false, cond, not, ◌&&◌, ◌||◌, List, [], ◌∷◌, map, get_or, set, filter, sym, refl, ap, ◌∙◌, arith}
use Rattle.std.specs.List.{AllZip, AllByRecursion}
use Rattle.std.proofs.lemmas.Bool.{both_ways, false≢true}
use Rattle.std.proofs.lemmas.List.Elements.{length_all_zip}
use Rattle.std.proofs.ByRecursion.{All-map}
use Rattle.market.specs.declared.words.Side.{Side}
use Rattle.market.specs.declared.words.Order.{Order}
use Rattle.market.specs.declared.side.Resting.{Resting}
use Rattle.market.specs.Files.{filed}
use Rattle.market.specs.Sides.{as_good, same_side}
use Rattle.market.specs.Orders.{is_book, rests_on}
use Rattle.market.specs.Changes.{blank}
use Rattle.replay.specs.RollHolds.{Numbered}
use Rattle.orderbook.specs.Sorted.{Key, key_of, precedes, before, rested, book, Sums, Sound, Tied}
use Rattle.orderbook.specs.Tables.{key_in, keys, stays}
use Rattle.orderbook.proofs.Sorting.{Sorted, kept_drop, kept_filed, map_filed, precedes_trans, sorted_book, Read, all_read}

-- relations of each order to what becomes of it -----------------------------------------------------------------------
-- it keeps its key, and each share is still accounted for
pub record Alike (o u : Order) : Type 0 where
  pub key : key_of u ≡ key_of o
  pub sums : Sums o → Sums u

-- on side c it rests or not as before
pub record Stays (c : Side) (o u : Order) : Type 0 where
  pub key : key_of u ≡ key_of o
  pub same : rests_on c u ≡ rests_on c o

-- it does not come on the book, and if it leaves side c its price is p or better
pub record Leaves (c : Side) (p : ℕ) (o u : Order) : Type 0 where
  pub key : key_of u ≡ key_of o
  pub side : u.side ≡ o.side
  pub out : is_book o.place ≡ false → is_book u.place ≡ false
  pub far : as_good c o.price p ≡ false → rests_on c o ≡ true → rests_on c u ≡ true

pub alike_self : (o : Order) → Alike o o
alike_self o = record { key = refl; sums = λ s. s }

pub stays_self : (c : Side) (o : Order) → Stays c o o
stays_self c o = record { key = refl; same = refl }

pub leaves_self : (c : Side) (p : ℕ) (o : Order) → Leaves c p o o
leaves_self c p o = record { key = refl; side = refl; out = λ e. e; far = λ e h. h }

pub each_self : (R : Order → Order → Type 0) → ((o : Order) → R o o) → (os : List Order) → AllZip R os os
each_self R r [] = tt
each_self R r (o ∷ os) = (r o, each_self R r os)

pub each_set : (R : Order → Order → Type 0) → ((o : Order) → R o o) → (os : List Order) (i : ℕ) (v : Order) → R (get_or os i blank) v → AllZip R os (set os i v)
each_set R r [] i v k = tt
each_set R r (o ∷ os) zero v k = (k, each_self R r os)
each_set R r (o ∷ os) (suc i) v k = (r o, each_set R r os i v k)

pub each_trans : (R : Order → Order → Type 0) → ((o u v : Order) → R o u → R u v → R o v) → (os us vs : List Order) → AllZip R os us → AllZip R us vs → AllZip R os vs
each_trans R t [] [] [] a b = tt
each_trans R t [] [] (v ∷ vs) a b = absurd b
each_trans R t [] (u ∷ us) vs a b = absurd a
each_trans R t (o ∷ os) [] vs a b = absurd a
each_trans R t (o ∷ os) (u ∷ us) [] a b = absurd b
each_trans R t (o ∷ os) (u ∷ us) (v ∷ vs) a b = (t o u v a.0 b.0, each_trans R t os us vs a.1 b.1)

pub alike_trans : (o u v : Order) → Alike o u → Alike u v → Alike o v
alike_trans o u v a b = record { key = b.key ∙ a.key; sums = λ s. b.sums (a.sums s) }

pub stays_trans : (c : Side) (o u v : Order) → Stays c o u → Stays c u v → Stays c o v
stays_trans c o u v a b = record { key = b.key ∙ a.key; same = b.same ∙ a.same }

-- what every roll keeps -----------------------------------------------------------------------------------------------
pub numbered_along : (R : Order → Order → Type 0) → ((o u : Order) → R o u → key_of u ≡ key_of o) → (k : ℕ) (os us : List Order) → AllZip R os us → Numbered k os → Numbered k us
numbered_along R same k [] [] z h = tt
numbered_along R same k [] (u ∷ us) z h = absurd z
numbered_along R same k (o ∷ os) [] z h = absurd z
numbered_along R same k (o ∷ os) (u ∷ us) z h = (ap (λ (x : Key). x.number) (same o u z.0) ∙ h.0, numbered_along R same (suc k) os us z.1 h.1)

sums_alike : (os us : List Order) → AllZip Alike os us → AllByRecursion Sums os → AllByRecursion Sums us
sums_alike [] [] z h = tt
sums_alike [] (u ∷ us) z h = absurd z
sums_alike (o ∷ os) [] z h = absurd z
sums_alike (o ∷ os) (u ∷ us) z h = (z.0.sums h.0, sums_alike os us z.1 h.1)

pub sound_alike : (os us : List Order) → AllZip Alike os us → Sound os → Sound us
sound_alike os us z s = record { numbered = numbered_along Alike (λ o u a. a.key) 1 os us z s.numbered; few = omega (arith, length_all_zip Alike os us z, s.few); sums = sums_alike os us z s.sums }

-- the book of a roll of which fewer orders rest -----------------------------------------------------------------------
sorted_keys : (c : Side) (xs : List Order) → Sorted (before c) xs → Sorted (precedes c) (map key_of xs)
sorted_keys c [] s = tt
sorted_keys c (x ∷ xs) s = (All-map (λ k. precedes c (key_of x) k ≡ true) key_of xs s.0, sorted_keys c xs s.1)

pub record Thinned (c : Side) (keep : Key → Bool) (o u : Order) : Type 0 where
  pub key : key_of u ≡ key_of o
  pub off : rests_on c o ≡ false → rests_on c u ≡ false
  pub on : rests_on c o ≡ true → rests_on c u ≡ keep (key_of o)

pub filing : (c : Side) (x : Order) (xs : List Order) → map key_of (filed (before c) x xs) ≡ filed (precedes c) (key_of x) (map key_of xs)
filing c x xs = map_filed (before c) (precedes c) key_of (λ a b. refl) x xs

pub book_thin : (c : Side) (keep : Key → Bool) (k : ℕ) (os us : List Order) → Numbered k os → AllZip (Thinned c keep) os us → map key_of (book c us) ≡ filter keep (map key_of (book c os))
unfolding book
book_thin c keep k [] [] h z = refl
book_thin c keep k [] (u ∷ us) h z = absurd z
book_thin c keep k (o ∷ os) [] h z = absurd z
book_thin c keep k (o ∷ os) (u ∷ us) h z = go (rests_on c o) refl (rests_on c u) refl (book_thin c keep (suc k) os us h.1 z.1)
  where
    go : (a : Bool) → rests_on c o ≡ a → (b : Bool) → rests_on c u ≡ b → map key_of (book c us) ≡ filter keep (map key_of (book c os))
        → map key_of (rested c b u (book c us)) ≡ filter keep (map key_of (rested c a o (book c os)))
    go false e false f ih = ih
    go false e true f ih = absurd (both_ways (rests_on c u) (z.0.off e) f)
    go true e false f ih =
        ih ∙ sym (kept_drop (precedes c) keep (key_of o) (map key_of (book c os)) (sym (z.0.on e) ∙ f)) ∙ ap (filter keep) (sym (filing c o (book c os)))
    go true e true f ih =
        filing c u (book c us) ∙ ap (λ x. filed (precedes c) x (map key_of (book c us))) z.0.key ∙ ap (filed (precedes c) (key_of o)) ih
        ∙ sym (kept_filed (precedes c) (precedes_trans c) keep (key_of o) (map key_of (book c os)) (sym (z.0.on e) ∙ f) (sorted_keys c (book c os) (sorted_book c (suc k) os h.1)))
        ∙ ap (filter keep) (sym (filing c o (book c os)))

all_kept : {X : Type 0} (xs : List X) → filter (λ x. true) xs ≡ xs
all_kept [] = refl
all_kept (x ∷ xs) = ap (λ l. x ∷ l) (all_kept xs)

abbrev stay_key : Side → ℕ → List Order → Key → Bool
stay_key c p us x = not (as_good c x.price p) || is_book (get_or us (x.number - 1) blank).place

off_case : (a b s : Bool) → (a ≡ false → b ≡ false) → (a && s) ≡ false → (b && s) ≡ false
off_case true true false h e = refl
off_case true false false h e = refl
off_case true b true h e = absurd (false≢true (sym e))
off_case false b s h e = ap (λ x. x && s) (h refl)

on_case : (a b s : Bool) → (a && s) ≡ true → (b && s) ≡ b
on_case true true true e = refl
on_case true false true e = refl
on_case true b false e = absurd (false≢true e)
on_case false b s e = absurd (false≢true e)

thin_one : (c : Side) (p : ℕ) (all : List Order) (o u : Order) → Read 1 all u → Leaves c p o u → Thinned c (stay_key c p all) o u
thin_one c p all o u r k = record {
  key = k.key;
  off = λ e. ap (λ s. is_book u.place && same_side s c) k.side ∙ off_case (is_book o.place) (is_book u.place) (same_side o.side c) k.out e;
  on = λ e. go e (as_good c o.price p) refl;
}
  where
    look_up : rests_on c o ≡ true → rests_on c u ≡ is_book (get_or all (o.number - 1) blank).place
    look_up e =
        ap (λ s. is_book u.place && same_side s c) k.side ∙ on_case (is_book o.place) (is_book u.place) (same_side o.side c) e
        ∙ ap (λ (x : Order). is_book x.place) (sym r.is) ∙ ap (λ (x : Key). is_book (get_or all (x.number - 1) blank).place) k.key

    go : rests_on c o ≡ true → (b : Bool) → as_good c o.price p ≡ b → rests_on c u ≡ (not b || is_book (get_or all (o.number - 1) blank).place)
    go e true f = look_up e
    go e false f = k.far f e

thin_all : (c : Side) (p : ℕ) (all os us : List Order) → AllByRecursion (Read 1 all) us → AllZip (Leaves c p) os us → AllZip (Thinned c (stay_key c p all)) os us
thin_all c p all [] [] a z = tt
thin_all c p all [] (u ∷ us) a z = absurd z
thin_all c p all (o ∷ os) [] a z = absurd z
thin_all c p all (o ∷ os) (u ∷ us) a z = (thin_one c p all o u a.0 z.0, thin_all c p all os us a.1 z.1)

keys_kept : {S : Type 0} (c : Side) (p : ℕ) (us : List Order) (t : List (Resting S)) → keys (filter (stays c p us) t) ≡ filter (stay_key c p us) (keys t)
keys_kept c p us [] = refl
keys_kept c p us (e ∷ t) = go (stays c p us e) (keys_kept c p us t)
  where
    go : (b : Bool) → keys (filter (stays c p us) t) ≡ filter (stay_key c p us) (keys t)
        → keys (cond b (e ∷ filter (stays c p us) t) (filter (stays c p us) t)) ≡ cond b (key_in e ∷ filter (stay_key c p us) (keys t)) (filter (stay_key c p us) (keys t))
    go true ih = ap (λ l. key_in e ∷ l) ih
    go false ih = ih

-- the table of a side that orders left, after one pass over it
pub tied_kept : {S : Type 0} (c : Side) (p : ℕ) (os us : List Order) (t t' : List (Resting S)) → Sound us → AllZip (Leaves c p) os us → Tied c os (keys t) → t' ≡ filter (stays c p us) t → Tied c us (keys t')
tied_kept c p os us t t' s z d e = record {
  sound = s;
  shows = ap keys e ∙ keys_kept c p us t ∙ ap (filter (stay_key c p us)) d.shows
      ∙ sym (book_thin c (stay_key c p us) 1 os us d.sound.numbered (thin_all c p us os us (all_read 1 us s.numbered) z));
}

thin_stays : (c : Side) (os us : List Order) → AllZip (Stays c) os us → AllZip (Thinned c (λ x. true)) os us
thin_stays c [] [] z = tt
thin_stays c [] (u ∷ us) z = absurd z
thin_stays c (o ∷ os) [] z = absurd z
thin_stays c (o ∷ os) (u ∷ us) z = (record { key = z.0.key; off = λ e. z.0.same ∙ e; on = λ e. z.0.same ∙ e }, thin_stays c os us z.1)

-- the table of a side on which the same orders rest
pub tied_still : (c : Side) (os us : List Order) (ks : List Key) → Sound us → AllZip (Stays c) os us → Tied c os ks → Tied c us ks
tied_still c os us ks s y d = record {
  sound = s;
  shows = d.shows ∙ sym (book_thin c (λ x. true) 1 os us d.sound.numbered (thin_stays c os us y) ∙ all_kept (map key_of (book c os)));
}
