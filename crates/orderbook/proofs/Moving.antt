-- One order of the roll is changed: what becomes of both tables.
use Rattle.std.proofs.Common.{◌≡◌, ℕ, suc, ◌+◌, ◌-◌, ◌<◌, ◌≤◌, Bool, true, false, cond, ◌&&◌, eqb, ltb, leb, List, [], ◌∷◌, ◌++◌, map, length, get_or, is_ok, IfOk, Some, Ok, Err, filter, Result, sym, refl, ap, ◌∙◌, subst, arith}
use Rattle.std.specs.List.{AllZip}
use Rattle.std.proofs.ByRecursion.{All-push}
use Rattle.std.proofs.lemmas.List.{length_push, length-map}
use Rattle.std.proofs.lemmas.Bool.{and_left, and_right, and_from, both_ways, false≢true, eqb-true, eqb-false, lt-ltb, le-leb}
use Rattle.market.specs.declared.words.Side.{Side}
use Rattle.market.specs.declared.words.Side.TheVariants.{Buy, Sell}
use Rattle.market.specs.declared.words.Place.{Place}
use Rattle.market.specs.declared.words.Place.TheVariants.{Nowhere, Book, Line, StopFile}
use Rattle.market.specs.declared.words.Order.{Order}
use Rattle.market.specs.declared.side.Resting.{Resting}
use Rattle.market.specs.Files.{filed}
use Rattle.market.specs.Sides.{opposite, same_side, as_good}
use Rattle.market.specs.Orders.{is_book, rests_on, put, cancel}
use Rattle.market.specs.Changes.{blank}
use Rattle.replay.specs.Rolls.{look, alter, here, fresh}
use Rattle.orderbook.specs.declared.ticket.Ticket.{Ticket}
use Rattle.orderbook.specs.Trades.{is_off, moved, next, admits}
use Rattle.replay.specs.RollHolds.{Numbered}
use Rattle.orderbook.specs.Sorted.{Key, key_of, precedes, rested, book, Sums, Sound, Tied}
use Rattle.orderbook.specs.Tables.{Kept, key_in, keys, stays}
use Rattle.orderbook.proofs.Sorting.{good_self, map_filed, filed_swap, precedes_trans, precedes_asym, precedes_or, length_filed, length_book}
use Rattle.orderbook.proofs.Lookup.{same_self, alter_at, number_at, look_push, alter_push}
use Rattle.orderbook.proofs.Leaving.{Alike, alike_self, Stays, stays_self, Leaves, leaves_self, each_set, sound_alike, filing, tied_kept, tied_still}

-- an empty book -------------------------------------------------------------------------------------------------------
pub kept_none : Kept [] [] []
unfolding book
kept_none =
    let s : Sound [] = record { numbered = tt; few = omega arith; sums = tt } in
    record { bid = record { sound = s; shows = refl }; offer = record { sound = s; shows = refl } }

pub kept_empty : {S T : Type 0} {os : List Order} {b : List (Resting S)} {o : List (Resting T)} → os ≡ [] → b ≡ [] → o ≡ [] → Kept os (keys b) (keys o)
kept_empty {S} {T} {os} {b} {o} e f g =
    subst (λ l. Kept l (keys b) (keys o)) (sym e) (subst (λ l. Kept [] (keys l) (keys o)) (sym f) (subst (λ (l : List (Resting T)). Kept [] [] (keys l)) (sym g) kept_none))

-- an order more -------------------------------------------------------------------------------------------------------
numbered_push : (k : ℕ) (os : List Order) (o : Order) → Numbered k os → o.number ≡ length os + k → Numbered k (os ++ (o ∷ []))
numbered_push k [] o h e = (omega (arith, e), tt)
numbered_push k (x ∷ os) o h e = (h.0, numbered_push (suc k) os o h.1 (omega (arith, e)))

book_push : (c : Side) (os : List Order) (o : Order) → rests_on c o ≡ false → book c (os ++ (o ∷ [])) ≡ book c os
unfolding book
book_push c [] o e = ap (λ b. rested c b o []) e
book_push c (x ∷ os) o e = ap (rested c (rests_on c x) x) (book_push c os o e)

sound_push : (os : List Order) (o : Order) → Sound os → o.number ≡ suc (length os) → Sums o → length os < 512 → Sound (os ++ (o ∷ []))
sound_push os o s n f h = record { numbered = numbered_push 1 os o s.numbered (omega (arith, n)); few = omega (arith, length_push os o); sums = All-push Sums os o s.sums f }

pub kept_push : {os us : List Order} {b o : List Key} (x : Order) → Kept os b o → x.number ≡ suc (length os) → Sums x → is_book x.place ≡ false → length os < 512
    → us ≡ os ++ (x ∷ []) → Kept us b o
kept_push {os} {us} {b} {o} x k n f off h e =
    let s : Sound (os ++ (x ∷ [])) = sound_push os x k.bid.sound n f h in
    let out : (c : Side) → rests_on c x ≡ false = λ c. and_left (is_book x.place) (same_side x.side c) off in
    subst (λ l. Kept l b o) (sym e) (record {
      bid = record { sound = s; shows = k.bid.shows ∙ ap (map key_of) (sym (book_push Buy os x (out Buy))) };
      offer = record { sound = s; shows = k.offer.shows ∙ ap (map key_of) (sym (book_push Sell os x (out Sell))) };
    })

-- order n is changed --------------------------------------------------------------------------------------------------
pub each_alter : (R : Order → Order → Type 0) → ((o : Order) → R o o) → {os : List Order} → Sound os → (n : ℕ) (f : Order → Order) → 1 ≤ n → n ≤ length os
    → R (get_or os (n - 1) blank) (f (get_or os (n - 1) blank)) → AllZip R os (alter n f os)
each_alter R r {os} s n f lo hi k = subst (AllZip R os) (sym (alter_at s n f lo hi)) (each_set R r os (n - 1) (f (get_or os (n - 1) blank)) k)

pub alike_put : (w : Place) (o : Order) → Alike o (put w o)
alike_put w o = record { key = refl; sums = λ s. record { whole = s.whole; most = s.most } }

pub alike_cancel : (o : Order) → Alike o (cancel o)
alike_cancel o = record { key = refl; sums = λ s. record { whole = omega (arith, s.whole); most = s.most } }

-- neither before nor after on the book
pub stays_off : (c : Side) (o u : Order) → key_of u ≡ key_of o → is_book o.place ≡ false → is_book u.place ≡ false → Stays c o u
stays_off c o u k e f = record { key = k; same = and_left (is_book u.place) (same_side u.side c) f ∙ sym (and_left (is_book o.place) (same_side o.side c) e) }

pub kept_off : {os us : List Order} {b o : List Key} (n : ℕ) (f : Order → Order) → Kept os b o → (1 ≤ n) × (n ≤ length os) → is_book (get_or os (n - 1) blank).place ≡ false
    → Alike (get_or os (n - 1) blank) (f (get_or os (n - 1) blank)) → is_book (f (get_or os (n - 1) blank)).place ≡ false → us ≡ alter n f os → Kept us b o
kept_off {os} {us} {b} {o} n f k w off a out e =
    let s : Sound os = k.bid.sound in
    let v : Sound (alter n f os) = sound_alike os (alter n f os) (each_alter Alike alike_self s n f w.0 w.1 a) s in
    let still : (c : Side) → AllZip (Stays c) os (alter n f os) =
    λ c. each_alter (Stays c) (stays_self c) s n f w.0 w.1 (stays_off c (get_or os (n - 1) blank) (f (get_or os (n - 1) blank)) a.key off out) in
    subst (λ l. Kept l b o) (sym e) (record { bid = tied_still Buy os (alter n f os) b v (still Buy) k.bid; offer = tied_still Sell os (alter n f os) o v (still Sell) k.offer })

-- an order comes to rest ----------------------------------------------------------------------------------------------
swapped : (c : Side) (x y : Key) (t : List Key) → x.number < y.number → filed (precedes c) x (filed (precedes c) y t) ≡ filed (precedes c) y (filed (precedes c) x t)
swapped c x y t lt = go (precedes c x y) refl
  where
    go : (b : Bool) → precedes c x y ≡ b → filed (precedes c) x (filed (precedes c) y t) ≡ filed (precedes c) y (filed (precedes c) x t)
    go true e = filed_swap (precedes c) (precedes_trans c) x y t e (precedes_asym c x y e)
    go false e = let f : precedes c y x ≡ true = precedes_or c x y lt e in sym (filed_swap (precedes c) (precedes_trans c) y x t f (precedes_asym c y x f))

other_side : (c : Side) → same_side c (opposite c) ≡ false
other_side Buy = refl
other_side Sell = refl

-- the book of the side on which order n comes to rest
book_rest : (c : Side) (n k : ℕ) (os : List Order) → Numbered k os → k ≤ n → n < k + length os → (get_or os (n - k) blank).side ≡ c → is_book (get_or os (n - k) blank).place ≡ false → (get_or os (n - k) blank).number ≡ n
    → map key_of (book c (alter n (put Book) os)) ≡ filed (precedes c) (key_of (get_or os (n - k) blank)) (map key_of (book c os))
unfolding alter book
book_rest c n k [] h lo hi s w num = absurd (let z : ◌≡◌ {A = ℕ} 0 1 = omega arith in omega arith)
book_rest c n k (o ∷ os) h lo hi s w num = go (eqb o.number n) refl (book_rest c n (suc k) os h.1)
  where
    on : (b : Bool) (u : Order) (vs : List Order) → u.number ≡ n → o.number < n → map key_of vs ≡ filed (precedes c) (key_of u) (map key_of (book c os))
        → map key_of (rested c b o vs) ≡ filed (precedes c) (key_of u) (map key_of (rested c b o (book c os)))
    on true u vs e lt ih =
        filing c o vs ∙ ap (filed (precedes c) (key_of o)) ih ∙ swapped c (key_of o) (key_of u) (map key_of (book c os)) (omega (arith, e, lt)) ∙ ap (filed (precedes c) (key_of u)) (sym (filing c o (book c os)))
    on false u vs e lt ih = ih

    go : (b : Bool) → eqb o.number n ≡ b
        → (suc k ≤ n → n < suc k + length os → (get_or os (n - suc k) blank).side ≡ c → is_book (get_or os (n - suc k) blank).place ≡ false → (get_or os (n - suc k) blank).number ≡ n
        → map key_of (book c (alter n (put Book) os)) ≡ filed (precedes c) (key_of (get_or os (n - suc k) blank)) (map key_of (book c os)))
        → map key_of (book c (here b (put Book) o os (alter n (put Book) os))) ≡ filed (precedes c) (key_of (get_or (o ∷ os) (n - k) blank)) (map key_of (rested c (rests_on c o) o (book c os)))
    go true e ih =
        let z : n - k ≡ 0 = omega (arith, eqb-true o.number n e, h.0) in
        let it : get_or (o ∷ os) (n - k) blank ≡ o = ap (λ m. get_or (o ∷ os) m blank) z in
        let s' : o.side ≡ c = ap (λ (x : Order). x.side) (sym it) ∙ s in
        let w' : is_book o.place ≡ false = ap (λ (x : Order). is_book x.place) (sym it) ∙ w in
        ap (λ b. map key_of (rested c b (put Book o) (book c os))) (ap (λ x. same_side x c) s' ∙ same_self c)
        ∙ filing c (put Book o) (book c os)
        ∙ ap (λ b. filed (precedes c) (key_of o) (map key_of (rested c b o (book c os)))) (sym (and_left (is_book o.place) (same_side o.side c) w'))
        ∙ ap (λ (x : Order). filed (precedes c) (key_of x) (map key_of (rested c (rests_on c o) o (book c os)))) (sym it)
    go false e ih =
        let ne : o.number ≡ n → ⊥ = eqb-false o.number n e in
        let lt : suc k ≤ n = omega (arith, h.0) in
        let z : n - k ≡ suc (n - suc k) = omega arith in
        let it : get_or (o ∷ os) (n - k) blank ≡ get_or os (n - suc k) blank = ap (λ m. get_or (o ∷ os) m blank) z in
        let num' : (get_or os (n - suc k) blank).number ≡ n = ap (λ (x : Order). x.number) (sym it) ∙ num in
        on (rests_on c o) (get_or os (n - suc k) blank) (book c (alter n (put Book) os)) num' (omega (arith, h.0))
        (ih lt (omega arith) (ap (λ (x : Order). x.side) (sym it) ∙ s) (ap (λ (x : Order). is_book x.place) (sym it) ∙ w) num')
        ∙ ap (λ (x : Order). filed (precedes c) (key_of x) (map key_of (rested c (rests_on c o) o (book c os)))) (sym it)

-- order n, which is not on the book, comes to rest on its side c
module _ (c : Side) (n : ℕ) {os : List Order} (s : Sound os) (w : (1 ≤ n) × (n ≤ length os)) (on : (get_or os (n - 1) blank).side ≡ c) (off : is_book (get_or os (n - 1) blank).place ≡ false) where
  rest_sound : Sound (alter n (put Book) os)
  rest_sound = sound_alike os (alter n (put Book) os) (each_alter Alike alike_self s n (put Book) w.0 w.1 (alike_put Book (get_or os (n - 1) blank))) s

  rest_book : map key_of (book c (alter n (put Book) os)) ≡ filed (precedes c) (key_of (get_or os (n - 1) blank)) (map key_of (book c os))
  rest_book = book_rest c n 1 os s.numbered w.0 (omega (arith, w.1)) on off (number_at s n w.0 w.1)

  pub rest_room : length (book c os) < 512
  rest_room =
      let a : length (book c (alter n (put Book) os)) ≡ length (book c os) + 1 = sym (length-map (book c (alter n (put Book) os)) key_of) ∙ ap length rest_book ∙ length_filed (precedes c) (key_of (get_or os (n - 1) blank)) (map key_of (book c os)) ∙ ap (λ m. m + 1) (length-map (book c os) key_of) in
      omega (arith, a, length_book c (alter n (put Book) os), rest_sound.few)

  pub rest_tied : {S : Type 0} (t : List (Resting S)) (x : Resting S) → key_in x ≡ key_of (get_or os (n - 1) blank) → Tied c os (keys t)
      → Tied c (alter n (put Book) os) (keys (filed (λ a b. precedes c (key_in a) (key_in b)) x t))
  rest_tied {S} t x e d = record {
    sound = rest_sound;
    shows = map_filed {X = Resting S} (λ a b. precedes c (key_in a) (key_in b)) (precedes c) key_in (λ a b. refl) x t ∙ ap (λ y. filed (precedes c) y (keys t)) e
        ∙ ap (filed (precedes c) (key_of (get_or os (n - 1) blank))) d.shows ∙ sym rest_book;
  }

  pub rest_other : (ks : List Key) → Tied (opposite c) os ks → Tied (opposite c) (alter n (put Book) os) ks
  rest_other ks d =
      tied_still (opposite c) os (alter n (put Book) os) ks rest_sound
      (each_alter (Stays (opposite c)) (stays_self (opposite c)) s n (put Book) w.0 w.1
      (record { key = refl; same = ap (λ x. same_side x (opposite c)) on ∙ other_side c ∙ sym (and_left (is_book (get_or os (n - 1) blank).place) (same_side (get_or os (n - 1) blank).side (opposite c)) off) })) d

pub front_ok : {T E : Type 0} (P : Type 0) (r : Result T E) → is_ok r ≡ true → IfOk r (λ _. P) → P
front_ok P (Ok x) e h = h
front_ok P (Err x) e h = absurd (false≢true e)

pub same_key : (x y : Key) → x.price ≡ y.price → x.number ≡ y.number → x ≡ y
same_key x y p q = λ i. record { price = p i; number = q i }

pub kept_bid : {os us : List Order} {b b' o : List Key} (n : ℕ) → Kept os b o → (1 ≤ n) × (n ≤ length os) → (get_or os (n - 1) blank).side ≡ Buy → is_book (get_or os (n - 1) blank).place ≡ false
    → us ≡ alter n (put Book) os → Tied Buy us b' → Kept us b' o
kept_bid {os} {us} {b} {b'} {o} n k w on off e d = record { bid = d; offer = subst (λ l. Tied Sell l o) (sym e) (rest_other Buy n k.bid.sound w on off o k.offer) }

pub kept_offer : {os us : List Order} {b o o' : List Key} (n : ℕ) → Kept os b o → (1 ≤ n) × (n ≤ length os) → (get_or os (n - 1) blank).side ≡ Sell → is_book (get_or os (n - 1) blank).place ≡ false
    → us ≡ alter n (put Book) os → Tied Sell us o' → Kept us b o'
kept_offer {os} {us} {b} {o} {o'} n k w on off e d = record { bid = subst (λ l. Tied Buy l b) (sym e) (rest_other Sell n k.bid.sound w on off b k.bid); offer = d }

-- an order that rests is cancelled ------------------------------------------------------------------------------------
pub sides_apart : (c s : Side) (b : Bool) → (b && same_side s c) ≡ true → same_side s (opposite c) ≡ false
sides_apart Buy Buy b e = refl
sides_apart Sell Sell b e = refl
sides_apart Buy Sell true e = absurd (false≢true e)
sides_apart Buy Sell false e = absurd (false≢true e)
sides_apart Sell Buy true e = absurd (false≢true e)
sides_apart Sell Buy false e = absurd (false≢true e)

-- what rests on c does not rest on the other side, whatever becomes of its place
pub other_stays : (c : Side) (o u : Order) → key_of u ≡ key_of o → u.side ≡ o.side → rests_on c o ≡ true → Stays (opposite c) o u
other_stays c o u k s h =
    let f : same_side o.side (opposite c) ≡ false = sides_apart c o.side (is_book o.place) h in
    record { key = k; same = and_right (is_book u.place) (same_side u.side (opposite c)) (ap (λ x. same_side x (opposite c)) s ∙ f) ∙ sym (and_right (is_book o.place) (same_side o.side (opposite c)) f) }

module _ (c : Side) (n p : ℕ) {os : List Order} (s : Sound os) (w : (1 ≤ n) × (n ≤ length os)) (on : rests_on c (get_or os (n - 1) blank) ≡ true) (at : p ≡ (get_or os (n - 1) blank).price) where
  strike_sound : Sound (alter n cancel os)
  strike_sound = sound_alike os (alter n cancel os) (each_alter Alike alike_self s n cancel w.0 w.1 (alike_cancel (get_or os (n - 1) blank))) s

  strike_leaves : AllZip (Leaves c p) os (alter n cancel os)
  strike_leaves =
      each_alter (Leaves c p) (leaves_self c p) s n cancel w.0 w.1
      (record { key = refl; side = refl; out = λ e. refl; far = λ e h. absurd (both_ways (as_good c p p) (ap (λ q. as_good c q p) at ∙ e) (good_self c p)) })

  pub strike_tied : {S : Type 0} (t t' : List (Resting S)) → Tied c os (keys t) → t' ≡ filter (stays c p (alter n cancel os)) t → Tied c (alter n cancel os) (keys t')
  strike_tied t t' d e = tied_kept c p os (alter n cancel os) t t' strike_sound strike_leaves d e

  pub strike_other : (ks : List Key) → Tied (opposite c) os ks → Tied (opposite c) (alter n cancel os) ks
  strike_other ks d =
      tied_still (opposite c) os (alter n cancel os) ks strike_sound
      (each_alter (Stays (opposite c)) (stays_self (opposite c)) s n cancel w.0 w.1 (other_stays c (get_or os (n - 1) blank) (cancel (get_or os (n - 1) blank)) refl refl on)) d

pub kept_strike_bid : {S : Type 0} {os us : List Order} {o : List Key} (t t' : List (Resting S)) (n p : ℕ) → Kept os (keys t) o → (1 ≤ n) × (n ≤ length os) → rests_on Buy (get_or os (n - 1) blank) ≡ true
    → p ≡ (get_or os (n - 1) blank).price → us ≡ alter n cancel os → t' ≡ filter (stays Buy p us) t → Kept us (keys t') o
kept_strike_bid {S} {os} {us} {o} t t' n p k w on at e f =
    subst (λ l. Kept l (keys t') o) (sym e) (record {
      bid = strike_tied Buy n p k.bid.sound w on at t t' k.bid (f ∙ ap (λ l. filter (stays Buy p l) t) e);
      offer = strike_other Buy n p k.bid.sound w on at o k.offer;
    })

pub kept_strike_offer : {S : Type 0} {os us : List Order} {b : List Key} (t t' : List (Resting S)) (n p : ℕ) → Kept os b (keys t) → (1 ≤ n) × (n ≤ length os) → rests_on Sell (get_or os (n - 1) blank) ≡ true
    → p ≡ (get_or os (n - 1) blank).price → us ≡ alter n cancel os → t' ≡ filter (stays Sell p us) t → Kept us b (keys t')
kept_strike_offer {S} {os} {us} {b} t t' n p k w on at e f =
    subst (λ l. Kept l b (keys t')) (sym e) (record {
      bid = strike_other Sell n p k.bid.sound w on at b k.bid;
      offer = strike_tied Sell n p k.bid.sound w on at t t' k.offer (f ∙ ap (λ l. filter (stays Sell p l) t) e);
    })

pub fresh_number : (t : Ticket) (os : List Order) → (next t os).number ≡ suc (length os)
unfolding fresh
fresh_number t os = refl

pub fresh_off : (t : Ticket) (os : List Order) → is_book (next t os).place ≡ false
unfolding fresh
fresh_off t os = refl

pub fresh_sums : (t : Ticket) (os : List Order) → t.shares ≤ 1000000 → Sums (next t os)
unfolding fresh
fresh_sums t os h = record { whole = omega arith; most = h }

-- and put at a place
pub moved_push : (w : Place) (t : Ticket) {os : List Order} → Sound os → (n : ℕ) → n ≡ suc (length os) → moved w n (os ++ (next t os ∷ [])) ≡ os ++ (put w (next t os) ∷ [])
unfolding fresh
moved_push w t {os} s n e = go w
  where
    looked : look n (os ++ (next t os ∷ [])) ≡ Some (next t os)
    looked = look_push n 1 os (next t os) s.numbered (sym e) (omega (arith, e))

    put_there : (w : Place) → cond (is_off (look n (os ++ (next t os ∷ [])))) (alter n (put w) (os ++ (next t os ∷ []))) (os ++ (next t os ∷ [])) ≡ os ++ (put w (next t os) ∷ [])
    put_there w =
        ap (λ x. cond (is_off x) (alter n (put w) (os ++ (next t os ∷ []))) (os ++ (next t os ∷ []))) looked
        ∙ alter_push (put w) n 1 os (next t os) s.numbered (sym e) (omega (arith, e))

    go : (w : Place) → moved w n (os ++ (next t os ∷ [])) ≡ os ++ (put w (next t os) ∷ [])
    go Nowhere = refl
    go Book = put_there Book
    go Line = put_there Line
    go StopFile = put_there StopFile

pub admits_is : (t : Ticket) (os : List Order) → length os < 512 → t.shares ≤ 1000000 → admits t os ≡ true
admits_is t os a b = and_from (ltb (length os) 512) (leb t.shares 1000000) (lt-ltb (length os) 512 a) (le-leb t.shares 1000000 b)
