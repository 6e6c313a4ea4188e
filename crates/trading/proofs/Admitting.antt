-- One order more on the roll of a board.
use Rattle.std.proofs.Common.{◌≡◌, ℕ, suc, ◌+◌, ◌<◌, ◌≤◌, Bool, true, false, cond, ◌&&◌, eqb, List, [], ◌∷◌, ◌++◌, length, Some, None, Option, sym, refl, ap, ◌∙◌, subst, arith}
use Rattle.std.proofs.lemmas.Bool.{false≢true, lt-ltb, le-leb, eq-eqb, ne_eqb}
use Rattle.market.specs.declared.words.Place.{Place}
use Rattle.market.specs.declared.words.Place.TheVariants.{Nowhere, Book, Line, StopFile}
use Rattle.market.specs.declared.words.Order.{Order}
use Rattle.orderbook.specs.declared.ticket.Ticket.{Ticket}
use Rattle.orderbook.specs.Trades.{next, admits}
use Rattle.replay.specs.Lists.{only}
use Rattle.replay.specs.Rolls.{is_filed, look, found, filed, fresh}
use Rattle.replay.specs.Moves.{line_with}
use Rattle.replay.specs.RollHolds.{Numbered}
use Rattle.replay.proofs.Lists.{length_push, total_push, all_map, all_push}
use Rattle.trading.specs.Ruling.{is_loose, loose_of, Waits, Ruled}
use Rattle.trading.proofs.Queue.{once_push}

-- the next order ---------------------------------------------------------------------------------------------------------
pub next_number : (t : Ticket) (os : List Order) → (next t os).number ≡ suc (length os)
unfolding fresh
next_number t os = refl

pub next_kind : (t : Ticket) (os : List Order) → (next t os).kind ≡ t.kind
unfolding fresh
next_kind t os = refl

-- a book that has room takes it
pub admitted : {X : Type 0} (t : Ticket) (os : List Order) (x y : X) {u : X} → length os < 512 → t.shares ≤ 1000000 → u ≡ cond (admits t os) x y → u ≡ x
admitted t os x y a b e = e ∙ (λ i. cond (lt-ltb (length os) 512 a i && le-leb t.shares 1000000 b i) x y)

-- and answers its number
pub numbered : (t : Ticket) (os : List Order) {u : Option ℕ} {n : ℕ} → length os < 512 → t.shares ≤ 1000000 → u ≡ cond (admits t os) (Some (suc (length os))) None → u ≡ Some n → n ≡ suc (length os)
numbered t os a b e h = let z = sym h ∙ admitted t os (Some (suc (length os))) None a b e in cc

-- numbers ----------------------------------------------------------------------------------------------------------------
numbered_push : (k : ℕ) (os : List Order) (o : Order) → Numbered k os → o.number ≡ k + length os → Numbered k (os ++ o ∷ [])
numbered_push k [] o a e = (omega arith, tt)
numbered_push k (x ∷ os) o a e = (a.0, numbered_push (suc k) os o a.1 (omega arith))

pub look_last : (k : ℕ) (os : List Order) (o : Order) → Numbered k os → o.number ≡ k + length os → look o.number (os ++ o ∷ []) ≡ Some o
unfolding look
look_last k [] o a e = ap (λ b. found b o None) (eq-eqb o.number o.number refl)
look_last k (x ∷ os) o a e =
    ap (λ b. found b x (look o.number (os ++ o ∷ []))) (ne_eqb x.number o.number (λ h. omega (arith, a.0)))
    ∙ look_last (suc k) os o a.1 (omega arith)

-- the new number is not in line yet
not_yet : (k : ℕ) (os : List Order) (n : ℕ) → Numbered k os → k + length os ≤ n → Waits os n → ⊥
unfolding look
not_yet k [] n a le w = false≢true w
not_yet k (x ∷ os) n a le w =
    not_yet (suc k) os n a.1 (omega arith) (ap (λ b. loose_of (found b x (look n os))) (sym (ne_eqb x.number n (λ h. omega (arith, a.0)))) ∙ w)

waits_push : (os : List Order) (o : Order) (m : ℕ) → Waits os m → Waits (os ++ o ∷ []) m
unfolding look
waits_push [] o m w = absurd (false≢true w)
waits_push (x ∷ os) o m w = go (eqb x.number m) w (waits_push os o m)
  where
    go : (b : Bool) → loose_of (found b x (look m os)) ≡ true → (Waits os m → Waits (os ++ o ∷ []) m) → loose_of (found b x (look m (os ++ o ∷ []))) ≡ true
    go true w ih = w
    go false w ih = ih w

-- what a board keeps -----------------------------------------------------------------------------------------------------
one_filed : (b : Bool) → only b 1 ≤ 1
one_filed true = omega arith
one_filed false = omega arith

filed_push : (os : List Order) (o : Order) → filed (os ++ o ∷ []) ≡ filed os + only (is_filed o.place) 1
filed_push os o = total_push (λ u. only (is_filed u.place) 1) os o

loose_none : (w : Place) → is_loose w ≡ true → only (is_filed w) 1 ≡ 0
loose_none Nowhere e = refl
loose_none Book e = refl
loose_none Line e = refl
loose_none StopFile e = absurd (false≢true e)

-- so there is room in line
pub room_more : {os : List Order} {l : List ℕ} {j : ℕ} → length os < 512 → Ruled os l j → j < 512
room_more {os} h r = omega (arith, r.room)

-- it does not join the line
pub ruled_push : {os us : List Order} {l : List ℕ} {j : ℕ} (o : Order) → us ≡ os ++ o ∷ [] → o.number ≡ suc (length os) → length os < 512 → Ruled os l j → Ruled us l j
ruled_push {os} {us} {l} {j} o e n h r =
    let long : length (os ++ o ∷ []) ≡ suc (length os) = length_push os o in
    subst (λ x. Ruled x l j) (sym e) (record {
      numbered = numbered_push 1 os o r.numbered (omega arith);
      few = omega arith;
      waits = all_map (Waits os) (Waits (os ++ o ∷ [])) l (waits_push os o) r.waits;
      once = r.once;
      room = omega (arith, filed_push os o, one_filed (is_filed o.place), r.room);
    })

-- it stands last in line
pub ruled_last : {os us : List Order} {l l' : List ℕ} {j j' n : ℕ} (o : Order) → us ≡ os ++ o ∷ [] → o.number ≡ suc (length os) → length os < 512 → is_loose o.place ≡ true
    → n ≡ suc (length os) → l' ≡ l ++ n ∷ [] → j' ≡ j + 1 → Ruled os l j → Ruled us l' j'
ruled_last {os} {us} {l} {l'} {j} {j'} {n} o e num h loose is into more r =
    let vs : List Order = os ++ o ∷ [] in
    let long : length (os ++ o ∷ []) ≡ suc (length os) = length_push os o in
    let same : o.number ≡ n = num ∙ sym is in
    subst (λ x. Ruled x l' j') (sym e) (subst (λ x. Ruled vs x j') (sym into) (record {
      numbered = numbered_push 1 os o r.numbered (omega arith);
      few = omega arith;
      waits = all_push (Waits vs) l n (all_map (Waits os) (Waits vs) l (waits_push os o) r.waits)
          (subst (Waits vs) same (ap loose_of (look_last 1 os o r.numbered (omega arith)) ∙ loose));
      once = once_push n l (all_map (Waits os) (λ m. m ≡ n → ⊥) l (λ m w i. not_yet 1 os n r.numbered (omega arith) (subst (Waits os) i w)) r.waits) r.once;
      room = omega (arith, more, filed_push os o, loose_none o.place loose, r.room);
    }))

pub line_more : {l l' m : List ℕ} {n k : ℕ} (w : Place) → l' ≡ l ++ n ∷ [] → w ≡ Line → n ≡ k → l ≡ m → l' ≡ line_with w k m
line_more {m = m} {k = k} w e is a b = e ∙ (λ i. b i ++ a i ∷ []) ∙ ap (λ x. line_with x k m) (sym is)
