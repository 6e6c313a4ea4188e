-- Which seat a scan of the tables finds.
use Rattle.std.proofs.Common.{◌≡◌, ℕ, ◌+◌, ◌<◌, ◌≤◌, Bool, true, false, cond, ltb, List, [], ◌∷◌, map, get_or, take, drop, Some, None, Option, sym, refl, ap, ◌∙◌, subst, one-add, arith, take-append-drop}
use Rattle.std.specs.List.{position, AllByRecursion, slice_get}
use Rattle.std.specs.Option.{option_map, option_or, IfSome, IfNone}
use Rattle.std.proofs.ByRecursion.{All-weaker, All-append, All-map, All-from_get_or}
use Rattle.std.proofs.lemmas.List.{get_or-take, length-take-le}
use Rattle.std.proofs.lemmas.List.Sums.{prefix_len-le-length, prefix_len_passes}
use Rattle.std.proofs.lemmas.List.Quantifiers.{position-Some}
use Rattle.std.proofs.lemmas.Option.{slice_get-get_or, slice_get-map}
use Rattle.std.proofs.lemmas.Bool.{both_ways, ltb-true, ltb-false, eqb-true}
use Rattle.std.proofs.lemmas.Bool.Decides.{nat_tests}
use Rattle.market.specs.Files.{InOrder}
use Rattle.market.specs.declared.words.Side.{Side}
use Rattle.market.specs.declared.words.Side.TheVariants.{Buy, Sell}
use Rattle.market.specs.declared.words.Stop.{Stop}
use Rattle.stops.specs.declared.rows.PricedStop.{PricedStop}
use Rattle.stops.specs.declared.seats.Found.{Found}
use Rattle.stops.specs.declared.seats.Seat.TheVariants.{Buys, Sells}
use Rattle.stops.specs.Stops.{elects, numbered}
use Rattle.stops.specs.Tables.{stop_of, ranks, both}
use Rattle.stops.specs.Seats.{elected_len, seated, lower_seat, Leads}
use Rattle.stops.proofs.Firsts.{unfound}

-- where a number stands in one table ----------------------------------------------------------------------------------------
module _ {X : Type 0} (f : X → Stop) (n : ℕ) where
  -- whatever has the number is as low as any that has it
  same : (s : Stop) → numbered n s ≡ true → (us : List Stop) → AllByRecursion (λ u. numbered n u ≡ true → s.number ≤ u.number) us
  same s h [] = tt
  same s h (u ∷ us) = ((λ e. let a = eqb-true s.number n h in let b = eqb-true u.number n e in omega arith), same s h us)

  number_found : (xs : List X) (i : ℕ) (us : List Stop) → Some i ≡ position (λ u. numbered n (f u)) xs → Leads (numbered n) (slice_get (map f xs) i) us
  number_found [] i us e = absurd (let z : ◌≡◌ {A = ℕ} 0 1 = cc in omega arith)
  number_found (x ∷ xs) i us e =
      let h = position-Some (λ u. numbered n (f u)) (x ∷ xs) i x (sym e) in
      let there : slice_get (map f (x ∷ xs)) i ≡ Some (f (get_or (x ∷ xs) i x)) = slice_get-map f (x ∷ xs) i ∙ ap (option_map f) (slice_get-get_or (x ∷ xs) i x h.0) in
      subst (λ (o : Option Stop). Leads (numbered n) o us) (sym there) (h.1, same (f (get_or (x ∷ xs) i x)) h.1 us)

  number_missing : (xs : List X) → None ≡ position (λ u. numbered n (f u)) xs → AllByRecursion (λ u. numbered n u ≡ false) (map f xs)
  number_missing xs e = All-map (λ u. numbered n u ≡ false) f xs (unfound (λ u. numbered n (f u)) xs e)

-- what one table offers to a price ------------------------------------------------------------------------------------------
pub record Offers (t : Stop → Bool) (ss : List Stop) (r : Found) : Type 0 where
  pub which : Stop
  pub at : slice_get ss r.place ≡ Some which
  pub called : which.number ≡ r.number
  pub passes : t which ≡ true
  pub least : AllByRecursion (λ u. t u ≡ true → r.number ≤ u.number) ss

abbrev pub Spotted : (Stop → Bool) → List Stop → Option Found → Type 0
Spotted t ss None = AllByRecursion (λ u. t u ≡ false) ss
Spotted t ss (Some r) = Offers t ss r

-- what a price does not elect, it elects no row behind
stays : {S : Type 0} (c : Side) (p : ℕ) (u v : PricedStop S) → ranks c v u ≡ false → elects p (stop_of c u) ≡ false → elects p (stop_of c v) ≡ false
stays Buy p u v h e = grind (arith, nat_tests)
stays Sell p u v h e = grind (arith, nat_tests)

module _ {S : Type 0} (c : Side) (p : ℕ) where
  asleep : (rows : List (PricedStop S)) → InOrder (ranks c) rows → AllByRecursion (λ u. elects p (stop_of c u) ≡ false) (drop (elected_len c p rows) rows)
  asleep [] h = tt
  asleep (x ∷ xs) h = go (elects p (stop_of c x)) refl (asleep xs h.1)
    where
      go : (b : Bool) → elects p (stop_of c x) ≡ b → AllByRecursion (λ u. elects p (stop_of c u) ≡ false) (drop (elected_len c p xs) xs) → AllByRecursion (λ u. elects p (stop_of c u) ≡ false) (drop (cond b (1 + elected_len c p xs) 0) (x ∷ xs))
      go true e ih = rw one-add ih
      go false e ih = (e, All-weaker (λ v. ranks c v x ≡ false) (λ v. elects p (stop_of c v) ≡ false) (λ v k. stays c p x v k e) xs h.0)

  pub spotted : (rows : List (PricedStop S)) (r : Option Found) → InOrder (ranks c) rows → IfNone r (elected_len c p rows ≡ 0) → IfSome r (λ f. f.place < elected_len c p rows) → IfSome r (λ f. (d : PricedStop S) → f.number ≡ (get_or rows f.place d).number)
      → IfSome r (λ f. (k : ℕ) (d : PricedStop S) → k < elected_len c p rows → f.number ≤ (get_or rows k d).number) → Spotted (elects p) (map (stop_of c) rows) r
  spotted rows None h none there called least = All-map (λ u. elects p u ≡ false) (stop_of c) rows (subst (λ (n : ℕ). AllByRecursion (λ u. elects p (stop_of c u) ≡ false) (drop n rows)) none (asleep rows h))
  spotted [] (Some r) h none there called least = absurd (omega arith)
  spotted (x ∷ xs) (Some r) h none there called least =
      let rows : List (PricedStop S) = x ∷ xs in
      let n = elected_len c p rows in
      let inside = prefix_len-le-length (λ u. elects p (stop_of c u)) rows in
      let long = length-take-le n rows inside in
      let front = All-from_get_or (λ (u : PricedStop S). elects p (stop_of c u) ≡ true → r.number ≤ u.number) (take n rows) x (λ k l _. rw (get_or-take n rows k x (omega arith)) (least k x (omega arith))) in
      let back = All-weaker (λ (u : PricedStop S). elects p (stop_of c u) ≡ false) (λ u. elects p (stop_of c u) ≡ true → r.number ≤ u.number) (λ u k y. absurd (both_ways (elects p (stop_of c u)) k y)) (drop n rows) (asleep rows h) in
      record {
        which = stop_of c (get_or rows r.place x);
        at = slice_get-map (stop_of c) rows r.place ∙ ap (option_map (stop_of c)) (slice_get-get_or rows r.place x (omega arith));
        called = sym (called x);
        passes = prefix_len_passes (λ u. elects p (stop_of c u)) rows r.place x there;
        least = All-map (λ u. elects p u ≡ true → r.number ≤ u.number) (stop_of c) rows (subst (AllByRecursion (λ (u : PricedStop S). elects p (stop_of c u) ≡ true → r.number ≤ u.number)) (take-append-drop n rows) (All-append (λ (u : PricedStop S). elects p (stop_of c u) ≡ true → r.number ≤ u.number) (take n rows) (drop n rows) front back));
      }

-- of both tables ------------------------------------------------------------------------------------------------------------
module _ (t : Stop → Bool) {A B : Type 0} (bs : List (PricedStop A)) (ss : List (PricedStop B)) where
  silent : (n : ℕ) (us : List Stop) → AllByRecursion (λ u. t u ≡ false) us → AllByRecursion (λ u. t u ≡ true → n ≤ u.number) us
  silent n us h = All-weaker (λ u. t u ≡ false) (λ u. t u ≡ true → n ≤ u.number) (λ u k y. absurd (both_ways (t u) k y)) us h

  lead : (o : Option Stop) (r : Found) (w : Stop) → o ≡ Some w → w.number ≡ r.number → t w ≡ true → AllByRecursion (λ u. t u ≡ true → r.number ≤ u.number) (map (stop_of Buy) bs) → AllByRecursion (λ u. t u ≡ true → r.number ≤ u.number) (map (stop_of Sell) ss) → Leads t o (both bs ss)
  lead o r w e c y k m =
      subst (λ (x : Option Stop). Leads t x (both bs ss)) (sym e) (y, subst (λ (n : ℕ). AllByRecursion (λ u. t u ≡ true → n ≤ u.number) (both bs ss)) (sym c) (All-append (λ u. t u ≡ true → r.number ≤ u.number) (map (stop_of Buy) bs) (map (stop_of Sell) ss) k m))

  lower_than : (n m : ℕ) (us : List Stop) → n ≤ m → AllByRecursion (λ u. t u ≡ true → m ≤ u.number) us → AllByRecursion (λ u. t u ≡ true → n ≤ u.number) us
  lower_than n m us l h = All-weaker (λ u. t u ≡ true → m ≤ u.number) (λ u. t u ≡ true → n ≤ u.number) (λ u k y. let j = k y in omega arith) us h

  pub seat_leads : (b s : Option Found) → Spotted t (map (stop_of Buy) bs) b → Spotted t (map (stop_of Sell) ss) s → Leads t (seated bs ss (lower_seat b s)) (both bs ss)
  seat_leads None None h k = All-append (λ u. t u ≡ false) (map (stop_of Buy) bs) (map (stop_of Sell) ss) h k
  seat_leads (Some b) None h k = lead (slice_get (map (stop_of Buy) bs) b.place) b h.which h.at h.called h.passes h.least (silent b.number (map (stop_of Sell) ss) k)
  seat_leads None (Some s) h k = lead (slice_get (map (stop_of Sell) ss) s.place) s k.which k.at k.called k.passes (silent s.number (map (stop_of Buy) bs) h) k.least
  seat_leads (Some b) (Some s) h k = go (ltb b.number s.number) refl
    where
      go : (c : Bool) → ltb b.number s.number ≡ c → Leads t (seated bs ss (cond c (Some (Buys b.place)) (Some (Sells s.place)))) (both bs ss)
      go true e = lead (slice_get (map (stop_of Buy) bs) b.place) b h.which h.at h.called h.passes h.least (lower_than b.number s.number (map (stop_of Sell) ss) (let l = ltb-true b.number s.number e in omega arith) k.least)
      go false e = lead (slice_get (map (stop_of Sell) ss) s.place) s k.which k.at k.called k.passes (lower_than s.number b.number (map (stop_of Buy) bs) (ltb-false b.number s.number e) h.least) k.least

-- where the number stands in both
pub number_leads : {A B : Type 0} (n : ℕ) (bs : List (PricedStop A)) (ss : List (PricedStop B)) (o p : Option ℕ) → o ≡ position (λ u. numbered n (stop_of Buy u)) bs → p ≡ position (λ u. numbered n (stop_of Sell u)) ss
    → Leads (numbered n) (seated bs ss (option_or (option_map (λ i. Buys i) o) (option_map (λ i. Sells i) p))) (both bs ss)
number_leads n bs ss (Some i) p h k = number_found (stop_of Buy) n bs i (both bs ss) h
number_leads n bs ss None (Some j) h k = number_found (stop_of Sell) n ss j (both bs ss) k
number_leads n bs ss None None h k = All-append (λ u. numbered n u ≡ false) (map (stop_of Buy) bs) (map (stop_of Sell) ss) (number_missing (stop_of Buy) n bs h) (number_missing (stop_of Sell) n ss k)
