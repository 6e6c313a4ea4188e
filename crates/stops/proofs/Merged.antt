-- One stop more or less in two tables, and what that makes of the list by number.
use Rattle.std.proofs.Common.{◌≡◌, ℕ, ◌<◌, ◌≤◌, Bool, true, false, cond, ◌&&◌, ltb, List, [], ◌∷◌, ◌++◌, map, take, drop, Some, None, Option, sym, refl, ap, ◌∙◌, subst, ⊎_elim, append_assoc, arith, take-append-drop, MatchOption}
use Rattle.std.specs.List.{insert, AllByRecursion, list_all}
use Rattle.std.proofs.ByRecursion.{All-weaker}
use Rattle.std.proofs.lemmas.List.{map-append}
use Rattle.std.proofs.lemmas.List.Folds.{list_all-append, list_all-map}
use Rattle.std.proofs.lemmas.Bool.{cases_lt, and_parts, lt-ltb, le-ltb, ltb-true, ltb-false}
use Rattle.market.specs.Files.{filed}
use Rattle.market.specs.declared.words.Side.TheVariants.{Buy, Sell}
use Rattle.market.specs.declared.words.Stop.{Stop}
use Rattle.stops.specs.declared.rows.PricedStop.{PricedStop}
use Rattle.stops.specs.Stops.{first_by, without_by, above_all}
use Rattle.stops.specs.Tables.{stop_of, both, Away, Apart, lower_number, by_number, Beside}
use Rattle.stops.specs.Seats.{Leads}
use Rattle.stops.proofs.Firsts.{none_first, untaken}

-- one more in the middle ----------------------------------------------------------------------------------------------------
all_out : (P : Stop → Type 0) (xs ys : List Stop) (s : Stop) → AllByRecursion P (xs ++ s ∷ ys) → P s × AllByRecursion P (xs ++ ys)
all_out P [] ys s h = h
all_out P (x ∷ xs) ys s h = let r = all_out P xs ys s h.1 in (r.0, (h.0, r.1))

all_in : (P : Stop → Type 0) (xs ys : List Stop) (s : Stop) → P s → AllByRecursion P (xs ++ ys) → AllByRecursion P (xs ++ s ∷ ys)
all_in P [] ys s k h = (k, h)
all_in P (x ∷ xs) ys s k h = (h.0, all_in P xs ys s k h.1)

apart_out : (xs ys : List Stop) (s : Stop) → Apart (xs ++ s ∷ ys) → AllByRecursion (Away s) (xs ++ ys) × Apart (xs ++ ys)
apart_out [] ys s h = h
apart_out (x ∷ xs) ys s h =
    let a = all_out (Away x) xs ys s h.0 in
    let r = apart_out xs ys s h.1 in
    (((λ e. a.0 (sym e)), r.0), (a.1, r.1))

apart_in : (xs ys : List Stop) (s : Stop) → AllByRecursion (Away s) (xs ++ ys) → Apart (xs ++ ys) → Apart (xs ++ s ∷ ys)
apart_in [] ys s k h = (k, h)
apart_in (x ∷ xs) ys s k h = (all_in (Away x) xs ys s (λ e. k.0 (sym e)) h.0, apart_in xs ys s k.1 h.1)

-- filing by number ----------------------------------------------------------------------------------------------------------
all_filed : (P : Stop → Type 0) (s : Stop) (ss : List Stop) → P s → AllByRecursion P ss → AllByRecursion P (filed lower_number s ss)
all_filed P s [] k h = (k, tt)
all_filed P s (u ∷ us) k h = go (lower_number s u) (all_filed P s us k h.1)
  where
    go : (b : Bool) → AllByRecursion P (filed lower_number s us) → AllByRecursion P (cond b (s ∷ u ∷ us) (u ∷ filed lower_number s us))
    go true ih = (k, h)
    go false ih = (h.0, ih)

pub all_by_number : (P : Stop → Type 0) (ss : List Stop) → AllByRecursion P ss → AllByRecursion P (by_number ss)
all_by_number P [] h = tt
all_by_number P (s ∷ ss) h = all_filed P s (by_number ss) h.0 (all_by_number P ss h.1)

-- two stops may be filed in either order
swap : (a b : Stop) (us : List Stop) → a.number < b.number → filed lower_number a (filed lower_number b us) ≡ filed lower_number b (filed lower_number a us)
swap a b [] l =
    ap (λ (c : Bool). cond c (a ∷ b ∷ []) (b ∷ a ∷ [])) (lt-ltb a.number b.number l)
    ∙ ap (λ (c : Bool). cond c (b ∷ a ∷ []) (a ∷ b ∷ [])) (sym (le-ltb b.number a.number (omega arith)))
swap a b (u ∷ us) l = go (lower_number a u) refl (lower_number b u) refl (swap a b us l)
  where
    before : lower_number a b ≡ true
    before = lt-ltb a.number b.number l

    after : lower_number b a ≡ false
    after = le-ltb b.number a.number (omega arith)

    go : (c : Bool) → lower_number a u ≡ c → (d : Bool) → lower_number b u ≡ d → filed lower_number a (filed lower_number b us) ≡ filed lower_number b (filed lower_number a us)
        → filed lower_number a (cond d (b ∷ u ∷ us) (u ∷ filed lower_number b us)) ≡ filed lower_number b (cond c (a ∷ u ∷ us) (u ∷ filed lower_number a us))
    go true i true j ih =
        ap (λ (c : Bool). cond c (a ∷ b ∷ u ∷ us) (b ∷ filed lower_number a (u ∷ us))) before
        ∙ ap (λ (c : Bool). a ∷ cond c (b ∷ u ∷ us) (u ∷ filed lower_number b us)) (sym j)
        ∙ ap (λ (c : Bool). cond c (b ∷ a ∷ u ∷ us) (a ∷ filed lower_number b (u ∷ us))) (sym after)
    go true i false j ih =
        ap (λ (c : Bool). cond c (a ∷ u ∷ filed lower_number b us) (u ∷ filed lower_number a (filed lower_number b us))) i
        ∙ ap (λ (c : Bool). a ∷ cond c (b ∷ u ∷ us) (u ∷ filed lower_number b us)) (sym j)
        ∙ ap (λ (c : Bool). cond c (b ∷ a ∷ u ∷ us) (a ∷ filed lower_number b (u ∷ us))) (sym after)
    go false i true j ih = absurd (let k = ltb-false a.number u.number i in let m = ltb-true b.number u.number j in omega arith)
    go false i false j ih =
        ap (λ (c : Bool). cond c (a ∷ u ∷ filed lower_number b us) (u ∷ filed lower_number a (filed lower_number b us))) i
        ∙ ap (λ (z : List Stop). u ∷ z) ih
        ∙ ap (λ (c : Bool). cond c (b ∷ u ∷ filed lower_number a us) (u ∷ filed lower_number b (filed lower_number a us))) (sym j)

swap_away : (a b : Stop) (us : List Stop) → Away a b → filed lower_number a (filed lower_number b us) ≡ filed lower_number b (filed lower_number a us)
swap_away a b us ne =
    ⊎_elim
    (λ (l : a.number < b.number). swap a b us l)
    (λ (l : b.number ≤ a.number). sym (swap b a us (let k : (a.number ≡ b.number) → ⊥ = ne in omega arith)))
    (cases_lt a.number b.number)

by_number_in : (xs ys : List Stop) (s : Stop) → AllByRecursion (Away s) (xs ++ ys) → by_number (xs ++ s ∷ ys) ≡ filed lower_number s (by_number (xs ++ ys))
by_number_in [] ys s h = refl
by_number_in (x ∷ xs) ys s h = ap (filed lower_number x) (by_number_in xs ys s h.1) ∙ sym (swap_away s x (by_number (xs ++ ys)) h.0)

-- behind all
filed_last : (s : Stop) (ss : List Stop) → AllByRecursion (λ u. u.number < s.number) ss → filed lower_number s ss ≡ ss ++ s ∷ []
filed_last s [] h = refl
filed_last s (u ∷ us) h =
    ap (λ (b : Bool). cond b (s ∷ u ∷ us) (u ∷ filed lower_number s us)) (le-ltb s.number u.number (omega (arith, h.0)))
    ∙ ap (λ (z : List Stop). u ∷ z) (filed_last s us h.1)

-- the first that passes is the one just filed, where it passes and is lower than all others that do
taken_out : (t : Stop → Bool) (s : Stop) (ss : List Stop) → t s ≡ true → AllByRecursion (λ u. t u ≡ true → s.number < u.number) ss → (first_by t (filed lower_number s ss) ≡ Some s) × (without_by t (filed lower_number s ss) ≡ ss)
taken_out t s [] e h = (ap (λ (b : Bool). cond b (Some s) None) e, ap (λ (b : Bool). cond b [] (s ∷ [])) e)
taken_out t s (u ∷ us) e h = go (lower_number s u) refl (t u) refl (taken_out t s us e h.1)
  where
    go : (b : Bool) → lower_number s u ≡ b → (c : Bool) → t u ≡ c → (first_by t (filed lower_number s us) ≡ Some s) × (without_by t (filed lower_number s us) ≡ us)
        → (first_by t (cond b (s ∷ u ∷ us) (u ∷ filed lower_number s us)) ≡ Some s) × (without_by t (cond b (s ∷ u ∷ us) (u ∷ filed lower_number s us)) ≡ u ∷ us)
    go true i c j ih = (ap (λ (b : Bool). cond b (Some s) (first_by t (u ∷ us))) e, ap (λ (b : Bool). cond b (u ∷ us) (s ∷ without_by t (u ∷ us))) e)
    go false i true j ih = absurd (let k = ltb-false s.number u.number i in let m = h.0 j in omega arith)
    go false i false j ih = (
      ap (λ (b : Bool). cond b (Some u) (first_by t (filed lower_number s us))) j ∙ ih.0,
      ap (λ (b : Bool). cond b (filed lower_number s us) (u ∷ without_by t (filed lower_number s us))) j ∙ ap (λ (z : List Stop). u ∷ z) ih.1,
    )

-- lists with one stop more --------------------------------------------------------------------------------------------------
pub beside_left : {s : Stop} {ms ls : List Stop} (zs : List Stop) → Beside s ms ls → Beside s (ms ++ zs) (ls ++ zs)
beside_left {s} zs b =
    record {
      front = b.front;
      back = b.back ++ zs;
      more_is = ap (λ (l : List Stop). l ++ zs) b.more_is ∙ append_assoc b.front (s ∷ b.back) zs;
      less_is = ap (λ (l : List Stop). l ++ zs) b.less_is ∙ append_assoc b.front b.back zs;
    }

pub beside_right : {s : Stop} {ms ls : List Stop} (zs : List Stop) → Beside s ms ls → Beside s (zs ++ ms) (zs ++ ls)
beside_right {s} zs b =
    record {
      front = zs ++ b.front;
      back = b.back;
      more_is = ap (λ (l : List Stop). zs ++ l) b.more_is ∙ sym (append_assoc zs b.front (s ∷ b.back));
      less_is = ap (λ (l : List Stop). zs ++ l) b.less_is ∙ sym (append_assoc zs b.front b.back);
    }

pub beside_inserted : {X : Type 0} (f : X → Stop) (xs : List X) (k : ℕ) (x : X) → Beside (f x) (map f (insert xs k x)) (map f xs)
beside_inserted f xs k x =
    record {
      front = map f (take k xs);
      back = map f (drop k xs);
      more_is = map-append f (take k xs) (x ∷ drop k xs);
      less_is = ap (map f) (sym (take-append-drop k xs)) ∙ map-append f (take k xs) (drop k xs);
    }

module _ {s : Stop} {ms ls : List Stop} (b : Beside s ms ls) where
  pub beside_all : (P : Stop → Type 0) → AllByRecursion P ms → P s × AllByRecursion P ls
  beside_all P h =
      let r = all_out P b.front b.back s (subst (AllByRecursion P) b.more_is h) in
      (r.0, subst (AllByRecursion P) (sym b.less_is) r.1)

  pub beside_out : Apart ms → AllByRecursion (Away s) ls × Apart ls
  beside_out h =
      let r = apart_out b.front b.back s (subst Apart b.more_is h) in
      (subst (AllByRecursion (Away s)) (sym b.less_is) r.0, subst Apart (sym b.less_is) r.1)

  pub beside_in : AllByRecursion (Away s) ls → Apart ls → Apart ms
  beside_in k h = subst Apart (sym b.more_is) (apart_in b.front b.back s (subst (AllByRecursion (Away s)) b.less_is k) (subst Apart b.less_is h))

  pub beside_by_number : AllByRecursion (Away s) ls → by_number ms ≡ filed lower_number s (by_number ls)
  beside_by_number k =
      ap by_number b.more_is ∙ by_number_in b.front b.back s (subst (AllByRecursion (Away s)) b.less_is k) ∙ ap (λ (l : List Stop). filed lower_number s (by_number l)) (sym b.less_is)

  -- a stop above all is filed last
  pub joined_last : AllByRecursion (λ u. u.number < s.number) ls → by_number ms ≡ by_number ls ++ s ∷ []
  joined_last h =
      beside_by_number (All-weaker (λ u. u.number < s.number) (Away s) (λ u k e. omega arith) ls h) ∙ filed_last s (by_number ls) (all_by_number (λ u. u.number < s.number) ls h)

  pub joined_apart : AllByRecursion (λ u. u.number < s.number) ls → Apart ls → Apart ms
  joined_apart h k = beside_in (All-weaker (λ u. u.number < s.number) (Away s) (λ u l e. omega arith) ls h) k

-- what leads is the first by number, and the list goes on without it
pub led : (t : Stop → Bool) (r : Option Stop) (ms ls : List Stop) → Apart ms → Leads t r ms → MatchOption r (ls ≡ ms) (λ s. Beside s ms ls) → (r ≡ first_by t (by_number ms)) × (by_number ls ≡ without_by t (by_number ms))
led t None ms ls a h b =
    let none = none_first t (by_number ms) (all_by_number (λ u. t u ≡ false) ms h) in
    (sym none, ap by_number b ∙ sym (untaken t (by_number ms) none).same)
led t (Some s) ms ls a h b =
    let out = beside_out b a in
    let low = (beside_all b (λ u. t u ≡ true → s.number ≤ u.number) h.1).1 in
    let rest = both_all ls out.0 low in
    let e = beside_by_number b out.0 in
    let k = taken_out t s (by_number ls) h.0 (all_by_number (λ u. t u ≡ true → s.number < u.number) ls rest) in
    (sym (ap (first_by t) e ∙ k.0), sym (ap (without_by t) e ∙ k.1))
  where
    both_all : (us : List Stop) → AllByRecursion (Away s) us → AllByRecursion (λ u. t u ≡ true → s.number ≤ u.number) us → AllByRecursion (λ u. t u ≡ true → s.number < u.number) us
    both_all [] p q = tt
    both_all (u ∷ us) p q = ((λ y. let l = q.0 y in let ne = p.0 in omega arith), both_all us p.1 q.1)

-- numbers above all ---------------------------------------------------------------------------------------------------------
above_all_lem : (n : ℕ) (ss : List Stop) → above_all n ss ≡ true → AllByRecursion (λ u. u.number < n) ss
above_all_lem n [] e = tt
above_all_lem n (u ∷ us) e = let h = and_parts (ltb u.number n) (above_all n us) e in (ltb-true u.number n h.0, above_all_lem n us h.1)

above_filed : (n : ℕ) (s : Stop) (ss : List Stop) → above_all n (filed lower_number s ss) ≡ (ltb s.number n && above_all n ss)
above_filed n s [] = refl
above_filed n s (u ∷ us) = go (lower_number s u) (above_filed n s us)
  where
    turned : (a b c : Bool) → (a && (b && c)) ≡ (b && (a && c))
    turned true b c = refl
    turned false true c = refl
    turned false false c = refl

    go : (b : Bool) → above_all n (filed lower_number s us) ≡ (ltb s.number n && above_all n us) → above_all n (cond b (s ∷ u ∷ us) (u ∷ filed lower_number s us)) ≡ (ltb s.number n && (ltb u.number n && above_all n us))
    go true ih = refl
    go false ih = ap (λ (b : Bool). ltb u.number n && b) ih ∙ turned (ltb u.number n) (ltb s.number n) (above_all n us)

above_by_number : (n : ℕ) (ss : List Stop) → above_all n (by_number ss) ≡ above_all n ss
above_by_number n [] = refl
above_by_number n (s ∷ ss) = above_filed n s (by_number ss) ∙ ap (λ (b : Bool). ltb s.number n && b) (above_by_number n ss)

-- above those by number, above those in any order
pub below_held : (n : ℕ) (ss : List Stop) → above_all n (by_number ss) ≡ true → AllByRecursion (λ u. u.number < n) ss
below_held n ss e = above_all_lem n ss (sym (above_by_number n ss) ∙ e)

-- by the rows of both tables
pub above_rows : {A B : Type 0} (n : ℕ) (bs : List (PricedStop A)) (ss : List (PricedStop B)) → above_all n (by_number (both bs ss)) ≡ (list_all (λ r. ltb r.number n) bs && list_all (λ r. ltb r.number n) ss)
above_rows n bs ss =
    let below : Stop → Bool = λ s. ltb s.number n in
    above_by_number n (both bs ss) ∙ list_all-append below (map (stop_of Buy) bs) (map (stop_of Sell) ss)
    ∙ ap (λ b. b && list_all below (map (stop_of Sell) ss)) (list_all-map below (stop_of Buy) bs)
    ∙ ap (λ b. list_all (λ r. ltb r.number n) bs && b) (list_all-map below (stop_of Sell) ss)
