-- What filing a row and taking one out make of a table's stops.
use Rattle.std.proofs.Common.{◌≡◌, ℕ, zero, suc, ◌+◌, ◌≤◌, length, length-append, length-take, length-drop, Bool, true, false, List, [], ◌∷◌, ◌++◌, map, take, drop, Some, None, Option, Ok, Err, Result, sym, refl, ap, ◌∙◌, subst, arith, MatchOption}
use Rattle.std.specs.Result.{OnOk, is_ok}
use Rattle.std.specs.List.{remove, slice_get}
use Rattle.std.proofs.ByRecursion.{All-append, All-take, All-drop}
use Rattle.market.specs.Files.{filed, ahead, InOrder}
use Rattle.market.proofs.Filing.{filed_is, length_filed}
use Rattle.market.specs.declared.words.Stop.{Stop}
use Rattle.market.specs.declared.words.Side.{Side}
use Rattle.stops.specs.declared.rows.PricedStop.{PricedStop}
use Rattle.stops.specs.Tables.{stop_of, ranks, Apart, Beside}
use Rattle.stops.proofs.Merged.{beside_inserted, beside_left, beside_right, beside_out}

-- a stop was taken out of the longer list, or none was
abbrev pub Pulled : Option Stop → List Stop → List Stop → Type 0
Pulled o ms ls = MatchOption o (ls ≡ ms) (λ s. Beside s ms ls)

-- one table of two
module _ (zs : List Stop) where
  pub pulled_left : (o : Option Stop) (ms ls : List Stop) → Pulled o ms ls → Pulled o (ms ++ zs) (ls ++ zs)
  pulled_left None ms ls h = ap (λ (l : List Stop). l ++ zs) h
  pulled_left (Some s) ms ls h = beside_left zs h

  pub pulled_right : (o : Option Stop) (ms ls : List Stop) → Pulled o ms ls → Pulled o (zs ++ ms) (zs ++ ls)
  pulled_right None ms ls h = ap (λ (l : List Stop). zs ++ l) h
  pulled_right (Some s) ms ls h = beside_right zs h

pub pulled_apart : (o : Option Stop) (ms ls : List Stop) → Pulled o ms ls → Apart ms → Apart ls
pulled_apart None ms ls h k = subst Apart (sym h) k
pulled_apart (Some s) ms ls h k = (beside_out h k).1

module _ {X : Type 0} (f : X → Stop) where
  pub filed_beside : (before : X → X → Bool) (xs ys : List X) (x : X) → ys ≡ filed before x xs → Beside (f x) (map f ys) (map f xs)
  filed_beside before xs ys x e =
      subst (λ (zs : List X). Beside (f x) (map f zs) (map f xs)) (sym (e ∙ filed_is before x xs)) (beside_inserted f xs (ahead before x xs) x)

  pub filed_longer : (before : X → X → Bool) (xs ys : List X) (x : X) → ys ≡ filed before x xs → length ys ≡ length xs + 1
  filed_longer before xs ys x e = ap length e ∙ length_filed before x xs

  -- the stop at a place, and the table without it
  pulled_beside : (xs : List X) (i : ℕ) (o : Option Stop) → o ≡ slice_get (map f xs) i → Pulled o (map f xs) (map f (remove xs i))
  pulled_beside [] zero o e = rw e refl
  pulled_beside [] (suc i) o e = rw e refl
  pulled_beside (x ∷ xs) zero o e = rw e (record { front = []; back = map f xs; more_is = refl; less_is = refl })
  pulled_beside (x ∷ xs) (suc i) o e = behind o (pulled_beside xs i o e)
    where
      behind : (p : Option Stop) → Pulled p (map f xs) (map f (remove xs i)) → Pulled p (f x ∷ map f xs) (f x ∷ map f (remove xs i))
      behind None h = ap (λ (l : List Stop). f x ∷ l) h
      behind (Some s) h = record { front = f x ∷ h.front; back = h.back; more_is = ap (λ (l : List Stop). f x ∷ l) h.more_is; less_is = ap (λ (l : List Stop). f x ∷ l) h.less_is }

removed_in_order : {X : Type 0} (before : X → X → Bool) (xs : List X) (i : ℕ) → InOrder before xs → InOrder before (remove xs i)
removed_in_order before [] zero h = tt
removed_in_order before [] (suc i) h = tt
removed_in_order before (x ∷ xs) zero h = h.1
removed_in_order before (x ∷ xs) (suc i) h =
    (All-append (λ y. before y x ≡ false) (take i xs) (drop (suc i) xs) (All-take (λ y. before y x ≡ false) i xs h.0) (All-drop (λ y. before y x ≡ false) (suc i) xs h.0), removed_in_order before xs i h.1)

length_removed : {X : Type 0} (xs : List X) (i : ℕ) → length (remove xs i) ≤ length xs
length_removed xs i = simp length-append (omega (arith, length-take i xs, length-drop (suc i) xs))

-- what it makes of a table that the row at a place is taken out
pub record PulledRow {S : Type 0} (c : Side) (xs ys : List (PricedStop S)) (i : ℕ) : Type 0 where
  pub left : (o : Option Stop) → o ≡ slice_get (map (stop_of c) xs) i → Pulled o (map (stop_of c) xs) (map (stop_of c) ys)
  pub ordered : InOrder (ranks c) xs → InOrder (ranks c) ys
  pub fewer : length ys ≤ length xs

pub pulled_row : {S : Type 0} (c : Side) (xs ys : List (PricedStop S)) (i : ℕ) → ys ≡ remove xs i → PulledRow c xs ys i
pulled_row {S} c xs ys i e =
    subst (λ (zs : List (PricedStop S)). PulledRow c xs zs i) (sym e) (record { left = λ r was. pulled_beside (stop_of c) xs i r was; ordered = removed_in_order (ranks c) xs i; fewer = length_removed xs i })

-- what holds if there was room
pub row_filed : {T E P : Type 0} (r : Result T E) → is_ok r ≡ true → OnOk r P → P
row_filed (Ok x) e h = h
row_filed (Err x) e h = absurd (let z : ◌≡◌ {A = Bool} false true = cc in let y : ◌≡◌ {A = ℕ} 0 1 = cc in omega arith)
