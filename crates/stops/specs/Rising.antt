-- The operations keep the numbers ascending, and then the first is the lowest.
use Rattle.std.specs.Prelude.{◌≡◌, ℕ, ◌<◌, Bool, true, false, cond, List, [], ◌∷◌, ◌++◌, length, Some, Ok, Err, filter, ◌==◌, nat_lt, refl}
use Rattle.std.proofs.Common.{ap, ◌∙◌, arith}
use Rattle.std.specs.List.{AllByRecursion}
use Rattle.std.proofs.ByRecursion.{All-push, all_kept_by}
use Rattle.std.proofs.lemmas.Bool.{and_parts, ltb-true, le-leb}
use Rattle.market.specs.declared.words.Stop.{Stop}
use Rattle.stops.specs.declared.stop_file.NotAdded.TheVariants.{NotAbove, Full}
use Rattle.stops.specs.Stops.{elects, numbered, first_by, without_by, above_all, adding, after_adding}
use Rattle.stops.specs.Laws.{Ascends, lower, lowest_by, Operation, clearing, entering, removing, taking, after, reached}

pub all_without : (P : Stop → Type 0) (t : Stop → Bool) (ss : List Stop) → AllByRecursion P ss → AllByRecursion P (without_by t ss)
all_without P t [] h = tt
all_without P t (x ∷ xs) h = go (t x) (all_without P t xs h.1)
  where
    go : (b : Bool) → AllByRecursion P (without_by t xs) → AllByRecursion P (cond b xs (x ∷ without_by t xs))
    go true ih = h.1
    go false ih = (h.0, ih)

pub ascends_without : (t : Stop → Bool) (ss : List Stop) → Ascends ss → Ascends (without_by t ss)
ascends_without t [] h = tt
ascends_without t (x ∷ xs) h = go (t x) (ascends_without t xs h.1)
  where
    go : (b : Bool) → Ascends (without_by t xs) → Ascends (cond b xs (x ∷ without_by t xs))
    go true ih = h.1
    go false ih = (all_without (λ u. x.number < u.number) t xs h.0, ih)

pub ascends_push : (s : Stop) (ss : List Stop) → above_all s.number ss ≡ true → Ascends ss → Ascends (ss ++ s ∷ [])
ascends_push s [] e h = (tt, tt)
ascends_push s (x ∷ xs) e h =
    let both = and_parts (nat_lt x.number s.number) (above_all s.number xs) e in
    (All-push (λ u. x.number < u.number) xs s h.0 (ltb-true x.number s.number both.0), ascends_push s xs both.1 h.1)

pub ascends_added : (k : ℕ) (s : Stop) (ss : List Stop) → Ascends ss → Ascends (after_adding (adding k s ss) s ss)
ascends_added k s ss h = go (above_all s.number ss) refl (length ss == k)
  where
    go : (b : Bool) → above_all s.number ss ≡ b → (f : Bool) → Ascends (after_adding (cond b (cond f (Err Full) (Ok tt)) (Err NotAbove)) s ss)
    go true e true = h
    go true e false = ascends_push s ss e h
    go false e f = h

pub ascends_after : (k : ℕ) (o : Operation) (ss : List Stop) → Ascends ss → Ascends (after k o ss)
ascends_after k clearing ss h = tt
ascends_after k (entering s) ss h = ascends_added k s ss h
ascends_after k (removing n) ss h = ascends_without (numbered n) ss h
ascends_after k (taking p) ss h = ascends_without (elects p) ss h

pub ascends_reached : (k : ℕ) (os : List Operation) → Ascends (reached k os)
ascends_reached k [] = tt
ascends_reached k (o ∷ os) = ascends_after k o (reached k os) (ascends_reached k os)

-- no stop behind x is lower than x
lower_all : (t : Stop → Bool) (x : Stop) (xs : List Stop) → AllByRecursion (λ u. x.number < u.number) xs → lower x (first_by t xs) ≡ Some x
lower_all t x [] h = refl
lower_all t x (y ∷ ys) h = go (t y) (lower_all t x ys h.1)
  where
    go : (b : Bool) → lower x (first_by t ys) ≡ Some x → lower x (cond b (Some y) (first_by t ys)) ≡ Some x
    go true ih = ap (λ (c : Bool). cond c (Some x) (Some y)) (le-leb x.number y.number (omega (arith, h.0)))
    go false ih = ih

pub lowest_first : (t : Stop → Bool) (ss : List Stop) → Ascends ss → lowest_by t ss ≡ first_by t ss
lowest_first t [] h = refl
lowest_first t (x ∷ xs) h = go (t x) (lowest_first t xs h.1)
  where
    go : (b : Bool) → lowest_by t xs ≡ first_by t xs → cond b (lower x (lowest_by t xs)) (lowest_by t xs) ≡ cond b (Some x) (first_by t xs)
    go true ih = ap (lower x) ih ∙ lower_all t x xs h.0
    go false ih = ih

-- what passes of a list that ascends, ascends
pub ascends_kept : (t : Stop → Bool) (ss : List Stop) → Ascends ss → Ascends (filter t ss)
ascends_kept t [] h = tt
ascends_kept t (x ∷ xs) h = go (t x) (ascends_kept t xs h.1)
  where
    go : (b : Bool) → Ascends (filter t xs) → Ascends (cond b (x ∷ filter t xs) (filter t xs))
    go true ih = (all_kept_by t (λ u. x.number < u.number) xs h.0, ih)
    go false ih = ih
