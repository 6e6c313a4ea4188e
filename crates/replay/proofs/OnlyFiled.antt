-- Only filed stops are elected, by a line of the same call that reached them.
use Rattle.std.proofs.Common.{◌≡◌, ℕ, Bool, true, false, ◌||◌, List, [], ◌∷◌, sym, refl, ◌∙◌, subst, inl, inr}
use Rattle.std.proofs.lemmas.Bool.{false≢true, eq-eqb}
use Rattle.std.specs.List.{AllByRecursion}
use Rattle.market.specs.declared.words.Side.{Side}
use Rattle.market.specs.declared.words.Place.{Place}
use Rattle.market.specs.declared.words.Place.TheVariants.{Nowhere, Book, Line, StopFile}
use Rattle.market.specs.declared.words.TapeLine.{TapeLine}
use Rattle.market.specs.declared.words.TapeLine.TheVariants.{Print, Cancel, Elect, Floor}
use Rattle.replay.specs.Lists.{any}
use Rattle.replay.specs.Days.{Day, new_day}
use Rattle.replay.specs.Calls.{handed, step, after_calls}
use Rattle.replay.specs.Elections.{elects, Untouched, Withdrawn, Elected, Fate}
use Rattle.replay.specs.OnlyFiled.{OfFiled, OnlyFiledElected}
use Rattle.replay.proofs.Lists.{all_append, all_map}
use Rattle.replay.proofs.Elections.{elected_by_first}
use Rattle.replay.proofs.Starts.{sound_after, idle_after}
use Rattle.replay.proofs.FiledBefore.{Named, step_named, stops_after}

-- what the lines of a call tell of a stop with an E line among them ------------------------------------------------------------------------------------
or_left : (a b : Bool) → a ≡ true → (a || b) ≡ true
or_left true b e = refl
or_left false b e = absurd (false≢true e)

or_right : (a b : Bool) → b ≡ true → (a || b) ≡ true
or_right true b e = refl
or_right false b e = e

abbrev InLines : List TapeLine → TapeLine → Type 0
InLines ls x = (n : ℕ) → elects n x ≡ true → any (elects n) ls ≡ true

in_lines : (ls : List TapeLine) → AllByRecursion (InLines ls) ls
in_lines [] = tt
in_lines (x ∷ ls) = (
  (λ n e. or_left (elects n x) (any (elects n) ls) e),
  all_map (InLines ls) (InLines (x ∷ ls)) ls (λ y h n e. or_right (elects n x) (any (elects n) ls) (h n e)) (in_lines ls),
)

none_elects : (n : ℕ) (ls : List TapeLine) → AllByRecursion (λ x. elects n x ≡ false) ls → any (elects n) ls ≡ false
none_elects n [] a = refl
none_elects n (x ∷ ls) a = go (elects n x) a.0 (none_elects n ls a.1)
  where
    go : (b : Bool) → b ≡ false → any (elects n) ls ≡ false → (b || any (elects n) ls) ≡ false
    go true e ih = e
    go false e ih = ih

withdrawn_none : (n : ℕ) (s : Side) (l : ℕ) (ls : List TapeLine) → Withdrawn n s l ls → any (elects n) ls ≡ false
withdrawn_none n s l ls h =
    none_elects n ls (subst (λ xs. AllByRecursion (λ x. elects n x ≡ false) xs) (sym h.lines)
    (all_append (λ x. elects n x ≡ false) h.before (Cancel n h.shares ∷ h.after) (all_map _ _ h.before (λ x u. u.1) h.asleep) (refl, h.never)))

elected_here : (n : ℕ) (s : Side) (l : ℕ) (w : Place) (ls : List TapeLine) → Fate n s l w ls → any (elects n) ls ≡ true → Elected n s l ls
elected_here n s l Book ls (inl h) e = absurd (false≢true (sym (withdrawn_none n s l ls h) ∙ e))
elected_here n s l Book ls (inr h) e = h
elected_here n s l Line ls (inl h) e = absurd (false≢true (sym (withdrawn_none n s l ls h) ∙ e))
elected_here n s l Line ls (inr h) e = h
elected_here n s l Nowhere ls (inl h) e = absurd (false≢true (sym (withdrawn_none n s l ls h) ∙ e))
elected_here n s l Nowhere ls (inr h) e = h
elected_here n s l StopFile ls h e = absurd (false≢true (sym (none_elects n ls (all_map (Untouched n s l) (λ x. elects n x ≡ false) ls (λ x u. u.1) h)) ∙ e))

all_two : {A : Type 0} (P Q R : A → Type 0) (xs : List A) → ((x : A) → P x → Q x → R x) → AllByRecursion P xs → AllByRecursion Q xs → AllByRecursion R xs
all_two P Q R [] f a b = tt
all_two P Q R (x ∷ xs) f a b = (f x a.0 b.0, all_two P Q R xs f a.1 b.1)

pub only_filed_elected : OnlyFiledElected
unfolding after_calls
only_filed_elected gifts lawful room cs c =
    all_two (Named d) (InLines ls) (OfFiled d ls) ls at (step_named d gifts lawful room (sound_after gifts lawful room cs) (idle_after gifts lawful room cs) (stops_after gifts lawful room cs) c) (in_lines ls)
  where
    d : Day
    d = after_calls gifts room new_day cs

    ls : List TapeLine
    ls = handed d (step gifts room d c).day

    at : (x : TapeLine) → Named d x → InLines ls x → OfFiled d ls x
    at (Print n p q l h) a b = tt
    at (Cancel n q) a b = tt
    at (Elect n) a b = (a.0, a.1, a.2, a.3, elected_here n a.0.side a.0.price _ ls (elected_by_first gifts lawful room cs (c ∷ []) n a.0 a.1 a.3) (b n (eq-eqb n n refl)))
    at (Floor p q) a b = tt
