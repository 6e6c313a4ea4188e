-- The other changes of a day keep the books.
use Rattle.std.proofs.Common.{◌≡◌, ℕ, ◌+◌, ◌<◌, ◌≤◌, Bool, true, false, List, [], ◌∷◌, ◌++◌, map, length, Some, None, Option, sym, refl, ap, ◌∙◌, subst, arith}
use Rattle.std.proofs.lemmas.Bool.{false≢true, and_parts}
use Rattle.std.specs.List.{AllByRecursion}
use Rattle.market.specs.declared.words.Place.{Place}
use Rattle.market.specs.declared.words.Place.TheVariants.{Book, Line, StopFile, Nowhere}
use Rattle.market.specs.declared.words.Order.{Order}
use Rattle.market.specs.declared.words.TapeLine.{TapeLine}
use Rattle.market.specs.declared.words.TapeLine.TheVariants.{Cancel, Elect}
use Rattle.market.specs.Sides.{same_side, as_good}
use Rattle.market.specs.Orders.{cancel, put}
use Rattle.replay.specs.Lists.{only, total, those}
use Rattle.replay.specs.Days.{Day}
use Rattle.replay.specs.Rolls.{is_filed, look, left, open_of, place_of}
use Rattle.replay.specs.Moves.{leave, withdraw, rest, pause, elect, is_elected, called, centre, admit}
use Rattle.replay.specs.SharesAddUp.{print_of, cancel_of, filled_on}
use Rattle.replay.proofs.Lists.{total_push, length_push, length_map, all_push}
use Rattle.replay.proofs.Rolls.{Good, Held, good_cancel, val, total_alter, all_alter, length_alter}
use Rattle.replay.proofs.Conservation.{Books}

abbrev pub Waits : List Order → ℕ → Type 0
Waits os n = place_of (look n os) ≡ Line

-- a day with the same roll and the same prints and cancellations
pub books_same : (d e : Day) → d.roll ≡ e.roll → total print_of d.tape ≡ total print_of e.tape → total cancel_of d.tape ≡ total cancel_of e.tape → Books d → Books e
books_same d e r p x b = record {
  orders = subst (λ os. AllByRecursion Good os) r b.orders;
  few = subst (λ os. length os ≤ 512) r b.few;
  filled = λ s. ap (λ os. total (filled_on s) os) (sym r) ∙ b.filled s ∙ p;
  struck = ap (λ os. total (λ (o : Order). o.cancelled) os) (sym r) ∙ b.struck ∙ x;
}

pub leave_books : (n : ℕ) (d : Day) → Books d → Books (leave n d)
unfolding leave
leave_books n d b = books_same d _ refl refl refl b

pub pause_books : (t : Bool) (d : Day) → Books d → Books (pause t d)
unfolding pause
pause_books t d b = books_same d _ refl refl refl b

pub centre_books : (d : Day) → Books d → Books (centre d)
unfolding centre
centre_books d b = books_same d _ refl refl refl b

open_val : (x : Option Order) → val (λ o. o.cancelled + o.«open») x ≡ val (λ o. o.cancelled) x + open_of x
open_val None = refl
open_val (Some o) = refl

pub withdraw_books : (n : ℕ) (d : Day) → Books d → Books (withdraw n d)
unfolding withdraw left
withdraw_books n d b = record {
  orders = all_alter Good n cancel d.roll (λ o e g. good_cancel o g) b.orders;
  few = omega (arith, length_alter n cancel d.roll, b.few);
  filled = λ s. omega (arith, total_alter (filled_on s) n cancel d.roll, b.filled s, total_push print_of d.tape (Cancel n (left n d.roll)));
  struck = omega (arith, total_alter (λ o. o.cancelled) n cancel d.roll, open_val (look n d.roll), b.struck, total_push cancel_of d.tape (Cancel n (left n d.roll)));
}

waiting_held : (w : Place) (n : ℕ) → w ≡ Line → Held w n → 100 ≤ n
waiting_held w n e h = subst (λ x. Held x n) e h

pub rest_books : (n : ℕ) (d : Day) → Waits d.roll n → Books d → Books (rest n d)
unfolding rest
rest_books n d w b = record {
  orders = all_alter Good n (put Book) d.roll
      (λ o e g. record { sum = g.sum; whole = g.whole; most = g.most; held = waiting_held o.place o.«open» (sym (ap place_of e) ∙ w) g.held }) b.orders;
  few = omega (arith, length_alter n (put Book) d.roll, b.few);
  filled = λ s. omega (arith, total_alter (filled_on s) n (put Book) d.roll, b.filled s);
  struck = omega (arith, total_alter (λ o. o.cancelled) n (put Book) d.roll, b.struck);
}

-- elections
filed_held : (w : Place) (n : ℕ) → is_filed w ≡ true → Held w n → 100 ≤ n
filed_held Book n e h = absurd (false≢true e)
filed_held Line n e h = absurd (false≢true e)
filed_held StopFile n e h = h
filed_held Nowhere n e h = absurd (false≢true e)

good_called : (t : Bool) (o : Order) → (t ≡ true → is_filed o.place ≡ true) → Good o → Good (called t o)
good_called true o e g = record { sum = g.sum; whole = g.whole; most = g.most; held = filed_held o.place o.«open» (e refl) g.held }
good_called false o e g = g

all_called : (p : ℕ) (os : List Order) → AllByRecursion Good os → AllByRecursion Good (map (λ o. called (is_elected p o) o) os)
all_called p [] a = tt
all_called p (o ∷ os) a = (good_called (is_elected p o) o (λ e. (and_parts (is_filed o.place) (as_good o.side p o.price) e).0) a.0, all_called p os a.1)

pub total_called : (g : Order → ℕ) → ((o : Order) → g (put Line o) ≡ g o) → (p : ℕ) (os : List Order) → total g (map (λ o. called (is_elected p o) o) os) ≡ total g os
total_called g k p [] = refl
total_called g k p (o ∷ os) = go (is_elected p o) (total_called g k p os)
  where
    go : (t : Bool) → total g (map (λ o. called (is_elected p o) o) os) ≡ total g os → g (called t o) + total g (map (λ o. called (is_elected p o) o) os) ≡ g o + total g os
    go true ih = omega (arith, k o)
    go false ih = omega arith

elections_weigh_nothing : (g : TapeLine → ℕ) → ((n : ℕ) → g (Elect n) ≡ 0) → (ls : List TapeLine) (ns : List ℕ) → total g (ls ++ map Elect ns) ≡ total g ls
elections_weigh_nothing g k [] [] = refl
elections_weigh_nothing g k [] (n ∷ ns) = omega (arith, k n, elections_weigh_nothing g k [] ns)
elections_weigh_nothing g k (l ∷ ls) ns = ap (λ m. g l + m) (elections_weigh_nothing g k ls ns)

pub elect_books : (p : ℕ) (d : Day) → Books d → Books (elect p d)
unfolding elect
elect_books p d b =
    let ns : List ℕ = map (λ o. o.number) (those (is_elected p) d.roll) in
    record {
      orders = all_called p d.roll b.orders;
      few = omega (arith, length_map (λ o. called (is_elected p o) o) d.roll, b.few);
      filled = λ s. total_called (filled_on s) (λ o. refl) p d.roll ∙ b.filled s ∙ sym (elections_weigh_nothing print_of (λ n. refl) d.tape ns);
      struck = total_called (λ o. o.cancelled) (λ o. refl) p d.roll ∙ b.struck ∙ sym (elections_weigh_nothing cancel_of (λ n. refl) d.tape ns);
    }

only_none : (s : Bool) → only s 0 ≡ 0
only_none true = refl
only_none false = refl

pub admit_books : (o : Order) (w : Place) (d : Day) → Good (put w o) → o.filled ≡ 0 → o.cancelled ≡ 0 → length d.roll < 512 → Books d → Books (admit o w d)
unfolding admit
admit_books o w d g f c l b = record {
  orders = all_push Good d.roll (put w o) b.orders g;
  few = omega (arith, length_push d.roll (put w o));
  filled = λ s. total_push (filled_on s) d.roll (put w o) ∙ omega (arith, b.filled s, ap (λ x. only (same_side o.side s) x) f, only_none (same_side o.side s));
  struck = total_push (λ o. o.cancelled) d.roll (put w o) ∙ omega (arith, b.struck);
}
