-- The prices of a run, and both of its prints.
use Rattle.std.proofs.Common.{◌≡◌, ℕ, zero, suc, Bool, true, false, leb, List, [], ◌∷◌, map, Some, None, Option, sym, refl, ap, ◌∙◌, subst, arith}
use Rattle.std.proofs.lemmas.Bool.{false≢true, and_parts}
use Rattle.market.specs.declared.words.Side.{Side}
use Rattle.market.specs.declared.words.Order.{Order}
use Rattle.market.specs.declared.words.Range.{Range}
use Rattle.market.specs.Sides.{opposite}
use Rattle.market.specs.Orders.{rests_on, in_limit}
use Rattle.market.specs.Ranges.{in_range}
use Rattle.market.specs.declared.words.TapeLine.{TapeLine}
use Rattle.orderbook.specs.Trades.{first_in, clean_in}
use Rattle.replay.specs.Lists.{those, kept}
use Rattle.replay.specs.Days.{Day, Phase, Rule}
use Rattle.replay.specs.Rolls.{left}
use Rattle.replay.specs.Book.{depth, prices, best, is_contra, is_reached}
use Rattle.replay.specs.Runs.{or, first_price, clean_up, if_left, next_price, print_at}
use Rattle.replay.proofs.Prices.{best_none}
use Rattle.trading.specs.declared.board.Board.{Board}
use Rattle.trading.specs.Shows.{Shows, Printed, second_price}

-- the second price: there is none where nobody is there -----------------------------------------------------------------
none_pass : (t t' : Order → Bool) → ((o : Order) → t' o ≡ true → t o ≡ true) → (os : List Order) → prices t os ≡ [] → prices t' os ≡ []
unfolding prices
none_pass t t' h [] e = refl
none_pass t t' h (o ∷ os) e = go (t o) (t' o) (h o) e (none_pass t t' h os)
  where
    go : (a b : Bool) → (b ≡ true → a ≡ true) → map (λ o. o.price) (kept a o (those t os)) ≡ []
        → (map (λ o. o.price) (those t os) ≡ [] → map (λ o. o.price) (those t' os) ≡ []) → map (λ o. o.price) (kept b o (those t' os)) ≡ []
    go true b h e ih = absurd (let z : ◌≡◌ {A = ℕ} 0 1 = cc in omega arith)
    go false true h e ih = absurd (false≢true (h refl))
    go false false h e ih = ih e

pub clean_none : (r : Order) (g : Option Range) (os : List Order) → None ≡ best (opposite r.side) (prices (rests_on (opposite r.side)) os) → clean_in r g os ≡ None
clean_none r g os e =
    let c : Side = opposite r.side in
    let none : prices (is_reached r g) os ≡ [] =
    none_pass (rests_on c) (is_reached r g) (λ o h. (and_parts (rests_on c o) (in_limit r o.price) (and_parts (is_contra r o) (in_range g o.price) h).0).0) os (best_none c _ (sym e)) in
    ap (λ ps. or (best c (those (λ p. leb (left r.number os) (depth c p os)) ps)) (best (opposite c) ps)) none

pub clean_is : (r : Order) {g : Option Range} {os : List Order} (d : Day) → g ≡ d.range → os ≡ d.roll → clean_in r g os ≡ clean_up r d
unfolding clean_up
clean_is r {g} {os} d e h = ap (λ x. clean_in r x os) e ∙ ap (clean_in r d.range) h

pub next_none : (first : Option ℕ) (r : Order) (d : Day) → clean_up r d ≡ None → None ≡ next_price first r d
next_none None r d e = refl
next_none (Some p) r d e = go (left r.number d.roll) ∙ ap (if_left (left r.number d.roll)) (sym e)
  where
    go : (m : ℕ) → None ≡ if_left m None
    go zero = refl
    go (suc m) = refl

pub next_some : (first : Option ℕ) (r : Order) (d : Day) (q : ℕ) → (first ≡ None → ⊥) → q ≡ left r.number d.roll → (q ≡ 0 → ⊥) → clean_up r d ≡ next_price first r d
next_some None r d q some e ne = absurd (some refl)
next_some (Some p) r d q some e ne = go q ne ∙ ap (λ m. if_left m (clean_up r d)) e
  where
    go : (m : ℕ) → (m ≡ 0 → ⊥) → clean_up r d ≡ if_left m (clean_up r d)
    go zero ne = absurd (ne refl)
    go (suc m) ne = refl

-- both prints ------------------------------------------------------------------------------------------------------------
pub first_is_lem : (r : Order) {g : Option Range} {os : List Order} (d : Day) → g ≡ d.range → os ≡ d.roll → first_in r g os ≡ first_price r d
unfolding first_price
first_is_lem r {g} {os} d e h = ap (λ x. first_in r x os) e ∙ ap (first_in r d.range) h

pub printed_is : (gifts : Rule) (r : Order) {f : Phase} {p p' : Option ℕ} {b' : Board} {ls' : List TapeLine} {d : Day} → p ≡ first_price r d → p' ≡ next_price p r (print_at gifts r p d)
    → Shows f b' ls' (print_at gifts r p' (print_at gifts r p d)) → Printed gifts r f p p' b' ls' d
printed_is gifts r {f} {p} {p'} {b'} {ls'} {d} e e' s =
    let second : p' ≡ second_price gifts r d = e' ∙ ap (λ x. next_price x r (print_at gifts r x d)) e in
    record {
      first = e;
      second = second;
      shows = subst (λ x. Shows f b' ls' (print_at gifts r x (print_at gifts r (first_price r d) d))) second (subst (λ x. Shows f b' ls' (print_at gifts r p' (print_at gifts r x d))) e s);
    }
