-- Prices are in strict order on either side.
use Rattle.std.specs.Prelude.{◌≡◌, ℕ, ◌<◌, ◌≤◌, not, nat_le, nat_lt, refl}
use Rattle.std.proofs.Common.{sym, ap, ◌∙◌, ⊎_elim, arith}
use Rattle.std.proofs.lemmas.Bool.{ltb-false, le-ltb, lt-ltb, le-leb, lt-leb, cases_lt}
use Rattle.market.specs.declared.words.Side.{Side}
use Rattle.market.specs.declared.words.Side.TheVariants.{Buy, Sell}
use Rattle.market.specs.Sides.{PriceOrder, better, precedence}
use Rattle.market.specs.Files.{Strict}
use Rattle.market.specs.Precedence.{lower_asymmetric, lower_transitive, by_turns_strict}

no_higher : (p q : ℕ) → nat_le p q ≡ not (nat_lt q p)
no_higher p q =
    ⊎_elim
    (λ (h : q < p). lt-leb p q h ∙ sym (ap not (lt-ltb q p h)))
    (λ (h : p ≤ q). le-leb p q h ∙ sym (ap not (le-ltb q p h)))
    (cases_lt q p)

pub price_order : (s : Side) → PriceOrder s
price_order Buy =
    record {
      irreflexive = λ p. le-ltb p p (omega arith);
      asymmetric = λ p q. lower_asymmetric q p;
      transitive = λ p q r e f. lower_transitive r q p f e;
      total = λ p q e f. omega (arith, ltb-false q p e, ltb-false p q f);
      as_good_not_better = λ p q. no_higher q p;
      reversed = λ p q. refl;
    }
price_order Sell =
    record {
      irreflexive = λ p. le-ltb p p (omega arith);
      asymmetric = lower_asymmetric;
      transitive = lower_transitive;
      total = λ p q e f. omega (arith, ltb-false p q e, ltb-false q p f);
      as_good_not_better = no_higher;
      reversed = λ p q. refl;
    }

-- resting orders of a side are in strict order, by price and number
pub resting_strict : {X : Type 0} (s : Side) (price number : X → ℕ) → Strict (λ x y. precedence s (price x) (number x) (price y) (number y))
resting_strict s price number = by_turns_strict (better s) (price_order s).asymmetric (price_order s).transitive price number
