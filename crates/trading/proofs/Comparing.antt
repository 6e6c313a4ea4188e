-- What the code learns when it compares two kinds by ==.
use Rattle.std.proofs.Common.{◌≡◌, true, false, sym, refl, ap, ◌∙◌, rules}
use Rattle.std.proofs.lemmas.Bool.{false≢true}
use denote.Enum.Bare.{sameb, same_true}
use Rattle.market.specs.contracts.words.Kind.{the_type}
use Rattle.market.specs.declared.words.Kind.{Kind}
use Rattle.market.specs.declared.words.Kind.TheVariants.{Limit, Market, ImmediateOrCancel, Stop}

same_self : (k : Kind) → sameb the_type k k ≡ true
same_self Limit = refl
same_self Market = refl
same_self ImmediateOrCancel = refl
same_self Stop = refl

pub same_kind : (k v : Kind) → true ≡ sameb the_type k v → k ≡ v
same_kind k v e = same_true the_type (search rules) k v (sym e)

pub other_kind : (k v : Kind) → false ≡ sameb the_type k v → k ≡ v → ⊥
other_kind k v e h = absurd (false≢true (e ∙ ap (λ x. sameb the_type x v) h ∙ same_self v))
