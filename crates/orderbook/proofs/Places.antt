-- What the code learns when it compares two places, or two kinds, by == or !=.
use Rattle.std.proofs.Common.{◌≡◌, true, false, sym, refl, ap, ◌∙◌, rules}
use Rattle.std.proofs.lemmas.Bool.{false≢true}
use denote.Enum.Bare.{sameb, same_true}
use Rattle.market.specs.contracts.words.Place.{the_type}
use Rattle.market.specs.declared.words.Place.{Place}
use Rattle.market.specs.declared.words.Place.TheVariants.{Nowhere, Book, Line, StopFile}

same_self : (w : Place) → sameb the_type w w ≡ true
same_self Nowhere = refl
same_self Book = refl
same_self Line = refl
same_self StopFile = refl

pub same_place : (w v : Place) → true ≡ sameb the_type w v → w ≡ v
same_place w v e = same_true the_type (search rules) w v (sym e)

pub other_place : (w v : Place) → false ≡ sameb the_type w v → w ≡ v → ⊥
other_place w v e h = absurd (false≢true (e ∙ ap (λ x. sameb the_type x v) h ∙ same_self v))
