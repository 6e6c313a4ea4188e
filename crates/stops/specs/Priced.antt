-- What the price file holds.
use Rattle.std.specs.Prelude.{◌≡◌, suc, ◌+◌, ◌≤◌, List, [], ◌∷◌, map, length, take, refl}
use Rattle.std.proofs.Common.{ap, ◌∙◌, arith, length-append}
use Rattle.std.proofs.lemmas.List.{length-map}
use Rattle.market.specs.Files.{filed}
use Rattle.market.proofs.Filing.{length_filed as filed_longer}
use Rattle.market.specs.declared.words.Stop.{Stop}
use Rattle.market.specs.declared.words.Side.TheVariants.{Buy, Sell}
use Rattle.market.specs.declared.side.Bids.{Bids}
use Rattle.market.specs.declared.side.Offers.{Offers}
use Rattle.stops.specs.declared.rows.PricedStop.{PricedStop}
use Rattle.stops.specs.declared.tables.PriceFile.{PriceFile}
use Rattle.stops.specs.Tables.{stop_of, both, lower_number, by_number}

abbrev pub buys_of : PriceFile → List (PricedStop Bids)
buys_of f = take f.buys.held f.buys.rows

abbrev pub sells_of : PriceFile → List (PricedStop Offers)
sells_of f = take f.sells.held f.sells.rows

abbrev pub held_by : PriceFile → List Stop
held_by f = both (buys_of f) (sells_of f)

-- as many stops as rows in use
pub length_filed : (s : Stop) (ss : List Stop) → length (filed lower_number s ss) ≡ suc (length ss)
length_filed s ss = omega (arith, filed_longer lower_number s ss)

pub length_by_number : (ss : List Stop) → length (by_number ss) ≡ length ss
length_by_number [] = refl
length_by_number (s ∷ ss) = length_filed s (by_number ss) ∙ ap suc (length_by_number ss)

pub length_held : (f : PriceFile) → length (by_number (held_by f)) ≡ length (buys_of f) + length (sells_of f)
length_held f =
    length_by_number (held_by f) ∙ length-append (map (stop_of Buy) (buys_of f)) (map (stop_of Sell) (sells_of f))
    ∙ omega (arith, length-map (buys_of f) (stop_of Buy), length-map (sells_of f) (stop_of Sell))

pub held_fits : (f : PriceFile) → length (by_number (held_by f)) ≤ 512
held_fits f = omega (arith, length_held f, f.within)
