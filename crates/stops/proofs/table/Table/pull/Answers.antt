use Rattle.std.proofs.Common.{◌≡◌, take, sym, ap, ◌∙◌, rules}
use Rattle.std.specs.Option.{option_map}
use Rattle.std.proofs.lemmas.Option.{slice_get-map}
use Rattle.stops.specs.Tables.{stop_of}
use Rattle.stops.proofs.Shifts.{pulled_row}
use Rattle.stops.proofs.table.Table.pull.Goals as goal

pub returns : goal.returns
returns g c =
    let e = c.take_out.ensures in
    let side = g.S.BookSide.side in
    let old = c.args.self.now in
    let rows = take old.held old.rows in
    let made : c.map.result ≡ option_map (stop_of side) c.take_out.result = search rules in
    let was = made ∙ ap (option_map (stop_of side)) e.value ∙ sym (slice_get-map (stop_of side) rows c.args.at) in
    let row = pulled_row side rows (take c.take_out.new.self.held c.take_out.new.self.rows) c.args.at e.listed in
    record { value = was; left = row.left c.map.result was; fewer = row.fewer }
