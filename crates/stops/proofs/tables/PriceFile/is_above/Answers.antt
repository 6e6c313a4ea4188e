use Rattle.std.proofs.Common.{◌≡◌, Bool, true, false, ◌&&◌, ltb, sym, ap, ◌∙◌, rules}
use Rattle.std.specs.List.{list_all}
use Rattle.stops.specs.Priced.{buys_of, sells_of}
use Rattle.stops.proofs.Merged.{above_rows}
use Rattle.stops.proofs.tables.PriceFile.is_above.Goals as goal

pub returns-then-is_above_all : goal.returns-then-is_above_all
returns-then-is_above_all c =
    let n = c.args.number in
    let f = c.args.self.now in
    let b : true ≡ list_all (λ r. ltb r.number n) (buys_of f) = search rules in
    let s : c.is_above_all-then-is_above_all.result ≡ list_all (λ r. ltb r.number n) (sells_of f) = search rules in
    s ∙ ap (λ (v : Bool). v && list_all (λ r. ltb r.number n) (sells_of f)) b ∙ sym (above_rows n (buys_of f) (sells_of f))

pub returns-else-is_above_all : goal.returns-else-is_above_all
returns-else-is_above_all c =
    let n = c.args.number in
    let f = c.args.self.now in
    let b : false ≡ list_all (λ r. ltb r.number n) (buys_of f) = search rules in
    c.if-is_above_all.false ∙ ap (λ (v : Bool). v && list_all (λ r. ltb r.number n) (sells_of f)) b ∙ sym (above_rows n (buys_of f) (sells_of f))
