use Rattle.std.proofs.Common.{◌≡◌, ◌-◌, ◌<◌, length, get_or, sym, ap, ◌∙◌, subst, arith}
use Rattle.std.proofs.lemmas.Bool.{lt-ltb}
use Rattle.market.specs.declared.words.Place.TheVariants.{Book}
use Rattle.market.specs.declared.side.Resting.{Resting}
use Rattle.market.specs.declared.change.Change.TheVariants.{Rest}
use Rattle.market.specs.Files.{filed}
use Rattle.market.specs.Changes.{blank}
use Rattle.market.specs.Orders.{put}
use Rattle.market.specs.Rolls.{listed}
use Rattle.replay.specs.Rolls.{alter}
use Rattle.orderbook.specs.Sorted.{key_of, precedes, Tied}
use Rattle.orderbook.specs.Tables.{key_in, keys}
use Rattle.orderbook.proofs.Lookup.{does_at_lem, number_at}
use Rattle.orderbook.proofs.Moving.{rest_room, rest_tied, front_ok, same_key}
use Rattle.orderbook.proofs.Reading.{as_long}
use Rattle.orderbook.proofs.tables.rest_on.Goals as goal

pub returns-clause-roll : goal.returns-clause-roll
returns-clause-roll g c = c.change_order.ensures ∙ does_at_lem c.requires.tied.sound Rest c.args.number c.requires.there.0 c.requires.there.1

pub returns-clause-tied : goal.returns-clause-tied
returns-clause-tied g c =
    let s = g.S.BookSide.side in
    let n = c.args.number in
    let os = listed c.args.roll.now in
    let t = c.args.table.now.items in
    let w = c.requires.there in
    let sound = c.requires.tied.sound in
    let room : length t < 512 = omega (arith, rest_room s n sound w c.requires.on c.requires.off, as_long s os t c.requires.tied) in
    let roll : listed c.change_order.new.roll ≡ alter n (put Book) os = c.change_order.ensures ∙ does_at_lem sound Rest n w.0 w.1 in
    let x : Resting g.row.S.Denot = record { price = c.order_numbered-price.result.price; number = n; side = c.default.result } in
    let file : c.insert_in_order.new.file.items ≡ filed (λ a b. precedes s (key_in a) (key_in b)) x t =
    front_ok _ c.insert_in_order.result (c.insert_in_order.ensures.room ∙ lt-ltb (length t) 512 room) c.insert_in_order.ensures.file in
    let key : key_in x ≡ key_of (get_or os (n - 1) blank) = same_key _ _ (ap (λ o. o.price) c.order_numbered-price.ensures) (sym (number_at sound n w.0 w.1)) in
    subst (λ l. Tied s l (keys c.insert_in_order.new.file.items)) (sym roll)
    (subst (λ l. Tied s (alter n (put Book) os) (keys l)) (sym file) (rest_tied s n sound w c.requires.on c.requires.off t x key c.requires.tied))
