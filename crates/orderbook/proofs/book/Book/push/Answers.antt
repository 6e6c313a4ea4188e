use Rattle.std.proofs.Common.{cond, [], ◌∷◌, ◌++◌, length, ap, ◌∙◌}
use Rattle.std.proofs.lemmas.Bool.{lt-ltb}
use Rattle.market.specs.declared.words.Order.{Order}
use Rattle.orderbook.specs.Books.{roll_of}
use Rattle.orderbook.specs.Trades.{next}
use Rattle.orderbook.proofs.Upkeep.{kept}
use Rattle.orderbook.proofs.Moving.{kept_push, fresh_number, fresh_sums, fresh_off}
use Rattle.orderbook.proofs.book.Book.push.Goals as goal

pub invariant_of-self : goal.invariant_of-self
invariant_of-self c =
    let b = c.args.self.now in
    let t = c.args.ticket in
    let roll = c.push.ensures.roll ∙ ap (λ x. cond x (roll_of b ++ c.next_order-order.result ∷ []) (roll_of b)) (lt-ltb (length (roll_of b)) 512 c.requires.room) ∙ ap (λ o. roll_of b ++ o ∷ []) c.next_order-order.ensures in
    record { kept = ∣ kept_push (next t (roll_of b)) (kept b.kept) (fresh_number t (roll_of b)) (fresh_sums t (roll_of b) c.requires.shares) (fresh_off t (roll_of b)) c.requires.room roll ∣₁ }

pub returns-clause-roll : goal.returns-clause-roll
returns-clause-roll c =
    let b = c.args.self.now in
    c.push.ensures.roll ∙ ap (λ x. cond x (roll_of b ++ c.next_order-order.result ∷ []) (roll_of b)) (lt-ltb (length (roll_of b)) 512 c.requires.room) ∙ ap (λ o. roll_of b ++ o ∷ []) c.next_order-order.ensures

pub returns-clause-number : goal.returns-clause-number
returns-clause-number c = ap (λ (o : Order). o.number) c.next_order-order.ensures ∙ fresh_number c.args.ticket (roll_of c.args.self.now)
