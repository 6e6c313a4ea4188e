use Rattle.std.proofs.Common.{◌≡◌, is_some, None, sym, ap, ◌∙◌}
use Rattle.std.proofs.lemmas.Bool.{false≢true}
use Rattle.market.specs.Orders.{rests_on}
use Rattle.orderbook.specs.Books.{roll_of}
use Rattle.replay.specs.Rolls.{left}
use Rattle.replay.specs.Book.{best, prices}
use Rattle.trading.proofs.Prices.{clean_none, clean_is, next_none, next_some}
use Rattle.trading.proofs.board.Board.second_price.Goals as goal

pub returns-in_default : goal.returns-in_default
returns-in_default c = λ f ls d s.
    let b = c.args.self.now in
    let r = c.args.order.now in
    next_none c.args.first r d
    (sym (clean_is r d s.range s.roll) ∙ clean_none r b.range (roll_of b.book) (c.in_default.ensures.price ∙ ap (λ x. best x (prices (rests_on x) (roll_of b.book))) c.opposite.ensures))

pub returns : goal.returns
returns c = λ f ls d s.
    let r = c.args.order.now in
    let some : c.args.first ≡ None → ⊥ = λ e. false≢true (sym (ap is_some e) ∙ ap is_some c.in_ok-first.was) in
    c.clean_up_price.ensures ∙ clean_is r d s.range s.roll
    ∙ next_some c.args.first r d c.left.result some (c.left.ensures ∙ ap (left r.number) s.roll) c.if-left-eq0.false
