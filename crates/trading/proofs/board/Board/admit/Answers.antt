use Rattle.std.proofs.Common.{◌≡◌, suc, [], ◌∷◌, ◌++◌, length, sym, ap, ◌∙◌}
use Rattle.market.specs.declared.words.Place.TheVariants.{Line}
use Rattle.market.specs.Orders.{put}
use Rattle.orderbook.specs.Trades.{next}
use Rattle.replay.specs.Moves.{admit}
use Rattle.orderbook.proofs.Places.{same_place}
use Rattle.trading.specs.Boards.{orders_of}
use Rattle.trading.specs.Ruling.{is_loose}
use Rattle.trading.proofs.Ruled.{ruled}
use Rattle.trading.proofs.Admitting.{next_number, admitted, numbered, room_more, ruled_push, ruled_last, line_more}
use Rattle.trading.proofs.board.Board.admit.Goals as goal

pub join-requires : goal.join-requires
join-requires c = room_more c.requires.room (ruled c.args.self.now.ruled)

pub invariant_of-self : goal.invariant_of-self
invariant_of-self c =
    let t = c.args.ticket in
    let os = orders_of c.args.self.now in
    let o = put c.args.place (next t os) in record {
      ruled = ∣ ruled_last o (admitted t os (os ++ o ∷ []) os c.requires.room c.requires.shares c.admit.ensures.roll) (next_number t os) c.requires.room (ap is_loose (same_place c.args.place Line c.if-eq.ensures))
          (numbered t os c.requires.room c.requires.shares c.admit.ensures.number c.unwrap-number.ensures) c.join.ensures.line c.join.ensures.joined (ruled c.args.self.now.ruled) ∣₁;
    }

pub invariant_of-self-else-eq : goal.invariant_of-self-else-eq
invariant_of-self-else-eq c =
    let t = c.args.ticket in
    let os = orders_of c.args.self.now in
    let o = put c.args.place (next t os) in
    record { ruled = ∣ ruled_push o (admitted t os (os ++ o ∷ []) os c.requires.room c.requires.shares c.admit.ensures.roll) (next_number t os) c.requires.room (ruled c.args.self.now.ruled) ∣₁ }

pub returns-then-eq-clause-day : goal.returns-then-eq-clause-day
unfolding admit
returns-then-eq-clause-day c =
    let t = c.args.ticket in
    let w = c.args.place in
    let os = orders_of c.args.self.now in
    let number : c.unwrap-number.result ≡ suc (length os) = numbered t os c.requires.room c.requires.shares c.admit.ensures.number c.unwrap-number.ensures in
    λ ls f d s. record {
      roll = admitted t os (os ++ put w (next t os) ∷ []) os c.requires.room c.requires.shares c.admit.ensures.roll ∙ ap (λ us. us ++ put w (next t us) ∷ []) s.roll;
      line = line_more w c.join.ensures.line (same_place c.args.place Line c.if-eq.ensures) (number ∙ ap (λ us. suc (length us)) s.roll ∙ sym (next_number t d.roll)) s.line;
      paused = s.paused;
      range = s.range;
      last = s.last;
      class = s.class;
      column = s.column;
      phase = s.phase;
      tape = s.tape;
    }
