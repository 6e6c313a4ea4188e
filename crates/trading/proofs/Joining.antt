-- An order comes in.
use Rattle.std.proofs.Common.{◌≡◌, suc, Bool, true, false, ◌⊎◌, List, [], ◌∷◌, ◌++◌, length, sym, refl, ap, ◌∙◌, inl, inr, arith}
use Rattle.market.specs.declared.words.Kind.{Kind}
use Rattle.market.specs.declared.words.Kind.TheVariants.{Limit, Market, ImmediateOrCancel, Stop}
use Rattle.market.specs.declared.words.Place.{Place}
use Rattle.market.specs.declared.words.Place.TheVariants.{Line}
use Rattle.market.specs.declared.words.Order.{Order}
use Rattle.market.specs.Orders.{cancel, put}
use Rattle.orderbook.specs.declared.ticket.Ticket.{Ticket}
use Rattle.orderbook.specs.Trades.{next}
use Rattle.replay.specs.Lists.{any}
use Rattle.replay.specs.Days.{Day, Rule}
use Rattle.replay.specs.Rolls.{is_filed, alter}
use Rattle.replay.specs.Book.{is_contra}
use Rattle.replay.specs.RollHolds.{Numbered}
use Rattle.replay.specs.Moves.{withdraw, admit}
use Rattle.replay.specs.Runs.{work, start_place, join_of, join}
use Rattle.replay.specs.StopFile.{file_of}
use Rattle.replay.proofs.FileOfRoll.{file_alter}
use Rattle.trading.specs.Shows.{filed_of}
use Rattle.trading.proofs.Admitting.{next_number, next_kind, look_last}

-- where the next order goes
abbrev pub start_of : Ticket → List Order → Place
start_of t os = start_place t.kind (any (is_contra (next t os)) os)

-- in a pause, to be executed at once or not at all
pub join_away : (gifts : Rule) (t : Ticket) (d : Day) → d.paused ≡ true → t.kind ≡ ImmediateOrCancel
    → withdraw (next t d.roll).number (admit (next t d.roll) Line d) ≡ join gifts (next t d.roll) d
unfolding join
join_away gifts t d p e =
    let o : Order = next t d.roll in
    let w : Place = start_place o.kind (any (is_contra o) d.roll) in
    sym (ap (λ b. join_of gifts b o.kind o w d) p ∙ ap (λ k. join_of gifts true k o w d) (next_kind t d.roll ∙ e))

works : (gifts : Rule) (b : Bool) (k : Kind) (o : Order) (w : Place) (d : Day) → (b ≡ false) ⊎ (k ≡ ImmediateOrCancel → ⊥) → work gifts (admit o w d) ≡ join_of gifts b k o w d
works gifts b k o w d (inl e) = ap (λ x. join_of gifts x k o w d) (sym e)
works gifts false k o w d (inr ne) = refl
works gifts true Limit o w d (inr ne) = refl
works gifts true Market o w d (inr ne) = refl
works gifts true ImmediateOrCancel o w d (inr ne) = absurd (ne refl)
works gifts true Stop o w d (inr ne) = refl

pub join_works : (gifts : Rule) (t : Ticket) (d : Day) → (d.paused ≡ false) ⊎ (t.kind ≡ ImmediateOrCancel → ⊥) → work gifts (admit (next t d.roll) (start_of t d.roll) d) ≡ join gifts (next t d.roll) d
unfolding join
join_works gifts t d h =
    let o : Order = next t d.roll in
    ap (λ k. work gifts (admit o (start_place k (any (is_contra o) d.roll)) d)) (sym (next_kind t d.roll))
    ∙ works gifts d.paused o.kind o (start_place o.kind (any (is_contra o) d.roll)) d (same h)
  where
    same : (d.paused ≡ false) ⊎ (t.kind ≡ ImmediateOrCancel → ⊥) → (d.paused ≡ false) ⊎ ((next t d.roll).kind ≡ ImmediateOrCancel → ⊥)
    same (inl e) = inl e
    same (inr ne) = inr (λ e. ne (sym (next_kind t d.roll) ∙ e))

-- it was in line and not in the stop file, so that the file stays
last_cancelled : (os : List Order) (o : Order) → Numbered 1 os → o.number ≡ suc (length os) → is_filed o.place ≡ false → file_of (alter o.number cancel (os ++ o ∷ [])) ≡ file_of (os ++ o ∷ [])
last_cancelled os o num n off = file_alter o.number cancel (os ++ o ∷ []) (λ u e. (ap filed_of (sym e ∙ look_last 1 os o num (omega arith)) ∙ off, refl))

pub away_file : (t : Ticket) (d : Day) → Numbered 1 d.roll → t.kind ≡ ImmediateOrCancel
    → file_of (admit (next t d.roll) (start_of t d.roll) d).roll ≡ file_of (withdraw (next t d.roll).number (admit (next t d.roll) Line d)).roll
unfolding withdraw admit
away_file t d num e =
    let o : Order = next t d.roll in
    ap (λ k. file_of (d.roll ++ put (start_place k (any (is_contra o) d.roll)) o ∷ [])) e
    ∙ sym (last_cancelled d.roll (put Line o) num (next_number t d.roll) refl)
