-- Who gives to a run rested on the other side of the book when it began.
use Rattle.std.proofs.Common.{◌≡◌, ℕ, zero, suc, ◌-◌, Bool, true, false, List, [], ◌∷◌, ◌++◌, Some, None, Option, sym, refl, ap, ◌∙◌, subst, inl, inr}
use Rattle.std.specs.List.{AllByRecursion}
use Rattle.market.specs.declared.words.Side.{Side}
use Rattle.market.specs.declared.words.Kind.{Kind}
use Rattle.market.specs.declared.words.Kind.TheVariants.{Limit, Market, ImmediateOrCancel, Stop}
use Rattle.market.specs.declared.words.Order.{Order}
use Rattle.market.specs.declared.words.Range.{Range}
use Rattle.market.specs.Sides.{opposite}
use Rattle.market.specs.Orders.{rests_on, fill}
use Rattle.sharing.specs.Shares.{LawfulRule}
use Rattle.replay.specs.Lists.{any, beyond}
use Rattle.replay.specs.Days.{Fill, Day, Rule, new_day}
use Rattle.replay.specs.Rolls.{look, left}
use Rattle.replay.specs.Book.{is_at, is_better, row, ahead, is_contra}
use Rattle.replay.specs.Moves.{deal, part, after, filled_by, taken, size, trade, leave, withdraw, rest, pause, elect, centre}
use Rattle.replay.specs.Runs.{first_price, next_price, print_at, residual, settle_of, settle, elect_at, centre_if, run, turns}
use Rattle.replay.specs.Calls.{after_calls}
use Rattle.replay.specs.Givers.{FromBook, BookGives}
use Rattle.replay.specs.Starts.{start_of}
use Rattle.replay.proofs.Lists.{append_append, append_none, beyond_append, all_append}
use Rattle.replay.proofs.Runs.{turns_sound, rests_on_fill, Mid, Prints, fill_number}
use Rattle.replay.proofs.Idle.{counted_look}
use Rattle.replay.proofs.Fills.{all_filled_by}
use Rattle.replay.proofs.Matches.{gives}
use Rattle.replay.proofs.Starts.{Comes, start_sound, first_turn, sound_after}
use Rattle.replay.proofs.Backs.{Back, back_trans, back_alter, back_deal}
use Rattle.replay.proofs.RunPauses.{printed}

-- settling, elections and the range fill nobody -----------------------------------------------------------------------------------------------------
residual_fills : (n : ℕ) (b : Bool) (k : Kind) (d : Day) → (residual n b k d).fills ≡ d.fills
unfolding pause rest withdraw
residual_fills n true Limit d = refl
residual_fills n true Market d = refl
residual_fills n true Stop d = refl
residual_fills n true ImmediateOrCancel d = refl
residual_fills n false Limit d = refl
residual_fills n false Market d = refl
residual_fills n false Stop d = refl
residual_fills n false ImmediateOrCancel d = refl

settle_fills : (r : Order) (d : Day) → (settle r d).fills ≡ d.fills
unfolding settle leave
settle_fills r d = go (left r.number d.roll)
  where
    go : (l : ℕ) → (settle_of l r.number (any (is_contra r) d.roll) r.kind d).fills ≡ d.fills
    go zero = refl
    go (suc l) = residual_fills r.number (any (is_contra r) d.roll) r.kind d

elect_fills : (x : Option ℕ) (d : Day) → (elect_at x d).fills ≡ d.fills
unfolding elect
elect_fills None d = refl
elect_fills (Some p) d = refl

centre_fills : (g : Option Range) (x : Option ℕ) (d : Day) → (centre_if g x d).fills ≡ d.fills
unfolding centre
centre_fills None None d = refl
centre_fills None (Some p) d = refl
centre_fills (Some g) x d = refl

module _ (gifts : Rule) (lawful : LawfulRule gifts) (r : Order) (d : Day) where
  abbrev c : Side
  c = opposite r.side

  -- in the run of r since d: fills from the book, and nobody has come to rest on the other side
  abbrev Trading : Day → Type 0
  Trading e = ((fs : List Fill) × (e.fills ≡ d.fills ++ fs) × AllByRecursion (FromBook r d) fs) × Back (rests_on c) d.roll e.roll

  from_book : (e : Day) → Back (rests_on c) d.roll e.roll → (p : ℕ) (g : Option Range) (os : List Order) (gs : List ℕ) → AllByRecursion (λ o. look o.number e.roll ≡ Some o) os
      → AllByRecursion (FromBook r d) (taken c p g os gs)
  unfolding taken
  from_book e b p g [] gs a = tt
  from_book e b p g (o ∷ os) gs a =
      all_filled_by (FromBook r d) (part (is_better c p o) (is_at c p o) o.«open» gs) o.number p g _ (λ h. inr (b o.number o a.0 (gives c p o gs h))) (from_book e b p g os (after (is_at c p o) gs) a.1)

  trade_trading : (p : ℕ) (e : Day) → Mid r e → Prints r p e → Trading e → Trading (trade gifts r.number c p e)
  unfolding trade
  trade_trading p e m k h =
      let q : ℕ = size r.number c p e.roll in
      let gs : List ℕ = gifts (row c p e.roll) (q - ahead c p e.roll) in
      let new : List Order = deal c p e.roll gs in
      let ms : List Fill = filled_by q r.number p e.range (taken c p e.range e.roll gs) in (
        (
          h.0.0 ++ ms,
          ap (λ fs. fs ++ ms) h.0.1 ∙ append_append d.fills h.0.0 ms,
          all_append (FromBook r d) h.0.0 ms h.0.2 (all_filled_by (FromBook r d) q r.number p e.range (taken c p e.range e.roll gs) (λ _. inl refl) (from_book e h.1 p e.range e.roll gs (counted_look 1 e.roll m.counted))),
        ),
        back_trans (rests_on c) d.roll e.roll _ h.1
            (back_trans (rests_on c) e.roll new _ (back_deal (rests_on c) (rests_on_fill gifts lawful c) c p e.roll gs) (back_alter (rests_on c) r.number (fill q) new (λ o. fill_number q o) (λ o. rests_on_fill gifts lawful c q o))),
      )

  pub run_gives : Comes r d → AllByRecursion (FromBook r d) (beyond d.fills (run gifts r d).fills)
  unfolding run
  run_gives k =
      let a : Option ℕ = first_price r d in
      let d₁ : Day = print_at gifts r a d in
      let b : Option ℕ = next_price a r d₁ in
      let d₂ : Day = print_at gifts r b d₁ in
      let h : Mid r d₂ × Trading d₂ = printed gifts lawful r Trading trade_trading d k.mid k.some (([], sym (append_none d.fills), tt), (λ n o i e. (o, i, e))) in
      let e : (run gifts r d).fills ≡ d.fills ++ h.1.0.0
      = centre_fills d.range a _ ∙ elect_fills b _ ∙ elect_fills a (settle r d₂) ∙ settle_fills r d₂ ∙ h.1.0.1 in
      subst (λ fs. AllByRecursion (FromBook r d) fs) (sym (ap (beyond d.fills) e ∙ beyond_append d.fills h.1.0.0)) h.1.0.2

pub book_gives : BookGives
book_gives gifts lawful room cs c e k =
    let d : Day = after_calls gifts room new_day cs in
    first_turn gifts lawful (λ r d e. AllByRecursion (FromBook r d) (beyond d.fills e.fills)) (λ r d k. run_gives gifts lawful r d k) (turns gifts k (start_of d c))
    (turns_sound gifts lawful k (start_of d c) (start_sound gifts lawful room d c e (sound_after gifts lawful room cs)))
