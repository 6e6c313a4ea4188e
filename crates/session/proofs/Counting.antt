-- How many orders a day has: one more behind each call that brings one in.
use Rattle.std.proofs.Common.{◌≡◌, ℕ, suc, ◌+◌, Bool, true, false, cond, not, leb, [], ◌∷◌, length, None, sym, refl, ◌∙◌, arith}
use Rattle.market.specs.declared.words.Side.{Side}
use Rattle.market.specs.declared.words.Kind.{Kind}
use Rattle.market.specs.declared.words.Kind.TheVariants.{Limit, Market, ImmediateOrCancel, Stop}
use Rattle.market.specs.declared.words.Place.{Place}
use Rattle.market.specs.declared.words.Place.TheVariants.{Book, Line, StopFile}
use Rattle.market.specs.declared.words.Order.{Order}
use Rattle.market.specs.declared.words.TapeLine.TheVariants.{Floor}
use Rattle.market.specs.Bounds.{is_shares}
use Rattle.market.specs.Sides.{opposite}
use Rattle.market.specs.Orders.{fill, cancel, put}
use Rattle.sharing.specs.Shares.{LawfulRule}
use Rattle.text.specs.declared.printed.Printed.TheVariants.{Accepted}
use Rattle.replay.specs.Lists.{only, any}
use Rattle.replay.specs.Days.{Day, Rule, Call, Set, LoadLimit, LoadStop, Open, Enter, CancelOrder, FloorTrade, Resume, Close}
use Rattle.replay.specs.Rolls.{fresh}
use Rattle.replay.specs.Book.{is_contra}
use Rattle.replay.specs.Moves.{size, trade, leave, withdraw, rest, pause, elect, called, is_elected, centre, admit, set_up, to, floored, resumed}
use Rattle.replay.specs.Runs.{work, start_place, join_of, join}
use Rattle.replay.specs.Calls.{refusal, checks, became, answered}
use Rattle.replay.specs.SharesAddUp.{print_of, cancel_of}
use Rattle.replay.proofs.Lists.{total_push, length_push, length_map}
use Rattle.replay.proofs.Rolls.{Held, length_deal, length_alter}
use Rattle.replay.proofs.Runs.{Sound, elect_sound}
use Rattle.replay.proofs.Calls.{passed_enter, good_shares, start_held, admit_fresh, same_sound}
use Rattle.replay.proofs.Keeps.{Moves, run_keeps, works}
use Rattle.session.specs.Transcripts.{spoken}

-- whether a call brings in an order
abbrev pub brings_order : Call → Bool
brings_order (Set k c p) = false
brings_order (LoadLimit s m p q) = true
brings_order (LoadStop s m p q) = true
brings_order Open = false
brings_order (Enter k s m p q f) = true
brings_order (CancelOrder m n f) = false
brings_order (FloorTrade p q f) = false
brings_order (Resume f) = false
brings_order Close = false

-- what is said first of a performed call
pub said_first : (n : ℕ) (d : Day) (c : Call) (e : Day) → spoken n (answered d c e) ≡ cond (brings_order c) (Accepted (suc (length d.roll)) ∷ []) []
unfolding answered
said_first n d (Set k c p) e = refl
said_first n d (LoadLimit s m p q) e = refl
said_first n d (LoadStop s m p q) e = refl
said_first n d Open e = refl
said_first n d (Enter k s m p q f) e = refl
said_first n d (CancelOrder m k f) e = refl
said_first n d (FloorTrade p q f) e = refl
said_first n d (Resume f) e = refl
said_first n d Close e = refl

module _ (gifts : Rule) (lawful : LawfulRule gifts) where
  moves_count : (k : ℕ) → Moves gifts lawful (λ d. length d.roll ≡ k)
  unfolding trade leave withdraw rest pause elect centre
  moves_count k = record {
    trade = λ r p d m h i. length_alter r.number (fill (size r.number (opposite r.side) p d.roll)) _ ∙ length_deal (opposite r.side) p d.roll _ ∙ i;
    leave = λ r d m e i. i;
    withdraw = λ n d c i. length_alter n cancel d.roll ∙ i;
    rest = λ r d m w e c i. length_alter r.number (put Book) d.roll ∙ i;
    pause = λ d i. i;
    elect = λ p d s i. length_map (λ o. called (is_elected p o) o) d.roll ∙ i;
    centre = λ d i. i;
  }

  work_count : (d : Day) → Sound d → length (work gifts d).roll ≡ length d.roll
  work_count d s = works gifts lawful (λ e. length e.roll ≡ length d.roll) (run_keeps gifts lawful (λ e. length e.roll ≡ length d.roll) (moves_count (length d.roll))) d s refl

  admit_count : (o : Order) (w : Place) (d : Day) → length (admit o w d).roll ≡ suc (length d.roll)
  unfolding admit
  admit_count o w d = length_push d.roll (put w o)

  withdraw_count : (n : ℕ) (d : Day) → length (withdraw n d).roll ≡ length d.roll
  unfolding withdraw
  withdraw_count n d = length_alter n cancel d.roll

  elect_count : (p : ℕ) (d : Day) → length (elect p d).roll ≡ length d.roll
  unfolding elect
  elect_count p d = length_map (λ o. called (is_elected p o) o) d.roll

  join_count : (k : Kind) (s : Side) (m p q : ℕ) (d : Day) → not (is_shares q) ≡ false → leb 512 (length d.roll) ≡ false → Sound d → length (join gifts (fresh k s m p q d.roll) d).roll ≡ suc (length d.roll)
  unfolding join fresh
  join_count k s m p q d e l sd = go d.paused k (any (is_contra (fresh k s m p q d.roll)) d.roll)
    where
      off : (k : Kind) (w : Place) → Held w q → length (work gifts (admit (fresh k s m p q d.roll) w d)).roll ≡ suc (length d.roll)
      off k w h = work_count _ (admit_fresh k s m p q w d h e l sd) ∙ admit_count (fresh k s m p q d.roll) w d

      go : (b : Bool) (k : Kind) (c : Bool) → length (join_of gifts b k (fresh k s m p q d.roll) (start_place k c) d).roll ≡ suc (length d.roll)
      go true ImmediateOrCancel c = withdraw_count (suc (length d.roll)) _ ∙ admit_count (fresh ImmediateOrCancel s m p q d.roll) Line d
      go true Limit c = off Limit (start_place Limit c) (start_held Limit c q (good_shares q e).1)
      go true Market c = off Market Line (good_shares q e).1
      go true Stop c = off Stop StopFile (good_shares q e).1
      go false k c = off k (start_place k c) (start_held k c q (good_shares q e).1)

  -- the orders after a performed call
  pub became_count : (room : ℕ) (d : Day) (c : Call) → refusal (checks room d c) ≡ None → Sound d → length (became gifts d c).roll ≡ length d.roll + only (brings_order c) 1
  unfolding became set_up to floored resumed centre
  became_count room d (Set k c p) e s = omega arith
  became_count room d (LoadLimit sd m p q) e s = admit_count (fresh Limit sd m p q d.roll) Book d ∙ omega arith
  became_count room d (LoadStop sd m p q) e s = admit_count (fresh Stop sd m p q d.roll) StopFile d ∙ omega arith
  became_count room d Open e s = omega arith
  became_count room d (Enter k sd m p q f) e s =
      let h : (not (is_shares q) ≡ false) × (leb 512 (length d.roll) ≡ false) = passed_enter room d k sd m p q f e in
      join_count k sd m p q d h.0 h.1 s ∙ omega arith
  became_count room d (CancelOrder m n f) e s = withdraw_count n d ∙ omega arith
  became_count room d (FloorTrade p q f) e s =
      work_count _ (elect_sound p (floored p q d) (same_sound d _ refl refl (sym (total_push print_of d.tape (Floor p q) ∙ omega arith)) (sym (total_push cancel_of d.tape (Floor p q) ∙ omega arith)) s))
      ∙ elect_count p (floored p q d) ∙ omega arith
  became_count room d (Resume f) e s = work_count _ (same_sound d (resumed d) refl refl refl refl s) ∙ omega arith
  became_count room d Close e s = omega arith
