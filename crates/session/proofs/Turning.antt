-- A call that was put to a day, as a line's turn has it.
use Rattle.std.proofs.Common.{◌≡◌, ℕ, ◌≤◌, List, length, take, drop, Result, Ok, Err, refl, sym, ap, ◌∙◌, subst, arith}
use Rattle.std.proofs.lemmas.List.{length-append}
use Rattle.std.proofs.Math.Seq.{take-append_seam}
use Rattle.market.specs.declared.words.Stop.{Stop}
use Rattle.market.specs.declared.words.TapeLine.{TapeLine}
use Rattle.market.specs.declared.refusal.Refusal.{Refusal}
use Rattle.market.specs.declared.refusal.Refusal.TheVariants.{Class, Column, LastSale, Price, Shares, RollFull, TapeShort, LocksBook, StopFileFull, Member, NoSuchOrder, OtherMember, NothingOpen, OutsideQuote, NotPaused}
use Rattle.replay.specs.Days.{Day, Closed, Rule}
use Rattle.replay.specs.Calls.{step}
use Rattle.replay.specs.History.{bare}
use Rattle.replay.specs.Questions.{totals}
use Rattle.trading.specs.Boards.{day_of}
use Rattle.trading.specs.Deeds.{Did}
use Rattle.playback.specs.declared.call.Call.{Call}
use Rattle.playback.specs.declared.reached.ReachedDay.{ReachedDay}
use Rattle.playback.specs.declared.reply.Reply.{Reply}
use Rattle.playback.specs.declared.reply.Reply.TheVariants.{Done, Number, Lines, Entered}
use Rattle.playback.specs.declared.reply.CallRefusal.{CallRefusal}
use Rattle.playback.specs.declared.reply.CallRefusal.TheVariants as refusals
use Rattle.playback.specs.Replies.{answer_of, lines_of}
use Rattle.playback.specs.Stages.{call_of}
use Rattle.playback.specs.ReachedDays.{day_at, board_at}
use Rattle.playback.specs.Lent.{over}
use Rattle.playback.proofs.Telling.{told, told_lines, told_tape}
use Rattle.session.specs.declared.fault.Cause.{Cause}
use Rattle.session.specs.Transcripts.{spoken}
use Rattle.session.specs.Turns.{passed_up, first_said, lines_in, Performed}

-- the totals of a board are those of its day
pub totals_at : {R F : Type 0} {r g : _} (d : ReachedDay R F r g) → totals (day_of Closed (board_at d)) ≡ totals (day_at d)
unfolding totals
totals_at d = grind arith

-- no number of the market is that of another phase
market_said : (n : ℕ) (r : Refusal) → first_said n (passed_up (Err (refusals.Market r))) ≡ spoken n (answer_of (Err (refusals.Market r)))
market_said n = elim [ Class ↦ refl | Column ↦ refl | LastSale ↦ refl | Price ↦ refl | Shares ↦ refl | RollFull ↦ refl | TapeShort ↦ refl | LocksBook ↦ refl | StopFileFull ↦ refl | Member ↦ refl | NoSuchOrder ↦ refl | OtherMember ↦ refl | NothingOpen ↦ refl | OutsideQuote ↦ refl | NotPaused ↦ refl ]

said_first : (n : ℕ) (r : Result Reply CallRefusal) → first_said n (passed_up r) ≡ spoken n (answer_of r)
said_first n (Ok Done) = refl
said_first n (Ok (Number k)) = refl
said_first n (Ok (Lines k)) = refl
said_first n (Ok (Entered x)) = refl
said_first n (Err refusals.OtherPhase) = refl
said_first n (Err (refusals.Market x)) = market_said n x

lines_kept : (r : Result Reply CallRefusal) → lines_in (passed_up r) ≡ lines_of r
lines_kept (Ok Done) = refl
lines_kept (Ok (Number k)) = refl
lines_kept (Ok (Lines k)) = refl
lines_kept (Ok (Entered x)) = refl
lines_kept (Err e) = refl

-- what a call came to on a day without history, by the definitions
pub record Told (gifts : Rule) (room n : ℕ) (d : Day) (c : Call) (a : Result Reply Cause) (e : Day) (ls ls' : List TapeLine) : Type 0 where
  pub said : first_said n a ≡ spoken n (step gifts room (bare d) (call_of (length ls) c)).answer
  pub lines : take (lines_in a) ls' ≡ (step gifts room (bare d) (call_of (length ls) c)).day.tape
  pub lent : ls' ≡ over (step gifts room (bare d) (call_of (length ls) c)).day.tape ls
  pub day : e ≡ bare (step gifts room (bare d) (call_of (length ls) c)).day
  pub fits : lines_in a ≤ length ls'

by_reply : {gifts : Rule} {room : ℕ} (n : ℕ) (d : Day) (c : Call) (r : Result Reply CallRefusal) {e : Day} {ss : List Stop} {ls ls' : List TapeLine}
    → Did gifts room (bare d) (call_of (length ls) c) (answer_of r) e ss ls ls' → Told gifts room n d c (passed_up r) e ls ls'
by_reply {gifts} {room} n d c r {ls = ls} {ls' = ls'} x =
    let t : List TapeLine = (step gifts room (bare d) (call_of (length ls) c)).day.tape in
    let count : lines_in (passed_up r) ≡ length t = lines_kept r ∙ told_lines r ∙ ap told x.answer ∙ told_tape gifts room d (call_of (length ls) c) in
    record {
      said = said_first n r ∙ ap (spoken n) x.answer;
      lines = ap (λ k. take k ls') count ∙ ap (take (length t)) x.lines ∙ take-append_seam t (drop (length t) ls);
      lent = x.lines;
      day = x.day;
      fits = omega (arith, count, ap length x.lines, length-append t (drop (length t) ls));
    }

pub told_of : {gifts : Rule} {room : ℕ} (n : ℕ) (d : Day) (c : Call) {a : Result Reply Cause} {e : Day} {ls ls' : List TapeLine} → Performed gifts room (bare d) c a e ls ls' → Told gifts room n d c a e ls ls'
told_of {gifts} {room} n d c {a} {e} {ls} {ls'} p = subst (λ b. Told gifts room n d c b e ls ls') (sym p.up) (by_reply n d c p.reply p.did)
