-- A list with one call more, and the day that some list reached.
use Rattle.std.proofs.Common.{◌≡◌, ℕ, ◌+◌, ◌*◌, ◌≤◌, List, [], ◌∷◌, ◌++◌, length, take, drop, Option, Some, None, Result, refl, sym, ap, ◌∙◌, subst, arith}
use Rattle.std.proofs.lemmas.List.{length-append}
use Rattle.std.proofs.Math.Seq.{take-append_seam}
use Rattle.std.proofs.Math.Nat.{ℕ_set}
use Rattle.std.proofs.Math.Bridge.{le_prop}
use Rattle.std.proofs.Math.Logic.{∥∥₁_elim}
use Rattle.std.specs.List.{AllByRecursion, AllByRecursion-prop}
use Rattle.market.specs.declared.words.Order.{Order}
use Rattle.market.specs.declared.words.Stop.{Stop}
use Rattle.market.specs.declared.words.TapeLine.{TapeLine}
use Rattle.sharing.specs.Shares.{LawfulRule}
use Rattle.replay.specs.Lists.{total}
use Rattle.replay.specs.Days.{Day, Rule, Call, Answer, new_day, Set, LoadLimit, LoadStop, Open, Enter, CancelOrder, FloorTrade, Resume, Close}
use Rattle.replay.specs.Calls.{refusal, checks, decided, perform, answered, handed, step, after_calls}
use Rattle.replay.specs.Questions.{Totals, totals}
use Rattle.replay.specs.SharesAddUp.{print_of, cancel_of, brings, if_performed, brought_in}
use Rattle.replay.specs.History.{bare, Bare}
use Rattle.replay.proofs.Lists.{total_append}
use Rattle.replay.proofs.History.{step_bare}
use Rattle.replay.proofs.Accepted.{shares_add_up}
use Rattle.trading.specs.Deeds.{Did}
use Rattle.playback.specs.declared.reply.Reply.{Reply}
use Rattle.playback.specs.declared.reply.CallRefusal.{CallRefusal}
use Rattle.playback.specs.Replies.{answer_of, lines_of}
use Rattle.playback.specs.Lent.{over}
use Rattle.playback.specs.Reached.{Reached, IsReached, Went}
use Rattle.playback.specs.Sums.{brought, Adds}
use Rattle.playback.proofs.Telling.{told, told_lines, told_tape}
use Rattle.playback.proofs.Lawful.{list_laws}

pub after_more : (gifts : Rule) (room : ℕ) (d : Day) (cs : List Call) (c : Call) → after_calls gifts room d (cs ++ c ∷ []) ≡ (step gifts room (after_calls gifts room d cs) c).day
unfolding after_calls
after_more gifts room d [] c = refl
after_more gifts room d (x ∷ cs) c = after_more gifts room (step gifts room d x).day cs c

pub reached_new : (gifts : Rule) (room : ℕ) {d : Day} → d ≡ new_day → ∥ IsReached gifts room d ∥₁
unfolding after_calls new_day
reached_new gifts room e = ∣ ([], e) ∣₁

pub reached_more : {gifts gifts' : Rule} {room room' : ℕ} {c : Call} {a : Answer} {d e : Day} {ls ls' : List TapeLine} → gifts' ≡ gifts → room' ≡ room → ∥ IsReached gifts room d ∥₁
    → ((cs : List Call) → Reached gifts room cs d → Went gifts room cs c a e ls ls') → ∥ IsReached gifts' room' e ∥₁
reached_more {gifts} {gifts'} {room} {room'} {c} {a} {d} {e} p q x f =
    ∥∥₁_elim x squash₁ (λ r. ∣ (r.0 ++ c ∷ [], subst (λ g. Reached g room' (r.0 ++ c ∷ []) e) (sym p) (subst (λ y. Reached gifts y (r.0 ++ c ∷ []) e) (sym q) (f r.0 r.1).reached)) ∣₁)

-- what a call did, from the list that led to the day
module _ {gifts : Rule} {room : ℕ} {d e : Day} {c : Call} {a : Answer} {ss : List Stop} {ls ls' : List TapeLine} (did : Did gifts room d c a e ss ls ls') (cs : List Call) (r : Reached gifts room cs d) where
  did_bare : Did gifts room (bare (after_calls gifts room new_day cs)) c a e ss ls ls'
  did_bare = subst (λ y. Did gifts room y c a e ss ls ls') r did

  pub went : LawfulRule gifts → Went gifts room cs c a e ls ls'
  went h =
      let s : Bare gifts room (after_calls gifts room new_day cs) c = step_bare gifts room (after_calls gifts room new_day cs) c in
      record {
        answer = did_bare.answer ∙ sym s.answer;
        lines = did_bare.lines ∙ sym (ap (λ t. over t ls) s.lines);
        reached = did_bare.day ∙ sym s.day ∙ ap bare (sym (after_more gifts room new_day cs c));
        laws = list_laws gifts h room (cs ++ c ∷ []);
      }

abbrev pub written : Rule → ℕ → List Call → Call → List TapeLine
written gifts room cs c = handed (after_calls gifts room new_day cs) (step gifts room (after_calls gifts room new_day cs) c).day

-- an answer tells of the lines that were handed over
told_handed : (gifts : Rule) (room : ℕ) (d : Day) (c : Call) → told (step gifts room d c).answer ≡ length (handed d (step gifts room d c).day)
told_handed gifts room d c = let s : Bare gifts room d c = step_bare gifts room d c in ap told s.answer ∙ told_tape gifts room d c ∙ ap length (sym s.lines)

module _ {gifts : Rule} {room : ℕ} {cs : List Call} {c : Call} {e : Day} {ls ls' : List TapeLine} (r : Result Reply CallRefusal) (w : Went gifts room cs c (answer_of r) e ls ls') where
  pub count : lines_of r ≡ length (written gifts room cs c)
  count = told_lines r ∙ ap told w.answer ∙ told_handed gifts room (after_calls gifts room new_day cs) c

  -- so many lines there are at least
  pub fits : lines_of r ≤ length ls'
  fits = let t : List TapeLine = written gifts room cs c in omega (arith, count, ap length w.lines, length-append t (drop (length t) ls))

  pub taken : take (lines_of r) ls' ≡ written gifts room cs c
  taken = let t : List TapeLine = written gifts room cs c in ap (λ k. take k ls') count ∙ ap (take (length t)) w.lines ∙ take-append_seam t (drop (length t) ls)

pub totals_bare : (d : Day) → totals (bare d) ≡ totals d
unfolding totals
totals_bare d = refl

pub brought_more : (gifts : Rule) (room : ℕ) (d : Day) (cs : List Call) (c : Call)
    → brought_in gifts room d (cs ++ c ∷ []) ≡ brought_in gifts room d cs + if_performed (refusal (checks room (after_calls gifts room d cs) c)) (brings c)
unfolding brought_in after_calls
brought_more gifts room d [] c = omega arith
brought_more gifts room d (x ∷ cs) c = omega (arith, brought_more gifts room (step gifts room d x).day cs c)

brought_done : (d e : Day) (c : Call) → brought (answered d c e) c ≡ brings c
unfolding answered
brought_done d e (Set k x p) = refl
brought_done d e (LoadLimit s m p q) = refl
brought_done d e (LoadStop s m p q) = refl
brought_done d e Open = refl
brought_done d e (Enter k s m p q f) = refl
brought_done d e (CancelOrder m n f) = refl
brought_done d e (FloorTrade p q f) = refl
brought_done d e (Resume f) = refl
brought_done d e Close = refl

-- an answer tells whether the call was performed
pub brought_performed : (gifts : Rule) (room : ℕ) (d : Day) (c : Call) → brought (step gifts room d c).answer c ≡ if_performed (refusal (checks room d c)) (brings c)
unfolding step perform
brought_performed gifts room d c = go (refusal (checks room d c))
  where
    go : (x : Option ℕ) → brought (decided x d (perform gifts d c)).answer c ≡ if_performed x (brings c)
    go None = brought_done d _ c
    go (Some k) = refl

tape_more : (gifts : Rule) (room : ℕ) (d : Day) (c : Call) → (step gifts room d c).day.tape ≡ d.tape ++ handed d (step gifts room d c).day
tape_more gifts room d c = let s : Bare gifts room d c = step_bare gifts room d c in s.tape ∙ sym (ap (λ t. d.tape ++ t) s.lines)

module _ {gifts : Rule} (h : LawfulRule gifts) {room : ℕ} {d e : Day} {c : Call} {ss : List Stop} {ls ls' : List TapeLine} (r : Result Reply CallRefusal) (did : Did gifts room d c (answer_of r) e ss ls ls') where
  adds : (cs : List Call) → Reached gifts room cs d → Adds d e c (answer_of r) (take (lines_of r) ls')
  adds cs x =
      let b : Day = after_calls gifts room new_day cs in
      let w : Went gifts room cs c (answer_of r) e ls ls' = went did cs x h in
      let old = shares_add_up gifts h room cs in
      let new = shares_add_up gifts h room (cs ++ c ∷ []) in
      let f = after_calls gifts room new_day (cs ++ c ∷ []) in
      let before : totals d ≡ totals b = ap totals x ∙ totals_bare b in
      let after : totals e ≡ totals f = ap totals w.reached ∙ totals_bare f in
      let tape : f.tape ≡ b.tape ++ take (lines_of r) ls' = ap (λ (y : Day). y.tape) (after_more gifts room new_day cs c) ∙ tape_more gifts room b c ∙ ap (λ t. b.tape ++ t) (sym (taken r w)) in
      let all : (g : TapeLine → ℕ) → total g f.tape ≡ total g b.tape + total g (take (lines_of r) ls') = λ g. ap (total g) tape ∙ total_append g b.tape (take (lines_of r) ls') in
      let brings : brought (answer_of r) c ≡ if_performed (refusal (checks room b c)) (brings c) = ap (λ y. brought y c) w.answer ∙ brought_performed gifts room b c in
      record {
        accepted = ap (λ (t : Totals). t.accepted) after ∙ new.1 ∙ brought_more gifts room new_day cs c ∙ (λ i. (sym old.1 ∙ ap (λ (t : Totals). t.accepted) (sym before)) i + (sym brings) i);
        printed = ap (λ (t : Totals). t.printed) after ∙ new.0.printed ∙ all print_of ∙ ap (λ n. n + total print_of (take (lines_of r) ls')) (sym old.0.printed ∙ ap (λ (t : Totals). t.printed) (sym before));
        cancelled = ap (λ (t : Totals). t.cancelled) after ∙ new.0.cancelled ∙ all cancel_of ∙ ap (λ n. n + total cancel_of (take (lines_of r) ls')) (sym old.0.cancelled ∙ ap (λ (t : Totals). t.cancelled) (sym before));
        sum = subst (λ (t : Totals). t.accepted ≡ 2 * t.printed + t.cancelled + t.«open») (sym after) new.0.sum;
        each = subst (λ (y : Day). AllByRecursion (λ (o : Order). o.accepted ≡ o.filled + o.cancelled + o.«open») y.roll) (sym w.reached) new.0.each;
      }

  pub adds_reached : ∥ IsReached gifts room d ∥₁ → Adds d e c (answer_of r) (take (lines_of r) ls')
  adds_reached x = record {
    accepted = ∥∥₁_elim x (ℕ_set _ _) (λ y. (adds y.0 y.1).accepted);
    printed = ∥∥₁_elim x (ℕ_set _ _) (λ y. (adds y.0 y.1).printed);
    cancelled = ∥∥₁_elim x (ℕ_set _ _) (λ y. (adds y.0 y.1).cancelled);
    sum = ∥∥₁_elim x (ℕ_set _ _) (λ y. (adds y.0 y.1).sum);
    each = ∥∥₁_elim x (AllByRecursion-prop (λ (o : Order). o.accepted ≡ o.filled + o.cancelled + o.«open») (λ o. ℕ_set _ _) e.roll) (λ y. (adds y.0 y.1).each);
  }

  pub fits_reached : ∥ IsReached gifts room d ∥₁ → lines_of r ≤ length ls'
  fits_reached x = ∥∥₁_elim x le_prop (λ y. fits r (went did y.0 y.1 h))
