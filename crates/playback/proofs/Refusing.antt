-- A refused call altered nothing.
use Rattle.std.proofs.Common.{◌≡◌, ℕ, List, [], ◌++◌, length, drop, Option, Some, None, Result, Ok, Err, refl, sym, ap, ◌∙◌}
use Rattle.std.specs.Prelude.{OnErr}
use Rattle.market.specs.declared.words.Stop.{Stop}
use Rattle.market.specs.declared.words.TapeLine.{TapeLine}
use Rattle.replay.specs.Days.{Day, Rule, Call, Refused, Set, LoadLimit, LoadStop, Open, Enter, CancelOrder, FloorTrade, Resume, Close}
use Rattle.replay.specs.Calls.{refusal, checks, decided, perform, answered, step}
use Rattle.replay.specs.History.{bare}
use Rattle.replay.specs.StopFile.{file_of}
use Rattle.trading.specs.Deeds.{Did}
use Rattle.playback.specs.declared.reply.Reply.{Reply}
use Rattle.playback.specs.declared.reply.CallRefusal.{CallRefusal}
use Rattle.playback.specs.Replies.{answer_of}
use Rattle.playback.specs.Stages.{day_in}
use Rattle.playback.specs.Reached.{Unaltered}

-- a performed call answers with no refusal
never_refused : (d e : Day) (c : Call) (k : ℕ) {A : Type 0} → Refused k ≡ answered d c e → A
unfolding answered
never_refused d e (Set x y p) k h = cc
never_refused d e (LoadLimit s m p q) k h = cc
never_refused d e (LoadStop s m p q) k h = cc
never_refused d e Open k h = cc
never_refused d e (Enter x s m p q f) k h = cc
never_refused d e (CancelOrder m n f) k h = cc
never_refused d e (FloorTrade p q f) k h = cc
never_refused d e (Resume f) k h = cc
never_refused d e Close k h = cc

same_day : (gifts : Rule) (room : ℕ) (d : Day) (c : Call) (k : ℕ) → Refused k ≡ (step gifts room d c).answer → (step gifts room d c).day ≡ d
unfolding step perform
same_day gifts room d c k = go (refusal (checks room d c))
  where
    go : (x : Option ℕ) → Refused k ≡ (decided x d (perform gifts d c)).answer → (decided x d (perform gifts d c)).day ≡ d
    go None h = never_refused d _ c k h
    go (Some j) h = refl

pub unaltered : {gifts : Rule} {room : ℕ} {d e : Day} {c : Call} {old new : List Stop} {ls ls' : List TapeLine} (r : Result Reply CallRefusal) → bare d ≡ d → old ≡ file_of d.roll
    → Did gifts room d c (answer_of r) e new ls ls' → OnErr r (Unaltered d e old new ls ls')
unaltered (Ok r) b f x = tt
unaltered {gifts} {room} {d} {e} {c} {ls = ls} (Err r) b f x =
    let same : (step gifts room d c).day ≡ d = same_day gifts room d c _ x.answer in
    let day : e ≡ d = x.day ∙ ap bare same ∙ b in
    let none : (step gifts room d c).day.tape ≡ [] = ap (λ (y : Day). y.tape) (same ∙ sym b) in
    record {
      day = day;
      stops = x.file ∙ ap (λ (y : Day). file_of y.roll) day ∙ sym f;
      lines = x.lines ∙ ap (λ t. t ++ drop (length t) ls) none;
    }
