-- What is seen of each call of a list, and a state that follows it. Assumes nothing.
use Rattle.std.specs.Prelude.{◌≡◌, ℕ, List, [], ◌∷◌}
use Rattle.market.specs.declared.words.TapeLine.{TapeLine}
use Rattle.replay.specs.Days.{Day, Rule, Call, Answer}
use Rattle.replay.specs.Calls.{handed, step}
use Rattle.playback.specs.declared.reply.View.{View}
use Rattle.playback.specs.Views.{view_of}

-- the answer, what is seen of the day after it, and the lines handed over
pub record Seen : Type 0 where
  pub answer : Answer
  pub view : View
  pub lines : List TapeLine

abbrev pub seen_of : Rule → ℕ → Day → Call → Seen
seen_of gifts room d c = record { answer = (step gifts room d c).answer; view = view_of (step gifts room d c).day; lines = handed d (step gifts room d c).day }

unfoldable pub seen : Rule → ℕ → Day → List Call → List Seen
seen gifts room d [] = []
seen gifts room d (c ∷ cs) = seen_of gifts room d c ∷ seen gifts room (step gifts room d c).day cs

abbrev pub lines_seen : List Seen → List (List TapeLine)
lines_seen [] = []
lines_seen (x ∷ xs) = x.lines ∷ lines_seen xs

-- from s to t by a step for each of the list, in order
abbrev pub Follows : {S A : Type 0} → (S → A → S → Type 0) → S → List A → S → Type 0
Follows P s [] t = t ≡ s
Follows {S} P s (x ∷ xs) t = (u : S) × P s x u × Follows P u xs t
