-- What lent places hold of a list of calls. Assumes nothing.
use Rattle.std.specs.Prelude.{◌≡◌, ℕ, ◌-◌, Bool, cond, ◌&&◌, nat_lt, nat_le, ◌==◌, List, [], ◌∷◌, ◌++◌, map, length}
use Rattle.replay.specs.History.{joined}
use Rattle.playback.specs.declared.places.Places.{Places}
use Rattle.playback.specs.Replies.{answer_of}
use Rattle.playback.specs.Lent.{over}
use Rattle.playback.specs.Seen.{Seen, lines_seen}

-- so many places for replies, for views and for lines have room for one call and its n lines
abbrev pub has_room : ℕ → ℕ → ℕ → ℕ → Bool
has_room r v l n = nat_lt 0 r && nat_lt 0 v && nat_le n l

-- the longest beginning of a list whose replies, views and lines all fit
unfoldable pub fitting : ℕ → ℕ → ℕ → List Seen → List Seen
fitting r v l [] = []
fitting r v l (x ∷ xs) = cond (has_room r v l (length x.lines)) (x ∷ fitting (r - 1) (v - 1) (l - length x.lines) xs) []

-- the same of places
abbrev pub fitting_in : Places → List Seen → List Seen
fitting_in o xs = fitting (length o.replies.now) (length o.views.now) (length o.tape.now) xs

-- the places are still those that were lent
abbrev pub SameLent : Places → Places → Type 0
SameLent o p = (p.replies.ghost_name ≡ o.replies.ghost_name) × (p.views.ghost_name ≡ o.views.ghost_name) × (p.tape.ghost_name ≡ o.tape.ghost_name)

-- Of places o, once a list was noted in them: what fits stands at the front, and the others are as they were.
pub record Holds (o : Places) (xs : List Seen) (p : Places) : Type 0 where
  pub replies : map answer_of p.replies.now ≡ over (map (λ (x : Seen). x.answer) (fitting_in o xs)) (map answer_of o.replies.now)
  pub views : p.views.now ≡ over (map (λ (x : Seen). x.view) (fitting_in o xs)) o.views.now
  pub tape : p.tape.now ≡ over (joined (lines_seen (fitting_in o xs))) o.tape.now
  -- how many calls, how many lines, and whether that is all of the list
  pub count : p.count ≡ length (fitting_in o xs)
  pub used : p.used ≡ length (joined (lines_seen (fitting_in o xs)))
  pub whole : p.whole ≡ (length (fitting_in o xs) == length xs)
  pub lent : SameLent o p

-- what stands there of a list, and then what is to stand there of the list with one call more
abbrev pub Continued : Places → Seen → Places → Type 0
Continued s x t = (o : Places) (xs : List Seen) → Holds o xs s → Holds o (xs ++ x ∷ []) t
