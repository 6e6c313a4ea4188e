-- When the same was noted of two days. Assumes nothing.
use Rattle.std.specs.Prelude.{◌≡◌, map, length, take}
use Rattle.playback.specs.declared.places.Places.{Places}
use Rattle.playback.specs.Replies.{answer_of}

-- as many places
pub record SameSpace (p q : Places) : Type 0 where
  pub replies : length p.replies.now ≡ length q.replies.now
  pub views : length p.views.now ≡ length q.views.now
  pub tape : length p.tape.now ≡ length q.tape.now

-- every answer, every view and the tape, and whether that is all
pub record Alike (p q : Places) : Type 0 where
  pub answers : map answer_of (take p.count p.replies.now) ≡ map answer_of (take q.count q.replies.now)
  pub views : take p.count p.views.now ≡ take q.count q.views.now
  pub tape : take p.used p.tape.now ≡ take q.used q.tape.now
  pub whole : p.whole ≡ q.whole
