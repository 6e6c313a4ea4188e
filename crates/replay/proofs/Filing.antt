-- After its own call, a stop is filed.
use Rattle.std.proofs.Common.{◌≡◌, ℕ, suc, Bool, true, false, length, sym, refl, ◌∙◌, subst, inl, inr, arith}
use Rattle.market.specs.declared.words.Side.{Side}
use Rattle.market.specs.declared.words.Kind.TheVariants.{Stop}
use Rattle.market.specs.declared.words.Place.TheVariants.{StopFile}
use Rattle.market.specs.declared.words.Order.{Order}
use Rattle.market.specs.Orders.{put}
use Rattle.replay.specs.Days.{Day, Rule, LoadStop, Enter, new_day}
use Rattle.replay.specs.Rolls.{fresh}
use Rattle.replay.specs.Moves.{admit}
use Rattle.replay.specs.Runs.{work, busy, join_of, join}
use Rattle.replay.specs.Calls.{decided, became, perform, step, after_calls}
use Rattle.replay.specs.Elections.{IsFiled, FiledAtOnce, StopsAreFiled}
use Rattle.replay.proofs.Runs.{Sound}
use Rattle.replay.proofs.Calls.{look_push, calls_sound, new_sound}
use Rattle.replay.proofs.Turns.{Idle, empty}
use Rattle.replay.proofs.Need.{paused_still}
use Rattle.replay.proofs.Idle.{calls_idle, new_idle}

admit_filed : (s : Side) (m p q : ℕ) (d : Day) → Sound d → IsFiled (suc (length d.roll)) s p (admit (fresh Stop s m p q d.roll) StopFile d)
unfolding admit fresh
admit_filed s m p q d h = (put StopFile (fresh Stop s m p q d.roll), look_push 1 d.roll (put StopFile (fresh Stop s m p q d.roll)) h.counted (omega arith), refl, refl, refl, refl)

module _ (gifts : Rule) where
  pub work_rests_on : (d : Day) → Idle d → work gifts d ≡ d
  unfolding work
  work_rests_on d (inl e) = paused_still gifts (busy d) d e
  work_rests_on d (inr e) = empty gifts (busy d) d e

  join_stop : (s : Side) (m p q : ℕ) (d : Day) → join gifts (fresh Stop s m p q d.roll) d ≡ work gifts (admit (fresh Stop s m p q d.roll) StopFile d)
  unfolding join fresh
  join_stop s m p q d = go d.paused
    where
      go : (b : Bool) → join_of gifts b Stop (fresh Stop s m p q d.roll) StopFile d ≡ work gifts (admit (fresh Stop s m p q d.roll) StopFile d)
      go true = refl
      go false = refl

  admit_idle : (o : Order) (d : Day) → Idle d → Idle (admit o StopFile d)
  unfolding admit
  admit_idle o d h = h

  at_once_shown : (room : ℕ) (d : Day) → Sound d → Idle d → FiledAtOnce gifts room d
  unfolding step perform became
  at_once_shown room d h i = record {
    loaded = λ s m p q e. subst (λ z. IsFiled (suc (length d.roll)) s p (decided z d (perform gifts d (LoadStop s m p q))).day) (sym e) (admit_filed s m p q d h);
    entered = λ s m p q f e. subst (λ z. IsFiled (suc (length d.roll)) s p (decided z d (perform gifts d (Enter Stop s m p q f))).day) (sym e)
        (subst (IsFiled (suc (length d.roll)) s p) (sym (join_stop s m p q d ∙ work_rests_on _ (admit_idle (fresh Stop s m p q d.roll) d i))) (admit_filed s m p q d h));
  }

pub stops_are_filed : StopsAreFiled
stops_are_filed gifts lawful room cs =
    at_once_shown gifts room (after_calls gifts room new_day cs) (calls_sound gifts lawful room cs new_day (new_sound gifts lawful))
    (calls_idle gifts lawful room cs new_day (new_sound gifts lawful) (new_idle gifts lawful))
