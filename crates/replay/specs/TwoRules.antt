-- Time priority and rotation are lawful rules. Assumes nothing.
use Rattle.sharing.specs.Shares.{LawfulRule}
use Rattle.sharing.specs.Turns.{by_time, by_rotation}

-- What every rule owes holds of both, also that whatever cannot be shared out gets no gifts.
pub record BothRules : Type 0 where
  pub time : LawfulRule by_time
  pub rotation : LawfulRule by_rotation
