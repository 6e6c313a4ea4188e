-- What rotation is computed by: levels that all entries reach together, in place of rounds. Assumes nothing.
use Rattle.std.specs.Prelude.{ℕ, ◌+◌, ◌-◌, min, cond, List, [], ◌∷◌, nat_lt}
use Rattle.sharing.specs.Shares.{lot, most_shares}

-- how many entries are above a level
abbrev pub above : ℕ → List ℕ → ℕ
above l [] = 0
above l (a ∷ rest) = cond (nat_lt l a) (1 + above l rest) (above l rest)

-- the least entry above a level, and the most shares of an entry where there is none
abbrev pub least_above : ℕ → List ℕ → ℕ
least_above l [] = most_shares
least_above l (a ∷ rest) = cond (nat_lt l a) (min a (least_above l rest)) (least_above l rest)

-- in row order, after each entry has been given shares up to the level l: no more than m to each, while some of the quantity is left
abbrev pub in_order_above : ℕ → ℕ → List ℕ → ℕ → List ℕ
in_order_above l m [] q = []
in_order_above l m (a ∷ rest) q = (min a l + min m (min (a - l) q)) ∷ in_order_above l m rest (q - min m (min (a - l) q))

-- one more round, after each entry has been given shares up to the level l
abbrev pub last_round : ℕ → List ℕ → ℕ → List ℕ
last_round l = in_order_above l lot
