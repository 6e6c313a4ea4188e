-- A number in a field: seven digits at most, and no zero in front of others.
use Rattle.std.specs.Prelude.{ℕ, ◌+◌, ◌-◌, ◌*◌, Bool, cond, not, ◌&&◌, ◌||◌, List, [], ◌∷◌, length, Some, None, Option, ◌==◌, nat_le, nat_lt, slice_index}
use Rattle.std.specs.Str.{all_ascii_digits}

-- the value of digits that follow a number read so far
abbrev pub value_on : ℕ → List ℕ → ℕ
value_on n [] = n
value_on n (c ∷ cs) = value_on (n * 10 + (c - 48)) cs

-- 1 to 7 digits, and a 0 in front only where it is alone
abbrev pub is_numeral : List ℕ → Bool
is_numeral bs = nat_lt 0 (length bs) && (nat_le (length bs) 7 && (all_ascii_digits bs && (not (slice_index bs 0 == 48) || length bs == 1)))

abbrev pub number_in : List ℕ → Option ℕ
number_in bs = cond (is_numeral bs) (Some (value_on 0 bs)) None
