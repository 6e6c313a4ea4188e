-- What the market takes. Assumes nothing.
use Rattle.std.specs.Prelude.{ℕ, ◌%◌, Bool, ◌&&◌, ◌==◌, nat_le}

abbrev pub within : ℕ → ℕ → ℕ → Bool
within low high n = nat_le low n && nat_le n high

-- in cents
abbrev pub is_price : ℕ → Bool
is_price p = within 1 100000 p

-- whole round lots of 100
abbrev pub is_shares : ℕ → Bool
is_shares n = within 100 1000000 n && n % 100 == 0

abbrev pub is_member : ℕ → Bool
is_member m = within 1 255 m

-- 1: average daily volume under 500,000 shares; 2: to 3,999,999; 3: above
abbrev pub is_class : ℕ → Bool
is_class k = within 1 3 k

-- 0 where there is none
abbrev pub is_last_sale : ℕ → Bool
is_last_sale p = nat_le p 100000
