-- The range of prices at which orders execute automatically. Assumes nothing.
use Rattle.std.specs.Prelude.{◌≡◌, ℕ, ◌+◌, ◌-◌, max, Bool, true, cond, ◌&&◌, List, [], ◌∷◌, Some, None, Option, ◌==◌, nat_le, nat_lt}
use Rattle.std.specs.List.{prefix_len}
use Rattle.market.specs.declared.words.Column.{Column}
use Rattle.market.specs.declared.words.Column.TheVariants.{Lower, Higher}
use Rattle.market.specs.declared.words.Range.{Range}
use Rattle.market.specs.Bounds.{within, is_class, is_price}

-- both ends included
abbrev pub holds : Range → ℕ → Bool
holds r p = within r.low r.high p

-- without a range every price is inside
abbrev pub in_range : Option Range → ℕ → Bool
in_range None p = true
in_range (Some r) p = holds r p

-- a band of last sales: the highest of them, and the values (lower, higher) for class 1 and for classes 2 and 3
pub record Band : Type 0 where
  pub to : ℕ
  pub first : ℕ × ℕ
  pub others : ℕ × ℕ

abbrev up_to : ℕ → ℕ × ℕ → ℕ × ℕ → Band
up_to n one more = record { to = n; first = one; others = more }

--   last sale to    class 1        classes 2 and 3
abbrev pub bands : List Band
bands =
    up_to 999 (5, 10) (5, 10)
    ∷ up_to 2499 (10, 25) (10, 20)
    ∷ up_to 4999 (15, 35) (10, 25)
    ∷ up_to 9999 (35, 75) (25, 50)
    ∷ up_to 14999 (60, 125) (50, 100)
    ∷ up_to 100000 (100, 200) (100, 200)
    ∷ []

abbrev pub of_column : Column → ℕ × ℕ → ℕ
of_column Lower v = v.0
of_column Higher v = v.1

abbrev pub of_band : ℕ → Column → Band → ℕ
of_band class column b = of_column column (cond (class == 1) b.first b.others)

-- the value of the first band that goes up to the last sale
abbrev pub value_in : List Band → ℕ → Column → ℕ → ℕ
value_in [] class column sale = 0
value_in (b ∷ bs) class column sale = cond (nat_le sale b.to) (of_band class column b) (value_in bs class column sale)

-- from the last sale less the value, but at least 1, to the last sale and the value
abbrev pub around : ℕ → ℕ → Range
around sale v = record { low = max (sale - v) 1; high = sale + v }

-- the range that a last sale gives; none where there was no sale
abbrev pub range_around : ℕ → Column → ℕ → Option Range
range_around class column sale = cond (is_class class && is_price sale) (Some (around sale (value_in bands class column sale))) None

-- worked examples
pub record Examples : Type 0 where
  pub class2 : range_around 2 Lower 2010 ≡ Some (record { low = 2000; high = 2020 })
  pub class1 : range_around 1 Lower 499 ≡ Some (record { low = 494; high = 504 })
  pub next_band : range_around 1 Lower 2500 ≡ Some (record { low = 2485; high = 2515 })
  pub at_least_1 : range_around 2 Higher 4 ≡ Some (record { low = 1; high = 14 })
  pub without_sale : range_around 1 Lower 0 ≡ None

-- where the program's table has a band, a class and a column
abbrev pub band_of : ℕ → List Band → ℕ
band_of sale bs = prefix_len (λ b. nat_lt b.to sale) bs

abbrev pub row_of : ℕ → ℕ
row_of class = cond (class == 1) 0 1

abbrev pub column_of : Column → ℕ
column_of Lower = 0
column_of Higher = 1
