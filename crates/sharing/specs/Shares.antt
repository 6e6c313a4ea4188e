-- Rows of open shares, and what a share-out rule owes. Assumes nothing.
use Rattle.std.specs.Prelude.{◌≡◌, ℕ, ◌+◌, ◌%◌, ◌≤◌, Bool, true, false, cond, ◌&&◌, List, [], ◌∷◌, length, ◌==◌, nat_le, replicate}
use Rattle.std.specs.List.{AllZip, AllByRecursion, list_all}

-- shares are traded in lots
abbrev pub lot : ℕ
lot = 100

-- the most shares of an entry
abbrev pub most_shares : ℕ
most_shares = 1000000

-- the most entries of a row
abbrev pub most_entries : ℕ
most_entries = 512

abbrev pub total : List ℕ → ℕ
total [] = 0
total (a ∷ rest) = a + total rest

abbrev pub zeros : List ℕ → List ℕ
zeros row = replicate (length row) 0

-- whole lots, at least one, and no more than so many shares
abbrev pub whole_lots : ℕ → ℕ → Bool
whole_lots most n = nat_le lot n && nat_le n most && n % lot == 0

abbrev pub all_lawful : List ℕ → Bool
all_lawful row = list_all (whole_lots most_shares) row

-- 1 to 512 entries, each of whole lots, 100 at least and 1,000,000 at most
abbrev pub lawful_row : List ℕ → Bool
lawful_row row = nat_le 1 (length row) && nat_le (length row) most_entries && all_lawful row

-- a lawful row, and a multiple of 100 from 100 to its sum
abbrev pub shareable : List ℕ → ℕ → Bool
shareable row q = lawful_row row && whole_lots (total row) q

-- a way to share out, asked only at rows and quantities that can be shared out: for any other every gift is 0
abbrev pub guarded : (List ℕ → ℕ → List ℕ) → List ℕ → ℕ → List ℕ
guarded share row q = cond (shareable row q) (share row q) (zeros row)

-- what every rule owes: how many shares each entry of the row is given
pub record LawfulRule (gifts : List ℕ → ℕ → List ℕ) : Type 0 where
  -- one gift for each entry
  pub size : (row : List ℕ) (q : ℕ) → length (gifts row q) ≡ length row
  -- the whole quantity is given
  pub whole : (row : List ℕ) (q : ℕ) → shareable row q ≡ true → total (gifts row q) ≡ q
  -- no gift is more than its entry
  pub within : (row : List ℕ) (q : ℕ) → AllZip (λ gift entry. gift ≤ entry) (gifts row q) row
  -- each gift is whole lots
  pub lots : (row : List ℕ) (q : ℕ) → AllByRecursion (λ gift. gift % lot ≡ 0) (gifts row q)
  -- whatever cannot be shared out gets no gifts
  pub other : (row : List ℕ) (q : ℕ) → shareable row q ≡ false → gifts row q ≡ zeros row
