-- The program's table of values has what the bands say: the whole table is computed at once.
use Rattle.std.proofs.Common.{◌≡◌, ℕ, zero, suc, ◌+◌, ◌<◌, ◌≤◌, Bool, true, false, cond, ltb, eqb, List, [], ◌∷◌, map, get_or, sym, refl, ap, ◌∙◌, ⊎_elim, one-add}
use Rattle.std.specs.List.{prefix_len}
use Rattle.std.proofs.lemmas.Bool.{cases_lt, lt-ltb, le-ltb, le-leb, lt-leb}
use Rattle.market.specs.declared.words.Column.{Column}
use Rattle.market.specs.declared.words.Column.TheVariants.{Lower, Higher}
use Rattle.market.specs.Ranges.{Band, bands, band_of, of_band, of_column, row_of, column_of, value_in}

-- by class, band and column
abbrev row : (Band → ℕ × ℕ) → List (List ℕ)
row cell = map (λ b. (cell b).0 ∷ (cell b).1 ∷ []) bands

abbrev pub table : List (List (List ℕ))
table = row (λ b. b.first) ∷ row (λ b. b.others) ∷ []

-- the values of each band, at a class (the first or not) and a column
abbrev values : Bool → Column → List ℕ
values one column = map (λ b. of_column column (cond one b.first b.others)) bands

get_d_mapped : {X Y : Type 0} (f : X → Y) (xs : List X) (j : ℕ) (d : X) → f (get_or xs j d) ≡ get_or (map f xs) j (f d)
get_d_mapped f [] j d = refl
get_d_mapped f (x ∷ xs) zero d = refl
get_d_mapped f (x ∷ xs) (suc j) d = get_d_mapped f xs j d

in_table : (one : Bool) (column : Column) (j : ℕ) → get_or (get_or (get_or table (cond one 0 1) []) j []) (column_of column) 0 ≡ get_or (values one column) j 0
in_table true Lower j = get_d_mapped (λ cell. get_or cell 0 0) (row (λ b. b.first)) j []
in_table true Higher j = get_d_mapped (λ cell. get_or cell 1 0) (row (λ b. b.first)) j []
in_table false Lower j = get_d_mapped (λ cell. get_or cell 0 0) (row (λ b. b.others)) j []
in_table false Higher j = get_d_mapped (λ cell. get_or cell 1 0) (row (λ b. b.others)) j []

-- how many bands end below a last sale: the last band ends above all
pub tops_below : (sale : ℕ) → sale ≤ 100000 → prefix_len (λ top. ltb top sale) (999 ∷ 2499 ∷ 4999 ∷ 9999 ∷ 14999 ∷ []) ≡ band_of sale bands
tops_below sale h =
    let at : ℕ → ℕ → ℕ = λ top n. cond (ltb top sale) (1 + n) 0 in
    ap (λ (b : Bool). at 999 (at 2499 (at 4999 (at 9999 (at 14999 (cond b 1 0)))))) (sym (le-ltb 100000 sale h))

-- the first band that goes up to the last sale
by_band : (class : ℕ) (column : Column) (sale : ℕ) (bs : List Band) → get_or (map (of_band class column) bs) (band_of sale bs) 0 ≡ value_in bs class column sale
by_band class column sale [] = refl
by_band class column sale (b ∷ bs) =
    let later : ℕ = value_in bs class column sale in
    let here : ℕ = of_band class column b in
    let at : Bool → ℕ = λ t. get_or (here ∷ map (of_band class column) bs) (cond t (1 + band_of sale bs) 0) 0 in
    ⊎_elim
    (λ (h : b.to < sale). ap at (lt-ltb b.to sale h) ∙ (rw one-add (by_band class column sale bs)) ∙ sym (ap (λ t. cond t here later) (lt-leb sale b.to h)))
    (λ (h : sale ≤ b.to). ap at (le-ltb b.to sale h) ∙ sym (ap (λ t. cond t here later) (le-leb sale b.to h)))
    (cases_lt b.to sale)

module _ (class : ℕ) (column : Column) (sale i j k : ℕ) (at_row : i ≡ row_of class) (at-band : j ≡ band_of sale bands) (at-column : k ≡ column_of column) where
  entry : get_or (get_or (get_or table i []) j []) k 0 ≡ get_or (values (eqb class 1) column) j 0
  entry = ap (λ n. get_or (get_or (get_or table n []) j []) k 0) at_row ∙ ap (λ n. get_or (get_or (get_or table (row_of class) []) j []) n 0) at-column ∙ in_table (eqb class 1) column j

  pub looked_up : get_or (get_or (get_or table i []) j []) k 0 ≡ value_in bands class column sale
  looked_up = entry ∙ ap (λ n. get_or (values (eqb class 1) column) n 0) at-band ∙ by_band class column sale bands
