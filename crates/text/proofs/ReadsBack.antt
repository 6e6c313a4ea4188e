-- What was written reads back as its record. Assumes nothing.
use Rattle.std.proofs.Common.{◌≡◌, ℕ, suc, ◌+◌, ◌<◌, ◌≤◌, Bool, true, false, cond, eqb, leb, List, [], ◌∷◌, ◌++◌, length, get_or, map, drop, Some, Ok, Err, decimal, Option, Result, sym, refl, ap, ◌∙◌, subst, append_assoc, arith}
use Rattle.std.proofs.lemmas.Bool.Decides.{nat_tests}
use Rattle.std.proofs.lemmas.Bool.{eq-eqb, ne_eqb}
use Rattle.market.specs.declared.words.Side.{Side}
use Rattle.market.specs.declared.words.Column.{Column}
use Rattle.text.specs.declared.refusal.Refusal.{Refusal}
use Rattle.text.specs.declared.refusal.Refusal.TheVariants.{EmptyText, FieldCount, BufferTooShort}
use Rattle.market.specs.declared.words.PricedOrder.{PricedOrder}
use Rattle.text.specs.declared.record.Record.{Record}
use Rattle.text.specs.declared.record.Record.TheVariants.{Set, Limit, ImmediateOrCancel, Stop, Market, Cancel, FloorTrade, Resume, Open, Close}
use Rattle.text.specs.declared.fault.LineFault.{LineFault}
use Rattle.text.specs.Cuts.{past, marks, field_at, field_count, line_of, rest_of}
use Rattle.text.specs.Numbers.{number_in}
use Rattle.text.specs.Letters.{kind_letter, side_in, column_in, side_letter, column_letter}
use Rattle.text.specs.Spelling.{IsSpelling}
use Rattle.text.specs.Spelled.{kind_spelling, side_spelling, column_spelling}
use Rattle.text.specs.Reading.{fault_at, set_in, priced_in, market_in, pair_in, as_record, record_in, read_as, read_of}
use Rattle.text.specs.Written.{tabbed, priced_fields, kind_for, bytes_for, fields_for, all_fit, priced_numbers, numbers_of, put_length, put_buffer}
use Rattle.text.specs.RoundTrips.{ReadsBack}
use Rattle.text.proofs.Numerals.{reads_back, decimal_digits}
use Rattle.text.proofs.Fields.{Free, up_to_free, past_free, digits_free, field_found, tabs_found, lines_free}

-- no field that is written holds a tab or a line's end
byte_free : (m c : ℕ) → (c ≡ m → ⊥) → marks m (c ∷ []) ≡ 0
byte_free m c ne = ap (λ b. cond b (1 + 0) 0) (ne_eqb c m ne)

module _ (m : ℕ) (low : m < 48) where
  number_free : (n : ℕ) → n ≤ 9999999 → marks m (decimal n) ≡ 0
  number_free n h = digits_free m (decimal n) low (decimal_digits n (omega arith))

  letter_free : {K : Type 0} {meaning : ℕ → Option K} {letter : K → ℕ} → IsSpelling meaning letter → (k : K) → marks m (letter k ∷ []) ≡ 0
  letter_free {letter = letter} spelling k = let high = spelling.high k in byte_free m (letter k) (λ e. omega arith)

  side_free : (s : Side) → marks m (side_letter s ∷ []) ≡ 0
  side_free = letter_free side_spelling

  column_free : (k : Column) → marks m (column_letter k ∷ []) ≡ 0
  column_free = letter_free column_spelling

  numbers_free : (ns : List ℕ) → all_fit ns ≡ true → Free m (map decimal ns)
  numbers_free [] e = tt
  numbers_free (n ∷ ns) e =
      let a : n ≤ 9999999 = grind (arith, nat_tests) in
      let others : all_fit ns ≡ true = grind (arith, nat_tests) in
      (number_free n a, numbers_free ns others)

  priced_free : (o : PricedOrder) → all_fit (priced_numbers o) ≡ true → Free m (priced_fields o)
  priced_free o e = (side_free o.side, numbers_free (priced_numbers o) e)

  pub fields_free : (r : Record) → all_fit (numbers_of r) ≡ true → Free m (fields_for r)
  fields_free (Set class column last) e = let n = numbers_free (class ∷ last ∷ []) e in (n.0, (column_free column, n.1))
  fields_free (Limit o) e = priced_free o e
  fields_free (ImmediateOrCancel o) e = priced_free o e
  fields_free (Stop o) e = priced_free o e
  fields_free (Market side member shares) e = (side_free side, numbers_free (member ∷ shares ∷ []) e)
  fields_free (Cancel member number) e = numbers_free (member ∷ number ∷ []) e
  fields_free (FloorTrade price shares) e = numbers_free (price ∷ shares ∷ []) e
  fields_free Resume e = tt
  fields_free Open e = tt
  fields_free Close e = tt

side_reads : (s : Side) → side_in (side_letter s ∷ []) ≡ Some s
side_reads = side_spelling.reads_back

column_reads : (k : Column) → column_in (column_letter k ∷ []) ≡ Some k
column_reads = column_spelling.reads_back

-- a letter and its fields, behind tabs
module _ (letter : ℕ) (other : eqb letter 9 ≡ false) where
  line_field : (k : ℕ) (f : List ℕ) (fs : List (List ℕ)) → Free 9 (f ∷ fs) → k < length (f ∷ fs) → field_at (suc k) (letter ∷ tabbed (f ∷ fs)) ≡ get_or (f ∷ fs) k []
  line_field k f fs p h = ap (λ b. field_at k (cond b (tabbed (f ∷ fs)) (past 9 (tabbed (f ∷ fs))))) other ∙ field_found k f fs p h

  line_count : (fs : List (List ℕ)) → Free 9 fs → field_count (letter ∷ tabbed fs) ≡ length fs + 1
  line_count fs p = ap (λ b. cond b (1 + marks 9 (tabbed fs)) (marks 9 (tabbed fs)) + 1) other ∙ ap (λ n. n + 1) (tabs_found fs p)

  priced_back : (o : PricedOrder) → all_fit (priced_numbers o) ≡ true → priced_in (letter ∷ tabbed (priced_fields o)) ≡ Ok o
  priced_back o e =
      let a : o.member ≤ 9999999 = grind (arith, nat_tests) in
      let b : o.price ≤ 9999999 = grind (arith, nat_tests) in
      let c : o.shares ≤ 9999999 = grind (arith, nat_tests) in
      let free = priced_free 9 (omega arith) o e in
      let s = side_letter o.side ∷ [] in
      let more = decimal o.member ∷ decimal o.price ∷ decimal o.shares ∷ [] in
      let line = letter ∷ tabbed (priced_fields o) in
      let p1 : side_in (field_at 1 line) ≡ Some o.side = ap side_in (line_field 0 s more free (omega arith)) ∙ side_reads o.side in
      let p2 : number_in (field_at 2 line) ≡ Some o.member = ap number_in (line_field 1 s more free (omega arith)) ∙ reads_back o.member a in
      let p3 : number_in (field_at 3 line) ≡ Some o.price = ap number_in (line_field 2 s more free (omega arith)) ∙ reads_back o.price b in
      let p4 : number_in (field_at 4 line) ≡ Some o.shares = ap number_in (line_field 3 s more free (omega arith)) ∙ reads_back o.shares c in
      cc

  pair_back : (m n : ℕ) → m ≤ 9999999 → n ≤ 9999999 → pair_in (letter ∷ tabbed (decimal m ∷ decimal n ∷ [])) ≡ Ok (m, n)
  pair_back m n a b =
      let free : Free 9 (decimal m ∷ decimal n ∷ []) = (number_free 9 (omega arith) m a, (number_free 9 (omega arith) n b, tt)) in
      let line = letter ∷ tabbed (decimal m ∷ decimal n ∷ []) in
      let p1 : number_in (field_at 1 line) ≡ Some m = ap number_in (line_field 0 (decimal m) (decimal n ∷ []) free (omega arith)) ∙ reads_back m a in
      let p2 : number_in (field_at 2 line) ≡ Some n = ap number_in (line_field 1 (decimal m) (decimal n ∷ []) free (omega arith)) ∙ reads_back n b in
      cc

-- a line with the count of fields that its kind asks
counted : (n k : ℕ) (x : Result Record LineFault) (r : Record) → n ≡ k → x ≡ Ok r → cond (eqb n k) x (Err (fault_at FieldCount 0)) ≡ Ok r
counted n k x r e is = ap (λ b. cond b x (Err (fault_at FieldCount 0))) (eq-eqb n k e) ∙ is

pub record_back : (r : Record) → all_fit (numbers_of r) ≡ true → record_in (bytes_for r) ≡ Ok r
record_back (Set class column last) e =
    let a : class ≤ 9999999 = grind (arith, nat_tests) in
    let b : last ≤ 9999999 = grind (arith, nat_tests) in
    let free = fields_free 9 (omega arith) (Set class column last) e in
    let k = column_letter column ∷ [] in
    let line = bytes_for (Set class column last) in
    let p1 : number_in (field_at 1 line) ≡ Some class = ap number_in (line_field 71 refl 0 (decimal class) (k ∷ decimal last ∷ []) free (omega arith)) ∙ reads_back class a in
    let p2 : column_in (field_at 2 line) ≡ Some column = ap column_in (line_field 71 refl 1 (decimal class) (k ∷ decimal last ∷ []) free (omega arith)) ∙ column_reads column in
    let p3 : number_in (field_at 3 line) ≡ Some last = ap number_in (line_field 71 refl 2 (decimal class) (k ∷ decimal last ∷ []) free (omega arith)) ∙ reads_back last b in
    counted (field_count line) 4 (set_in line) (Set class column last) (line_count 71 refl (fields_for (Set class column last)) free)
    (cc)
record_back (Limit o) e = counted (field_count (bytes_for (Limit o))) 5 _ (Limit o) (line_count 78 refl (priced_fields o) (priced_free 9 (omega arith) o e)) (ap (as_record Limit) (priced_back 78 refl o e))
record_back (ImmediateOrCancel o) e = counted (field_count (bytes_for (ImmediateOrCancel o))) 5 _ (ImmediateOrCancel o) (line_count 73 refl (priced_fields o) (priced_free 9 (omega arith) o e)) (ap (as_record ImmediateOrCancel) (priced_back 73 refl o e))
record_back (Stop o) e = counted (field_count (bytes_for (Stop o))) 5 _ (Stop o) (line_count 84 refl (priced_fields o) (priced_free 9 (omega arith) o e)) (ap (as_record Stop) (priced_back 84 refl o e))
record_back (Market side member shares) e =
    let a : member ≤ 9999999 = grind (arith, nat_tests) in
    let b : shares ≤ 9999999 = grind (arith, nat_tests) in
    let free = fields_free 9 (omega arith) (Market side member shares) e in
    let s = side_letter side ∷ [] in
    let line = bytes_for (Market side member shares) in
    let p1 : side_in (field_at 1 line) ≡ Some side = ap side_in (line_field 77 refl 0 s (decimal member ∷ decimal shares ∷ []) free (omega arith)) ∙ side_reads side in
    let p2 : number_in (field_at 2 line) ≡ Some member = ap number_in (line_field 77 refl 1 s (decimal member ∷ decimal shares ∷ []) free (omega arith)) ∙ reads_back member a in
    let p3 : number_in (field_at 3 line) ≡ Some shares = ap number_in (line_field 77 refl 2 s (decimal member ∷ decimal shares ∷ []) free (omega arith)) ∙ reads_back shares b in
    counted (field_count line) 4 (market_in line) (Market side member shares) (line_count 77 refl (fields_for (Market side member shares)) free)
    (cc)
record_back (Cancel member number) e =
    let a : member ≤ 9999999 = grind (arith, nat_tests) in
    let b : number ≤ 9999999 = grind (arith, nat_tests) in
    counted (field_count (bytes_for (Cancel member number))) 3 _ (Cancel member number) (line_count 67 refl (fields_for (Cancel member number)) (fields_free 9 (omega arith) (Cancel member number) e)) (ap (as_record (λ p. Cancel p.0 p.1)) (pair_back 67 refl member number a b))
record_back (FloorTrade price shares) e =
    let a : price ≤ 9999999 = grind (arith, nat_tests) in
    let b : shares ≤ 9999999 = grind (arith, nat_tests) in
    counted (field_count (bytes_for (FloorTrade price shares))) 3 _ (FloorTrade price shares) (line_count 70 refl (fields_for (FloorTrade price shares)) (fields_free 9 (omega arith) (FloorTrade price shares) e)) (ap (as_record (λ p. FloorTrade p.0 p.1)) (pair_back 70 refl price shares a b))
record_back Resume e = refl
record_back Open e = refl
record_back Close e = refl

-- no line that is written holds a line's end
letter_first : (r : Record) → marks 10 (bytes_for r) ≡ marks 10 (tabbed (fields_for r))
letter_first r =
    let high = kind_spelling.high (kind_for r) in
    let rest = marks 10 (tabbed (fields_for r)) in
    ap (λ b. cond b (1 + rest) rest) (ne_eqb (kind_letter (kind_for r)) 10 (λ e. omega arith))

module _ (r : Record) (fits : all_fit (numbers_of r) ≡ true) where
  one_line : marks 10 (bytes_for r) ≡ 0
  one_line = letter_first r ∙ lines_free (fields_for r) (fields_free 10 (omega arith) r fits)

  pub text_back : (after : List ℕ) → read_of ((bytes_for r ++ 10 ∷ []) ++ after) ≡ Ok (r, after)
  text_back after =
      let text : List ℕ = bytes_for r ++ 10 ∷ after in
      let line : line_of text ≡ bytes_for r = up_to_free 10 (bytes_for r) after one_line in
      let rest : rest_of text ≡ after = past_free 10 (bytes_for r) after one_line in
      let some : eqb (length text) 0 ≡ false = ne_eqb (length text) 0 (λ none. omega arith) in
      ap read_of (append_assoc (bytes_for r) (10 ∷ []) after) ∙ ap (λ b. cond b (Err (record { cause = EmptyText; field = 0; next = 0 })) (read_as (record_in (line_of text)) text)) some ∙ ap (λ x. read_as x text) (ap record_in line ∙ record_back r fits) ∙ ap (λ l. Ok (r, l)) rest

  -- whatever the buffer was, the written line reads back
  pub written_back : (line entry : List ℕ) → line ≡ bytes_for r ++ 10 ∷ [] → (answer : Result ℕ Refusal) (exit : List ℕ) → answer ≡ put_length (Ok line) entry → exit ≡ put_buffer (Ok line) entry → ReadsBack r answer entry exit
  written_back line entry is answer exit p q = go (leb (length line) (length entry)) p q
    where
      go : (b : Bool) → answer ≡ cond b (Ok (length line)) (Err BufferTooShort) → exit ≡ cond b (line ++ drop (length line) entry) entry → ReadsBack r answer entry exit
      go true ok wrote = subst (λ a. ReadsBack r a entry exit) (sym ok) (ap read_of (wrote ∙ ap (λ l. l ++ drop (length line) entry) is) ∙ text_back (drop (length line) entry))
      go false short kept = subst (λ a. ReadsBack r a entry exit) (sym short) kept
