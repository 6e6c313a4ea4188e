-- A record that was read writes its own line again. Assumes nothing.
use Rattle.std.proofs.Common.{◌≡◌, ℕ, ◌≤◌, Bool, true, false, cond, ◌&&◌, eqb, leb, List, [], ◌∷◌, ◌++◌, length, get_or, Some, None, Ok, Err, decimal, Option, Result, sym, refl, ap, ◌∙◌, subst, arith}
use Rattle.std.proofs.lemmas.Bool.Decides.{nat_tests}
use Rattle.market.specs.declared.words.Side.{Side}
use Rattle.market.specs.declared.words.Column.{Column}
use Rattle.text.specs.declared.refusal.Refusal.TheVariants.{FieldCount, NumberTooLarge}
use Rattle.market.specs.declared.words.PricedOrder.{PricedOrder}
use Rattle.text.specs.declared.record.Record.{Record}
use Rattle.text.specs.declared.record.Record.TheVariants.{Set, Limit, ImmediateOrCancel, Stop, Market, Cancel, FloorTrade, Resume, Open, Close}
use Rattle.text.specs.declared.record.RecordKind.{RecordKind}
use Rattle.text.specs.declared.record.RecordKind.TheVariants.{Set as SetKind, Limit as LimitKind, ImmediateOrCancel as ImmediateKind, Stop as StopKind, Market as MarketKind, Cancel as CancelKind, FloorTrade as FloorKind, Resume as ResumeKind, Open as OpenKind, Close as CloseKind}
use Rattle.text.specs.declared.fault.LineFault.{LineFault}
use Rattle.text.specs.Cuts.{up_to, past, marks, field_at, field_count}
use Rattle.text.specs.Numbers.{number_in}
use Rattle.text.specs.Letters.{only_byte, named, kind_in, side_in, column_in, kind_letter, side_letter, column_letter, fields_of}
use Rattle.text.specs.Spelling.{IsSpelling}
use Rattle.text.specs.Spelled.{kind_spelling, side_spelling, column_spelling}
use Rattle.text.specs.Reading.{fault_at, set_from, set_in, priced_from, priced_in, market_from, market_in, pair_from, pair_in, as_record, fields_as, record_as, record_in}
use Rattle.text.specs.Written.{tabbed, priced_fields, bytes_for, all_fit, priced_numbers, numbers_of, line_for}
use Rattle.text.proofs.Numerals.{writes_back, number_fits}
use Rattle.text.proofs.Fields.{fields_from, fields_joined}

-- letters ---------------------------------------------------------------------------------------------------------------
one_byte : (f : List ℕ) → length f ≡ 1 → f ≡ get_or f 0 0 ∷ []
one_byte [] e = absurd (omega arith)
one_byte (c ∷ []) e = refl
one_byte (c ∷ d ∷ more) e = absurd (omega arith)

-- a field of one letter is that letter
field_is : {K : Type 0} {meaning : ℕ → Option K} {letter : K → ℕ} → IsSpelling meaning letter → (f : List ℕ) (k : K) → named meaning (only_byte f) ≡ Some k → letter k ∷ [] ≡ f
field_is {meaning = meaning} {letter = letter} spelling f k e = go (eqb (length f) 1) refl e
  where
    go : (b : Bool) → eqb (length f) 1 ≡ b → named meaning (cond b (Some (get_or f 0 0)) None) ≡ Some k → letter k ∷ [] ≡ f
    go true one found = let l : length f ≡ 1 = grind (arith, nat_tests) in sym (one_byte f l ∙ ap (λ c. c ∷ []) (spelling.writes_back (get_or f 0 0) k found))
    go false one found = cc

side_field : (f : List ℕ) (s : Side) → side_in f ≡ Some s → side_letter s ∷ [] ≡ f
side_field = field_is side_spelling

column_field : (f : List ℕ) (k : Column) → column_in f ≡ Some k → column_letter k ∷ [] ≡ f
column_field = field_is column_spelling

kind_field : (f : List ℕ) (k : RecordKind) → kind_in f ≡ Some k → kind_letter k ∷ [] ≡ f
kind_field = field_is kind_spelling

-- fields ----------------------------------------------------------------------------------------------------------------
-- what was written of a record is the line, and each number fits
pub record Again (line : List ℕ) (r : Record) : Type 0 where
  pub fits : all_fit (numbers_of r) ≡ true
  pub same : bytes_for r ≡ line

line_again : (letter n : ℕ) (line : List ℕ) (fs : List (List ℕ)) → letter ∷ [] ≡ up_to 9 line → marks 9 line ≡ n → fs ≡ fields_from n (past 9 line) → letter ∷ tabbed fs ≡ line
line_again letter n line fs is m e = ap (λ f. letter ∷ tabbed f) e ∙ ap (λ l. l ++ tabbed (fields_from n (past 9 line))) is ∙ sym (fields_joined n line m)

set_parts : (G : Type 0) (a : Option ℕ) (b : Option Column) (c : Option ℕ) (r : Record) → set_from a b c ≡ Ok r → ((x : ℕ) (k : Column) (y : ℕ) → a ≡ Some x → b ≡ Some k → c ≡ Some y → Set x k y ≡ r → G) → G
set_parts G None b c r e next = cc
set_parts G (Some x) None c r e next = cc
set_parts G (Some x) (Some k) None r e next = cc
set_parts G (Some x) (Some k) (Some y) r e next = next x k y refl refl refl (cc)

priced_parts : (G : Type 0) (a : Option Side) (b c d : Option ℕ) (o : PricedOrder) → priced_from a b c d ≡ Ok o → (a ≡ Some o.side → b ≡ Some o.member → c ≡ Some o.price → d ≡ Some o.shares → G) → G
priced_parts G None b c d o e next = cc
priced_parts G (Some s) None c d o e next = cc
priced_parts G (Some s) (Some m) None d o e next = cc
priced_parts G (Some s) (Some m) (Some p) None o e next = cc
priced_parts G (Some s) (Some m) (Some p) (Some q) o e next =
    let is : record { side = s; member = m; price = p; shares = q } ≡ o = cc in
    next (ap (λ (x : PricedOrder). Some x.side) is) (ap (λ (x : PricedOrder). Some x.member) is) (ap (λ (x : PricedOrder). Some x.price) is) (ap (λ (x : PricedOrder). Some x.shares) is)

market_parts : (G : Type 0) (a : Option Side) (b c : Option ℕ) (r : Record) → market_from a b c ≡ Ok r → ((s : Side) (x y : ℕ) → a ≡ Some s → b ≡ Some x → c ≡ Some y → Market s x y ≡ r → G) → G
market_parts G None b c r e next = cc
market_parts G (Some s) None c r e next = cc
market_parts G (Some s) (Some x) None r e next = cc
market_parts G (Some s) (Some x) (Some y) r e next = next s x y refl refl refl (cc)

pair_parts : (G : Type 0) (a b : Option ℕ) (p : ℕ × ℕ) → pair_from a b ≡ Ok p → (a ≡ Some p.0 → b ≡ Some p.1 → G) → G
pair_parts G None b p e next = cc
pair_parts G (Some x) None p e next = cc
pair_parts G (Some x) (Some y) p e next =
    let is : ◌≡◌ {A = ℕ × ℕ} (x, y) p = cc in
    next (ap (λ (q : ℕ × ℕ). Some q.0) is) (ap (λ (q : ℕ × ℕ). Some q.1) is)

made_from : {A : Type 0} (G : Type 0) (made : A → Record) (x : Result A LineFault) (r : Record) → as_record made x ≡ Ok r → ((a : A) → x ≡ Ok a → made a ≡ r → G) → G
made_from G made (Ok a) r e next = next a refl (cc)
made_from G made (Err f) r e next = cc

-- by kind ---------------------------------------------------------------------------------------------------------------
fit_one : (n : ℕ) (others : Bool) → n ≤ 9999999 → others ≡ true → (leb n 9999999 && others) ≡ true
fit_one n others h e = grind (arith, nat_tests)

fit_number : (f : List ℕ) (n : ℕ) (others : Bool) → number_in f ≡ Some n → others ≡ true → (leb n 9999999 && others) ≡ true
fit_number f n others e rest = fit_one n others (number_fits f n e) rest

module _ (line : List ℕ) where
  set_again : (r : Record) → 71 ∷ [] ≡ up_to 9 line → marks 9 line ≡ 3 → set_in line ≡ Ok r → Again line r
  set_again r is m e =
      set_parts (Again line r) (number_in (field_at 1 line)) (column_in (field_at 2 line)) (number_in (field_at 3 line)) r e
      (λ x k y p q s made. subst (Again line) made (record {
        fits = fit_number (field_at 1 line) x _ p (fit_number (field_at 3 line) y true s refl);
        same = line_again 71 3 line (decimal x ∷ (column_letter k ∷ []) ∷ decimal y ∷ []) is m (let a = writes_back (field_at 1 line) x p in let b = column_field (field_at 2 line) k q in let c = writes_back (field_at 3 line) y s in cc);
      }))

  market_again : (r : Record) → 77 ∷ [] ≡ up_to 9 line → marks 9 line ≡ 3 → market_in line ≡ Ok r → Again line r
  market_again r is m e =
      market_parts (Again line r) (side_in (field_at 1 line)) (number_in (field_at 2 line)) (number_in (field_at 3 line)) r e
      (λ k x y p q s made. subst (Again line) made (record {
        fits = fit_number (field_at 2 line) x _ q (fit_number (field_at 3 line) y true s refl);
        same = line_again 77 3 line ((side_letter k ∷ []) ∷ decimal x ∷ decimal y ∷ []) is m (let a = side_field (field_at 1 line) k p in let b = writes_back (field_at 2 line) x q in let c = writes_back (field_at 3 line) y s in cc);
      }))

  -- orders with a price, and pairs of numbers, whatever their letter
  priced_again : (letter : ℕ) (o : PricedOrder) → letter ∷ [] ≡ up_to 9 line → marks 9 line ≡ 4 → priced_in line ≡ Ok o → (all_fit (priced_numbers o) ≡ true) × (letter ∷ tabbed (priced_fields o) ≡ line)
  priced_again letter o is m e =
      priced_parts _ (side_in (field_at 1 line)) (number_in (field_at 2 line)) (number_in (field_at 3 line)) (number_in (field_at 4 line)) o e
      (λ p q s t. (
        fit_number (field_at 2 line) o.member _ q (fit_number (field_at 3 line) o.price _ s (fit_number (field_at 4 line) o.shares true t refl)),
        line_again letter 4 line (priced_fields o) is m (let a = side_field (field_at 1 line) o.side p in let b = writes_back (field_at 2 line) o.member q in let c = writes_back (field_at 3 line) o.price s in let d = writes_back (field_at 4 line) o.shares t in cc),
      ))

  pair_again : (letter : ℕ) (p : ℕ × ℕ) → letter ∷ [] ≡ up_to 9 line → marks 9 line ≡ 2 → pair_in line ≡ Ok p → (all_fit (p.0 ∷ p.1 ∷ []) ≡ true) × (letter ∷ tabbed (decimal p.0 ∷ decimal p.1 ∷ []) ≡ line)
  pair_again letter p is m e =
      pair_parts _ (number_in (field_at 1 line)) (number_in (field_at 2 line)) p e
      (λ q s. (
        fit_number (field_at 1 line) p.0 _ q (fit_number (field_at 2 line) p.1 true s refl),
        line_again letter 2 line (decimal p.0 ∷ decimal p.1 ∷ []) is m (let a = writes_back (field_at 1 line) p.0 q in let b = writes_back (field_at 2 line) p.1 s in cc),
      ))

  order_again : (made : PricedOrder → Record) (letter : ℕ) (r : Record) → letter ∷ [] ≡ up_to 9 line → marks 9 line ≡ 4 → as_record made (priced_in line) ≡ Ok r → ((o : PricedOrder) → (all_fit (priced_numbers o) ≡ true) × (letter ∷ tabbed (priced_fields o) ≡ line) → Again line (made o)) → Again line r
  order_again made letter r is m e next = made_from (Again line r) made (priced_in line) r e (λ o found same. subst (Again line) same (next o (priced_again letter o is m found)))

  numbers_again : (made : ℕ × ℕ → Record) (letter : ℕ) (r : Record) → letter ∷ [] ≡ up_to 9 line → marks 9 line ≡ 2 → as_record made (pair_in line) ≡ Ok r → ((p : ℕ × ℕ) → (all_fit (p.0 ∷ p.1 ∷ []) ≡ true) × (letter ∷ tabbed (decimal p.0 ∷ decimal p.1 ∷ []) ≡ line) → Again line (made p)) → Again line r
  numbers_again made letter r is m e next = made_from (Again line r) made (pair_in line) r e (λ p found same. subst (Again line) same (next p (pair_again letter p is m found)))

  bare_again : (letter : ℕ) → letter ∷ [] ≡ up_to 9 line → marks 9 line ≡ 0 → letter ∷ [] ≡ line
  bare_again letter is m = line_again letter 0 line [] is m refl

  by_kind : (k : RecordKind) (r : Record) → kind_letter k ∷ [] ≡ up_to 9 line → field_count line ≡ fields_of k → fields_as k line ≡ Ok r → Again line r
  by_kind SetKind r is m e = set_again r is (omega arith) e
  by_kind LimitKind r is m e = order_again Limit 78 r is (omega arith) e (λ o p. record { fits = p.0; same = p.1 })
  by_kind ImmediateKind r is m e = order_again ImmediateOrCancel 73 r is (omega arith) e (λ o p. record { fits = p.0; same = p.1 })
  by_kind StopKind r is m e = order_again Stop 84 r is (omega arith) e (λ o p. record { fits = p.0; same = p.1 })
  by_kind MarketKind r is m e = market_again r is (omega arith) e
  by_kind CancelKind r is m e = numbers_again (λ p. Cancel p.0 p.1) 67 r is (omega arith) e (λ o p. record { fits = p.0; same = p.1 })
  by_kind FloorKind r is m e = numbers_again (λ p. FloorTrade p.0 p.1) 70 r is (omega arith) e (λ o p. record { fits = p.0; same = p.1 })
  by_kind ResumeKind r is m e = subst (Again line) (let x : Resume ≡ r = cc in x) (record { fits = refl; same = bare_again 82 is (omega arith) })
  by_kind OpenKind r is m e = subst (Again line) (let x : Open ≡ r = cc in x) (record { fits = refl; same = bare_again 79 is (omega arith) })
  by_kind CloseKind r is m e = subst (Again line) (let x : Close ≡ r = cc in x) (record { fits = refl; same = bare_again 90 is (omega arith) })

  counted_again : (k : RecordKind) (r : Record) → kind_letter k ∷ [] ≡ up_to 9 line → (b : Bool) → eqb (field_count line) (fields_of k) ≡ b → cond b (fields_as k line) (Err (fault_at FieldCount 0)) ≡ Ok r → Again line r
  counted_again k r is true t e = by_kind k r is (let n : field_count line ≡ fields_of k = grind (arith, nat_tests) in n) e
  counted_again k r is false t e = cc

  kinded_again : (r : Record) (k : Option RecordKind) → kind_in (up_to 9 line) ≡ k → record_as k line ≡ Ok r → Again line r
  kinded_again r None is e = cc
  kinded_again r (Some k) is e = counted_again k r (kind_field (up_to 9 line) k is) (eqb (field_count line) (fields_of k)) refl e

  pub record_again : (r : Record) → record_in line ≡ Ok r → Again line r
  record_again r e = kinded_again r (kind_in (up_to 9 line)) refl e

pub line_for_again : (line : List ℕ) (r : Record) → record_in line ≡ Ok r → line_for r ≡ Ok (line ++ 10 ∷ [])
line_for_again line r e =
    let a = record_again line r e in
    ap (λ b. cond b (Ok (bytes_for r ++ 10 ∷ [])) (Err NumberTooLarge)) a.fits ∙ ap (λ l. Ok (l ++ 10 ∷ [])) a.same
