-- Numbers in a field: what one more digit does, and both round trips. Assumes nothing.
use Rattle.std.proofs.Common.{◌≡◌, ℕ, ◌^◌, ◌<◌, ◌≤◌, true, false, cond, List, length, get_or, Some, None, decimal, sym, ap, ◌∙◌, subst, ⊎_elim, arith, rules}
use native.Mathlib.Nat.{pow-le-pow_right}
use Rattle.std.specs.Str.{all_ascii_digits}
use Rattle.std.proofs.lemmas.Bool.Decides.{nat_tests}
use Rattle.std.proofs.lemmas.Bool.{cases_Bool, cases_lt}
use Rattle.std.proofs.lemmas.Str.Parse.{IsNumeralModel, numerals_by_fold, tells_all_ascii_digits, digits_value_short}
use Rattle.std.proofs.lemmas.Fmt.{first_decimal, decimal_digit, decimal_nonempty, length-decimal-le, digits_decimal, digits_value-decimal, decimal-digits_value}
use Rattle.text.specs.Numbers.{value_on, is_numeral, number_in}

own : IsNumeralModel (λ ds. all_ascii_digits ds ≡ true) (value_on 0)
own = numerals_by_fold _ tells_all_ascii_digits value_on (search rules)

is_number : (bs : List ℕ) → is_numeral bs ≡ true → number_in bs ≡ Some (value_on 0 bs)
is_number bs numeral = ap (λ b. cond b (Some (value_on 0 bs)) None) numeral

-- before the last of seven digits
pub ten_room : (n i : ℕ) → n < 10 ^ i → i < 7 → n < 1000000
ten_room n i h k = let le : 10 ^ i ≤ 10 ^ 6 = pow-le-pow_right {n = 10} (omega arith) {i = i} {j = 6} (omega arith) in omega arith

first_zero : (n : ℕ) → n < 2 ^ 64 → get_or (decimal n) 0 0 ≡ 48 → length (decimal n) ≤ 1
first_zero n h z =
    ⊎_elim
    (λ (pos : 0 < n). absurd (omega (arith, first_decimal n pos h)))
    (λ (none : n ≤ 0). let e : length (decimal n) ≡ 1 = ap length (decimal_digit n (omega arith)) in omega arith)
    (cases_lt 0 n)

-- what is written is read back
pub reads_back : (n : ℕ) → n ≤ 9999999 → number_in (decimal n) ≡ Some n
reads_back n h =
    let small : n < 2 ^ 64 = omega arith in
    let some : 0 < length (decimal n) = decimal_nonempty n small in
    let short : length (decimal n) ≤ 7 = length-decimal-le 7 n (omega arith) (omega arith) small in
    let first : get_or (decimal n) 0 0 ≡ 48 → length (decimal n) ≤ 1 = first_zero n small in
    let digits : all_ascii_digits (decimal n) ≡ true = digits_decimal own n small in
    is_number (decimal n) (grind (arith, nat_tests)) ∙ ap Some (digits_value-decimal own n small)

-- what is read is written back
pub writes_back : (bs : List ℕ) (n : ℕ) → number_in bs ≡ Some n → decimal n ≡ bs
writes_back bs n e =
    ⊎_elim
    (λ (t : is_numeral bs ≡ true).
    let is : Some (value_on 0 bs) ≡ Some n = subst (λ b. cond b (Some (value_on 0 bs)) None ≡ Some n) t e in
    let same : value_on 0 bs ≡ n = cc in
    let digits : all_ascii_digits bs ≡ true = grind (arith, nat_tests) in
    let short : length bs ≤ 7 = grind (arith, nat_tests) in
    let some : 0 < length bs = grind (arith, nat_tests) in
    let first : get_or bs 0 0 ≡ 48 → length bs ≡ 1 = λ z. grind (arith, nat_tests) in
    ap decimal (sym same) ∙ decimal-digits_value own bs digits some first (omega (arith, digits_value_short own bs 7 digits short)))
    (λ (f : is_numeral bs ≡ false). let no' : None ≡ Some n = subst (λ b. cond b (Some (value_on 0 bs)) None ≡ Some n) f e in cc)
    (cases_Bool (is_numeral bs))

pub decimal_digits : (n : ℕ) → n < 2 ^ 64 → all_ascii_digits (decimal n) ≡ true
decimal_digits n h = digits_decimal own n h

pub number_fits : (bs : List ℕ) (n : ℕ) → number_in bs ≡ Some n → n ≤ 9999999
number_fits bs n e =
    ⊎_elim
    (λ (t : is_numeral bs ≡ true).
    let is : Some (value_on 0 bs) ≡ Some n = subst (λ b. cond b (Some (value_on 0 bs)) None ≡ Some n) t e in
    let same : value_on 0 bs ≡ n = cc in
    let digits : all_ascii_digits bs ≡ true = grind (arith, nat_tests) in
    let short : length bs ≤ 7 = grind (arith, nat_tests) in
    omega (arith, digits_value_short own bs 7 digits short))
    (λ (f : is_numeral bs ≡ false). let no' : None ≡ Some n = subst (λ b. cond b (Some (value_on 0 bs)) None ≡ Some n) f e in cc)
    (cases_Bool (is_numeral bs))
