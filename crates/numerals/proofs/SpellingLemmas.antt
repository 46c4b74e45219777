-- The decimal text of a number is its one spelling.
use Rattle.std.proofs.Common.{◌≡◌, ℕ, ◌<◌, ◌≤◌, ◌^◌, true, false, not, List, [], ◌∷◌, length, get_or, Some, None, refl, sym, ap, ◌∙◌, arith, inl, inr, eq-eqb, decimal}
use Rattle.std.specs.Prelude.{nat_le, ◌==◌, ◌&&◌}
use Rattle.std.specs.Str.{all_ascii_digits}
use Rattle.std.specs.Str.Parse.{digits_value}
use Rattle.std.specs.List.{AllByRecursion}
use Rattle.std.proofs.lemmas.Bool.{and_parts, cases_eq}
use Rattle.std.proofs.lemmas.Bool.Decides.{nat_tests}
use Rattle.std.proofs.lemmas.Option.{cond_some}
use Rattle.std.proofs.lemmas.Str.Parse.{IsNumeralModel, numerals_by_value, tells_all_ascii_digits}
use Rattle.std.proofs.lemmas.Fmt.{digits_decimal, digits_value-decimal, decimal-digits_value, decimal_nonempty, first_decimal, decimal_digit}
use Rattle.numerals.specs.Numeral.{is_numeral, number_of, OneNumber}

-- the test for digits alone, and their value, mean what the library's words do
own : IsNumeralModel (λ ds. all_ascii_digits ds ≡ true) (λ ds. digits_value 10 ds)
own = numerals_by_value (λ ds. all_ascii_digits ds ≡ true) tells_all_ascii_digits

-- a text that begins with the digit 0 has no other byte
abbrev OneZero : List ℕ → Type 0
OneZero ds = get_or ds 0 0 ≡ 48 → length ds ≡ 1

-- digits, at least one, without a leading zero are a numeral
numeral_from : (ds : List ℕ) → all_ascii_digits ds ≡ true → 0 < length ds → OneZero ds
    → is_numeral ds ≡ true
numeral_from [] digits some zero_alone = absurd (omega (arith, some))
numeral_from (d ∷ []) digits some zero_alone = digits
numeral_from (d ∷ e ∷ ds) digits some zero_alone = elim (cases_eq d 48) [
  | inl is ↦ absurd (omega (arith, zero_alone is))
  | inr other ↦ let t : (d == 48) ≡ false = grind (arith, nat_tests) in rw (t, digits) refl
]

-- a numeral is digits, at least one, without a leading zero
numeral_to : (ds : List ℕ) → is_numeral ds ≡ true → (all_ascii_digits ds ≡ true) × (0 < length ds)
    × OneZero ds
numeral_to [] is = absurd cc
numeral_to (d ∷ []) is = (is, omega arith, λ z. refl)
numeral_to (d ∷ e ∷ ds) is =
    let parts = and_parts (not (d == 48)) (all_ascii_digits (d ∷ e ∷ ds)) is in (
      parts.1,
      omega arith,
      λ z. let t : (d == 48) ≡ true = eq-eqb d 48 z in
          let f : not (d == 48) ≡ false = rw t refl in absurd cc,
    )

-- the decimal text of a number below 2 ^ 64 is a numeral
decimal_numeral : (n : ℕ) → n < 2 ^ 64 → is_numeral (decimal n) ≡ true
decimal_numeral n small =
    numeral_from (decimal n) (digits_decimal own n small) (decimal_nonempty n small) (λ z.
    elim (cases_eq n 0) [
      | inl is ↦ rw (is, decimal_digit 0 (omega arith)) refl
      | inr other ↦ absurd (omega (arith, z, first_decimal n (omega (arith, other)) small))
    ])

-- the decimal text of a number from least to greatest writes that number
spelled : (least greatest n : ℕ) → greatest < 2 ^ 64 → least ≤ n → n ≤ greatest
    → number_of least greatest (decimal n) ≡ Some n
unfolding number_of
spelled least greatest n wide from_least to_greatest =
    let small : n < 2 ^ 64 = omega (arith, to_greatest, wide) in
    let value : digits_value 10 (decimal n) ≡ n = digits_value-decimal own n small in
    let low : nat_le least n ≡ true = grind (arith, nat_tests, from_least) in
    let high : nat_le n greatest ≡ true = grind (arith, nat_tests, to_greatest) in
    rw (decimal_numeral n small, value, low, high) refl

-- a text that writes a number is its decimal text, and the number is from least to greatest
taken : (least greatest n : ℕ) (text : List ℕ) → greatest < 2 ^ 64
    → number_of least greatest text ≡ Some n → (decimal n ≡ text) × (least ≤ n) × (n ≤ greatest)
unfolding number_of
taken least greatest n text wide is =
    let got = cond_some (is_numeral text && nat_le (digits_value 10 text) greatest
    && nat_le least (digits_value 10 text)) (digits_value 10 text) n is in
    let two = and_parts (is_numeral text && nat_le (digits_value 10 text) greatest)
    (nat_le least (digits_value 10 text)) got.0 in
    let one = and_parts (is_numeral text) (nat_le (digits_value 10 text) greatest) two.0 in
    let numeral = numeral_to text one.0 in
    let low : least ≤ digits_value 10 text = grind (arith, nat_tests, two.1) in
    let high : digits_value 10 text ≤ greatest = grind (arith, nat_tests, one.1) in
    let back : decimal (digits_value 10 text) ≡ text =
    decimal-digits_value own text numeral.0 numeral.1 numeral.2 (omega (arith, high, wide)) in
    (ap (λ k. decimal k) (sym got.1) ∙ back, omega (arith, low, got.1), omega (arith, high, got.1))

-- each byte of digits alone is from 48 to 57
are_digits : (ds : List ℕ) → all_ascii_digits ds ≡ true
    → AllByRecursion (λ b. (48 ≤ b) × (b ≤ 57)) ds
are_digits [] all = tt
are_digits (d ∷ ds) all =
    let parts = and_parts _ (all_ascii_digits ds) all in
    ((grind (arith, nat_tests, parts.0), grind (arith, nat_tests, parts.0)), are_digits ds parts.1)

-- each byte of a decimal text is from 48 to 57
decimal_digits : (n : ℕ) → n < 2 ^ 64 → AllByRecursion (λ b. (48 ≤ b) × (b ≤ 57)) (decimal n)
decimal_digits n small = are_digits (decimal n) (digits_decimal own n small)

-- the empty text writes no number
empty_is_none : (least greatest : ℕ) → number_of least greatest [] ≡ None
unfolding number_of
empty_is_none least greatest = refl

-- a text that begins with a minus sign writes no number
minus_is_none : (least greatest : ℕ) (text : List ℕ)
    → number_of least greatest (45 ∷ text) ≡ None
unfolding number_of
minus_is_none least greatest [] = refl
minus_is_none least greatest (d ∷ ds) = refl

-- numbers have one spelling
pub numbers_spell : OneNumber
numbers_spell = record {
  again = spelled;
  takes = taken;
  digits = decimal_digits;
  no_digits = empty_is_none;
  no_minus = minus_is_none;
}
