-- Digits read one by one.
use Rattle.std.proofs.Common.{◌≡◌, cond, ℕ, suc, ◌+◌, ◌-◌, ◌*◌, ◌^◌, ◌<◌, ◌≤◌, Bool, true, false, List, [], ◌∷◌, ◌++◌, length, get_or, take, drop, refl, sym, ap, subst, ◌∙◌, arith, inl, inr, not, Some, None}
use Rattle.std.specs.Prelude.{◌&&◌, ◌==◌, nat_le}
use Rattle.numerals.specs.Numeral.{digits_len, is_numeral, leading_digits, number_of}
use Rattle.std.proofs.Math.Nat.{pow-le-pow_right, pow-succ'}
use Rattle.std.specs.Char.{digit_value, is_ascii_digit}
use Rattle.std.specs.Str.{all_ascii_digits}
use Rattle.std.specs.Str.Parse.{digits_value, digits_value_after}
use Rattle.std.proofs.lemmas.Bool.Decides.{nat_tests}
use Rattle.std.proofs.lemmas.Bool.{cases_Bool, cases_lt, and_parts, leb-true}
use Rattle.std.proofs.lemmas.List.{take-append-drop, take-take, take_all}
use Rattle.std.proofs.lemmas.List.Sums.{prefix_len-le-length, prefix_len_passes, prefix_len_stops}
use Rattle.std.proofs.lemmas.Int.Digits.{digits_value_more}
use Rattle.std.proofs.lemmas.Str.{digit_value_digit}

-- ---- the digits in front of a text

-- a digit that follows digits in front is one of them too
pub digits_more : (text : List ℕ) (i : ℕ) → i ≤ digits_len text → i < length text
    → 48 ≤ get_or text i 0 → get_or text i 0 ≤ 57 → i + 1 ≤ digits_len text
digits_more text i far h low high =
    let n = digits_len text in
    let digit : is_ascii_digit (get_or text i 0) ≡ true = grind (arith, nat_tests) in
    elim (cases_lt i n) [
      | inl more ↦ omega arith
      | inr stop ↦
          let e : n ≡ i = omega arith in
          let within : n < length text = omega arith in
          let not : is_ascii_digit (get_or text i 0) ≡ false =
          subst (λ (k : ℕ). is_ascii_digit (get_or text k 0) ≡ false) e
          (prefix_len_stops is_ascii_digit text 0 within) in
          absurd cc
    ]

-- digits that no digit follows are all the digits in front
pub digits_stop : (text : List ℕ) (i : ℕ) → i ≤ digits_len text
    → is_ascii_digit (get_or text i 0) ≡ false → digits_len text ≡ i
digits_stop text i far not =
    let n = digits_len text in
    elim (cases_lt i n) [
      | inl more ↦ let is = prefix_len_passes is_ascii_digit text i 0 more in absurd cc
      | inr stop ↦ omega arith
    ]

-- the value of as many bytes as there are digits in front is the value of these
pub front_value : (text : List ℕ) (i value : ℕ) → digits_len text ≡ i
    → value ≡ digits_value 10 (take i text) → value ≡ digits_value 10 (leading_digits text)
front_value text i value is value_is =
    value_is ∙ ap (λ (k : ℕ). digits_value 10 (take k text)) (sym is)

-- with one digit more, the value is ten times what it was, and the digit
pub value_on : (text : List ℕ) (i value : ℕ) → i < length text
    → value ≡ digits_value 10 (take i text) → 48 ≤ get_or text i 0 → get_or text i 0 ≤ 57
    → digits_value 10 (take (i + 1) text) ≡ value * 10 + (get_or text i 0 - 48)
value_on text i value h is low high =
    omega (arith, digits_value_more 10 text i h, digit_value_digit (get_or text i 0) (low, high))

-- a power of ten with a digit more
pub power_more : (n : ℕ) → 10 ^ (n + 1) ≡ 10 * 10 ^ n
power_more n = let e : n + 1 ≡ suc n = omega arith in ap (λ (k : ℕ). 10 ^ k) e ∙ pow-succ' 10 n

-- the value of fewer than 8 digits is small
pub short_fits : (n value : ℕ) → value < 10 ^ n → n < 8 → value < 100000000
short_fits n value fits few =
    let some : 0 < 10 = omega arith in
    let low : n ≤ 8 = omega (arith, few) in
    let most : 10 ^ n ≤ 10 ^ 8 = pow-le-pow_right some low in
    omega (arith, fits, most)

-- further digits never make a value less
after_more : (n : ℕ) (ds : List ℕ) → n ≤ digits_value_after 10 n ds
after_more n [] = omega arith
after_more n (c ∷ ds) = omega (arith, after_more (n * 10 + digit_value c) ds)

-- two texts in a row: the second goes on from the value after the first
after_append : (n : ℕ) (a b : List ℕ)
    → digits_value_after 10 n (a ++ b) ≡ digits_value_after 10 (digits_value_after 10 n a) b
after_append n [] b = refl
after_append n (c ∷ a) b = after_append (n * 10 + digit_value c) a b

-- the first bytes of a text have no greater value than the whole
pub value_grows : (text : List ℕ) (i : ℕ) → digits_value 10 (take i text) ≤ digits_value 10 text
value_grows text i =
    let parts : digits_value 10 text ≡ digits_value_after 10 (digits_value 10 (take i text))
    (drop i text) =
    ap (λ (l : List ℕ). digits_value 10 l) (sym (take-append-drop i text))
    ∙ after_append 0 (take i text) (drop i text) in
    omega (arith, parts, after_more (digits_value 10 (take i text)) (drop i text))

-- the first ones of the digits in front have no greater value than all of them
pub front_grows : (text : List ℕ) (i : ℕ) → i ≤ digits_len text
    → digits_value 10 (take i text) ≤ digits_value 10 (leading_digits text)
front_grows text i far =
    let n = digits_len text in
    let front : take i (take n text) ≡ take i text = take-take i n text far in
    omega (arith, value_grows (take n text) i, ap (λ (l : List ℕ). digits_value 10 l) front)

-- ---- numbers with one spelling

-- a numeral has digits alone
digits_of_numeral : (text : List ℕ) → is_numeral text ≡ true → all_ascii_digits text ≡ true
digits_of_numeral [] is = absurd cc
digits_of_numeral (d ∷ []) is = is
digits_of_numeral (d ∷ e ∷ ds) is = (and_parts (not (d == 48)) (all_ascii_digits (d ∷ e ∷ ds)) is).1

-- a numeral whose value is from least to greatest writes that value
pub number_is : (least greatest value : ℕ) (text : List ℕ) → is_numeral text ≡ true
    → value ≡ digits_value 10 text → least ≤ value → value ≤ greatest
    → Some value ≡ number_of least greatest text
unfolding number_of
number_is least greatest value text numeral is low high =
    let l : nat_le least (digits_value 10 text) ≡ true = grind (arith, nat_tests, is) in
    let h : nat_le (digits_value 10 text) greatest ≡ true = grind (arith, nat_tests, is) in
    rw (numeral, h, l, is) refl

-- a text that can't be a numeral from least to greatest writes no number
pub number_not : (least greatest : ℕ) (text : List ℕ)
    → (all_ascii_digits text ≡ true → is_numeral text ≡ true → least ≤ digits_value 10 text
    → digits_value 10 text ≤ greatest → ⊥) → None ≡ number_of least greatest text
unfolding number_of
number_not least greatest text never =
    elim (cases_Bool (is_numeral text && nat_le (digits_value 10 text) greatest
    && nat_le least (digits_value 10 text))) [
      | inl all ↦
          let two = and_parts (is_numeral text && nat_le (digits_value 10 text) greatest)
          (nat_le least (digits_value 10 text)) all in
          let one = and_parts (is_numeral text) (nat_le (digits_value 10 text) greatest) two.0 in
          absurd (never (digits_of_numeral text one.0) one.0
          (leb-true least (digits_value 10 text) two.1)
          (leb-true (digits_value 10 text) greatest one.1))
      | inr some ↦ rw some refl
    ]

-- ---- the number in front of a text

-- the first 1 + n bytes are the first byte and n of the others
take_one : (n c : ℕ) (cs : List ℕ) → take (1 + n) (c ∷ cs) ≡ c ∷ take n cs
take_one n c cs = let e : 1 + n ≡ suc n = omega arith in ap (λ (k : ℕ). take k (c ∷ cs)) e

-- a digit and digits behind it are digits alone, and so is the empty text
all_front : (b : Bool) (n c : ℕ) (cs : List ℕ) → is_ascii_digit c ≡ b
    → all_ascii_digits (take n cs) ≡ true
    → all_ascii_digits (take (cond b (1 + n) 0) (c ∷ cs)) ≡ true
all_front true n c cs is all = rw (take_one n c cs, is, all) refl
all_front false n c cs is all = refl

-- the digits in front of a text are digits alone
all_leading : (text : List ℕ) → all_ascii_digits (leading_digits text) ≡ true
all_leading [] = refl
all_leading (c ∷ cs) = all_front (is_ascii_digit c) (digits_len cs) c cs refl (all_leading cs)

-- a test beside one that holds is that test
and_true : (b : Bool) → b ≡ (b && true)
and_true true = refl
and_true false = refl

-- two digits or more are a numeral just where the first isn't 0
plain_from : (c d k : ℕ) (cs : List ℕ) → all_ascii_digits (take (suc (suc k)) (c ∷ d ∷ cs)) ≡ true
    → not (c == 48) ≡ is_numeral (take (suc (suc k)) (c ∷ d ∷ cs))
plain_from c d k cs all = and_true (not (c == 48)) ∙ ap (λ (b : Bool). not (c == 48) && b) (sym all)

-- two digits or more in front of a text are a numeral just where the first isn't 0
pub plain_is : (text : List ℕ) → 1 < digits_len text
    → not (get_or text 0 0 == 48) ≡ is_numeral (leading_digits text)
plain_is [] more = absurd (omega (arith, more))
plain_is (c ∷ []) more = absurd (omega (arith, more, prefix_len-le-length is_ascii_digit (c ∷ [])))
plain_is (c ∷ d ∷ cs) more =
    let n = digits_len (c ∷ d ∷ cs) in
    let e : n ≡ suc (suc (n - 2)) = omega arith in
    let all = subst (λ (k : ℕ). all_ascii_digits (take k (c ∷ d ∷ cs)) ≡ true) e
    (all_leading (c ∷ d ∷ cs)) in
    plain_from c d (n - 2) cs all ∙ ap (λ (k : ℕ). is_numeral (take k (c ∷ d ∷ cs))) (sym e)

-- ---- the number that is a whole text

-- a text of digits alone has as many digits in front as bytes
whole_length : (text : List ℕ) → all_ascii_digits text ≡ true → digits_len text ≡ length text
whole_length [] all = refl
whole_length (c ∷ cs) all =
    let both = and_parts (is_ascii_digit c) (all_ascii_digits cs) all in
    let e = whole_length cs both.1 in
    ap (λ (b : Bool). cond b (1 + digits_len cs) 0) both.0 ∙ omega (arith, e)

-- where there are as many digits in front as bytes, they are the whole text
all_whole : (text : List ℕ) → digits_len text ≡ length text → leading_digits text ≡ text
all_whole text is = ap (λ (n : ℕ). take n text) is ∙ take_all (length text) text (omega arith)

-- what the digits in front spell where they are the whole text, and else none
pub whole_number : (least greatest : ℕ) (text : List ℕ) → digits_len text ≡ length text
    → number_of least greatest (leading_digits text) ≡ number_of least greatest text
whole_number least greatest text is =
    ap (λ (l : List ℕ). number_of least greatest l) (all_whole text is)

-- a text that isn't digits to its end writes no number
pub part_number : (least greatest : ℕ) (text : List ℕ) → (digits_len text ≡ length text → ⊥)
    → None ≡ number_of least greatest text
part_number least greatest text part =
    number_not least greatest text (λ all numeral low high. part (whole_length text all))

-- where the digits in front write no number, the text writes none
pub no_number : (least greatest : ℕ) (text : List ℕ)
    → None ≡ number_of least greatest (leading_digits text) → None ≡ number_of least greatest text
no_number least greatest text none = elim (cases_lt (digits_len text) (length text)) [
  | inl part ↦ part_number least greatest text (λ is. omega (arith, part, is))
  | inr most ↦
      let all : digits_len text ≡ length text =
      omega (arith, most, prefix_len-le-length is_ascii_digit text) in
      none ∙ whole_number least greatest text all
]
