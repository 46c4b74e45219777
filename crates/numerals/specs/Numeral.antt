-- Numbers as the log and the command line spell them (docs/FORMATS.md).
use Rattle.std.specs.Prelude.{ℕ, ◌==◌, ◌&&◌, Bool, false, not, nat_le, if◌then◌else◌, List, [], ◌∷◌, take_while, Option, Some, None, ◌≡◌, ◌≤◌, ◌<◌, ◌^◌, decimal}
use Rattle.std.specs.Char.{is_ascii_digit}
use Rattle.std.specs.List.{prefix_len, AllByRecursion}
use Rattle.std.specs.Str.{all_ascii_digits}
use Rattle.std.specs.Str.Parse.{digits_value}

-- how many digits are in front of a text
abbrev pub digits_len : List ℕ → ℕ
digits_len text = prefix_len is_ascii_digit text

-- the digits in front of a text
abbrev pub leading_digits : List ℕ → List ℕ
leading_digits text = take_while is_ascii_digit text

-- digits without a leading zero, or the one digit 0
abbrev pub is_numeral : List ℕ → Bool
is_numeral [] = false
is_numeral (d ∷ []) = all_ascii_digits (d ∷ [])
is_numeral (d ∷ e ∷ ds) = not (d == 48) && all_ascii_digits (d ∷ e ∷ ds)

-- the number that a numeral writes, where it is from least to greatest
unfoldable pub number_of : ℕ → ℕ → List ℕ → Option ℕ
number_of least greatest text =
    if is_numeral text && nat_le (digits_value 10 text) greatest
    && nat_le least (digits_value 10 text)
    then Some (digits_value 10 text) else None

-- a number in a range is read from its digits, and from no other text
pub record OneNumber : Type 0 where
  pub again : (least greatest n : ℕ) → greatest < 2 ^ 64 → least ≤ n → n ≤ greatest
      → number_of least greatest (decimal n) ≡ Some n
  pub takes : (least greatest n : ℕ) (text : List ℕ) → greatest < 2 ^ 64
      → number_of least greatest text ≡ Some n → (decimal n ≡ text) × (least ≤ n) × (n ≤ greatest)
  pub digits : (n : ℕ) → n < 2 ^ 64 → AllByRecursion (λ b. (48 ≤ b) × (b ≤ 57)) (decimal n)
  pub no_digits : (least greatest : ℕ) → number_of least greatest [] ≡ None
  pub no_minus : (least greatest : ℕ) (text : List ℕ) → number_of least greatest (45 ∷ text) ≡ None
