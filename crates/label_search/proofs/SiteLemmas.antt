-- A clean letter and two marks in one number.
use Rattle.std.proofs.Common.{◌≡◌, ◌∙◌, sym, ap, refl, ℕ, ◌+◌, ◌*◌, ◌/◌, ◌%◌, ◌<◌, Bool, true, cond, Some, arith}
use Rattle.std.specs.Prelude.{◌==◌}
use Rattle.label_search.proofs.Prelude.{common_steps, Letter, NopA, index_of, letter_at, Site, rest_of, clean_in, executed_in, copied_in, IsRest}

-- there are fewer letters than a mark counts
index-small : (letter : Letter) → index_of letter < 32
index-small NopA = omega arith
index-small _ = omega arith

-- each letter is found by its index
letter-found : (letter : Letter) → letter_at (index_of letter) ≡ Some letter
unfolding letter_at
letter-found NopA = refl
letter-found _ = refl

-- the lowest five bits are the letter's index
low : (clean : Letter) (executed copied : Bool) → rest_of clean executed copied % 32 ≡ index_of clean
low clean executed copied = grind (arith, index-small clean)

-- a digit that is 1 or 0, tested for 1
tested : (digit : ℕ) (mark : Bool) → digit ≡ cond mark 1 0 → (digit == 1) ≡ mark
tested digit mark is = grind (arith, common_steps)

-- the digits of the two marks
digits : (clean : Letter) (executed copied : Bool)
    → (rest_of clean executed copied / 32 % 2 ≡ cond executed 1 0)
    × (rest_of clean executed copied / 64 % 2 ≡ cond copied 1 0)
digits clean executed copied =
    (grind (arith, index-small clean), grind (arith, index-small clean))

-- a number in which a letter and two marks are packed
module _ (clean : Letter) (executed copied : Bool) (rest : ℕ)
    (is : rest ≡ rest_of clean executed copied) where
  -- its letter and its marks are these
  clean-is : clean_in rest ≡ clean
  clean-is = ap clean_in is ∙ rw (low clean executed copied, letter-found clean) refl

  executed-is : executed_in rest ≡ executed
  executed-is = ap executed_in is ∙ tested _ executed (digits clean executed copied).0

  copied-is : copied_in rest ≡ copied
  copied-is = ap copied_in is ∙ tested _ copied (digits clean executed copied).1

  -- a place with it holds them
  pub place-packed : (letter : Letter) → ◌≡◌ {A = Site}
      (record {
        letter = letter;
        clean = clean_in rest;
        executed = executed_in rest;
        copied = copied_in rest;
      })
      (record { letter = letter; clean = clean; executed = executed; copied = copied })
  place-packed letter = λ i. record {
    letter = letter;
    clean = clean-is i;
    executed = executed-is i;
    copied = copied-is i;
  }

  -- and nothing else
  pub rest-packed : IsRest rest
  rest-packed = is ∙ (λ i. rest_of (sym clean-is i) (sym executed-is i) (sym copied-is i))

-- a number with the mark of an executed place
pub rest-marked : (rest : ℕ) → IsRest rest
    → rest % 32 + 32 + rest / 64 * 64 ≡ rest_of (clean_in rest) true (copied_in rest)
rest-marked rest is = grind (arith, index-small (clean_in rest), is)

-- a number with another letter, and the mark of a place that was copied to
pub rest-copied : (rest : ℕ) (letter : Letter) → IsRest rest
    → index_of letter + rest / 32 % 2 * 32 + 64 ≡ rest_of letter (executed_in rest) true
rest-copied rest letter is =
    let digit = (digits (clean_in rest) (executed_in rest) (copied_in rest)).0 in
    grind (arith, common_steps, digit, is)
