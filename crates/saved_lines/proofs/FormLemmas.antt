-- The mark of a line.
use Rattle.std.proofs.Common.{◌≡◌, ℕ, false, List, [], ◌∷◌, length, get_or, None, refl, ap, arith}
use Rattle.std.specs.Prelude.{◌==◌}
use Rattle.saved_lines.proofs.Prelude.{bytes_eq, slice_split, not_equal, read_form, saved_line_of}

-- a mark of another length
no_mark : (mark : List ℕ) (b : ℕ) → (length mark ≡ 1 → ⊥) → bytes_eq mark (b ∷ []) ≡ false
no_mark mark b other = not_equal mark (b ∷ []) (λ is. other (ap (λ (l : List ℕ). length l) is))

-- a mark is one byte
pub other_mark : (mark : List ℕ) (words : List (List ℕ)) → (length mark ≡ 1 → ⊥)
    → read_form mark words ≡ None
other_mark mark words other =
    rw (no_mark mark 83 other, no_mark mark 79 other, no_mark mark 77 other, no_mark mark 90 other)
    refl

-- a list of one byte
pub one_byte : (mark : List ℕ) → length mark ≡ 1 → mark ≡ get_or mark 0 0 ∷ []
one_byte [] one = absurd (omega (arith, one))
one_byte (b ∷ []) one = refl
one_byte (b ∷ c ∷ rest) one = absurd (omega (arith, one))

-- the line of a mark and the words behind it
pub line_is : (text mark : List ℕ) (words : List (List ℕ))
    → slice_split (λ b. b == 32) text ≡ mark ∷ words → read_form mark words ≡ saved_line_of text
unfolding saved_line_of
line_is text mark words is = rw is refl
