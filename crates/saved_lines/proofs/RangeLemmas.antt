-- Numbers that were read, each within its range.
use Rattle.std.proofs.Common.{◌≡◌, ℕ, zero, suc, ◌<◌, ◌≤◌, List, [], ◌∷◌, length, get_or, Some, refl, sym, ap, subst, arith}
use Rattle.std.specs.Prelude.{◌&&◌, nat_le}
use Rattle.saved_lines.proofs.Prelude.{and_parts, leb-true, cond_some, some_pair_parts, is_numeral, number_of, some_map, some_then, Range, read_within, AreWithin}
use Rattle.std.specs.Str.Parse.{digits_value}

-- a number that was read is within its range
pub number_within : (least greatest n : ℕ) (word : List ℕ)
    → number_of least greatest word ≡ Some n → (least ≤ n) × (n ≤ greatest)
unfolding number_of
number_within least greatest n word is =
    let value = digits_value 10 word in
    let passed = cond_some _ value n is in
    let two = and_parts (is_numeral word && nat_le value greatest) (nat_le least value) passed.0 in
    let one = and_parts (is_numeral word) (nat_le value greatest) two.0 in (
      omega (arith, leb-true least value two.1, passed.1),
      omega (arith, leb-true value greatest one.1, passed.1),
    )

-- so is each of some numbers
pub read_are_within : (ranges : List Range) (words left : List (List ℕ)) (ns : List ℕ)
    → read_within ranges words ≡ Some (ns, left) → AreWithin ranges ns
read_are_within [] words left ns is =
    rw (sym (some_pair_parts [] ns words left is).0) tt
read_are_within (range ∷ ranges) [] left ns is = absurd cc
read_are_within (range ∷ ranges) (word ∷ words) left ns is =
    let first = some_then _ (number_of range.least range.greatest word) (ns, left) is in
    let second = some_map _ (read_within ranges words) (ns, left) first.2 in
    let bounds = number_within range.least range.greatest first.0 word first.1 in
    let others = read_are_within ranges words second.0.1 second.0.0 second.1 in
    subst (λ (p : List ℕ × List (List ℕ)). AreWithin (range ∷ ranges) p.0) second.2
    (bounds.0, bounds.1, others)

-- the number at a place is at most the greatest of its range
pub bound_at : (ranges : List Range) (ns : List ℕ) (k : ℕ) (any : Range) → AreWithin ranges ns
    → k < length ranges → get_or ns k 0 ≤ (get_or ranges k any).greatest
bound_at [] ns k any all low = absurd (omega (arith, low))
bound_at (range ∷ ranges) [] k any all low = absurd all
bound_at (range ∷ ranges) (n ∷ ns) zero any all low = all.1
bound_at (range ∷ ranges) (n ∷ ns) (suc k) any all low =
    bound_at ranges ns k any all.2 (omega (arith, low))

-- there are as many numbers as ranges
pub within_length : (ranges : List Range) (ns : List ℕ) → AreWithin ranges ns
    → length ns ≡ length ranges
within_length [] [] all = refl
within_length [] (n ∷ ns) all = absurd all
within_length (range ∷ ranges) [] all = absurd all
within_length (range ∷ ranges) (n ∷ ns) all = ap suc (within_length ranges ns all.2)
