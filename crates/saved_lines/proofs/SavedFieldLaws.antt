-- The fields of a saved world: what is written is read again, and what is read was written so.
use Rattle.std.proofs.Common.{◌≡◌, ℕ, ℤ, pos, suc, ◌-◌, ◌<◌, ◌≤◌, Bool, true, false, List, [], ◌∷◌, map, length, Some, None, refl, sym, ap, subst, ◌∙◌, arith, inl, inr, decimal, get_or}
use Rattle.std.specs.Prelude.{negsuc, nat_lt, ◌==◌, FitsSigned, ◌&&◌, nat_le}
use Rattle.saved_lines.proofs.Prelude.{w32, signed_decimal, cases_Bool, eqb-true, and_parts, nat_tests, cond_some, number_of, OneNumber, each, given, Above, IsField, number_law, some_map, some_then, above_letters, each_takes, letters_again, letters_taken, not_equal, same_bytes, bytes_eq, list_all, Letter, byte_of, letter_of_byte, IsTemplate, is_nop, below_zero, read_signed, signed, mark_of, marks, are_nops, some_nops, read_nops, nops, digit_of, nops_text}
use Rattle.std.proofs.lemmas.List.Elements.{All-nil}
use Rattle.std.proofs.lemmas.List.Sums.{AllPass-from_list_all, list_all-from_AllPass}
use Rattle.saved_lines.proofs.TextLemmas.{nops_text-some}
use Rattle.instruction_set.proofs.LetterLemmas.{found_again}

-- the field writes this word for the number
abbrev SignedIs : List ℕ → ℤ → Type 0
SignedIs word z = (signed_decimal z ≡ word) × FitsSigned w32 z

-- ---- signed numbers

module _ (numbers : OneNumber) where
  -- a number without a minus
  plain_read : (word : List ℕ) (n : ℕ) → number_of 0 2147483647 word ≡ Some n
      → read_signed word ≡ Some (pos n)
  plain_read [] n is = let none = numbers.no_digits 0 2147483647 in absurd cc
  plain_read (byte ∷ rest) n is = elim (cases_Bool (byte == 45)) [
    | inl same ↦
        let got = rw (eqb-true byte 45 same) at is in
        let none = numbers.no_minus 0 2147483647 rest in absurd cc
    | inr other ↦ rw (other, is) refl
  ]

  -- a number that is written is read again
  signed_again : (z : ℤ) → FitsSigned w32 z → read_signed (signed_decimal z) ≡ Some z
  signed_again (pos n) fits =
      plain_read (decimal n) n
      (numbers.again 0 2147483647 n (omega arith) (omega arith) (omega (arith, fits.sfits)))
  signed_again (negsuc n) fits =
      let one = numbers.again 1 2147483648 (suc n) (omega arith) (omega arith)
      (omega (arith, fits.sfits)) in
      let back : suc n - 1 ≡ n = omega arith in
      rw one (ap (λ k. Some (negsuc k)) back)

  -- a number that is read was written so
  signed_takes : (word : List ℕ) (z : ℤ) → read_signed word ≡ Some z → SignedIs word z
  signed_takes [] z is = absurd cc
  signed_takes (byte ∷ rest) z is = elim (cases_Bool (byte == 45)) [
    | inl same ↦
        let e : byte ≡ 45 = eqb-true byte 45 same in
        let some = some_map below_zero (number_of 1 2147483648 rest) z (rw same at is) in
        let t = numbers.takes 1 2147483648 some.0 rest (omega arith) some.1 in
        let back : suc (some.0 - 1) ≡ some.0 = omega (arith, t.1) in
        let text : 45 ∷ decimal (suc (some.0 - 1)) ≡ byte ∷ rest = rw (back, t.0, e) in
        subst (λ x. SignedIs (byte ∷ rest) x) some.2
        (text, record { sfits = omega (arith, t.1, t.2) })
    | inr other ↦
        let some = some_map pos (number_of 0 2147483647 (byte ∷ rest)) z (rw other at is) in
        let t = numbers.takes 0 2147483647 some.0 (byte ∷ rest) (omega arith) some.1 in
        subst (λ x. SignedIs (byte ∷ rest) x) some.2 (t.0, record { sfits = omega (arith, t.2) })
  ]

  -- its bytes
  signed_plain : (z : ℤ) → FitsSigned w32 z → Above 44 (signed_decimal z)
  signed_plain (pos n) fits =
      (number_law numbers 0 2147483647 (omega arith)).plain n
      (omega arith, omega (arith, fits.sfits))
  signed_plain (negsuc n) fits = (
    omega arith,
    (number_law numbers 0 2147483648 (omega arith)).plain (suc n)
        (omega arith, omega (arith, fits.sfits)),
  )

  -- the field of a number of 32 bits
  pub signed_law : IsField 44 signed
  signed_law = record { again = signed_again; takes = signed_takes; plain = signed_plain }

-- ---- marks

-- marks that are written are read again
marks_again : (places : List Bool) → each mark_of (map digit_of places) ≡ Some places
marks_again [] = refl
marks_again (true ∷ places) = rw (marks_again places) refl
marks_again (false ∷ places) = rw (marks_again places) refl

-- a mark that is read was written so
mark_takes : (byte : ℕ) (place : Bool) → mark_of byte ≡ Some place → digit_of place ≡ byte
mark_takes byte place is = elim (cases_Bool (byte == 49)) [
  | inl one ↦
      let e : byte ≡ 49 = eqb-true byte 49 one in
      let got : mark_of 49 ≡ Some place = subst (λ b. mark_of b ≡ Some place) e is in
      let marked : true ≡ place = cc in
      ap digit_of (sym marked) ∙ sym e
  | inr more ↦ elim (cases_Bool (byte == 48)) [
    | inl nought ↦
        let e : byte ≡ 48 = eqb-true byte 48 nought in
        let got : mark_of 48 ≡ Some place = subst (λ b. mark_of b ≡ Some place) e is in
        let unmarked : false ≡ place = cc in
        ap digit_of (sym unmarked) ∙ sym e
    | inr other ↦ let none : mark_of byte ≡ None = rw (more, other) refl in absurd cc
  ]
]

-- marks that are read were written so
marks_taken : (word : List ℕ) (places : List Bool) → each mark_of word ≡ Some places
    → map digit_of places ≡ word
marks_taken word places is =
    (each_takes digit_of mark_of (λ mark. Unit {0})
    (λ byte mark found. (mark_takes byte mark found, tt)) word places is).0

-- their bytes
marks_above : (places : List Bool) → Above 44 (map digit_of places)
marks_above [] = tt
marks_above (true ∷ places) = (omega arith, marks_above places)
marks_above (false ∷ places) = (omega arith, marks_above places)

-- the field of marks
pub marks_law : IsField 44 marks
marks_law = record {
  again = λ places some.
      let any : nat_lt 0 (length places) ≡ true = grind (arith, nat_tests, some) in
      rw (marks_again places, any) refl;
  takes = λ word places is.
      let got = some_then (λ ps. given (nat_lt 0 (length ps)) ps) (each mark_of word) places is in
      let passed = cond_some (nat_lt 0 (length got.0)) got.0 places got.2 in
      let some : 0 < length got.0 = grind (arith, nat_tests, passed.0) in
      subst (λ (l : List Bool). (map digit_of l ≡ word) × (0 < length l)) passed.1
      (marks_taken word got.0 got.1, some);
  plain = λ places some. marks_above places;
}

-- ---- nops

-- a dash spells no letter
no_dash : (l : Letter) → letter_of_byte 45 ≡ Some l → ⊥
unfolding letter_of_byte
no_dash l is = cc

-- no letter is a dash
dash_else : (l : Letter) → byte_of l ≡ 45 → ⊥
dash_else l same = no_dash l (ap letter_of_byte (sym same) ∙ (found_again l).by_byte)

-- letters are no dash
not_dash : (l : Letter) (ls : List Letter) → map byte_of (l ∷ ls) ≡ 45 ∷ [] → ⊥
not_dash l ls is = dash_else l (ap (λ (w : List ℕ). get_or w 0 0) is)

-- nops pass the test
are_template : (ls : List Letter) → 0 < length ls → IsTemplate ls → are_nops ls ≡ true
are_template ls some fits =
    let any : nat_lt 0 (length ls) ≡ true = grind (arith, nat_tests, some) in
    let few : nat_le (length ls) 10 ≡ true = grind (arith, nat_tests, fits.few) in
    let all : list_all is_nop ls ≡ true = list_all-from_AllPass is_nop ls fits.nops in
    rw (any, few, all) refl

-- nops that are written are read again
nops_again : (ls : List Letter) → IsTemplate ls → read_nops (nops_text ls) ≡ Some ls
nops_again [] fits = refl
nops_again (l ∷ ls) fits =
    let other = not_equal (map byte_of (l ∷ ls)) (45 ∷ []) (λ is. not_dash l ls is) in
    rw (other, letters_again (l ∷ ls), are_template (l ∷ ls) (omega arith) fits) refl

-- the field writes this word for the nops
abbrev NopsAre : List ℕ → List Letter → Type 0
NopsAre word ls = (nops_text ls ≡ word) × IsTemplate ls

-- some nops that are read were written so
some_taken : (word : List ℕ) (ls : List Letter) → some_nops word ≡ Some ls → NopsAre word ls
some_taken word ls is =
    let got = some_then (λ a. given (are_nops a) a) (each letter_of_byte word) ls is in
    let passed = cond_some (are_nops got.0) got.0 ls got.2 in
    let two = and_parts (nat_lt 0 (length got.0) && nat_le (length got.0) 10)
    (list_all is_nop got.0) passed.0 in
    let one = and_parts (nat_lt 0 (length got.0)) (nat_le (length got.0) 10) two.0 in
    let some : 0 < length got.0 = grind (arith, nat_tests, one.0) in
    let few : length got.0 ≤ 10 = grind (arith, nat_tests, one.1) in
    subst (λ (l : List Letter). NopsAre word l) passed.1 (
      nops_text-some got.0 some ∙ letters_taken word got.0 got.1,
      record { few = few; nops = AllPass-from_list_all is_nop got.0 two.1 },
    )

-- nops that are read were written so
nops_takes : (word : List ℕ) (ls : List Letter) → read_nops word ≡ Some ls → NopsAre word ls
nops_takes word ls is = elim (cases_Bool (bytes_eq word (45 ∷ []))) [
  | inl same ↦
      let got = rw same at is in
      let none : [] ≡ ls = cc in
      subst (λ (l : List Letter). NopsAre word l) none (
        sym (same_bytes word (45 ∷ []) same),
        record { few = omega arith; nops = All-nil _ },
      )
  | inr other ↦
      some_taken word ls (rw other at is)
]

-- a dash is the byte 45
nops_plain : (ls : List Letter) → Above 44 (nops_text ls)
nops_plain [] = (omega arith, tt)
nops_plain (l ∷ ls) = above_letters (l ∷ ls)

-- the field of nops
pub nops_law : IsField 44 nops
nops_law = record {
  again = λ ls fits. nops_again ls fits;
  takes = λ word ls is. nops_takes word ls is;
  plain = λ ls fits. nops_plain ls;
}
