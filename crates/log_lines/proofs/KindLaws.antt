-- What is written of a field of a log is read again, and what is read was written so.
use Rattle.std.proofs.Common.{◌≡◌, ℕ, suc, ◌-◌, ◌<◌, List, [], ◌∷◌, ◌++◌, length, get_or, take, Some, None, refl, ap, subst, arith, inl, inr, decimal, length-append}
use Rattle.std.specs.Prelude.{option_map, ◌==◌}
use Rattle.log_lines.proofs.Prelude.{bytes_eq, eqb-true, take-append_seam, get_or-append_seam, Letter, byte_of, letter_of_byte, Change, Point, Insert, Delete, FitsChange, in_order, number_of, OneNumber, Field, genome_of_word, change_text, small, large, rate_name, read_lettered, read_change, change_field, over_field, base_field, changes_field, ToChange, find-passes, found_again, some_map, some_then}
use Rattle.mutations.specs.declared.rate_name.RateName.{RateName}
use Rattle.mutations.specs.declared.rate_name.RateName.TheVariants as rate
use Rattle.mutations.specs.Rates.{name_of_rate, rate_named, rate_names}
use Rattle.log_lines.proofs.LetterLemmas.{byte_of_letter, letter_above}
use Rattle.log_lines.proofs.FieldLaws.{Above, IsField, above_append, same_bytes, chosen, number_law, letters_law, or_sign_law, where_law, field_lower}
use Rattle.log_lines.proofs.ListLaws.{list_law}

-- the word is the text of the change, which can be written
abbrev ChangeIs : List ℕ → Change → Type 0
ChangeIs word c = (change_text c ≡ word) × FitsChange c

-- a text with one byte at its end
split_last : (rest : List ℕ) → 0 < length rest
    → take (length rest - 1) rest ++ get_or rest (length rest - 1) 0 ∷ [] ≡ rest
split_last [] h = absurd (omega (arith, h))
split_last (b ∷ []) h = refl
split_last (b ∷ c ∷ bs) h =
    let n : length (b ∷ c ∷ bs) - 1 ≡ suc (length (c ∷ bs) - 1) = omega arith in
    rw n (ap (λ (l : List ℕ). b ∷ l) (split_last (c ∷ bs) (omega arith)))

-- the law at a lower bound, as the words of a line have it
pub low : {A : Type 0} {f : Field A} → IsField 44 f → IsField 32 f
low law = field_lower law 32 (omega arith)

module _ (numbers : OneNumber) where
  -- numbers below 2 ^ 32
  pub small_law : IsField 44 small
  small_law = number_law numbers 0 4294967295 (omega arith)

  -- numbers below 2 ^ 64
  pub large_law : IsField 44 large
  large_law = number_law numbers 0 18446744073709551615 (omega arith)

  -- ---- changes

  -- a place and a letter are read again
  lettered_again : (make : ToChange) (at : ℕ) (letter : Letter) → small.Fits at
      → read_lettered make (decimal at ++ byte_of letter ∷ []) ≡ Some (make at letter)
  lettered_again make at letter fits =
      let n : length (decimal at ++ byte_of letter ∷ []) - 1 ≡ length (decimal at) =
      omega (arith, length-append (decimal at) (byte_of letter ∷ [])) in
      let front = take-append_seam (decimal at) (byte_of letter ∷ []) in
      let end = get_or-append_seam (decimal at) (byte_of letter) [] 0 in
      rw (n, front, end, small_law.again at fits, (found_again letter).by_byte) refl

  -- what is read as a place and a letter was written so
  lettered_takes : (make : ToChange) (mark : ℕ) (rest : List ℕ) (c : Change)
      → ((at : ℕ) (letter : Letter) → small.Fits at
      → ChangeIs (mark ∷ (decimal at ++ byte_of letter ∷ [])) (make at letter))
      → read_lettered make rest ≡ Some c → ChangeIs (mark ∷ rest) c
  lettered_takes make mark [] c written is =
      absurd (let none = rw (numbers.no_digits 0 4294967295) at is in cc)
  lettered_takes make mark (b ∷ bs) c written is =
      let rest = b ∷ bs in
      let byte = get_or rest (length rest - 1) 0 in
      let got = some_then (λ at. option_map (λ letter. make at letter) (letter_of_byte byte))
      (number_of 0 4294967295 (take (length rest - 1) rest)) c is in
      let found = some_map (λ letter. make got.0 letter) (letter_of_byte byte) c got.2 in
      let spelled : byte_of found.0 ≡ byte = byte_of_letter byte found.0 found.1 in
      let number = small_law.takes (take (length rest - 1) rest) got.0 got.1 in
      let whole : decimal got.0 ++ byte_of found.0 ∷ [] ≡ rest =
      rw (number.0, spelled) (split_last rest (omega arith)) in
      rw (← found.2) (subst (λ (l : List ℕ). ChangeIs (mark ∷ l) (make got.0 found.0)) whole
      (written got.0 found.0 number.1))

  -- what is read as a place was written so
  deletion_takes : (rest : List ℕ) (c : Change)
      → option_map Delete (number_of 0 4294967295 rest) ≡ Some c → ChangeIs (100 ∷ rest) c
  deletion_takes rest c is =
      let got = some_map Delete (number_of 0 4294967295 rest) c is in
      let t = small_law.takes rest got.0 got.1 in
      rw (← got.2) (rw t.0 refl, t.1)

  -- a change is read again
  change_again : (c : Change) → FitsChange c → read_change (change_text c) ≡ Some c
  change_again (Point at letter) fits = lettered_again Point at letter fits
  change_again (Insert at letter) fits = lettered_again Insert at letter fits
  change_again (Delete at) fits = ap (option_map Delete) (small_law.again at fits)

  -- what is read as a change was written so
  change_takes : (word : List ℕ) (c : Change) → read_change word ≡ Some c → ChangeIs word c
  change_takes [] c is = absurd cc
  change_takes (mark ∷ rest) c is = elim (chosen (mark == 112) _ _ c is) [
    | inl l ↦ rw (eqb-true mark 112 l.0)
        (lettered_takes Point 112 rest c (λ at letter fits. (refl, fits)) l.1)
    | inr r ↦ elim (chosen (mark == 105) _ _ c r.1) [
      | inl l ↦ rw (eqb-true mark 105 l.0)
          (lettered_takes Insert 105 rest c (λ at letter fits. (refl, fits)) l.1)
      | inr r ↦ elim (chosen (mark == 100) _ _ c r.1) [
        | inl l ↦ rw (eqb-true mark 100 l.0) (deletion_takes rest c l.1)
        | inr r ↦ let e : None ≡ Some c = r.1 in absurd cc
      ]
    ]
  ]

  -- a place and a letter have no comma
  lettered_plain : (at : ℕ) (letter : Letter) → small.Fits at
      → Above 44 (decimal at ++ byte_of letter ∷ [])
  lettered_plain at letter fits =
      above_append 44 (decimal at) (byte_of letter ∷ []) (small_law.plain at fits)
      (letter_above letter, tt)

  -- a change has no comma
  change_plain : (c : Change) → FitsChange c → Above 44 (change_text c)
  change_plain (Point at letter) fits = (omega arith, lettered_plain at letter fits)
  change_plain (Insert at letter) fits = (omega arith, lettered_plain at letter fits)
  change_plain (Delete at) fits = (omega arith, small_law.plain at fits)

  -- a change
  change_law : IsField 44 change_field
  change_law = record { again = change_again; takes = change_takes; plain = change_plain }

  -- ---- rates

  -- a rate's name is read again
  rate_again : (name : RateName) → rate_named (name_of_rate name) ≡ Some name
  unfolding rate_named
  rate_again rate.Copy = refl
  rate_again _ = refl

  -- what is read as a rate is its name
  rate_takes : (word : List ℕ) (name : RateName) → rate_named word ≡ Some name
      → name_of_rate name ≡ word
  unfolding rate_named
  rate_takes word name is =
      same_bytes (name_of_rate name) word
      (find-passes (λ n. bytes_eq (name_of_rate n) word) rate_names name is)

  -- a rate's name has no comma
  rate_plain : (name : RateName) → Above 44 (name_of_rate name)
  rate_plain rate.Copy = search arith
  rate_plain _ = search arith

  -- the name of a rate
  pub rate_law : IsField 44 rate_name
  rate_law = record {
    again = λ name fits. rate_again name;
    takes = λ word name is. (rate_takes word name is, tt);
    plain = λ name fits. rate_plain name;
  }

  -- ---- who stood there, the base, and the changes

  -- a dash is no number
  none_number : number_of 0 18446744073709551615 (45 ∷ []) ≡ None
  none_number = numbers.no_minus 0 18446744073709551615 []

  -- an equality sign is no genome
  none_genome : genome_of_word (61 ∷ []) ≡ None
  unfolding genome_of_word letter_of_byte
  none_genome = refl

  -- who stood there
  pub over_law : IsField 44 over_field
  over_law = or_sign_law large_law 45 none_number (omega arith)

  -- the base
  pub base_law : IsField 44 base_field
  base_law = or_sign_law letters_law 61 none_genome (omega arith)

  -- the changes, whose text has commas
  pub changes_law : IsField 32 changes_field
  changes_law = field_lower (where_law (list_law change_law refl) in_order) 32 (omega arith)
