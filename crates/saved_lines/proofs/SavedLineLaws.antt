-- A line that is written is read again, and a line that is read was written so.
use Rattle.std.proofs.Common.{◌≡◌, ℕ, drop, inl, inr, true, List, [], ◌∷◌, ◌++◌, Some, None, refl, sym, ap, subst, ◌∙◌, arith}
use Rattle.std.specs.Prelude.{option_and_then, option_map}
use Rattle.saved_lines.proofs.Prelude.{bytes_eq, join_with_byte, cond_some, OneNumber, Letter, length-tasks_of, genome_field, large, Row, last, words_text, form_text, Above, IsField, IsRow, chosen, last_law, letters_law, row_law, some_map, some_then, Range, signed, marks, HasSavedForm, are_ordered, head_of, saved_head_line, organism_at, organism_of, machine_of, saved_number_at, read_form, read_saved_words, saved_line_of, MachineFields, head_ranges, head_row, organism_ranges, organism_row, machine_ranges, machine_row, saved_row_text, SavedLine, Head, Organism, Machine, Count, head_numbers, organism_numbers, AreWithin, within}
use Rattle.std.proofs.lemmas.List.Splits.{join_with_byte-slice_split}
pub use Rattle.numerals.proofs.SpellingLemmas.{numbers_spell}
use Rattle.logic_tasks.proofs.InputsLaws.{inputs_of-top}
use Rattle.log_lines.proofs.KindLaws.{low, large_law}
use Rattle.log_lines.proofs.RowLaws.{words_in, joined_words, row_words, row_plain, row_takes}
use Rattle.saved_lines.proofs.FrontLaws.{AreSmall, IsFront, front_law, front_lower, several_law, whole_law, within_law}
use Rattle.saved_lines.proofs.SavedFieldLaws.{signed_law, marks_law, nops_law}
use Rattle.saved_lines.proofs.FitsLemmas.{head_fits, head_is, head_ordered, organism_fits, organism_is, machine_fits, machine_is, machine_fields}
use Rattle.saved_lines.proofs.SavedValueLaws.{head_again, head_taken, organism_again, organism_taken, machine_again, machine_taken}

-- the line has this text
abbrev LineIs : List ℕ → SavedLine → Type 0
LineIs bytes line = (saved_row_text line ≡ bytes) × HasSavedForm line

module _ (numbers : OneNumber) where
  -- numbers within ranges
  within32 : (ranges : List Range) → AreSmall numbers ranges → IsFront 32 (within ranges)
  within32 ranges small =
      front_lower (within ranges) 32 44 (omega arith) (within_law numbers ranges small)

  -- the row of a head
  head_law : IsRow 32 head_row
  head_law = whole_law (within head_ranges) 32 (within32 head_ranges (search arith))

  -- the row of an organism
  organism_law : IsRow 32 organism_row
  organism_law = front_law (within organism_ranges) 32 (within32 organism_ranges (search arith))
      (last genome_field) (last_law (low letters_law))

  -- the row of a machine
  machine_law : IsRow 32 machine_row
  machine_law =
      let ints = several_law signed 32 (low (signed_law numbers)) in
      let letters : IsField 32 genome_field = low letters_law in
      let digits : IsField 32 marks = low marks_law in
      front_law _ 32 (ints 3) _ (front_law _ 32 (within32 machine_ranges (search arith)) _
      (row_law (low nops_law) (front_law _ 32 (ints 10) _ (front_law _ 32 (ints 10) _
      (row_law letters (row_law letters (row_law digits (last_law digits))))))))

  -- the row of a count
  count_law : IsRow 32 (last large)
  count_law = last_law (low (large_law numbers))

  -- ---- lines

  -- a line that is written is read again
  pub line_again : (line : SavedLine) → HasSavedForm line
      → saved_line_of (saved_row_text line) ≡ Some line
  unfolding saved_line_of
  line_again (Head head) form =
      let fits = head_fits head form in
      ap read_saved_words (row_words head_law 83 (head_numbers head) (omega arith) fits)
      ∙ ap (option_and_then saved_head_line) (head_law.again (head_numbers head) fits)
      ∙ rw (head_again head, head_ordered head form) refl
  line_again (Organism o) form =
      let fits = organism_fits o form in
      ap read_saved_words (row_words organism_law 79 (organism_numbers o, o.genome) (omega arith)
      fits)
      ∙ ap (option_map organism_of) (organism_law.again (organism_numbers o, o.genome) fits)
      ∙ ap Some (organism_again o form)
  line_again (Machine image) form =
      let fits = machine_fits image form in
      ap read_saved_words (row_words machine_law 77 (machine_fields image) (omega arith) fits)
      ∙ ap (option_map machine_of) (machine_law.again (machine_fields image) fits)
      ∙ ap Some (machine_again image form)
  line_again (Count organisms) form =
      let fits : (last large).Fits organisms = (omega arith, omega (arith, form)) in
      ap read_saved_words (row_words count_law 90 organisms (omega arith) fits)
      ∙ ap (option_map Count) (count_law.again organisms fits)

  -- no line has a newline in it
  pub line_plain : (line : SavedLine) → HasSavedForm line → Above 10 (saved_row_text line)
  line_plain (Head head) form =
      row_plain head_law 83 (head_numbers head) (omega arith) (head_fits head form)
  line_plain (Organism o) form =
      row_plain organism_law 79 (organism_numbers o, o.genome) (omega arith)
      (organism_fits o form)
  line_plain (Machine image) form =
      row_plain machine_law 77 (machine_fields image) (omega arith) (machine_fits image form)
  line_plain (Count organisms) form =
      row_plain count_law 90 organisms (omega arith) (omega arith, omega (arith, form))

  -- a head that is read was written so
  head_takes : (word : List ℕ) (words : List (List ℕ)) (line : SavedLine)
      → bytes_eq word (83 ∷ []) ≡ true
      → option_and_then saved_head_line (head_row.read words) ≡ Some line
      → LineIs (word ++ words_text words) line
  head_takes word words line same is =
      let first = some_then saved_head_line (head_row.read words) line is in
      let ns = first.0 in
      let passed = cond_some (are_ordered (head_of ns)) (Head (head_of ns)) line first.2 in
      let t = row_takes head_law 83 word words ns same first.1 in
      let back = head_taken ns t.1 in
      subst (λ (l : SavedLine). LineIs (word ++ words_text words) l) passed.1 (
        ap (λ (l : List ℕ). form_text 83 head_row l) back ∙ t.0,
        head_is (head_of ns) (subst (λ (l : List ℕ). AreWithin head_ranges l) (sym back) t.1)
            passed.0,
      )

  -- a line whose fields are read was written so, where the line of fields is written with these
  taken : {A : Type 0} {row : Row A} → IsRow 32 row → (mark : ℕ) (made : A → SavedLine)
      → ((fields : A) → row.Fits fields → LineIs (form_text mark row fields) (made fields))
      → (word : List ℕ) (words : List (List ℕ)) (line : SavedLine)
      → bytes_eq word (mark ∷ []) ≡ true → option_map made (row.read words) ≡ Some line
      → LineIs (word ++ words_text words) line
  taken {A} {row} law mark made written word words line same is =
      let some = some_map made (row.read words) line is in
      let t = row_takes law mark word words some.0 same some.1 in
      let has = written some.0 t.1 in
      subst (λ (l : SavedLine). LineIs (word ++ words_text words) l) some.2 (has.0 ∙ t.0, has.1)

  -- the line of an organism's fields
  organism_written : (p : List ℕ × List Letter) → organism_row.Fits p
      → LineIs (form_text 79 organism_row p) (organism_of p)
  organism_written p fits =
      let back = organism_taken p.0 p.1 fits.0 in (
        ap (λ (l : List ℕ). form_text 79 organism_row (l, p.1)) back,
        organism_is (organism_at p.0 p.1)
            (subst (λ (l : List ℕ). AreWithin organism_ranges l) (sym back) fits.0, fits.1)
            (length-tasks_of (saved_number_at p.0 3)) (length-tasks_of (saved_number_at p.0 6))
            (inputs_of-top (drop 7 p.0)),
      )

  -- the line of a machine's fields
  machine_written : (p : MachineFields) → machine_row.Fits p
      → LineIs (form_text 77 machine_row p) (machine_of p)
  machine_written p fits =
      let back = machine_taken p.1.0 fits.1.0 in (
        ap (λ (l : List ℕ). form_text 77 machine_row (p.0, (l, p.1.1))) back,
        machine_is p
            (fits.0, (subst (λ (l : List ℕ). AreWithin machine_ranges l) (sym back) fits.1.0, fits.1.1)),
      )

  -- what is read of words was written so
  word_takes : (word : List ℕ) (words : List (List ℕ)) (line : SavedLine)
      → read_form word words ≡ Some line → LineIs (word ++ words_text words) line
  word_takes word words line is =
      elim (chosen (bytes_eq word (83 ∷ [])) _ _ line is) [
        | inl l ↦ head_takes word words line l.0 l.1
        | inr r ↦ elim (chosen (bytes_eq word (79 ∷ [])) _ _ line r.1) [
          | inl l ↦ taken organism_law 79 organism_of organism_written word words line l.0 l.1
          | inr r ↦ elim (chosen (bytes_eq word (77 ∷ [])) _ _ line r.1) [
            | inl l ↦ taken machine_law 77 machine_of machine_written word words line l.0 l.1
            | inr r ↦ elim (chosen (bytes_eq word (90 ∷ [])) _ _ line r.1) [
              | inl l ↦ taken count_law 90 Count (λ n fits. (refl, omega (arith, fits.1))) word words
                  line l.0 l.1
              | inr r ↦ let e : None ≡ Some line = r.1 in absurd cc
            ]
          ]
        ]
      ]

  -- words that are read were written so
  words_take : (bytes : List ℕ) (words : List (List ℕ)) (line : SavedLine)
      → join_with_byte 32 words ≡ bytes → read_saved_words words ≡ Some line → LineIs bytes line
  words_take bytes [] line joined is = absurd cc
  words_take bytes (word ∷ words) line joined is =
      let t = word_takes word words line is in
      (t.0 ∙ sym (joined_words word words) ∙ joined, t.1)

  -- a line that is read was written so
  pub line_takes : (bytes : List ℕ) (line : SavedLine) → saved_line_of bytes ≡ Some line
      → LineIs bytes line
  unfolding saved_line_of
  line_takes bytes line is =
      words_take bytes (words_in bytes) line (join_with_byte-slice_split 32 bytes) is
