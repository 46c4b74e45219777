-- A line that is written is read again, and a line that is read was written so: each form of the
-- table has the laws of `IsForm`, and the rest is said once for all forms.
use Rattle.std.proofs.Common.{◌≡◌, ℕ, ◌<◌, true, List, [], ◌∷◌, ◌++◌, Some, refl, sym, ap, ◌∙◌, arith, inl, inr}
use Rattle.std.specs.Prelude.{option_map}
use Rattle.log_lines.proofs.Prelude.{bytes_eq, join_with_byte, join_with_byte-slice_split, OneNumber, Field, Row, ◌◂◌, small, large, side, death_row, arrival_then, record_row, Line, Start, Death, Birth, Injected, Cleared, Rate, Count, End, LineForm, forms, start_form, death_form, birth_form, injected_form, cleared_form, rate_form, count_form, end_form, HasForm, row_text, words_text, form_text, read_as, read_by, read_words, line_of, some_map}
use Rattle.random_streams.specs.RandomStream.{greatest_side, million}
use Rattle.log_lines.proofs.FieldLaws.{Above, IsField, IsRow, chosen, number_law, letters_law, last_law, row_law}
use Rattle.log_lines.proofs.ListLaws.{times_law}
use Rattle.log_lines.proofs.RowLaws.{words_in, joined_words, row_words, row_plain, row_takes}
use Rattle.log_lines.proofs.KindLaws.{low, small_law, large_law, rate_law, over_law, base_law, changes_law}
use Rattle.log_lines.specs.LineReading.{OneSpelling}
use Rattle.numerals.proofs.SpellingLemmas.{numbers_spell}

-- a form with a value of its fields
record FilledForm : Type 1 where
  form : LineForm
  fields : form.Fields

-- a form with these fields
abbrev filled : (form : LineForm) → form.Fields → FilledForm
filled form fields = record { form = form; fields = fields }

-- the form that a line has, with the values of its fields
abbrev filled_form : Line → FilledForm
filled_form (Start version width height cell genome) =
    filled start_form (version, (width, (height, (cell, genome))))
filled_form (Death id update cell) = filled death_form (id, (update, cell))
filled_form (Birth id parent update cell over birth) =
    filled birth_form (id, (parent, (update, (cell, (over, (birth.written, birth.changes))))))
filled_form (Injected id update cell over genome) =
    filled injected_form (id, (update, (cell, (over, genome))))
filled_form (Cleared id update cell) = filled cleared_form (id, (update, cell))
filled_form (Rate update name ppm) = filled rate_form (update, (name, ppm))
filled_form (Count s) =
    filled count_form
    (s.update, (s.living, (s.births, (s.deaths, (s.genotypes, (s.merit, s.tasks))))))
filled_form (End updates) = filled end_form updates

-- the text of a form with a value of its fields
abbrev filled_text : FilledForm → List ℕ
filled_text filled = form_text filled.form.mark filled.form.row filled.fields

-- the fields have values that the form allows
abbrev FitsForm : FilledForm → Type 0
FitsForm filled = filled.form.row.Fits filled.fields

-- what is said of a line directly is what its form says
record IsFilled (line : Line) : Type 0 where
  text : row_text line ≡ filled_text (filled_form line)
  fits : HasForm line → FitsForm (filled_form line)
  form : FitsForm (filled_form line) → HasForm line

-- so it is of each line
by_form : (line : Line) → IsFilled line
by_form (Start version width height cell genome) = record {
  text = refl;
  fits = λ (a, b, c, d, e). (a, (b, (c, (d, e))));
  form = λ (a, (b, (c, (d, e)))). (a, b, c, d, e);
}
by_form (Death id update cell) =
    record { text = refl; fits = λ (a, b, c). (a, (b, c)); form = λ (a, (b, c)). (a, b, c) }
by_form (Birth id parent update cell over birth) = record {
  text = refl;
  fits = λ (a, b, c, d, e, f). (a, (b, (c, (d, (e, (f.base, (f.changes, f.order)))))));
  form = λ (a, (b, (c, (d, (e, (f, (g, h))))))).
      (a, b, c, d, e, record { base = f; changes = g; order = h });
}
by_form (Injected id update cell over genome) = record {
  text = refl;
  fits = λ (a, b, c, d, e). (a, (b, (c, (d, e))));
  form = λ (a, (b, (c, (d, e)))). (a, b, c, d, e);
}
by_form (Cleared id update cell) =
    record { text = refl; fits = λ (a, b, c). (a, (b, c)); form = λ (a, (b, c)). (a, b, c) }
by_form (Rate update name ppm) =
    record { text = refl; fits = λ (a, b). (a, (tt, b)); form = λ (a, (u, b)). (a, b) }
by_form (Count s) = record {
  text = refl;
  fits = λ (a, (b, (c, (d, (e, (f, g))))), h). (a, (b, (c, (d, (e, (f, (h, g)))))));
  form = λ (a, (b, (c, (d, (e, (f, (h, g))))))). (a, (b, (c, (d, (e, (f, g))))), h);
}
by_form (End updates) = record { text = refl; fits = λ a. a; form = λ a. a }

-- what is proved of a form: its mark is above a space, its words are read as they were written, the
-- line of some fields has the form with these fields, and the table gives the form at its mark
record IsForm (form : LineForm) : Type 1 where
  high : 32 < form.mark
  words : IsRow 32 form.row
  fills : (fields : form.Fields) → filled_form (form.line fields) ≡ filled form fields
  found : (ws : List (List ℕ)) → read_by forms (form.mark ∷ []) ws ≡ read_as form ws

-- a form has the laws once its row has, where the rest computes
is_form : (form : LineForm) → 32 < form.mark
    → ((fields : form.Fields) → filled_form (form.line fields) ≡ filled form fields)
    → ((ws : List (List ℕ)) → read_by forms (form.mark ∷ []) ws ≡ read_as form ws)
    → IsRow 32 form.row → IsForm form
is_form form high fills found words =
    record { high = high; words = words; fills = fills; found = found }

-- each of the forms has the laws
AreForms : List LineForm → Type 1
AreForms [] = Unit {1}
AreForms (form ∷ others) = IsForm form × AreForms others

-- ---- a form

module _ (form : LineForm) (law : IsForm form) where
  -- its text is read again
  form_again : (fields : form.Fields) → form.row.Fits fields
      → line_of (filled_text (filled form fields)) ≡ Some (form.line fields)
  unfolding line_of
  form_again fields fits =
      ap read_words (row_words law.words form.mark fields law.high fits)
      ∙ law.found (form.row.texts fields)
      ∙ ap (option_map form.line) (law.words.again fields fits)

  -- a line that is read by it has it, and this text
  form_takes : (word : List ℕ) (words : List (List ℕ)) (line : Line)
      → bytes_eq word (form.mark ∷ []) ≡ true → read_as form words ≡ Some line
      → (filled_text (filled_form line) ≡ word ++ words_text words) × FitsForm (filled_form line)
  form_takes word words line same is =
      let some = some_map form.line (form.row.read words) line is in
      rw (← some.2, law.fills some.0)
      (row_takes law.words form.mark word words some.0 same some.1)

-- a line that a table reads has this text
table_takes : (table : List LineForm) → AreForms table → (word : List ℕ) (words : List (List ℕ))
    (line : Line) → read_by table word words ≡ Some line
    → (filled_text (filled_form line) ≡ word ++ words_text words) × FitsForm (filled_form line)
unfolding AreForms
table_takes [] laws word words line is = absurd cc
table_takes (form ∷ others) laws word words line is =
    elim (chosen (bytes_eq word (form.mark ∷ [])) _ _ line is) [
      | inl here ↦ form_takes form laws.0 word words line here.0 here.1
      | inr there ↦ table_takes others laws.1 word words line there.1
    ]

-- ---- the forms of a log

infixr 20 ◌▸◌
-- the laws of a field, and of the row behind it
◌▸◌ : {A B : Type 0} {f : Field A} {r : Row B} → IsField 32 f → IsRow 32 r → IsRow 32 (f ◂ r)
law ▸ others = row_law law others

module _ (numbers : OneNumber) where
  -- numbers below 2 ^ 32
  small32 : IsField 32 small
  small32 = low (small_law numbers)

  -- numbers below 2 ^ 64
  large32 : IsField 32 large
  large32 = low (large_law numbers)

  -- sides of a world
  side32 : IsField 32 side
  side32 = low (number_law numbers 1 greatest_side (omega arith))

  -- the words of a death
  death_words : IsRow 32 death_row
  death_words = large32 ▸ small32 ▸ last_law small32

  -- the words of an arrival, and those behind them
  arrival_words : {A : Type 0} {behind : Row A} → IsRow 32 behind
      → IsRow 32 (arrival_then behind)
  arrival_words law = small32 ▸ small32 ▸ low (over_law numbers) ▸ law

  -- the words of a record
  record_words : IsRow 32 record_row
  record_words = low (base_law numbers) ▸ last_law (changes_law numbers)

  -- the first line
  start_law : IsForm start_form
  start_law = is_form start_form (omega arith) (λ fields. refl) (λ ws. refl)
      (low (number_law numbers 1 2 (omega arith)) ▸ side32 ▸ side32 ▸ small32
      ▸ last_law (low letters_law))

  -- a death of age
  death_law : IsForm death_form
  death_law = is_form death_form (omega arith) (λ p. refl) (λ ws. refl) death_words

  -- a birth
  birth_law : IsForm birth_form
  birth_law = is_form birth_form (omega arith) (λ fields. refl) (λ ws. refl)
      (large32 ▸ large32 ▸ arrival_words record_words)

  -- an injected organism
  injected_law : IsForm injected_form
  injected_law = is_form injected_form (omega arith) (λ fields. refl) (λ ws. refl)
      (large32 ▸ arrival_words (last_law (low letters_law)))

  -- an organism cleared by an event
  cleared_law : IsForm cleared_form
  cleared_law = is_form cleared_form (omega arith) (λ p. refl) (λ ws. refl) death_words

  -- a rate
  rate_form_law : IsForm rate_form
  rate_form_law = is_form rate_form (omega arith) (λ fields. refl) (λ ws. refl)
      (small32 ▸ low (rate_law numbers)
      ▸ last_law (low (number_law numbers 0 million (omega arith))))

  -- the end of an update
  count_law : IsForm count_form
  count_law = is_form count_form (omega arith) (λ fields. refl) (λ ws. refl)
      (small32 ▸ large32 ▸ large32 ▸ large32 ▸ large32 ▸ large32
      ▸ times_law large32 9)

  -- the last line
  end_law : IsForm end_form
  end_law = is_form end_form (omega arith) (λ p. refl) (λ ws. refl) (last_law small32)

  -- each form of the table has the laws
  forms_law : AreForms forms
  unfolding AreForms
  forms_law = (
    start_law,
    (
      death_law,
      (birth_law, (injected_law, (cleared_law, (rate_form_law, (count_law, (end_law, tt)))))),
    ),
  )

  -- ---- lines

  -- the form of a line has the laws, and tells the line
  line_law : (line : Line) → IsForm (filled_form line).form
      × ((filled_form line).form.line (filled_form line).fields ≡ line)
  line_law (Start version width height cell genome) = (start_law, refl)
  line_law (Death id update cell) = (death_law, refl)
  line_law (Birth id parent update cell over birth) = (birth_law, refl)
  line_law (Injected id update cell over genome) = (injected_law, refl)
  line_law (Cleared id update cell) = (cleared_law, refl)
  line_law (Rate update name ppm) = (rate_form_law, refl)
  line_law (Count stats) = (count_law, refl)
  line_law (End updates) = (end_law, refl)

  -- a line is read again
  pub line_again : (line : Line) → HasForm line → line_of (row_text line) ≡ Some line
  line_again line fits =
      let has = filled_form line in
      let law = line_law line in
      ap line_of (by_form line).text
      ∙ form_again has.form law.0 has.fields ((by_form line).fits fits)
      ∙ ap (λ (l : Line). Some l) law.1

  -- what is read as a line was written so
  pub line_takes : (bytes : List ℕ) (line : Line) → line_of bytes ≡ Some line
      → (row_text line ≡ bytes) × HasForm line
  unfolding line_of
  line_takes bytes line is =
      words_take bytes (words_in bytes) line (join_with_byte-slice_split 32 bytes) is
    where
      words_take : (bytes : List ℕ) (words : List (List ℕ)) (line : Line)
          → join_with_byte 32 words ≡ bytes → read_words words ≡ Some line
          → (row_text line ≡ bytes) × HasForm line
      words_take bytes [] line joined is = absurd cc
      words_take bytes (word ∷ words) line joined is =
          let t = table_takes forms forms_law word words line is in (
            (by_form line).text ∙ t.0 ∙ sym (joined_words word words) ∙ joined,
            (by_form line).form t.1,
          )

  -- a line has no newline in it
  pub line_plain : (line : Line) → HasForm line → Above 10 (row_text line)
  line_plain line fits =
      let has = filled_form line in
      let law = (line_law line).0 in
      rw ((by_form line).text)
      (row_plain law.words has.form.mark has.fields law.high ((by_form line).fits fits))

-- each line has one spelling
pub lines_spell : OneSpelling
lines_spell = record {
  again = line_again numbers_spell;
  takes = line_takes numbers_spell;
  one_line = line_plain numbers_spell;
}
