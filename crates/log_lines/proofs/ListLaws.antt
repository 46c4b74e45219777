-- Lists of values: what is written of one is read again, and what is read was written so.
use Rattle.std.proofs.Common.{◌≡◌, ℕ, ◌<◌, true, List, [], ◌∷◌, map, length, Option, Some, None, refl, sym, ap, subst, ◌∙◌, arith, inl, inr, eq-eqb}
use Rattle.std.specs.Prelude.{option_map, ◌==◌}
use Rattle.log_lines.proofs.Prelude.{length-map, bytes_eq, slice_split, join_with_byte, AllByRecursion, eqb-true, join_with_byte-slice_split, Field, each, list_of, times, some_map, some_then}
use Rattle.log_lines.proofs.FieldLaws.{Above, IsField, IsRow, above_lower, above_append, not_equal, same_bytes, split_first, split_one, some_text, chosen, each_again, each_takes}

-- as many items are read as there were
pub each_length : {X A : Type 0} (read : X → Option A) (xs : List X) (items : List A)
    → each read xs ≡ Some items → length items ≡ length xs
each_length read [] items is = let e : [] ≡ items = cc in rw (← e)
each_length read (x ∷ xs) items is =
    let first = some_then (λ a. option_map (λ others. a ∷ others) (each read xs)) (read x) items
    is in
    let second = some_map (λ others. first.0 ∷ others) (each read xs) items first.2 in
    rw (← second.2, each_length read xs second.0 second.1)

module _ {A : Type 0} {f : Field A} {c : ℕ} (law : IsField c f) where
  -- no item has a byte up to the bound
  pub each_plain : (items : List A) → AllByRecursion f.Fits items
      → AllByRecursion (Above c) (map f.text items)
  each_plain [] fits = tt
  each_plain (a ∷ items) fits = (law.plain a fits.0, each_plain items fits.1)

  -- so many items are read again
  times_again : (count : ℕ) (items : List A) → length items ≡ count → AllByRecursion f.Fits items
      → (times count f).read (map f.text items) ≡ Some items
  times_again count items n fits =
      let same : (length (map f.text items) == count) ≡ true =
      eq-eqb (length (map f.text items)) count (length-map items f.text ∙ n) in
      rw (same, each_again f.text f.read f.Fits law.again items fits) refl

  -- what is read as so many items was written so
  times_takes : (count : ℕ) (words : List (List ℕ)) (items : List A)
      → (times count f).read words ≡ Some items → (map f.text items ≡ words)
      × ((length items ≡ count) × AllByRecursion f.Fits items)
  times_takes count words items is = elim (chosen (length words == count) _ _ items is) [
    | inl l ↦
        let t = each_takes f.text f.read f.Fits law.takes words items l.1 in
        let n : length words ≡ count = eqb-true (length words) count l.0 in
        (t.0, (sym (length-map items f.text) ∙ ap (λ (ws : List (List ℕ)). length ws) t.0 ∙ n, t.1))
    | inr r ↦ let e : None ≡ Some items = r.1 in absurd cc
  ]

  -- as many fields of one kind, which end a row
  pub times_law : (count : ℕ) → IsRow c (times count f)
  times_law count = record {
    again = λ items fits. times_again count items fits.0 fits.1;
    takes = times_takes count;
    plain = λ items fits. each_plain items fits.1;
  }

-- joined words are parted again
split_joined : (c : ℕ) (word : List ℕ) (words : List (List ℕ))
    → AllByRecursion (Above c) (word ∷ words)
    → slice_split (λ b. b == c) (join_with_byte c (word ∷ words)) ≡ word ∷ words
split_joined c word [] all = split_one c word all.0
split_joined c word (next ∷ words) all = split_first c word (join_with_byte c (next ∷ words)) all.0
    ∙ ap (λ (l : List (List ℕ)). word ∷ l) (split_joined c next words all.1)

-- words with a byte between them
words_above : (c d : ℕ) (words : List (List ℕ)) → c < d → AllByRecursion (Above d) words
    → Above c (join_with_byte d words)
words_above c d [] h all = tt
words_above c d (word ∷ []) h all = above_lower c d word (omega (arith, h)) all.0
words_above c d (word ∷ next ∷ words) h all =
    above_append c word (d ∷ join_with_byte d (next ∷ words))
    (above_lower c d word (omega (arith, h)) all.0) (h, words_above c d (next ∷ words) h all.1)

module _ {A : Type 0} {f : Field A} (law : IsField 44 f) (none : f.read (45 ∷ []) ≡ None) where
  -- a list is read again
  list_again : (items : List A) → AllByRecursion f.Fits items
      → (list_of f).read ((list_of f).text items) ≡ Some items
  list_again [] fits = refl
  list_again (a ∷ items) fits =
      let text = join_with_byte 44 (map f.text (a ∷ items)) in
      let parts : slice_split (λ b. b == 44) text ≡ map f.text (a ∷ items) =
      split_joined 44 (f.text a) (map f.text items) (each_plain law (a ∷ items) fits) in
      let other = not_equal text (45 ∷ []) (λ is.
      let one : slice_split (λ b. b == 44) text ≡ (45 ∷ []) ∷ [] =
      ap (λ (w : List ℕ). slice_split (λ b. b == 44) w) is in
      let same : map f.text (a ∷ items) ≡ (45 ∷ []) ∷ [] = sym parts ∙ one in
      let word : f.text a ≡ 45 ∷ [] = cc in some_text law (45 ∷ []) none a fits.0 word) in
      rw (other, parts, each_again f.text f.read f.Fits law.again (a ∷ items) fits) refl

  -- items read from the pieces of a word have the word as their text
  list_joined : (word : List ℕ) (items : List A)
      → map f.text items ≡ slice_split (λ b. b == 44) word → (list_of f).text items ≡ word
  list_joined [] [] is = absurd cc
  list_joined (b ∷ bs) [] is =
      let e : [] ≡ b ∷ bs = ap (λ (ws : List (List ℕ)). join_with_byte 44 ws) is
      ∙ join_with_byte-slice_split 44 (b ∷ bs) in absurd cc
  list_joined word (a ∷ items) is =
      ap (λ (ws : List (List ℕ)). join_with_byte 44 ws) is ∙ join_with_byte-slice_split 44 word

  -- what is read as a list was written so
  list_takes : (word : List ℕ) (items : List A) → (list_of f).read word ≡ Some items
      → ((list_of f).text items ≡ word) × AllByRecursion f.Fits items
  list_takes word items is = elim (chosen (bytes_eq word (45 ∷ [])) _ _ items is) [
    | inl l ↦
        let e : [] ≡ items = cc in
        subst (λ (l : List A). ((list_of f).text l ≡ word) × AllByRecursion f.Fits l) e
        (sym (same_bytes word (45 ∷ []) l.0), tt)
    | inr r ↦ let t = each_takes f.text f.read f.Fits law.takes
        (slice_split (λ b. b == 44) word) items r.1 in
        (list_joined word items t.0, t.1)
  ]

  -- a list has no byte below a comma
  list_plain : (items : List A) → AllByRecursion f.Fits items → Above 43 ((list_of f).text items)
  list_plain [] fits = (omega arith, tt)
  list_plain (a ∷ items) fits =
      words_above 43 44 (map f.text (a ∷ items)) (omega arith) (each_plain law (a ∷ items) fits)

  -- items parted by commas, or a dash for none
  pub list_law : IsField 43 (list_of f)
  list_law = record { again = list_again; takes = list_takes; plain = list_plain }
