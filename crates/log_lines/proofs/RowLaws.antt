-- The text of a row behind its mark: its words are told apart again, and no newline is in it.
use Rattle.std.proofs.Common.{◌≡◌, ℕ, ◌<◌, true, List, [], ◌∷◌, ◌++◌, Some, sym, ap, ◌∙◌, arith, append-nil}
use Rattle.std.specs.Prelude.{◌==◌}
use Rattle.log_lines.proofs.Prelude.{bytes_eq, slice_split, join_with_byte, AllByRecursion, Row, words_text, form_text}
use Rattle.log_lines.proofs.FieldLaws.{Above, IsRow, above_lower, above_append, same_bytes, split_first, split_one}

-- the words of a text
abbrev pub words_in : List ℕ → List (List ℕ)
words_in bytes = slice_split (λ b. b == 32) bytes

-- a word and the words behind it are parted again
split_words : (word : List ℕ) (words : List (List ℕ)) → Above 32 word
    → AllByRecursion (Above 32) words → words_in (word ++ words_text words) ≡ word ∷ words
split_words word [] first others = ap words_in (append-nil word) ∙ split_one 32 word first
split_words word (next ∷ words) first others =
    split_first 32 word (next ++ words_text words) first
    ∙ ap (λ (l : List (List ℕ)). word ∷ l) (split_words next words others.0 others.1)

-- words joined by spaces are the first one, and the others each behind a space
pub joined_words : (word : List ℕ) (words : List (List ℕ))
    → join_with_byte 32 (word ∷ words) ≡ word ++ words_text words
joined_words word [] = sym (append-nil word)
joined_words word (next ∷ words) = ap (λ (l : List ℕ). word ++ 32 ∷ l) (joined_words next words)

-- words without a byte up to a space have no newline
words_plain : (words : List (List ℕ)) → AllByRecursion (Above 32) words
    → Above 10 (words_text words)
words_plain [] all = tt
words_plain (word ∷ words) all = (
  omega arith,
  above_append 10 word (words_text words)
      (above_lower 10 32 word (omega arith) all.0) (words_plain words all.1),
)

module _ {A : Type 0} {row : Row A} (law : IsRow 32 row) (mark : ℕ) where
  -- the mark and the words are the words of the text
  pub row_words : (a : A) → 32 < mark → row.Fits a
      → words_in (form_text mark row a) ≡ (mark ∷ []) ∷ row.texts a
  row_words a high fits = split_words (mark ∷ []) (row.texts a) (high, tt) (law.plain a fits)

  -- the text has no newline
  pub row_plain : (a : A) → 32 < mark → row.Fits a → Above 10 (form_text mark row a)
  row_plain a high fits = (omega (arith, high), words_plain (row.texts a) (law.plain a fits))

  -- what is read of words behind the mark was written so
  pub row_takes : (word : List ℕ) (words : List (List ℕ)) (a : A)
      → bytes_eq word (mark ∷ []) ≡ true → row.read words ≡ Some a
      → (form_text mark row a ≡ word ++ words_text words) × row.Fits a
  row_takes word words a same is =
      let t = law.takes words a is in
      let first : word ≡ mark ∷ [] = same_bytes word (mark ∷ []) same in (
        ap (λ (ws : List (List ℕ)). mark ∷ words_text ws) t.0
            ∙ ap (λ (w : List ℕ). w ++ words_text words) (sym first),
        t.1,
      )
