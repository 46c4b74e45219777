-- The text of a line and the values that it can have (docs/FORMATS.md, "The log"). For example,
-- `Rate 12 Copy 500` has the text `R 12 copy_error 500` and a newline, and `Rate 12 Copy 2000000`
-- has no form, since a rate is at most a million parts per million.
use Rattle.std.specs.Prelude.{◌≡◌, ℕ, List, [], ◌∷◌, ◌++◌, length, IfSome, take}
use Rattle.log_lines.specs.Prelude.{code, AllByRecursion, greatest_side, million, HasGenomeLength, HasRecordForm, IsSmall, IsWithin}
use Rattle.log_lines.specs.Kinds.{Row}
use Rattle.log_lines.specs.Line.{Line, Start, Death, Birth, Injected, Cleared, Rate, Count, End, decimals, words_of_line}

-- a word behind a space
abbrev pub spaced_word : List ℕ → List ℕ
spaced_word word = code " " ∷ word

-- words, each behind a space
abbrev pub words_text : List (List ℕ) → List ℕ
words_text [] = []
words_text (word ∷ words) = spaced_word word ++ words_text words

-- numbers in decimal digits, each behind a space
abbrev pub numbers_text : List ℕ → List ℕ
numbers_text numbers = words_text (decimals numbers)

-- a mark, and the words of these fields, each behind a space
abbrev pub form_text : {A : Type 0} → ℕ → Row A → A → List ℕ
form_text mark row fields = mark ∷ words_text (row.texts fields)

-- words, each but the first behind a space
abbrev pub text_of_words : List (List ℕ) → List ℕ
text_of_words [] = []
text_of_words (word ∷ words) = word ++ words_text words

-- the text of a line without its newline
abbrev pub row_text : Line → List ℕ
row_text line = text_of_words (words_of_line line)

-- the text of a line, with its newline
abbrev pub line_text : Line → List ℕ
line_text line = row_text line ++ code "\n" ∷ []

-- an id, a count or a merit: a number below 2 ^ 64
abbrev pub IsLarge : ℕ → Type 0
IsLarge n = IsWithin 0 18446744073709551615 n

-- the values of a line are ones that a log can have, so that its text is read as the line again
abbrev pub HasForm : Line → Type 0
HasForm (Start version width height cell genome) =
    IsWithin 1 2 version × IsWithin 1 greatest_side width × IsWithin 1 greatest_side height
    × IsSmall cell × HasGenomeLength genome
HasForm (Death id update cell) = IsLarge id × IsSmall update × IsSmall cell
HasForm (Birth id parent update cell over birth) =
    IsLarge id × IsLarge parent × IsSmall update × IsSmall cell × IfSome over IsLarge
    × HasRecordForm birth
HasForm (Injected id update cell over genome) =
    IsLarge id × IsSmall update × IsSmall cell × IfSome over IsLarge × HasGenomeLength genome
HasForm (Cleared id update cell) = IsLarge id × IsSmall update × IsSmall cell
HasForm (Rate update name ppm) = IsSmall update × IsWithin 0 million ppm
HasForm (Count s) =
    IsSmall s.update × AllByRecursion IsLarge
    (s.living ∷ s.births ∷ s.deaths ∷ s.genotypes ∷ s.merit ∷ s.tasks) × (length s.tasks ≡ 9)
HasForm (End updates) = IsSmall updates

-- the new list begins with the whole old one
pub record Keeps {A : Type 0} (old new : List A) : Type 0 where
  pub front : take (length old) new ≡ old
