-- The errors of copying and of a divide, as words draw them (docs/WORLD.md, "Copy errors" and
-- "Records of birth"). Word k is the one that makes the first test.
use Rattle.std.specs.Prelude.{ℕ, ◌+◌, Option, None, Some, unwrap_or, if◌then◌else◌, ◌==◌, List, [], ◌∷◌, ◌++◌}
use Rattle.instruction_set.specs.declared.letter.Letter.{Letter}
use Rattle.instruction_set.specs.declared.letter.Letter.TheVariants.{NopA}
use Rattle.instruction_set.specs.Letter.{letter_at, same_letter}
use Rattle.random_streams.specs.RandomStream.{scaled, hits}
use Rattle.mutations.specs.declared.change.Change.{Change}
use Rattle.mutations.specs.declared.change.Change.TheVariants.{Point}

-- the letter that a word draws
unfoldable pub letter_of_word : ℕ → Letter
letter_of_word word = unwrap_or (letter_at (scaled word 26)) NopA

-- the letter that is put in where word k hits, drawn by the word after it
abbrev pub error_letter : (ℕ → ℕ) → ℕ → ℕ → Option Letter
error_letter words rate k =
    if hits (words k) rate then Some (letter_of_word (words (k + 1))) else None

-- the number of the word after those of a test by word k
abbrev pub after_error : (ℕ → ℕ) → ℕ → ℕ → ℕ
after_error words rate k = if hits (words k) rate then k + 2 else k + 1

-- more words than any birth takes
abbrev pub birth_words : ℕ
birth_words = 65536

-- changes, and the number of the word after those that were taken for them
pub record Drawn : Type 0 where
  pub changes : List Change
  pub next : ℕ

-- no change
abbrev pub none_by : ℕ → Drawn
none_by k = record { changes = []; next = k }

-- some changes, and then others
abbrev pub in_turn : Drawn → Drawn → Drawn
in_turn first others = record { changes = first.changes ++ others.changes; next = others.next }

-- the text after a test of each of its places in rising order
abbrev pub site_text : (ℕ → ℕ) → ℕ → ℕ → List Letter → List Letter
site_text words rate k [] = []
site_text words rate k (letter ∷ text) =
    unwrap_or (error_letter words rate k) letter
    ∷ site_text words rate (after_error words rate k) text

-- the number of the word after the tests of a text's places
abbrev pub after_sites : (ℕ → ℕ) → ℕ → ℕ → List Letter → ℕ
after_sites words rate k [] = k
after_sites words rate k (letter ∷ text) = after_sites words rate (after_error words rate k) text

-- the text after its site points, where they are drawn at all
abbrev pub pointed_text : (ℕ → ℕ) → ℕ → ℕ → List Letter → List Letter
pointed_text words rate k text = if rate == 0 then text else site_text words rate k text

-- the number of the word after the site points of a text
abbrev pub after_points : (ℕ → ℕ) → ℕ → ℕ → List Letter → ℕ
after_points words rate k text = if rate == 0 then k else after_sites words rate k text

-- a point for each place, counted from `at`, where the text differs from the clean text
abbrev pub points_from : ℕ → List Letter → List Letter → List Change
points_from at [] text = []
points_from at (was ∷ clean) [] = []
points_from at (was ∷ clean) (letter ∷ text) =
    if same_letter was letter
    then points_from (at + 1) clean text
    else Point at letter ∷ points_from (at + 1) clean text
