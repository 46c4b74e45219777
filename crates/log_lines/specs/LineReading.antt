-- The line that a text has, or none (docs/FORMATS.md, "The log"). For example, `D 7 12 45` is
-- `Death 7 12 45`, while `D 7 12`, `D 7 12 045` and `D  7 12 45` with two spaces are no lines.
use Rattle.std.specs.Prelude.{ℕ, List, [], ◌∷◌, ◌++◌, Option, None, ◌==◌, if◌then◌else◌, option_map, ◌≡◌, ◌<◌, Some}
use Rattle.log_lines.specs.Prelude.{code, bytes_eq, slice_split, AllByRecursion}
use Rattle.log_lines.specs.Line.{Line, birth_values}
use Rattle.log_lines.specs.Forms.{LineForm, forms}
use Rattle.log_lines.specs.LineText.{HasForm, line_text, row_text}
use Rattle.log_lines.specs.declared.birth.Birth as read
use Rattle.log_lines.specs.declared.front.Front as code
use Rattle.log_lines.specs.declared.front.Front.TheVariants as front

-- the line that a form reads from the words behind its mark
abbrev pub read_as : LineForm → List (List ℕ) → Option Line
read_as form words = option_map form.line (form.row.read words)

-- the line with this mark and these words, as the first form of the table with the mark reads it
abbrev pub read_by : List LineForm → List ℕ → List (List ℕ) → Option Line
read_by [] mark words = None
read_by (form ∷ others) mark words =
    if bytes_eq mark (form.mark ∷ []) then read_as form words else read_by others mark words

-- the line of words, the first of which is the mark
abbrev pub read_words : List (List ℕ) → Option Line
read_words [] = None
read_words (mark ∷ words) = read_by forms mark words

-- the line that has this text before its newline, or none
unfoldable pub line_of : List ℕ → Option Line
line_of bytes = read_words (slice_split (λ b. b == code " ") bytes)

-- a line is read from its text, and from no other; each byte of it is above 10, the newline
pub record OneSpelling : Type 0 where
  pub again : (line : Line) → HasForm line → line_of (row_text line) ≡ Some line
  pub takes : (bytes : List ℕ) (line : Line) → line_of bytes ≡ Some line
      → (row_text line ≡ bytes) × HasForm line
  pub one_line : (line : Line) → HasForm line → AllByRecursion (λ b. 10 < b) (row_text line)

-- the bytes begin with this line and its newline, and go on so
pub record StartsWith (bytes : List ℕ) (line : Line) (behind : List ℕ) : Type 0 where
  pub text : bytes ≡ line_text line ++ behind
  pub form : HasForm line

-- this is in front of the bytes: the birth that was read, a text before a newline, or no newline
abbrev pub IsFront : List ℕ → read.Birth → code.Front → Type 0
IsFront bytes birth (front.Birth behind) = StartsWith bytes (birth_values birth) behind.now
IsFront bytes birth (front.Text text behind) =
    slice_split (λ b. b == 10) bytes ≡ text.now ∷ slice_split (λ b. b == 10) behind.now
IsFront bytes birth front.NoNewline = slice_split (λ b. b == 10) bytes ≡ bytes ∷ []
