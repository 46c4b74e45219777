-- The fields of a log's lines, and rows of several fields, a word each (docs/FORMATS.md, "The
-- log"). For example, if f, g and h are fields of numbers, the row `f ◂ g ◂ last h` writes (7, (12,
-- 45)) as the words `7`, `12` and `45`, and reads the same value from these three words alone. A
-- birth's line ends with the words of its record, `= p4k,d9`: the base is the parent's genome, the
-- letter `k` is put at its place 4, and then the letter at place 9 is deleted.
use Rattle.std.specs.Prelude.{◌≡◌, ℕ, List, [], ◌∷◌, map, length, Option, None, ◌==◌, if◌then◌else◌, option_and_then, option_map, ◌-◌, take, slice_index}
use Rattle.log_lines.specs.Prelude.{AllByRecursion, code, Letter, letter_of_byte, greatest_side, Change, Point, Insert, Delete, RateName, name_of_rate, rate_named, FitsChange, in_order}
use Rattle.log_lines.specs.Fields.{Field, each, number, genome_field, or_sign, list_of, where_true}
use Rattle.log_lines.specs.Line.{change_text}

-- the words of a value, the value that is read from words, and which values the row allows
pub record Row (A : Type 0) : Type 1 where
  pub texts : A → List (List ℕ)
  pub read : List (List ℕ) → Option A
  pub Fits : A → Type 0

-- what is read from the only word; none where there are more words or no word
abbrev pub read_last : {A : Type 0} → (List ℕ → Option A) → List (List ℕ) → Option A
read_last read [] = None
read_last read (word ∷ []) = read word
read_last read (word ∷ other ∷ words) = None

-- a field that ends the row
abbrev pub last : {A : Type 0} → Field A → Row A
last f = record { texts = λ a. f.text a ∷ []; read = read_last f.read; Fits = f.Fits }

-- so many fields of one kind, which end the row: their values are a list
abbrev pub times : {A : Type 0} → ℕ → Field A → Row (List A)
times count f =
    record {
      texts = map f.text;
      read = λ words. if length words == count then each f.read words else None;
      Fits = λ items. (length items ≡ count) × AllByRecursion f.Fits items;
    }

-- what is read from the first word, with what is read from the others
abbrev pub read_both :
    {A B : Type 0} → (List ℕ → Option A) → (List (List ℕ) → Option B) → List (List ℕ)
    → Option (A × B)
read_both first others [] = None
read_both first others (word ∷ words) =
    option_and_then (λ a. option_map (λ b. (a, b)) (others words)) (first word)

infixr 20 ◌◂◌
-- a field with a row behind it: the value is a pair, of that of the field and that of the row
abbrev pub ◌◂◌ : {A B : Type 0} → Field A → Row B → Row (A × B)
f ◂ r =
    record {
      texts = λ p. f.text p.0 ∷ r.texts p.1;
      read = read_both f.read r.read;
      Fits = λ p. f.Fits p.0 × r.Fits p.1;
    }

-- an update, a cell or a place: a number below 2 ^ 32
abbrev pub small : Field ℕ
small = number 0 4294967295

-- an id, a count or a merit: a number below 2 ^ 64
abbrev pub large : Field ℕ
large = number 0 18446744073709551615

-- the width or the height of a world, from 1 to 256
abbrev pub side : Field ℕ
side = number 1 greatest_side

-- one of the six rates of errors, by its name, such as `copy_error`
abbrev pub rate_name : Field RateName
rate_name = record { text = name_of_rate; read = λ word. rate_named word; Fits = λ name. Unit {0} }

-- the change with the place and the letter that a text such as `4k` has
abbrev pub read_lettered : (ℕ → Letter → Change) → List ℕ → Option Change
read_lettered make rest =
    option_and_then
    (λ at. option_map (λ letter. make at letter)
    (letter_of_byte (slice_index rest (length rest - 1))))
    (small.read (take (length rest - 1) rest))

-- the change that a word writes
abbrev pub read_change : List ℕ → Option Change
read_change [] = None
read_change (mark ∷ rest) =
    if mark == code "p" then read_lettered Point rest
    else if mark == code "i" then read_lettered Insert rest
    else if mark == code "d" then option_map Delete (small.read rest)
    else None

-- one change of a birth's record; its place must be below 2 ^ 32
abbrev pub change_field : Field Change
change_field = record { text = change_text; read = read_change; Fits = FitsChange }

-- who stood in a cell: an id, or `-` for nobody
abbrev pub over_field : Field (Option ℕ)
over_field = or_sign (code "-") large

-- the base of a birth: `=` for the parent's genome, or the letters of a written one
abbrev pub base_field : Field (Option (List Letter))
base_field = or_sign (code "=") genome_field

-- the changes of a birth: points at rising places, then insertions, then deletions
abbrev pub changes_field : Field (List Change)
changes_field = where_true in_order (list_of change_field)

-- the id, the update and the cell of an organism that died of age or was cleared
abbrev pub death_row : Row (ℕ × (ℕ × ℕ))
death_row = large ◂ small ◂ last small

-- where an organism came: the update, the cell, who stood there, and then the row behind these
abbrev pub arrival_then : {A : Type 0} → Row A → Row (ℕ × (ℕ × (Option ℕ × A)))
arrival_then behind = small ◂ small ◂ over_field ◂ behind

-- the record of a birth: its base and its changes
abbrev pub record_row : Row (Option (List Letter) × List Change)
record_row = base_field ◂ last changes_field
