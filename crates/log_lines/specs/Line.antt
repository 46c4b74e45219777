-- The lines of a log as plain values (docs/FORMATS.md, "The log"). A log tells a run of a world:
-- who came into which cell in which update, and who died. For example, `B 7 3 12 45 - = p4k,d9` is
-- `Birth 7 3 12 45 None birth`: in update 12 organism 7 was born to organism 3, into the empty cell
-- 45. The record `birth` tells its genome: the parent's (`written` is None), with two `changes`.
-- The words of a line are its mark, and a word for each value.
use Rattle.std.specs.Prelude.{ℕ, List, Option, [], ◌∷◌, ◌++◌, map, codes, decimal}
use Rattle.log_lines.specs.Prelude.{Letter, BirthRecord, record_of, RateName, code, join_with_byte, option_map_or, byte_of, Change, Point, Insert, Delete, name_of_rate}
use Rattle.genome.specs.Genome.{letters}
use Rattle.log_lines.specs.declared.birth.Birth as told
use Rattle.log_lines.specs.declared.stats.Stats.{Stats}
use Rattle.log_lines.specs.declared.log_line.LogLine.{LogLine}
use Rattle.log_lines.specs.declared.log_line.LogLine.TheVariants as log_line

-- one line of a log; `over` is who stood in the cell and so died
pub data Line : Type 0 where
  -- `L`, the first line: the log's version, the world's size, the founder's cell and letters
  Start : (version width height cell : ℕ) (genome : List Letter) → Line
  -- `D`: a death of age
  Death : (id update cell : ℕ) → Line
  -- `B`: a birth
  Birth : (id parent update cell : ℕ) (over : Option ℕ) (birth : BirthRecord) → Line
  -- `I`: an organism that an event injected
  Injected : (id update cell : ℕ) (over : Option ℕ) (genome : List Letter) → Line
  -- `X`: an organism that an event cleared away
  Cleared : (id update cell : ℕ) → Line
  -- `R`: the new value of one of the six rates of errors, in parts per million
  Rate : (update : ℕ) (name : RateName) (ppm : ℕ) → Line
  -- `U`: the end of an update, with its statistics
  Count : Stats → Line
  -- `E`, the last line
  End : (updates : ℕ) → Line

-- the line that a value of the code's type is
abbrev pub line_values : LogLine → Line
line_values (log_line.Start version width height cell genome) =
    Start version width height cell (letters genome)
line_values (log_line.Death id update cell) = Death id update cell
line_values (log_line.Birth id parent update cell over origin) =
    Birth id parent update cell over (record_of origin)
line_values (log_line.Injected id update cell over genome) =
    Injected id update cell over (letters genome)
line_values (log_line.Cleared id update cell) = Cleared id update cell
line_values (log_line.Rate update name ppm) = Rate update name ppm
line_values (log_line.Count stats) = Count stats
line_values (log_line.End updates) = End updates

-- the line of a birth that was read by itself
abbrev pub birth_values : told.Birth → Line
birth_values b = Birth b.id b.parent b.update b.cell b.over (record_of b.origin)

-- numbers in decimal digits
abbrev pub decimals : List ℕ → List (List ℕ)
decimals numbers = map (λ n. decimal n) numbers

-- who stood in a cell: an id, or `-` for nobody
abbrev pub over_word : Option ℕ → List ℕ
over_word over = option_map_or (λ id. decimal id) over (code "-" ∷ [])

-- the base of a birth: `=` for the parent's genome, or the letters of a written one
abbrev pub base_word : Option (List Letter) → List ℕ
base_word written = option_map_or (map byte_of) written (code "=" ∷ [])

-- `p4k` puts k at place 4, `i4k` inserts k before that place, and `d9` deletes what is at place 9
abbrev pub change_text : Change → List ℕ
change_text (Point at letter) = code "p" ∷ (decimal at ++ byte_of letter ∷ [])
change_text (Insert at letter) = code "i" ∷ (decimal at ++ byte_of letter ∷ [])
change_text (Delete at) = code "d" ∷ decimal at

-- texts parted by commas, or `-` for none
abbrev pub comma_word : List (List ℕ) → List ℕ
comma_word [] = code "-" ∷ []
comma_word (text ∷ texts) = join_with_byte (code ",") (text ∷ texts)

-- the changes of a birth
abbrev pub changes_word : List Change → List ℕ
changes_word changes = comma_word (map change_text changes)

-- the words of a line, the first of which is its mark
abbrev pub words_of_line : Line → List (List ℕ)
words_of_line (Start version width height cell genome) =
    codes "L" ∷ decimals (version ∷ width ∷ height ∷ cell ∷ []) ++ map byte_of genome ∷ []
words_of_line (Death id update cell) = codes "D" ∷ decimals (id ∷ update ∷ cell ∷ [])
words_of_line (Birth id parent update cell over birth) =
    codes "B" ∷ decimals (id ∷ parent ∷ update ∷ cell ∷ []) ++ over_word over
    ∷ base_word birth.written ∷ changes_word birth.changes ∷ []
words_of_line (Injected id update cell over genome) =
    codes "I" ∷ decimals (id ∷ update ∷ cell ∷ []) ++ over_word over ∷ map byte_of genome ∷ []
words_of_line (Cleared id update cell) = codes "X" ∷ decimals (id ∷ update ∷ cell ∷ [])
words_of_line (Rate update name ppm) =
    codes "R" ∷ decimal update ∷ name_of_rate name ∷ decimal ppm ∷ []
words_of_line (Count s) =
    codes "U" ∷ decimals
    (s.update ∷ s.living ∷ s.births ∷ s.deaths ∷ s.genotypes ∷ s.merit ∷ s.tasks)
words_of_line (End updates) = codes "E" ∷ decimal updates ∷ []
