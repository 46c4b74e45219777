-- Who lives at the end of a log, and of the bytes of one (docs/FORMATS.md, "The log").
use Rattle.std.specs.Prelude.{ℕ, suc, ◌*◌, List, [], ◌∷◌, ◌++◌, replicate, Option, Some, None, slice_get, slice_set, option_and_then, unwrap_or, ◌≡◌, ◌≢◌, Result, Ok, Err}
use Rattle.lineage_log.specs.Prelude.{Letter, BirthRecord, child_of, Line, Start, Death, Birth, Injected, Cleared}
use Rattle.std.specs.Result.{result_ok}
use Rattle.lineage_log.specs.declared.log_stop.LogStop.{LogStop}
use Rattle.lineage_log.specs.declared.log_stop.LogStop.TheVariants as stop
use Rattle.lineage_log.specs.declared.reader.Reader as code
use Rattle.lineage_log.specs.Order.{Before, After, told_all}
use Rattle.lineage_log.specs.Readings.{reader_of}

-- who stands in each cell, and the genome of every id so far
pub record Seen : Type 0 where
  pub standing : List (Option ℕ)
  pub genomes : List (List Letter)

-- the genome that a record makes of its parent's
abbrev pub born_in : List (List Letter) → ℕ → BirthRecord → List Letter
born_in genomes parent birth =
    unwrap_or
    (option_and_then (λ letters. result_ok (child_of letters birth)) (slice_get genomes parent)) []

-- one line more
abbrev pub seen_on : Seen → Line → Seen
seen_on s (Start version width height cell genome) =
    record {
      standing = slice_set (replicate (width * height) None) cell (Some 0);
      genomes = genome ∷ [];
    }
seen_on s (Death id update cell) = record s { standing = slice_set s.standing cell None }
seen_on s (Birth id parent update cell over birth) =
    record {
      standing = slice_set s.standing cell (Some id);
      genomes = s.genomes ++ born_in s.genomes parent birth ∷ [];
    }
seen_on s (Injected id update cell over genome) =
    record { standing = slice_set s.standing cell (Some id); genomes = s.genomes ++ genome ∷ [] }
seen_on s (Cleared id update cell) = record s { standing = slice_set s.standing cell None }
seen_on s _ = s

-- all lines
abbrev pub seen_all : Seen → List Line → Seen
seen_all s [] = s
seen_all s (line ∷ lines) = seen_all (seen_on s line) lines

-- cell, id and genome of one cell's organism
pub record Resident : Type 0 where
  pub cell : ℕ
  pub id : ℕ
  pub genome : List Letter

-- the organism of a cell before others
abbrev pub resident_at : ℕ → Option ℕ → List (List Letter) → List Resident → List Resident
resident_at cell None genomes others = others
resident_at cell (Some id) genomes others =
    record { cell = cell; id = id; genome = unwrap_or (slice_get genomes id) [] } ∷ others

-- the living from a cell on
abbrev pub residents_from : ℕ → List (Option ℕ) → List (List Letter) → List Resident
residents_from cell [] genomes = []
residents_from cell (slot ∷ slots) genomes =
    resident_at cell slot genomes (residents_from (suc cell) slots genomes)

-- who lives at the end, each with the genome that the records of its line make
unfoldable pub replay_of : List Line → List Resident
replay_of lines =
    let nobody : Seen = record { standing = []; genomes = [] } in
    let seen = seen_all nobody lines in
    residents_from 0 seen.standing seen.genomes

-- who lives at the end of what was read, or why it was not read
abbrev pub living_residents_of : Result (List Line) LogStop → Result (List Resident) LogStop
living_residents_of (Ok lines) = Ok (replay_of lines)
living_residents_of (Err e) = Err e

-- the reader that a log leaves, or why the bytes are none; running out of memory says nothing
abbrev pub LeavesReader : Result code.Reader LogStop → Result (List Line) LogStop → Type 0
LeavesReader (Ok reader) read =
    (lines : List Line) × (read ≡ Ok lines)
    × (told_all Before lines ≡ Ok (After (reader_of reader)))
LeavesReader (Err e) read = e ≢ stop.Memory → read ≡ Err e
