-- The eight forms of a log's lines, and their table (docs/FORMATS.md, "The log"). For example, the
-- line `R 12 copy_error 500` has the mark `R` and the three fields (12, (Copy, 500)), and it sets
-- the rate of copy errors to 500 in a million.
use Rattle.std.specs.Prelude.{ℕ, List, [], ◌∷◌}
use Rattle.log_lines.specs.Prelude.{code, million}
use Rattle.log_lines.specs.Line.{Line, Start, Death, Birth, Injected, Cleared, Rate, Count, End}
use Rattle.log_lines.specs.Fields.{number, genome_field}
use Rattle.log_lines.specs.Kinds.{Row, last, times, ◌◂◌, small, large, side, rate_name, death_row, arrival_then, record_row}

-- a form of lines: its fields, the byte in front, the row of the fields, and the line they tell
pub record LineForm : Type 1 where
  pub Fields : Type 0
  pub mark : ℕ
  pub row : Row Fields
  pub line : Fields → Line

-- the form with this mark and this row, whose fields tell this line
abbrev pub line_form : {A : Type 0} → ℕ → Row A → (A → Line) → LineForm
line_form {A} mark row line = record { Fields = A; mark = mark; row = row; line = line }

-- the first line: the version, 1 or 2, the world's width and height, the founder's cell and letters
abbrev pub start_form : LineForm
start_form =
    line_form (code "L") (number 1 2 ◂ side ◂ side ◂ small ◂ last genome_field)
    (λ (version, (width, (height, (cell, genome)))). Start version width height cell genome)

-- a death of age: the id, the update and the cell
abbrev pub death_form : LineForm
death_form = line_form (code "D") death_row (λ (id, (update, cell)). Death id update cell)

-- a birth: the id, the parent's id, the update, the cell, who stood there, the base and the changes
abbrev pub birth_form : LineForm
birth_form =
    line_form (code "B") (large ◂ large ◂ arrival_then record_row)
    (λ (id, (parent, (update, (cell, (over, (written, changes)))))).
    Birth id parent update cell over (record { written = written; changes = changes }))

-- an injected organism: the id, the update, the cell, who stood there and the letters
abbrev pub injected_form : LineForm
injected_form =
    line_form (code "I") (large ◂ arrival_then (last genome_field))
    (λ (id, (update, (cell, (over, genome)))). Injected id update cell over genome)

-- an organism cleared by an event: the id, the update and the cell
abbrev pub cleared_form : LineForm
cleared_form = line_form (code "X") death_row (λ (id, (update, cell)). Cleared id update cell)

-- a rate that an event sets: the update, the name and the parts per million
abbrev pub rate_form : LineForm
rate_form =
    line_form (code "R") (small ◂ rate_name ◂ last (number 0 million))
    (λ (update, (name, ppm)). Rate update name ppm)

-- the end of an update: living, births, deaths, genotypes, sum of merits, how many did each task
abbrev pub count_form : LineForm
count_form =
    line_form (code "U") (small ◂ large ◂ large ◂ large ◂ large ◂ large ◂ times 9 large)
    (λ (update, (living, (births, (deaths, (genotypes, (merit, tasks)))))). Count (record {
      update = update;
      living = living;
      births = births;
      deaths = deaths;
      genotypes = genotypes;
      merit = merit;
      tasks = tasks;
    }))

-- the last line: the number of updates
abbrev pub end_form : LineForm
end_form = line_form (code "E") (last small) End

-- the forms without genomes
abbrev pub plain_forms : List LineForm
plain_forms = death_form ∷ cleared_form ∷ rate_form ∷ count_form ∷ end_form ∷ []

-- the table of the forms, each of which has another mark
abbrev pub forms : List LineForm
forms =
    start_form ∷ death_form ∷ birth_form ∷ injected_form ∷ cleared_form ∷ rate_form ∷ count_form
    ∷ end_form ∷ []
