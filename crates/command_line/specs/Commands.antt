-- The forms of the commands, and their numbers (docs/FORMATS.md, "The command line").
use Rattle.std.specs.Prelude.{ℕ, List, [], ◌∷◌, Option, Some, None, codes, option_and_then, option_map, slice_get}
use Rattle.command_line.specs.Form.{Form, Told, Valued, three_numbers_of}
use Rattle.command_line.specs.Words.{is_set, told_by}
use Rattle.numerals.specs.Numeral.{number_of}
use Rattle.command_line.specs.declared.assay.Assay.{Assay}
use Rattle.command_line.specs.declared.positional.Bench.{Bench}
use Rattle.command_line.specs.declared.positional.FurtherUpdates.{FurtherUpdates}
use Rattle.command_line.specs.declared.run.Run.{Run}
use Rattle.command_line.specs.declared.positional.Lineage.{Lineage}
use Rattle.command_line.specs.declared.positional.Positional.{Positional}
use Rattle.command_line.specs.declared.trace.Trace.{Trace}

-- `--inputs a,b,c`
abbrev pub inputs_option : Valued
inputs_option = record { name = codes "inputs"; default = Some (codes "986895,3355443,5592405") }

-- `--workers k`
abbrev pub workers_option : Valued
workers_option = record { name = codes "workers"; default = Some (codes "1") }

-- `save [--workers k]`
abbrev pub workers_form : Form
workers_form = record { options = workers_option ∷ []; flags = []; positionals = 0 }

-- `--watch looks`
abbrev pub watch_option : Valued
watch_option = record { name = codes "watch"; default = None }

-- `lineage cell`, `bench seed`, `resume more` and `advance more`, each with `[--workers k]`
abbrev pub positional_form : Form
positional_form = record { options = workers_option ∷ []; flags = []; positionals = 1 }

-- the number in this range that the positional at this place spells
abbrev pub positional_number_at : ℕ → ℕ → ℕ → Told → Option ℕ
positional_number_at least greatest place told =
    option_and_then (number_of least greatest) (slice_get told.positionals place)

-- the value of the option at this place
abbrev pub option_value_at : ℕ → Told → Option (List ℕ)
option_value_at place told = option_and_then (λ value. value) (slice_get told.values place)

-- `trace` with the steps and the inputs that its texts spell
abbrev pub trace_of : Told → Option Trace
trace_of told = option_and_then (λ steps.
    option_map (λ low. record { steps = steps; org = is_set told.flags 0; inputs = low })
    (option_and_then (three_numbers_of 16777215) (option_value_at 0 told)))
    (positional_number_at 0 1000000 0 told)

-- the looks that the value spells, where there is a value
abbrev pub looks_of_value : Option (List ℕ) → Option (Option ℕ)
looks_of_value None = Some None
looks_of_value (Some value) = option_map (λ looks. Some looks) (number_of 0 1000000 value)

-- the workers that the value at this place spells
abbrev pub workers_at : ℕ → Told → Option ℕ
workers_at place told = option_and_then (number_of 1 64) (option_value_at place told)

-- `run` with so many workers and this watch
abbrev pub run_with : Option (List ℕ) → ℕ → Option Run
run_with watch workers =
    option_map (λ looks. record { workers = workers; watch = looks }) (looks_of_value watch)

-- `run` with the workers and the looks that its values spell
abbrev pub run_of : Told → Option Run
run_of told = option_and_then (run_with (option_value_at 1 told)) (workers_at 0 told)

-- the number up to this one, and the workers, that the texts spell
abbrev pub positional_of : ℕ → Told → Option Positional
positional_of greatest told = option_and_then (λ number.
    option_map (λ workers. record { number = number; workers = workers }) (workers_at 0 told))
    (positional_number_at 0 greatest 0 told)

-- what the words after the name tell a command with one number up to this one
abbrev pub positional_told : ℕ → List (List ℕ) → Option Positional
positional_told greatest words =
    option_and_then (positional_of greatest) (told_by positional_form words)

-- what the words after the name tell `lineage`
abbrev pub lineage_told : List (List ℕ) → Option Lineage
lineage_told words =
    option_map (λ p. record { cell = p.number; workers = p.workers }) (positional_told 65535 words)

-- what the words after the name tell `bench`
abbrev pub bench_told : List (List ℕ) → Option Bench
bench_told words = option_map (λ p. record { seed = p.number; workers = p.workers })
    (positional_told 9223372036854775807 words)

-- what the words after the name tell `resume` and `advance`
abbrev pub further_updates_told : List (List ℕ) → Option FurtherUpdates
further_updates_told words =
    option_map (λ p. record { more = p.number; workers = p.workers }) (positional_told 1000000 words)

-- `assay` of so many seeds, from this one on, and the workers, where there is a number of them
abbrev pub assay_with : ℕ → ℕ → Option ℕ → Option Assay
assay_with count first =
    option_map (λ workers. record { count = count; first = first; workers = workers })

-- `assay` of the number of seeds and the first seed, with the workers, that its texts spell
abbrev pub assay_of : Told → Option Assay
assay_of told = option_and_then (λ count.
    option_and_then (λ first. assay_with count first (workers_at 0 told))
    (positional_number_at 0 9223372036854775744 1 told)) (positional_number_at 1 64 0 told)
