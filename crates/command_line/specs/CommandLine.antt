-- What words give a command (docs/FORMATS.md, "The command line").
use Rattle.std.specs.Prelude.{Bool, ℕ, List, [], ◌∷◌, Option, None, ◌≤◌, ⊤, codes, if◌then◌else◌, option_map}
use Rattle.std.specs.Str.{bytes_eq}
use Rattle.command_line.specs.Commands as told
use Rattle.command_line.specs.declared.command.Command.{Command}
use Rattle.command_line.specs.declared.command.Command.TheVariants.{Trace, Run, Lineage, Bench, Assay, Save, Resume, Advance, Replay, Upgrade, Tree, Landscape}
use Rattle.command_line.specs.declared.command.Spelling.{Spelling}
use Rattle.command_line.specs.declared.command.Spelling.TheVariants.{Letters, Names}
use Rattle.command_line.specs.Rows.{assay_row, landscape_row, nothing_row, run_row, save_row, told_by_row, trace_row}

-- the spelling of a genome, where `--org` stands or not
abbrev pub spelling_of : Bool → Spelling
spelling_of org = if org then Names else Letters

-- a command that takes no words
abbrev pub bare_command : Command → List (List ℕ) → Option Command
bare_command command words = option_map (λ nothing. command) (told_by_row nothing_row words)

-- the command of a name, with what the words after it tell it
abbrev pub command_named : List ℕ → List (List ℕ) → Option Command
command_named name words =
    if bytes_eq name (codes "trace") then option_map Trace (told_by_row trace_row words)
    else if bytes_eq name (codes "run") then option_map Run (told_by_row run_row words)
    else if bytes_eq name (codes "lineage") then option_map Lineage (told.lineage_told words)
    else if bytes_eq name (codes "bench") then option_map Bench (told.bench_told words)
    else if bytes_eq name (codes "assay") then option_map Assay (told_by_row assay_row words)
    else if bytes_eq name (codes "save") then option_map Save (told_by_row save_row words)
    else if bytes_eq name (codes "resume")
    then option_map Resume (told.further_updates_told words)
    else if bytes_eq name (codes "advance")
    then option_map Advance (told.further_updates_told words)
    else if bytes_eq name (codes "replay") then bare_command Replay words
    else if bytes_eq name (codes "upgrade") then bare_command Upgrade words
    else if bytes_eq name (codes "tree") then bare_command Tree words
    else if bytes_eq name (codes "landscape")
    then option_map Landscape (told_by_row landscape_row words)
    else None

-- the first word is the name, and the words after it are read by its form
abbrev pub command_of : List (List ℕ) → Option Command
command_of [] = None
command_of (name ∷ words) = command_named name words

-- how often a command's watcher looks, where it has a watcher
abbrev pub looks_of : Command → Option ℕ
looks_of (Run run) = run.watch
looks_of _ = None

-- there are from 1 to 64 workers a world; `bench` has a configuration's seed, `assay` from 1 to 64
abbrev pub HasNumbersInRange : Command → Type 0
HasNumbersInRange (Run run) = (1 ≤ run.workers) × (run.workers ≤ 64)
HasNumbersInRange (Lineage lineage) = (1 ≤ lineage.workers) × (lineage.workers ≤ 64)
HasNumbersInRange (Bench bench) =
    (bench.seed ≤ 9223372036854775807) × (1 ≤ bench.workers) × (bench.workers ≤ 64)
HasNumbersInRange (Assay assay) = (1 ≤ assay.count) × (assay.count ≤ 64)
    × (assay.first ≤ 9223372036854775744) × (1 ≤ assay.workers) × (assay.workers ≤ 64)
HasNumbersInRange (Save workers) = (1 ≤ workers) × (workers ≤ 64)
HasNumbersInRange (Resume resume) = (1 ≤ resume.workers) × (resume.workers ≤ 64)
HasNumbersInRange (Advance advance) = (1 ≤ advance.workers) × (advance.workers ≤ 64)
HasNumbersInRange _ = ⊤
