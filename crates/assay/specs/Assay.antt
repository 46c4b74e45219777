-- Several seeds of one configuration, and what they look like as text (docs/WORLD.md, "Several
-- seeds"; docs/FORMATS.md, "Assay lines").
use Rattle.std.specs.Prelude.{ℕ, Bool, List, map, nat_lt, Option, option_map, slice_index, ◌++◌, ◌∷◌, flat_map, length, codes, decimal}
use Rattle.std.specs.List.{count_by, range_with_len}
use Rattle.instruction_set.specs.declared.letter.Letter.{Letter}
use Rattle.log_lines.specs.declared.stats.Stats.{Stats}
use Rattle.world_config.specs.Values.{ConfigValues}
use Rattle.world_rules.specs.Statistics.{dominant_of, stats_of}
use Rattle.world_rules.specs.WorldRun.{world_after}
use Rattle.logged_run.specs.RunText.{births_until, deaths_until}
use Rattle.std.specs.Option.{option_map_or}
use Rattle.genome.specs.GenomeText.{letters_text_of}
use Rattle.log_lines.specs.LineText.{words_text}

-- the genome that most of the living have after so many updates, where anybody lives
abbrev pub dominant_after : ConfigValues → ℕ → Option (List Letter)
dominant_after config updates =
    option_map (λ d. d.genome) (dominant_of (world_after config updates).cells)

-- what became of a seed's run: births, deaths, the last update's counts, the dominant genome then
pub record AssayValue : Type 0 where
  pub seed : ℕ
  pub births : ℕ
  pub deaths : ℕ
  pub last : Stats
  pub dominant : Option (List Letter)

-- the same configuration with this seed
abbrev pub with_seed : ConfigValues → ℕ → ConfigValues
with_seed config seed = record config { seed = seed }

-- what becomes of the run of the same configuration with this seed
abbrev pub assay_of_seed : ConfigValues → ℕ → AssayValue
assay_of_seed config seed =
    let run = with_seed config seed in
    record {
      seed = seed;
      births = births_until run run.updates;
      deaths = deaths_until run run.updates;
      last = stats_of run run.updates;
      dominant = dominant_after run run.updates;
    }

-- what becomes of the runs with so many seeds, from the first on, one after another
unfoldable pub assay_list : ConfigValues → ℕ → ℕ → List AssayValue
assay_list config first count = map (assay_of_seed config) (range_with_len first count)

-- some of the living have done the task at this place of the order after the last update
abbrev pub has_doers : ℕ → AssayValue → Bool
has_doers task a = nat_lt 0 (slice_index a.last.tasks task)

-- in how many of these runs
abbrev pub seeds_with : List AssayValue → ℕ → ℕ
seeds_with assays task = count_by (has_doers task) assays

-- for each task, in the order of the tasks
unfoldable pub seeds_with_each : List AssayValue → List ℕ
seeds_with_each assays = map (seeds_with assays) (range_with_len 0 9)

-- seed, living, births, deaths, genotypes, sum of the merits, and the nine task counts
abbrev pub assay_numbers : AssayValue → List ℕ
assay_numbers a =
    a.seed ∷ a.last.living ∷ a.births ∷ a.deaths ∷ a.last.genotypes ∷ a.last.merit ∷ a.last.tasks

-- the letters of the dominant genome, or a dash
abbrev pub dominant_word : Option (List Letter) → List ℕ
dominant_word dominant = option_map_or letters_text_of dominant (codes "-")

-- the line of a seed
unfoldable pub assay_line : AssayValue → List ℕ
assay_line a =
    codes "A" ++ words_text (map decimal (assay_numbers a))
    ++ codes " " ++ dominant_word a.dominant ++ codes "\n"

-- the last line: how many seeds there are, and in how many of them each task is done
unfoldable pub tally_line : List AssayValue → List ℕ
tally_line assays =
    codes "M" ++ words_text (map decimal (length assays ∷ seeds_with_each assays)) ++ codes "\n"

-- the lines of the seeds, and the last line
abbrev pub assays_text : List AssayValue → List ℕ
assays_text assays = flat_map assay_line assays ++ tally_line assays

-- what `assay` of a configuration writes
abbrev pub assay_text : ConfigValues → ℕ → ℕ → List ℕ
assay_text config first count = assays_text (assay_list config first count)
