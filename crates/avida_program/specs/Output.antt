-- What each command writes, and the world that a run leaves (docs/FORMATS.md, "Bench lines", "Lines
-- of descent", "Replay lines", "The log", "Saved worlds" and "Tree lines").
use Rattle.std.specs.Prelude.{◌≡◌, ℕ, List, Option, Some, Ok, [], ◌++◌, codes, decimal, length, ◌∷◌, None, flat_map, map}
use Rattle.avida_program.specs.Prelude.{SinkState, Line, Count, base_word, changes_word, ReadsLog, lines_text, replay_of, Resident, ConfigValues, WorldValue, world_in, Change, GainedText, IsFinalWorld, births_until, run_text, line_text, words_text, numbers_text, values_in_table, byte_of, BirthRecord, line_in, spaced, upgraded, saved_state_after, SavedState, state_of, saved_text, ancestor_line, depth_line}
use Rattle.world_rules.specs.WorldRun.{residents_of_world, world_after}
use Rattle.toml.specs.Data.{no_members}
use Rattle.world_rules.specs.Statistics.{stats_of}
use Rattle.lineage_log.specs.Ancestry.{Link}
use Rattle.phylogeny.specs.declared.tree.Phylogeny.{Phylogeny}

-- the world after a configuration's last update is left
abbrev pub LeavesFinal : Change (Option WorldValue) → ConfigValues → Type 0
LeavesFinal last config =
    (world : WorldValue) × (last.after ≡ Some world) × IsFinalWorld config world

-- what the sink gained reads as a log, which replays to who lives in this world
pub record GainedLogOf (sink : Change SinkState) (world : WorldValue) : Type 0 where
  pub text : List ℕ
  pub gained : GainedText sink text
  pub lines : List Line
  pub reads : ReadsLog text (Ok lines)
  pub replays : replay_of lines ≡ residents_of_world (world_in world)

-- the configuration that is run: each key has its default but the seed and the updates
unfoldable pub bench_config : ℕ → ConfigValues
bench_config seed = record (values_in_table no_members []) { seed = seed; updates = 200 }

-- what is counted after a run's last update, its births, and how many bytes its log has
unfoldable pub sums_text : ConfigValues → List ℕ
sums_text config =
    line_text (Count (stats_of config config.updates))
    ++ codes "births " ++ decimal (births_until config config.updates) ++ codes "\n"
    ++ codes "bytes " ++ decimal (length (run_text config)) ++ codes "\n"

-- what `bench` of a seed writes
abbrev pub bench_text : ℕ → List ℕ
bench_text seed = sums_text (bench_config seed)

-- the id of a parent with a space before it; a founder has a dash
abbrev pub parent_text : Option ℕ → List ℕ
parent_text None = codes " -"
parent_text (Some id) = spaced id

-- the base and the changes as a log has them, each with a space before it; a founder has dashes
abbrev pub origin_text : Option BirthRecord → List ℕ
origin_text None = codes " - -"
origin_text (Some birth) = words_text (base_word birth.written ∷ changes_word birth.changes ∷ [])

-- who it is, and where it came from: the id, the parent, the update and the cell
abbrev pub place_text : Link → List ℕ
place_text link =
    codes "P" ++ spaced link.id ++ parent_text link.parent ++ spaced link.update ++ spaced link.cell

-- the line of one of a line of descent
abbrev pub path_line : Link → List ℕ
path_line link =
    place_text link ++ origin_text link.origin ++ codes " " ++ map byte_of link.genome ++ codes "\n"

-- a line of descent, or a dash where nobody stands
abbrev pub path_lines : Option (List Link) → List ℕ
path_lines None = codes "-\n"
path_lines (Some path) = flat_map path_line path

-- the line of descent of who stands in a cell after a configuration's last update
abbrev pub path_text : ConfigValues → ℕ → List ℕ
path_text config cell = path_lines (line_in (world_after config config.updates) cell)

-- the line of one who lives: the cell, the id and the letters
abbrev pub resident_line : Resident → List ℕ
resident_line r =
    decimal r.cell ++ codes " " ++ decimal r.id ++ codes " " ++ map byte_of r.genome ++ codes "\n"

-- who lives at the end of a log, a line each
abbrev pub replay_text : List Line → List ℕ
replay_text lines = flat_map resident_line (replay_of lines)

-- the lines of a log with the last version
abbrev pub upgrade_text : List Line → List ℕ
upgrade_text lines = lines_text (upgraded lines)

-- the text of the world at the end of a configuration's run
abbrev pub save_text : ConfigValues → List ℕ
save_text config = saved_text (state_of config)

-- the text of the world that a saved one is so many updates later
abbrev pub advanced_text : SavedState → ℕ → List ℕ
advanced_text state more = saved_text (saved_state_after state more)

-- how many ids are kept, and how many of these are branches
abbrev pub counts_line : ℕ → ℕ → List ℕ
counts_line kept branches = codes "K" ++ numbers_text (kept ∷ branches ∷ []) ++ codes "\n"

-- the lines behind those of who lives
abbrev pub last_lines : Phylogeny → List ℕ
last_lines tree = ancestor_line tree.common ++ counts_line tree.kept tree.branches

-- all lines
abbrev pub lines_of_tree : Phylogeny → List ℕ
lines_of_tree tree = flat_map depth_line tree.depths ++ last_lines tree
