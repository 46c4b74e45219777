-- The log of a run, the world at its end, and the sums that a run keeps beside its world
-- (docs/FORMATS.md, "The log"; docs/WORLD.md, "Several seeds").
use Rattle.std.specs.Prelude.{◌≡◌, ℕ, List, map, ◌≤◌, ◌<◌, ◌+◌, ◌*◌, ◌^◌, length}
use Rattle.logged_run.specs.Prelude.{ConfigValues, WorldValue, log_text, updates_text}
use Rattle.std.specs.List.{range_with_len, sum_by}
use Rattle.log_lines.specs.declared.stats.Stats.{Stats}
use Rattle.world_rules.specs.Statistics.{stats_of}
use Rattle.logged_run.specs.declared.sums.Sums.{Sums}

-- the log of a configuration's run
abbrev pub run_text : ConfigValues → List ℕ
run_text config = log_text config config.updates

-- this is the world of a configuration after so many updates
pub record IsWorldAt (of : ConfigValues) (updates : ℕ) (world : WorldValue) : Type 0 where
  pub config : world.config ≡ of
  pub update : world.update ≡ updates

-- this is the world after a configuration's last update
abbrev pub IsFinalWorld : ConfigValues → WorldValue → Type 0
IsFinalWorld of = IsWorldAt of of.updates

-- what is counted after each of so many updates, from the first on
abbrev pub counts_until : ConfigValues → ℕ → List Stats
counts_until config updates = map (stats_of config) (range_with_len 1 updates)

-- the births of so many updates together
unfoldable pub births_until : ConfigValues → ℕ → ℕ
births_until config updates = sum_by (λ stats. stats.births) (counts_until config updates)

-- the deaths of so many updates together
unfoldable pub deaths_until : ConfigValues → ℕ → ℕ
deaths_until config updates = sum_by (λ stats. stats.deaths) (counts_until config updates)

-- a number of 64 bits can be added to each of these sums
abbrev pub AreSmall : Sums → Type 0
AreSmall sums = (sums.births < 2 ^ 100) × (sums.deaths < 2 ^ 100) × (sums.bytes < 2 ^ 100)

-- a sum with a number of 64 bits more
pub record IsSumWith (more before after : ℕ) : Type 0 where
  pub sum : after ≡ before + more
  pub small : after ≤ before + 2 ^ 64

-- the sums with what one update more counts, whose text is so long
pub record AreSumsWith (stats : Stats) (long : ℕ) (before after : Sums) : Type 0 where
  pub births : IsSumWith stats.births before.births after.births
  pub deaths : IsSumWith stats.deaths before.deaths after.deaths
  pub bytes : IsSumWith long before.bytes after.bytes

-- a sum over so many updates, each of which adds no more than 2 ^ 64
pub record IsSumOver (updates whole sum : ℕ) : Type 0 where
  pub is : sum ≡ whole
  pub small : sum ≤ 2 ^ 64 * updates

-- these are the sums over so many updates of a configuration's run
pub record AreSumsOf (config : ConfigValues) (updates : ℕ) (sums : Sums) : Type 0 where
  pub births : IsSumOver updates (births_until config updates) sums.births
  pub deaths : IsSumOver updates (deaths_until config updates) sums.deaths
  pub bytes : IsSumOver updates (length (updates_text config updates)) sums.bytes

-- a configuration's run came to its end with this world and these sums
pub record IsEndOf (config : ConfigValues) (world : WorldValue) (sums : Sums) : Type 0 where
  pub final : IsFinalWorld config world
  pub summed : AreSumsOf config config.updates sums
