-- What becomes of the seeds, one after another.
use Rattle.std.proofs.Common.{◌≡◌, ℕ, suc, ◌<◌, List, [], ◌∷◌, length, map, get_or, Option, Result, Ok, refl, subst, arith}
use Rattle.std.specs.Prelude.{IfOk}
use Rattle.avida_port.specs.declared.memory.Memory.{Memory}
use Rattle.instruction_set.specs.declared.letter.Letter.{Letter}
use Rattle.log_lines.specs.declared.stats.Stats.{Stats}
use Rattle.world_config.specs.Values.{ConfigValues}
use Rattle.world_core.specs.Scenes.{WorldValue}
use Rattle.world_rules.specs.Statistics.{stats_of}
use Rattle.logged_run.specs.RunText.{IsEndOf}
use Rattle.logged_run.specs.declared.sums.Sums.{Sums}
use Rattle.assay.specs.Assay.{AssayValue, assay_of_seed, dominant_after, with_seed}

-- what is told of the world after the last update is what becomes of the seed's run
pub seed_is : (config : ConfigValues) (seed : ℕ) (world : WorldValue) (sums : Sums) (last : Stats)
    (dominant : Option (List Letter)) → IsEndOf (with_seed config seed) world sums
    → last ≡ stats_of world.config world.update
    → dominant ≡ dominant_after world.config world.update
    → record {
      seed = seed;
      births = sums.births;
      deaths = sums.deaths;
      last = last;
      dominant = dominant;
    } ≡ assay_of_seed config seed
seed_is config seed world sums last dominant so counted most =
    rw (most, counted, so.summed.births.is, so.summed.deaths.is, so.final.update, so.final.config)
    refl

-- a run that came to its end
abbrev ended : AssayValue → Result AssayValue Memory
ended a = Ok a

module _ (config : ConfigValues) where
  -- the run at a place is that of the seed there, if memory didn't run out in it
  abbrev AreRuns : List ℕ → List (Result AssayValue Memory) → Type 0
  AreRuns seeds runs = (place seed : ℕ) (run : Result AssayValue Memory) → place < length seeds
      → IfOk (get_or runs place run) (λ a. a ≡ assay_of_seed config (get_or seeds place seed))

  -- runs that all came to their end are those of the seeds
  all_are : (seeds : List ℕ) (all : List AssayValue) → length (map ended all) ≡ length seeds
      → AreRuns seeds (map ended all) → all ≡ map (assay_of_seed config) seeds
  all_are [] [] long each = refl
  all_are [] (a ∷ all) long each = absurd (omega (arith, long))
  all_are (seed ∷ seeds) [] long each = absurd (omega (arith, long))
  all_are (seed ∷ seeds) (a ∷ all) long each =
      let shorter : length (map ended all) ≡ length seeds = omega (arith, long) in
      let rest = all_are seeds all shorter
      (λ place other run within. each (suc place) other run (omega (arith, within))) in
      λ i. each 0 seed (Ok a) (omega arith) i ∷ rest i

  -- where all runs came to their end, they are those of the seeds
  pub runs_are : (seeds : List ℕ) (runs : List (Result AssayValue Memory)) (all : List AssayValue)
      → length runs ≡ length seeds
      → AreRuns seeds runs → runs ≡ map ended all → all ≡ map (assay_of_seed config) seeds
  runs_are seeds runs all long each same =
      all_are seeds all (rw (← same) long) (subst (AreRuns seeds) same each)
