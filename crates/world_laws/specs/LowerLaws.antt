-- What the laws of runs take from the crates below.
use Rattle.std.specs.Prelude.{◌≡◌, ℕ, ◌*◌, ◌^◌, ◌<◌, ◌≤◌, Bool, List, [], ◌∷◌, ◌++◌, length, Some, slice_get, sum}
use Rattle.world_laws.specs.Prelude.{AreRules, draw, HasLived, IsSoundOrganism, beginning, OrganismState, new_organism, SettingNumbers, life, Link, ConfigValues, AreNumbered, IsNumberedWorld, descent_line_of, descent_lines_of, line_of_parent, world_after}
use Rattle.instruction_set.specs.declared.letter.Letter.{Letter}
use Rattle.genome.specs.Genome.{IsGenome}
use Rattle.random_streams.specs.declared.purpose.Purpose.{Purpose}
use Rattle.merit_slices.specs.Slices.{slices_of}

-- what is proved of one life, of words, of new organisms and of slices
pub record LifeLaws : Type 0 where
  pub lives : (settings : SettingNumbers) (words : ℕ → ℕ) (start : OrganismState) (steps : ℕ)
      → AreRules settings.rules → ((k : ℕ) → words k < 2 ^ 32) → IsSoundOrganism start
      → HasLived settings start steps (life settings words (beginning start) steps).0
  pub words : (seed update cell : ℕ) (purpose : Purpose) (k : ℕ)
      → draw seed update cell purpose k < 2 ^ 32
  pub new : (letters : List Letter) (inputs : List ℕ) (merit : ℕ) (credited : List Bool) (limit : ℕ)
      → IsGenome letters → length letters ≤ limit → limit ≤ 8192 → 1 ≤ merit → merit ≤ 2 ^ 38
      → IsSoundOrganism (new_organism letters inputs merit credited limit)
  pub slices : (merits : List ℕ) (average : ℕ)
      → sum (slices_of merits average) ≤ average * length merits

-- what is proved of ids and of lines of descent
pub record LineLaws : Type 0 where
  pub numbered : (config : ConfigValues) (updates : ℕ)
      → IsNumberedWorld (world_after config updates)
  pub line : (everyone : List Link) (id : ℕ) (link : Link) → AreNumbered everyone
      → slice_get everyone id ≡ Some link
      → descent_line_of everyone id ≡ line_of_parent (descent_lines_of everyone) link.parent ++ link
      ∷ []
