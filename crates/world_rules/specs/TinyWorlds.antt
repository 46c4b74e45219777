-- Worlds of one cell, for theorems by computation. For example, in `tiny (once (clear 0 0))` an
-- event clears the only cell at the end of update 1. No public clause of the world cites this file.
use Rattle.std.specs.Prelude.{ℕ, Bool, true, List, [], ◌∷◌, Some, None, replicate}
use Rattle.world_rules.specs.Prelude.{Letter, NopA, Line, no_tasks, NewbornValue, OrganismState, EventValue, WhatValue, ConfigValues}
use Rattle.log_lines.specs.Forms.{count_form}
use Rattle.mutations.specs.BirthRecord.{BirthRecord}
use Rattle.world_rules.specs.World.{founder_link, Scene}
use Rattle.world_rules.specs.Lives.{CellLife}
use Rattle.world_rules.specs.Update.{after_lives}

-- a genome of eight letters
abbrev pub eight : Letter → List Letter
eight letter = replicate 8 letter

-- one cell, eight steps an update and no errors, where an organism dies at the age of its length
abbrev pub tiny : List EventValue → ConfigValues
tiny happening = record {
  width = 1;
  height = 1;
  updates = 2;
  seed = 1;
  founder_cell = 0;
  average_slices = 8;
  death = true;
  age_limit = 1;
  rates = record {
    copy = 0;
    insert = 0;
    delete = 0;
    site_point = 0;
    site_insert = 0;
    site_delete = 0;
  };
  prefer_empty = true;
  rules = record {
    least = 8;
    greatest = 2048;
    executed_percent = 50;
    copied_percent = 50;
    need_alloc = true;
  };
  memory_limit = 2048;
  ancestor = eight NopA;
  event = happening;
}

-- this event in update 1
abbrev pub once : WhatValue → List EventValue
once what = record { update = 1; what = what } ∷ []

-- the life of the founder, with these newborns
abbrev pub founder_life : OrganismState → Bool → List NewbornValue → List CellLife
founder_life o died newborns =
    record { occupant = Some (record { id = 0; organism = o }); died = died; newborns = newborns } ∷ []

-- a life without newborns
abbrev pub barren : OrganismState → Bool → List CellLife
barren o died = founder_life o died []

-- the scene of an update as the life of the founder has ended
abbrev pub scene_after_life : ℕ → List CellLife → Scene
scene_after_life update lives = after_lives update (founder_link 0 0 0 (eight NopA) ∷ []) lives

-- the record of a child that is as its parent
abbrev pub unchanged_birth : BirthRecord
unchanged_birth = record { written = None; changes = [] }

-- a child of the founder with this number and merit
abbrev pub child : ℕ → ℕ → NewbornValue
child nth merit =
    record {
      nth = nth;
      genome = eight NopA;
      origin = unchanged_birth;
      merit = merit;
      credited = no_tasks;
    }

-- a life that ended by age, of an organism that bore two
abbrev pub fertile : OrganismState → List CellLife
fertile o = founder_life o true (child 0 8 ∷ child 1 16 ∷ [])

-- what is counted in one cell where no task is done
abbrev pub counts : ℕ → ℕ → ℕ → ℕ → ℕ → ℕ → Line
counts update living births deaths genotypes merit = count_form.line
    (update, (living, (births, (deaths, (genotypes, (merit, replicate 9 0))))))
