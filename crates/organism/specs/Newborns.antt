-- The newborns of an update (docs/WORLD.md, "The life of one update").
use Rattle.std.specs.Prelude.{ℕ, Bool, List}
use Rattle.organism.specs.Prelude.{Letter, letters, BirthRecord, record_of}
use Rattle.organism.specs.declared.newborn.Newborn.{Newborn}

-- a newborn as lists and numbers
pub record NewbornValue : Type 0 where
  pub nth : ℕ
  pub genome : List Letter
  pub origin : BirthRecord
  pub merit : ℕ
  pub credited : List Bool

-- the lists and numbers of a newborn
abbrev pub newborn_value : Newborn → NewbornValue
newborn_value newborn = record {
  nth = newborn.nth;
  genome = letters newborn.genome;
  origin = record_of newborn.origin;
  merit = newborn.merit;
  credited = newborn.credited;
}
