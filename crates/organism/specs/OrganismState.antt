-- An organism, as contracts see it, and the organism that an image is of (docs/WORLD.md, "The life
-- of one update").
use Rattle.std.specs.Prelude.{◌≡◌, ℕ, ◌≤◌, Bool, List, length}
use Rattle.organism.specs.Prelude.{Letter, no_tasks, Machine, fresh_machine, letters, machine_of_image}
use Rattle.organism.specs.declared.organism.Organism.TheInside.{Inside}
use Rattle.organism.specs.declared.image.Image.{Image}

-- an organism; the world keeps its id
pub record OrganismState : Type 0 where
  pub genome : List Letter
  pub inputs : List ℕ
  pub merit : ℕ
  -- the tasks that its merit comes from
  pub credited : List Bool
  -- the steps since its birth or its last viable divide
  pub age : ℕ
  -- how many inputs it has read since then
  pub read : ℕ
  -- the tasks that it has done since then
  pub gestation : List Bool
  pub machine : Machine

-- an organism of age 0, whose machine is at its start
unfoldable pub new_organism : List Letter → List ℕ → ℕ → List Bool → ℕ → OrganismState
new_organism letters inputs merit credited limit = record {
  genome = letters;
  inputs = inputs;
  merit = merit;
  credited = credited;
  age = 0;
  read = 0;
  gestation = no_tasks;
  machine = fresh_machine letters (length letters) limit;
}

-- what holds of every organism
pub record IsOrganism (o : OrganismState) : Type 0 where
  pub birth_length : o.machine.birth_length ≡ length o.genome
  pub read : o.read ≤ o.age

-- the organism that an `Organism` is
abbrev pub organism_view : Inside → OrganismState
organism_view o = record {
  genome = letters o.genome.value;
  inputs = o.inputs;
  merit = o.merit;
  credited = o.credited;
  age = o.age;
  read = o.read;
  gestation = o.gestation;
  machine = o.machine;
}

-- the organism with these values, whose machine has a limit
abbrev pub organism_of_image : Image → ℕ → OrganismState
organism_of_image image limit = record {
  genome = letters image.genome.value;
  inputs = image.inputs;
  merit = image.merit;
  credited = image.credited;
  age = image.age;
  read = image.read;
  gestation = image.gestation;
  machine = machine_of_image image.cpu (length (letters image.genome.value)) limit;
}
