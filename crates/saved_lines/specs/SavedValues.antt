-- What the lines of a saved world say (docs/FORMATS.md, "Saved worlds").
use Rattle.std.specs.Prelude.{ℕ, Bool, List}
use Rattle.saved_lines.specs.Prelude.{Letter, letters, RuleNumbers, RateNumbers, numbers_of}
use Rattle.saved_lines.specs.declared.state_head.StateHead.{StateHead}
use Rattle.saved_lines.specs.declared.resident.Resident.{Resident}

-- the first line: the world's size, how far it is, what goes on in it, and the next update's rates
pub record HeadValues : Type 0 where
  pub width : ℕ
  pub height : ℕ
  pub update : ℕ
  pub next_id : ℕ
  pub seed : ℕ
  pub average_slices : ℕ
  pub death : Bool
  pub age_limit : ℕ
  pub rates : RateNumbers
  pub prefer_empty : Bool
  pub rules : RuleNumbers
  pub memory_limit : ℕ

-- the values of a head
abbrev pub head_values : StateHead → HeadValues
head_values head = record {
  width = head.width;
  height = head.height;
  update = head.update;
  next_id = head.next_id;
  seed = head.seed;
  average_slices = head.average_slices;
  death = head.death;
  age_limit = head.age_limit;
  rates = numbers_of head.rates;
  prefer_empty = head.prefer_empty;
  rules = record {
    least = head.least_length;
    greatest = head.greatest_length;
    executed_percent = head.executed_percent;
    copied_percent = head.copied_percent;
    need_alloc = head.need_alloc;
  };
  memory_limit = head.memory_limit;
}

-- the line of an organism, but for its machine
pub record OrganismValues : Type 0 where
  pub cell : ℕ
  pub id : ℕ
  pub merit : ℕ
  pub credited : List Bool
  pub age : ℕ
  pub read : ℕ
  pub gestation : List Bool
  pub inputs : List ℕ
  pub genome : List Letter

-- the values of a resident
abbrev pub organism_values : Resident → OrganismValues
organism_values resident = record {
  cell = resident.cell;
  id = resident.id;
  merit = resident.image.merit;
  credited = resident.image.credited;
  age = resident.image.age;
  read = resident.image.read;
  gestation = resident.image.gestation;
  inputs = resident.image.inputs;
  genome = letters resident.image.genome.value;
}
