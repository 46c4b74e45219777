-- The ranges of the values of each line of a saved world, and that a line has one spelling
-- (docs/FORMATS.md, "Saved worlds").
use Rattle.std.specs.Prelude.{◌≡◌, ℕ, ◌<◌, ◌≤◌, ◌^◌, ℤ, FitsSigned, List, length, Some}
use Rattle.saved_lines.specs.Prelude.{w32, AllByRecursion, IsGenome, letters, IsTemplate, HasTopBytes, AreRules, RateNumbers, CpuImage}
use Rattle.mutations.specs.RecordForm.{IsWithin}
use Rattle.saved_lines.specs.SavedText.{SavedLine, Head, Organism, Machine, Count, saved_row_text}
use Rattle.saved_lines.specs.SavedValues.{HeadValues, OrganismValues, head_values}
use Rattle.saved_lines.specs.SavedReading.{saved_line_of}
use Rattle.saved_lines.specs.declared.saved_line.OrganismLine.{OrganismLine}
use Rattle.saved_lines.specs.declared.saved_line.SavedLine as read_line
use Rattle.saved_lines.specs.declared.saved_line.SavedLine.TheVariants as of

-- six rates in parts per million
pub record AreRates (rates : RateNumbers) : Type 0 where
  pub copy : rates.copy ≤ 1000000
  pub insert : rates.insert ≤ 1000000
  pub delete : rates.delete ≤ 1000000
  pub site_point : rates.site_point ≤ 1000000
  pub site_insert : rates.site_insert ≤ 1000000
  pub site_delete : rates.site_delete ≤ 1000000

-- the values of a first line, with a next id of at most this
pub record IsHeadUpTo (greatest_id : ℕ) (head : HeadValues) : Type 0 where
  pub width : IsWithin 1 256 head.width
  pub height : IsWithin 1 256 head.height
  pub update : head.update ≤ 1000000
  pub next_id : IsWithin 1 greatest_id head.next_id
  pub seed : head.seed < 2 ^ 63
  pub average_slices : IsWithin 1 1000 head.average_slices
  pub age_limit : IsWithin 1 1000 head.age_limit
  pub rates : AreRates head.rates
  pub rules : AreRules head.rules
  pub memory_limit : IsWithin head.rules.greatest 8192 head.memory_limit

-- the values of a first line
abbrev pub IsHead : HeadValues → Type 0
IsHead head = IsHeadUpTo (2 ^ 62) head

-- the values of an organism's line; its sets are of nine tasks
pub record IsOrganismLine (o : OrganismValues) : Type 0 where
  pub cell : o.cell < 2 ^ 32
  pub id : o.id < 2 ^ 64
  pub merit : o.merit < 2 ^ 64
  pub credited : length o.credited ≡ 9
  pub age : o.age < 2 ^ 64
  pub read : o.read < 2 ^ 64
  pub gestation : length o.gestation ≡ 9
  pub inputs : HasTopBytes o.inputs
  pub genome : IsGenome o.genome

-- so many numbers of 32 bits
abbrev pub AreWords : ℕ → List ℤ → Type 0
AreWords count numbers = (length numbers ≡ count) × AllByRecursion (λ n. FitsSigned w32 n) numbers

-- the values of a machine's line
pub record IsMachineLine (m : CpuImage) : Type 0 where
  pub registers : AreWords 3 m.registers
  pub active : m.active < 2
  pub heads : (length m.heads ≡ 4) × AllByRecursion (λ head. head < 2 ^ 32) m.heads
  pub nops : IsTemplate m.nops
  pub first : AreWords 10 m.first
  pub second : AreWords 10 m.second
  pub memory : IsGenome m.memory
  pub clean : IsGenome m.clean
  pub executed : 0 < length m.executed
  pub copied : 0 < length m.copied

-- the values of a line are in their ranges, so that its text is read as the line again
abbrev pub HasSavedForm : SavedLine → Type 0
HasSavedForm (Head head) = IsHead head
HasSavedForm (Organism o) = IsOrganismLine o
HasSavedForm (Machine m) = IsMachineLine m
HasSavedForm (Count organisms) = organisms < 2 ^ 64

-- a line is read from its text, and from no other; each byte of it is above 10, the newline
pub record OneSpelling : Type 0 where
  pub again : (line : SavedLine) → HasSavedForm line
      → saved_line_of (saved_row_text line) ≡ Some line
  pub takes : (bytes : List ℕ) (line : SavedLine) → saved_line_of bytes ≡ Some line
      → (saved_row_text line ≡ bytes) × HasSavedForm line
  pub one_line : (line : SavedLine) → HasSavedForm line
      → AllByRecursion (λ b. 10 < b) (saved_row_text line)

-- the values of an organism's line
abbrev pub values_of_organism : OrganismLine → OrganismValues
values_of_organism line = record {
  cell = line.cell;
  id = line.id;
  merit = line.merit;
  credited = line.credited;
  age = line.age;
  read = line.read;
  gestation = line.gestation;
  inputs = line.inputs;
  genome = letters line.genome;
}

-- the values of a line
abbrev pub values_of_line : read_line.SavedLine → SavedLine
values_of_line (of.Head head) = Head (head_values head)
values_of_line (of.Organism line) = Organism (values_of_organism line)
values_of_line (of.Machine image) = Machine image
values_of_line (of.Count organisms) = Count organisms
