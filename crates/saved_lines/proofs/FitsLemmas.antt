-- The values of a line are in their ranges exactly where its fields fit its row.
use Rattle.std.proofs.Common.{◌≡◌, ℕ, zero, suc, ◌<◌, ◌≤◌, ◌%◌, ◌^◌, Bool, true, false, List, [], ◌∷◌, length, subst, arith}
use Rattle.std.specs.Prelude.{nat_le, slice_index_or}
use Rattle.saved_lines.proofs.Prelude.{AllByRecursion, and_from, and_parts, le-leb, leb-true, Letter, HasTopBytes, low_of, bits_of_tasks, number_of-small, CpuImage, IsHead, IsMachineLine, IsOrganismLine, are_ordered, machine_at, AreWithin, MachineFields, head_ranges, machine_row, organism_row, flag_number, head_numbers, organism_numbers, machine_numbers, HeadValues, OrganismValues}
use Rattle.std.proofs.Math.Nat.{mod-lt}
use Rattle.genome.specs.Genome.{IsGenome}
use Rattle.mutations.specs.Change.{is_genome_length}
use Rattle.mutations.proofs.PointLemmas.{genome-fits}

-- 0 or 1
flag_fits : (flag : Bool) → flag_number flag ≤ 1
flag_fits true = omega arith
flag_fits false = omega arith

-- letters whose length passes it are a genome
genome_is : (ls : List Letter) → is_genome_length (length ls) ≡ true → IsGenome ls
genome_is ls is =
    let bounds = and_parts (nat_le 8 (length ls)) (nat_le (length ls) 8192) is in
    record {
      least = leb-true 8 (length ls) bounds.0;
      greatest = leb-true (length ls) 8192 bounds.1;
    }

-- the low bits of an input are below 2 ^ 24
low_fits : (inputs : List ℕ) (k : ℕ) → slice_index_or (low_of inputs) k 0 ≤ 16777215
low_fits [] k = omega arith
low_fits (input ∷ inputs) zero =
    let small : input % 2 ^ 24 < 2 ^ 24 = mod-lt input (omega arith) in omega (arith, small)
low_fits (input ∷ inputs) (suc k) = low_fits inputs k

-- the number of a set of nine tasks
tasks_fit : (tasks : List Bool) → length tasks ≡ 9 → bits_of_tasks tasks ≤ 511
tasks_fit tasks nine =
    let small : bits_of_tasks tasks < 2 ^ 9 =
    subst (λ (n : ℕ). bits_of_tasks tasks < 2 ^ n) nine (number_of-small tasks) in
    omega (arith, small)

-- a head at a place
head_at : (heads : List ℕ) (k : ℕ) → AllByRecursion (λ head. head < 2 ^ 32) heads
    → slice_index_or heads k 0 ≤ 4294967295
head_at [] k all = omega arith
head_at (head ∷ heads) zero all = omega (arith, all.0)
head_at (head ∷ heads) (suc k) all = head_at heads k all.1

-- ---- the numbers of a line

infixr 20 ◌▸◌
-- the bounds of a number, before those of the numbers behind it
◌▸◌ : {A B C : Type 0} → A × B → C → A × B × C
bounds ▸ others = (bounds.0, bounds.1, others)

-- the bounds of a number from 0 on
up_to : {n greatest : ℕ} → n ≤ greatest → (0 ≤ n) × (n ≤ greatest)
up_to few = (omega arith, few)

-- ---- a head

-- the numbers of a head are within their ranges
pub head_fits : (head : HeadValues) → IsHead head → AreWithin head_ranges (head_numbers head)
head_fits head is =
    let rules = is.rules in
    (omega arith, omega arith)
    ▸ is.width
    ▸ is.height
    ▸ up_to is.update
    ▸ (is.next_id.0, omega (arith, is.next_id.1))
    ▸ up_to (omega (arith, is.seed))
    ▸ is.average_slices
    ▸ up_to (flag_fits head.death)
    ▸ is.age_limit
    ▸ up_to is.rates.copy
    ▸ up_to is.rates.insert
    ▸ up_to is.rates.delete
    ▸ up_to is.rates.site_point
    ▸ up_to is.rates.site_insert
    ▸ up_to is.rates.site_delete
    ▸ up_to (flag_fits head.prefer_empty)
    ▸ up_to (flag_fits head.rules.need_alloc)
    ▸ (rules.executed_is_asked, rules.executed_is_percent)
    ▸ (rules.copied_is_asked, rules.copied_is_percent)
    ▸ (rules.long_enough, omega (arith, rules.ordered, rules.short_enough))
    ▸ (omega (arith, rules.ordered, rules.long_enough), rules.short_enough)
    ▸ (
      omega (arith, is.memory_limit.0, rules.ordered, rules.long_enough),
      is.memory_limit.1,
    )
    ▸ tt

-- its lengths are in order
pub head_ordered : (head : HeadValues) → IsHead head → are_ordered head ≡ true
head_ordered head in_range = and_from (nat_le head.rules.least head.rules.greatest)
    (nat_le head.rules.greatest head.memory_limit)
    (le-leb head.rules.least head.rules.greatest in_range.rules.ordered)
    (le-leb head.rules.greatest head.memory_limit in_range.memory_limit.0)

-- a head whose numbers are within their ranges, and its lengths in order
pub head_is : (head : HeadValues) → AreWithin head_ranges (head_numbers head)
    → are_ordered head ≡ true → IsHead head
head_is head numbers ordered =
    let order = and_parts (nat_le head.rules.least head.rules.greatest)
    (nat_le head.rules.greatest head.memory_limit) ordered in
    let few = leb-true head.rules.least head.rules.greatest order.0 in
    let fit = leb-true head.rules.greatest head.memory_limit order.1 in
    record {
      width = (omega arith, omega arith);
      height = (omega arith, omega arith);
      update = omega arith;
      next_id = (omega arith, omega arith);
      seed = omega arith;
      average_slices = (omega arith, omega arith);
      age_limit = (omega arith, omega arith);
      rates = search arith;
      rules = search arith;
      memory_limit = (fit, omega arith);
    }

-- ---- an organism

-- the fields of an organism fit their row
pub organism_fits : (o : OrganismValues) → IsOrganismLine o
    → organism_row.Fits (organism_numbers o, o.genome)
organism_fits o is =
    let low = low_fits o.inputs in (
      up_to (omega (arith, is.cell))
          ▸ up_to (omega (arith, is.id))
          ▸ up_to (omega (arith, is.merit))
          ▸ up_to (tasks_fit o.credited is.credited)
          ▸ up_to (omega (arith, is.age))
          ▸ up_to (omega (arith, is.read))
          ▸ up_to (tasks_fit o.gestation is.gestation)
          ▸ up_to (low 0)
          ▸ up_to (low 1)
          ▸ up_to (low 2)
          ▸ tt,
      genome-fits o.genome is.genome,
    )

-- an organism whose fields fit their row, and its sets and inputs are such
pub organism_is : (o : OrganismValues) → organism_row.Fits (organism_numbers o, o.genome)
    → length o.credited ≡ 9 → length o.gestation ≡ 9 → HasTopBytes o.inputs → IsOrganismLine o
organism_is o fits credited gestation inputs =
    record {
      cell = omega arith;
      id = omega arith;
      merit = omega arith;
      credited = credited;
      age = omega arith;
      read = omega arith;
      gestation = gestation;
      inputs = inputs;
      genome = genome_is o.genome fits.1;
    }

-- ---- a machine

-- the fields of a machine
abbrev pub machine_fields : CpuImage → MachineFields
machine_fields m = (
  m.registers,
  (
    machine_numbers m,
    (
      m.nops,
      (
        m.first,
        (
          m.second,
          (
            m.memory,
            (
              m.clean,
              (m.executed, m.copied),
            ),
          ),
        ),
      ),
    ),
  ),
)

-- the fields of a machine fit their row
pub machine_fits : (m : CpuImage) → IsMachineLine m → machine_row.Fits (machine_fields m)
machine_fits m is =
    let head = λ (k : ℕ). head_at m.heads k is.heads.1 in (
      is.registers,
      (
        up_to (omega (arith, is.active))
            ▸ up_to (head 0)
            ▸ up_to (head 1)
            ▸ up_to (head 2)
            ▸ up_to (head 3)
            ▸ up_to (flag_fits m.pending)
            ▸ tt,
        (is.nops, (is.first, (is.second, search genome-fits))),
      ),
    )

-- a machine whose fields fit their row
pub machine_is : (p : MachineFields) → machine_row.Fits (machine_fields (machine_at p))
    → IsMachineLine (machine_at p)
machine_is p fits =
    let rest = fits.1.1.1.1.1 in
    record {
      registers = fits.0;
      active = omega arith;
      heads = search arith;
      nops = fits.1.1.0;
      first = fits.1.1.1.0;
      second = fits.1.1.1.1.0;
      memory = genome_is (machine_at p).memory rest.0;
      clean = genome_is (machine_at p).clean rest.1.0;
      executed = rest.1.1.0;
      copied = rest.1.1.1;
    }
