-- The lines of a saved world that goes on have their forms.
use Rattle.std.proofs.Common.{◌≡◌, ℕ, ◌<◌, ◌≤◌, ◌*◌, [], length, refl, arith}
use Rattle.std.specs.Prelude.{ℤ, FitsSigned, slice_index_or}
use Rattle.checkpoint.proofs.Prelude.{w32, recursion_from_All, image_of, HoldsWords, Machine, IsMachine, Occupant, IsMachineLine, IsOrganismLine, HeadValues, values_in, IsHead, MayStandThere}
use Rattle.std.proofs.Math.Nat.{mul-le-mul_left}

-- a world has at most 65,536 cells
pub cells_fit : (width height : ℕ) → width ≤ 256 → height ≤ 256 → width * height ≤ 65536
cells_fit width height wide high =
    let most : width * height ≤ width * 256 = mul-le-mul_left width high in
    omega (arith, most, wide)

-- the line of an organism
pub organism_form : (head : HeadValues) (cell : ℕ) (o : Occupant) → IsHead head
    → MayStandThere head (record { cell = cell; occupant = o }) → IsOrganismLine (values_in cell o)
organism_form head cell o in_range stands =
    let lives = stands.occupant in
    let cells = cells_fit head.width head.height in_range.width.1 in_range.height.1 in
    record {
      cell = omega (arith, stands.cell, cells);
      id = omega (arith, lives.id, in_range.next_id.1);
      merit = omega (arith, lives.sound.merit);
      credited = lives.credited;
      age = omega (arith, lives.age);
      read = omega (arith, lives.age, lives.sound.organism.read);
      gestation = lives.gestation;
      inputs = lives.inputs;
      genome = lives.sound.genome;
    }

-- the line of a machine
pub machine_form : (m : Machine) → IsMachine m → HoldsWords m → IsMachineLine (image_of m)
machine_form m is words =
    let two : length m.stacks ≡ 2 = is.stacks in
    let stack = λ (k : ℕ) (there : k < 2).
    recursion_from_All (λ (n : ℤ). FitsSigned w32 n) (slice_index_or m.stacks k [])
    (words.stacks k [] (omega (arith, there, two))) in
    record {
      registers = (refl, (words.ax, (words.bx, (words.cx, tt))));
      active = omega (arith, is.active);
      heads = search arith;
      nops = is.template;
      first = (is.ten 0 [] (omega (arith, two)), stack 0 (omega arith));
      second = (is.ten 1 [] (omega (arith, two)), stack 1 (omega arith));
      memory = search arith;
      clean = search arith;
      executed = omega (arith, is.executed, is.least);
      copied = omega (arith, is.copied, is.least);
    }
