-- The organism of two lines that may come may stand in its cell.
use Rattle.std.proofs.Common.{◌≡◌, ℕ, ℤ, ◌<◌, ◌≤◌, ◌*◌, true, List, [], ◌∷◌, length, refl, arith, pos}
use Rattle.std.specs.Prelude.{All, ◌^◌, nat_lt, if◌then◌else◌, FitsSigned}
use Rattle.checkpoint.proofs.Prelude.{AllByRecursion, w32, and_parts, ltb-true, nat_tests, All-cons, All-from_recursion, AllPass-from_list_all, CpuImage, machine_of_image, HoldsWords, IsMachine, IsMachineLine, IsOrganismLine, HeadValues, OrganismValues, Placed, are_within, is_above, is_new, is_young, may_follow, may_stand, placed_of, IsHead, MayStandThere}

-- what each rule of an organism's line says
pub record Stands (head : HeadValues) (placed : List Placed) (o : OrganismValues) : Type 0 where
  pub cell : o.cell < head.width * head.height
  pub above : is_above o.cell placed ≡ true
  pub id : o.id < head.next_id
  pub fresh : is_new o.id placed ≡ true
  pub some_merit : 1 ≤ o.merit
  pub merit : o.merit ≤ 2 ^ 38
  pub least : head.rules.least ≤ length o.genome
  pub greatest : length o.genome ≤ head.rules.greatest
  pub age : o.age < 2 ^ 48
  pub read : o.read ≤ o.age
  pub young : is_young head o ≡ true

-- so they say of a line that may come
pub stands_by_rules : (head : HeadValues) (placed : List Placed) (o : OrganismValues)
    → may_stand head placed o ≡ true → Stands head placed o
stands_by_rules head placed o is = grind (arith, nat_tests, and_parts)

-- what each rule of a machine's line says
pub record Follows (head : HeadValues) (o : OrganismValues) (image : CpuImage) : Type 0 where
  pub clean : length image.clean ≡ length image.memory
  pub executed : length image.executed ≡ length image.memory
  pub copied : length image.copied ≡ length image.memory
  pub limit : length image.memory ≤ head.memory_limit
  pub growth : length image.memory ≤ (if image.pending then 6 else 2) * length o.genome
  pub heads : are_within image ≡ true

-- so they say of a line that may follow
pub follows_by_rules : (head : HeadValues) (o : OrganismValues) (image : CpuImage)
    → may_follow head o image ≡ true → Follows head o image
follows_by_rules head o image is = grind (arith, nat_tests, and_parts)

module _ (head : HeadValues) (o : OrganismValues) (image : CpuImage) where
  -- the machine of two lines is one
  pub is_machine : IsHead head → length o.genome ≤ head.rules.greatest → IsMachineLine image
      → Follows head o image
      → IsMachine (machine_of_image image (length o.genome) head.memory_limit)
  is_machine in_range short read follows =
      let size = length image.memory in
      let at = λ (place : ℕ) (few : place < 4).
      ltb-true _ size (AllPass-from_list_all (λ head. nat_lt head size) image.heads follows.heads
      place 0 (omega (arith, few, read.heads.0))) in
      record {
        clean = follows.clean;
        executed = follows.executed;
        copied = follows.copied;
        stacks = refl;
        ten = All-cons (λ stack. length stack ≡ 10) image.first (image.second ∷ []) read.first.0
            (All-cons (λ stack. length stack ≡ 10) image.second [] read.second.0
            (λ k d none. absurd (omega (arith, none))));
        active = read.active;
        template = read.nops;
        ip = at 0 (omega arith);
        read = at 1 (omega arith);
        write = at 2 (omega arith);
        flow = at 3 (omega arith);
        least = read.memory.least;
        greatest = follows.limit;
        growth = follows.growth;
        birth_length = omega (arith, short, in_range.memory_limit.0);
        limit = in_range.memory_limit.1;
      }

  -- and its numbers have 32 bits
  pub has_words : IsMachineLine image
      → HoldsWords (machine_of_image image (length o.genome) head.memory_limit)
  has_words read =
      let words = λ (numbers : List ℤ) (all : AllByRecursion (λ n. FitsSigned w32 n) numbers).
      All-from_recursion (λ n. FitsSigned w32 n) numbers all in
      let register = words image.registers read.registers.1 in
      record {
        ax = register 0 (pos 0) (omega (arith, read.registers.0));
        bx = register 1 (pos 0) (omega (arith, read.registers.0));
        cx = register 2 (pos 0) (omega (arith, read.registers.0));
        stacks = All-cons (λ stack. All (λ n. FitsSigned w32 n) stack) image.first
            (image.second ∷ []) (words image.first read.first.1)
            (All-cons (λ stack. All (λ n. FitsSigned w32 n) stack) image.second []
            (words image.second read.second.1) (λ k d none. absurd (omega (arith, none))));
      }

  -- the organism of two lines may stand in its cell
  pub may_stand_there : (placed : List Placed) → IsHead head → IsOrganismLine o
      → IsMachineLine image → Stands head placed o → Follows head o image
      → MayStandThere head (placed_of head o image)
  may_stand_there placed in_range organism read stands follows = record {
    cell = stands.cell;
    occupant = record {
      sound = record {
        organism = record { birth_length = refl; read = stands.read };
        machine = is_machine in_range stands.greatest read follows;
        words = has_words read;
        genome = organism.genome;
        some_merit = stands.some_merit;
        merit = stands.merit;
      };
      id = stands.id;
      genome = (stands.least, stands.greatest);
      age = stands.age;
      young = λ death. ltb-true _ _ (rw death at stands.young);
      limit = refl;
      credited = organism.credited;
      gestation = organism.gestation;
      inputs = organism.inputs;
    };
  }
