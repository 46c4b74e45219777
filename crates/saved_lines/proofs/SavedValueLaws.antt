-- The values of a line and its fields give one another.
use Rattle.std.proofs.Common.{◌≡◌, ℕ, zero, suc, ◌+◌, ◌*◌, ◌/◌, ◌%◌, ◌^◌, ◌<◌, ◌≤◌, Bool, true, false, List, [], ◌∷◌, length, get_or, drop, refl, sym, ap, ◌∙◌, arith}
use Rattle.std.specs.Prelude.{◌==◌}
use Rattle.saved_lines.proofs.Prelude.{drop_all, drop_more, length-map, Letter, HasTopBytes, inputs_of, low_of, bits_of_tasks, tasks_of, bit_at-number_of, get_or-tasks_of, length-tasks_of, number_of-tasks_of, CpuImage, IsOrganismLine, IsMachineLine, saved_number_at, head_of, organism_at, organism_of, machine_of, any_flag, head_ranges, organism_ranges, machine_ranges, Organism, Machine, flag_number, head_numbers, organism_numbers, AreWithin, HeadValues, OrganismValues}
use Rattle.saved_lines.proofs.RangeLemmas.{bound_at, within_length}
use Rattle.saved_lines.proofs.FitsLemmas.{machine_fields}

-- ---- lists and their items

-- so many items from a place on
abbrev from : List ℕ → ℕ → ℕ → List ℕ
from ns at zero = []
from ns at (suc n) = get_or ns at 0 ∷ from ns (at + 1) n

-- the items from a place on
from_is : (ns : List ℕ) (at n : ℕ) → length ns ≡ at + n → drop at ns ≡ from ns at n
from_is ns at zero long = drop_all at ns (omega (arith, long))
from_is ns at (suc n) long =
    rw (drop_more ns at 0 (omega (arith, long)), from_is ns (at + 1) n (omega (arith, long))) refl

-- ---- flags

-- the flag of its number
pub flag_again : (b : Bool) → (flag_number b == 1) ≡ b
flag_again true = refl
flag_again false = refl

-- the number of its flag
pub flag_taken : (n : ℕ) → n ≤ 1 → flag_number (n == 1) ≡ n
flag_taken zero low = refl
flag_taken (suc zero) low = refl
flag_taken (suc (suc n)) low = absurd (omega (arith, low))

-- ---- a head

-- a head of its numbers
pub head_again : (head : HeadValues) → head_of (head_numbers head) ≡ head
head_again head =
    rw (flag_again head.death, flag_again head.prefer_empty, flag_again head.rules.need_alloc) refl

-- the version
version : (ns : List ℕ) → AreWithin head_ranges ns → 1 ≡ saved_number_at ns 0
version [] all = absurd all
version (n ∷ ns) all = omega (arith, all.0, all.1)

-- the numbers of their head
pub head_taken : (ns : List ℕ) → AreWithin head_ranges ns → head_numbers (head_of ns) ≡ ns
head_taken ns all =
    let long : length ns ≡ 22 = within_length head_ranges ns all in
    let death = flag_taken (saved_number_at ns 7)
    (bound_at head_ranges ns 7 any_flag all (omega arith)) in
    let empty = flag_taken (saved_number_at ns 15)
    (bound_at head_ranges ns 15 any_flag all (omega arith)) in
    let alloc = flag_taken (saved_number_at ns 16)
    (bound_at head_ranges ns 16 any_flag all (omega arith)) in
    let one : 1 ≡ saved_number_at ns 0 = version ns all in
    rw (death, empty, alloc) (ap (λ (n : ℕ). n ∷ from ns 1 21) one ∙ sym (from_is ns 0 22 long))

-- ---- sets of tasks

-- two lists with equal items
same_items : (a b : List Bool) → length a ≡ length b
    → ((i : ℕ) → i < length b → get_or a i false ≡ get_or b i false) → a ≡ b
same_items [] [] long items = refl
same_items [] (y ∷ b) long items = absurd (omega (arith, long))
same_items (x ∷ a) [] long items = absurd (omega (arith, long))
same_items (x ∷ a) (y ∷ b) long items =
    let first : x ≡ y = items 0 (omega arith) in
    let others = same_items a b (omega (arith, long)) (λ i low. items (suc i) (omega (arith, low)))
    in cc

-- a set of its number
pub tasks_again : (tasks : List Bool) → length tasks ≡ 9 → tasks_of (bits_of_tasks tasks) ≡ tasks
tasks_again tasks long =
    same_items (tasks_of (bits_of_tasks tasks)) tasks
    (length-tasks_of (bits_of_tasks tasks) ∙ sym long)
    (λ i low. get_or-tasks_of (bits_of_tasks tasks) i (omega (arith, low, long))
    ∙ ap (λ (n : ℕ). n == 1) (bit_at-number_of tasks i) ∙ flag_again (get_or tasks i false))

-- ---- inputs

-- the low bits of an input
abbrev low_at : List ℕ → ℕ → ℕ
low_at inputs k = get_or (low_of inputs) k 0

-- inputs of their low bits
pub inputs_again : (inputs : List ℕ) → HasTopBytes inputs
    → inputs_of (low_at inputs 0 ∷ low_at inputs 1 ∷ low_at inputs 2 ∷ []) ≡ inputs
inputs_again [] top = absurd cc
inputs_again (a ∷ []) top = absurd cc
inputs_again (a ∷ b ∷ []) top = absurd cc
inputs_again (a ∷ b ∷ c ∷ []) top =
    let first : a / 2 ^ 24 ≡ 15 = ap (λ (l : List ℕ). get_or l 0 0) top in
    let second : b / 2 ^ 24 ≡ 51 = ap (λ (l : List ℕ). get_or l 1 0) top in
    let third : c / 2 ^ 24 ≡ 85 = ap (λ (l : List ℕ). get_or l 2 0) top in
    let x : 15 * 2 ^ 24 + a % 2 ^ 24 % 2 ^ 24 ≡ a = omega (arith, first) in
    let y : 51 * 2 ^ 24 + b % 2 ^ 24 % 2 ^ 24 ≡ b = omega (arith, second) in
    let z : 85 * 2 ^ 24 + c % 2 ^ 24 % 2 ^ 24 ≡ c = omega (arith, third) in
    rw (x, y, z) refl
inputs_again (a ∷ b ∷ c ∷ d ∷ inputs) top =
    let more : length (a ∷ b ∷ c ∷ d ∷ inputs) ≡ 3 =
    sym (length-map (a ∷ b ∷ c ∷ d ∷ inputs) (λ (n : ℕ). n / 2 ^ 24))
    ∙ ap (λ (l : List ℕ). length l) top in absurd (omega (arith, more))

-- the low bits of an input
input_taken : (top n : ℕ) → n ≤ 16777215 → (top * 2 ^ 24 + n % 2 ^ 24) % 2 ^ 24 ≡ n
input_taken top n low = omega (arith, low)

-- ---- an organism

-- an organism of its numbers
pub organism_again : (o : OrganismValues) → IsOrganismLine o
    → organism_of (organism_numbers o, o.genome) ≡ Organism o
organism_again o form =
    rw (
      tasks_again o.credited form.credited,
      tasks_again o.gestation form.gestation,
      inputs_again o.inputs form.inputs,
    ) refl

module _ (ns : List ℕ) (genome : List Letter) (all : AreWithin organism_ranges ns) where
  -- the numbers of their organism
  pub organism_taken : organism_numbers (organism_at ns genome) ≡ ns
  organism_taken =
      let long : length ns ≡ 10 = within_length organism_ranges ns all in
      let credited = number_of-tasks_of (saved_number_at ns 3)
      (omega (arith, bound_at organism_ranges ns 3 any_flag all (omega arith))) in
      let gestation = number_of-tasks_of (saved_number_at ns 6)
      (omega (arith, bound_at organism_ranges ns 6 any_flag all (omega arith))) in
      let first = input_taken 15 (saved_number_at ns 7)
      (bound_at organism_ranges ns 7 any_flag all (omega arith)) in
      let second = input_taken 51 (saved_number_at ns 8)
      (bound_at organism_ranges ns 8 any_flag all (omega arith)) in
      let third = input_taken 85 (saved_number_at ns 9)
      (bound_at organism_ranges ns 9 any_flag all (omega arith)) in
      rw (credited, gestation, from_is ns 7 3 long, first, second, third)
      (sym (from_is ns 0 10 long))

-- ---- a machine

-- a machine of its fields
pub machine_again : (image : CpuImage) → IsMachineLine image
    → machine_of (machine_fields image) ≡ Machine image
machine_again image form =
    rw (flag_again image.pending, sym (from_is image.heads 0 4 form.heads.0)) refl

-- the numbers of their machine
pub machine_taken : (ns : List ℕ) → AreWithin machine_ranges ns
    → saved_number_at ns 0 ∷ saved_number_at ns 1 ∷ saved_number_at ns 2 ∷ saved_number_at ns 3
    ∷ saved_number_at ns 4
    ∷ flag_number (saved_number_at ns 5 == 1) ∷ [] ≡ ns
machine_taken ns all =
    let long : length ns ≡ 6 = within_length machine_ranges ns all in
    let pending =
    flag_taken (saved_number_at ns 5) (bound_at machine_ranges ns 5 any_flag all (omega arith)) in
    rw pending (sym (from_is ns 0 6 long))
