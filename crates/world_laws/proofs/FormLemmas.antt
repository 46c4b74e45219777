-- The parts of a line have the forms that a log asks for.
use Rattle.std.proofs.Common.{◌+◌, ◌≡◌, ℕ, suc, ◌*◌, ◌^◌, ◌<◌, ◌≤◌, List, [], ◌∷◌, map, length, Option, Some, None, refl, arith, sum_by}
use Rattle.std.specs.Prelude.{not, is_some, IfSome}
use Rattle.world_laws.proofs.Prelude.{AllByRecursion, length-map, sum_by-cons, count_by-le-length, Letter, different_of, Task, all_tasks, has_task, Count, HasForm, IsLarge, taken, OrganismState, IsSoundOrganism, Occupant, id_of, ids_of, Scene, organisms_in, genomes_of_cells, credited_with, stats_in, scene_stats}
use Rattle.instruction_set.specs.Letter.{same_letters}
use Rattle.world_laws.proofs.Scenes.{Each}
use Rattle.world_laws.proofs.Configs.{filter_few}

-- an id, or none
pub over_form : (slot : Option ℕ) (end : ℕ) → ((id : ℕ) → slot ≡ Some id → id < end)
    → end ≤ 18446744073709551615 → IfSome slot IsLarge
over_form None end low few = tt
over_form (Some id) end low few = (omega arith, omega (arith, low id refl, few))

-- there are no more organisms than cells
organisms_few : (cells : List (Option Occupant)) → length (organisms_in cells) ≤ length cells
organisms_few [] = omega arith
organisms_few (None ∷ cells) = omega (arith, organisms_few cells)
organisms_few (Some o ∷ cells) = omega (arith, organisms_few cells)

-- there are no more different genomes than genomes
genotypes_of_few : (genomes : List (List Letter)) → length (different_of genomes) ≤ length genomes
genotypes_of_few [] = omega arith
genotypes_of_few (genome ∷ genomes) =
    let fewer = filter_few (λ other. not (same_letters genome other)) (different_of genomes) in
    omega (arith, fewer, genotypes_of_few genomes)

-- the merits together, none of which is above the greatest
merits_sum : (cells : List (Option Occupant)) → Each IsSoundOrganism cells
    → sum_by (λ (o : OrganismState). o.merit) (organisms_in cells) ≤ length (organisms_in cells)
    * 2 ^ 38
merits_sum [] sound = omega arith
merits_sum (None ∷ cells) sound = merits_sum cells (λ cell o h. sound (suc cell) o h)
merits_sum (Some o ∷ cells) sound =
    let all : sum_by (λ (o : OrganismState). o.merit) (organisms_in (Some o ∷ cells))
    ≡ o.organism.merit + sum_by (λ (o : OrganismState). o.merit) (organisms_in cells) =
    sum_by-cons (λ (o : OrganismState). o.merit) o.organism (organisms_in cells) in
    omega (arith, (sound 0 o refl).merit, merits_sum cells (λ cell o h. sound (suc cell) o h))

-- how many of at most 65536 organisms have a task credited fits its field, task by task
tasks_form : (cells : List (Option Occupant)) (tasks : List Task)
    → length (organisms_in cells) ≤ 65536
    → AllByRecursion IsLarge (map (credited_with cells) tasks)
tasks_form cells [] few = tt
tasks_form cells (t ∷ tasks) few =
    let most =
    count_by-le-length (λ (o : OrganismState). has_task o.credited t) (organisms_in cells) in
    ((omega arith, omega (arith, most, few)), tasks_form cells tasks few)

-- what is counted has the form of its line
pub count_form : (scene : Scene) (births : ℕ) → Each IsSoundOrganism scene.cells
    → length scene.cells ≤ 65536 → scene.update ≤ 4294967295 → births ≤ 18446744073709551615
    → length scene.gone ≤ 18446744073709551615 → HasForm (Count (scene_stats scene births))
unfolding stats_in
count_form scene births sound small early few gone =
    let cells = scene.cells in
    let organisms = organisms_few cells in
    let living : taken (ids_of cells) ≤ 65536 =
    omega (arith, count_by-le-length is_some (ids_of cells), length-map cells id_of, small) in
    let same = length-map (organisms_in cells) (λ (o : OrganismState). o.genome) in
    let genomes : length (genomes_of_cells cells) ≤ 65536 = omega (arith, same, organisms, small) in
    let genotypes : length (different_of (genomes_of_cells cells)) ≤ 65536 =
    omega (arith, genotypes_of_few (genomes_of_cells cells), genomes) in
    let merit : sum_by (λ (o : OrganismState). o.merit) (organisms_in cells)
    ≤ 18446744073709551615 = omega (arith, merits_sum cells sound, organisms, small) in (
      (omega arith, omega (arith, early)),
      (
        (omega arith, omega (arith, living)),
        (
          (omega arith, few),
          (
            (omega arith, gone),
            (
              (omega arith, omega (arith, genotypes)),
              ((omega arith, merit), tasks_form cells all_tasks (omega (arith, organisms, small))),
            ),
          ),
        ),
      ),
      refl,
    )
