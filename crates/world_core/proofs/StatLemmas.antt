-- What is kept of who stands in the cells shows what is counted of them anew.
use Rattle.std.proofs.Common.{◌≡◌, ◌∙◌, refl, sym, ap, subst, ℕ, zero, suc, ◌<◌, List, [], ◌∷◌, length, map, get_or, Option, Some, None, is_some, arith, inl, inr}
use Rattle.std.specs.Prelude.{nat_eq}
use Rattle.world_core.proofs.Prelude.{Decides, Contains, IsDistinct, list_any, sum_by, count_by, cases_Bool, eqb-false, eqb-true, false_from_ne_true, Decides-like, same_from_decides, length-map, get_or-map, Contains-get_or, sum_by-cons, get_or-le-sum_by, AreGenotypes, GenotypeCount, genotype_at, HaveSameMembers, different_of, HasEachOnce, Letter, same_letters, Task, has_task, OrganismState, Occupant, ids_of, merit_in, counted_in, credited_with, genomes_of_cells, organisms_in, AreCountedIn, occupant_genomes, OneList, same_letters-equivalence}
use Rattle.std.specs.Cmp.{nat_eq_equiv}
use Rattle.std.specs.Map.{keys_of, values_of}
use Rattle.std.proofs.lemmas.Map.Keys.{IsDistinct-from_apart, apart_from_distinct}
use Rattle.std.proofs.lemmas.Map.Made.{Contains-from_values_of, Contains-values_of, length-from_same_keys}
use Rattle.std.proofs.lemmas.Map.Views.{Contains-from_lookup, lookup-from_Contains, list_any-from_Contains, Contains-from_any}
use Rattle.lineage_log.specs.Reader.{taken}
use Rattle.world_core.proofs.StandingLemmas.{cells_of, count_in, is_found}
use Rattle.world_core.proofs.SumLemmas.{cells_with, one}

-- the cells where somebody stands
pub living-in : (cells : List (Option Occupant))
    → count_by is_some (occupant_genomes cells) ≡ taken (ids_of cells)
living-in [] = refl
living-in (None ∷ cells) = grind (arith, sum_by-cons, living-in cells)
living-in (Some o ∷ cells) =
    omega (arith, living-in cells, sum_by-cons {X = Option (List Letter)}, sum_by-cons {X = Option ℕ})

-- the merits of the living are the merits in the cells
pub merits-in : (cells : List (Option Occupant))
    → sum_by merit_in cells ≡ sum_by (λ o. o.merit) (organisms_in cells)
merits-in [] = refl
merits-in (None ∷ cells) = omega (arith, merits-in cells, sum_by-cons merit_in None cells)
merits-in (Some o ∷ cells) =
    omega (
      arith,
      merits-in cells,
      sum_by-cons merit_in (Some o) cells,
      sum_by-cons (λ (o : OrganismState). o.merit) o.organism (organisms_in cells),
    )

-- the living with a task
pub credited-in : (cells : List (Option Occupant)) (task : Task)
    → cells_with cells task ≡ credited_with cells task
credited-in [] task = refl
credited-in (None ∷ cells) task = grind (arith, sum_by-cons, credited-in cells task)
credited-in (Some o ∷ cells) task =
    omega (
      arith,
      credited-in cells task,
      sum_by-cons {X = Option Occupant},
      sum_by-cons (λ (o : OrganismState). one (has_task o.credited task)) o.organism
          (organisms_in cells),
    )

-- the living with a genome
genome-in : (cells : List (Option Occupant)) (genome : List Letter)
    → cells_of (occupant_genomes cells) genome
    ≡ count_by (same_letters genome) (genomes_of_cells cells)
genome-in [] genome = refl
genome-in (None ∷ cells) genome = grind (arith, sum_by-cons, genome-in cells genome)
genome-in (Some o ∷ cells) genome =
    omega (
      arith,
      genome-in cells genome,
      sum_by-cons {X = Option (List Letter)},
      sum_by-cons {X = List Letter},
    )

-- a genome of the living stands in some cell
place-of : (cells : List (Option Occupant)) (genome : List Letter)
    → Contains (genomes_of_cells cells) genome
    → (cell : ℕ) × (get_or (occupant_genomes cells) cell None ≡ Some genome)
place-of [] genome has = absurd (omega (arith, has.1))
place-of (None ∷ cells) genome has = let later = place-of cells genome has in (suc later.0, later.1)
place-of (Some o ∷ cells) genome (zero, within, is) = (0, ap Some is)
place-of (Some o ∷ cells) genome (suc k, within, is) =
    let later = place-of cells genome (k, omega (arith, within), is) in (suc later.0, later.1)

-- what is in a list is in a map of it as the map shows it
contained-map : {X Y : Type 0} (f : X → Y) (xs : List X) (x : X) → Contains xs x
    → Contains (map f xs) (f x)
contained-map f xs x (k, within, is) =
    (k, omega (arith, within, length-map xs f), get_or-map f xs k x (f x) within ∙ ap f is)

-- what is in a map of a list is shown of something in the list
shown-in : {X Y : Type 0} (f : X → Y) (xs : List X) (y : Y) (d : X) → Contains (map f xs) y
    → (x : X) × Contains xs x × (f x ≡ y)
shown-in f xs y d (k, within, is) =
    let inside : k < length xs = omega (arith, within, length-map xs f) in
    (get_or xs k d, Contains-get_or xs k d inside, sym (get_or-map f xs k d y inside) ∙ is)

module _ (one_list : OneList) where
  -- and finds what is in a list
  found-in : (genomes : List (List Letter)) (genome : List Letter)
      → Decides (list_any (same_letters genome) genomes) (Contains genomes genome)
  found-in genomes genome = (
    Contains-from_any (λ x y. (one_list x y).0) genome genomes,
    list_any-from_Contains (same_letters-equivalence one_list) genome genomes,
  )

  -- a genome that is counted is among the genomes
  counted-among : (genomes : List (List Letter)) (genome : List Letter)
      → 0 < count_by (same_letters genome) genomes → Contains genomes genome
  counted-among [] genome some = absurd (omega (arith, some))
  counted-among (g ∷ gs) genome some = elim (cases_Bool (same_letters genome g)) [
    | inl same ↦ (0, omega arith, sym ((one_list genome g).0 same))
    | inr differ ↦
        let sum = sum_by-cons (λ other. one (same_letters genome other)) g gs in
        let rest = counted-among gs genome (omega (arith, some, sum, ap one differ)) in
        (suc rest.0, omega (arith, rest.1), rest.2)
  ]

  -- a genome that is among others is counted
  among-counted : (genomes : List (List Letter)) (genome : List Letter) → Contains genomes genome
      → 0 < count_by (same_letters genome) genomes
  among-counted genomes genome has =
      omega (
        arith,
        get_or-le-sum_by (λ other. one (same_letters genome other)) genomes has.0 genome
            has.1,
        ap (λ g. one (same_letters genome g)) has.2,
        ap one ((one_list genome genome).1 refl),
      )

  module _ (cells : List (Option Occupant)) (genomes : List (List Letter)) (keys : List ℕ)
      (genotypes : List (ℕ × GenotypeCount)) (are : AreGenotypes genotypes)
      (kept : AreCountedIn (occupant_genomes cells) genomes keys genotypes) where
    -- the genomes of the living
    abbrev alive : List (List Letter)
    alive = genomes_of_cells cells

    -- what is counted under a key is a genome of the living with its count
    counted-is : (number : ℕ) (genotype : GenotypeCount)
        → genotype_at genotypes number ≡ Some genotype → genotype ≡ counted_in alive genotype.genome
    counted-is number genotype at =
        let count : genotype.count ≡ count_by (same_letters genotype.genome) alive =
        ap count_in (sym at) ∙ kept.counted number genotype.genome (kept.named number genotype at)
        ∙ genome-in cells genotype.genome in
        λ i. record { genome = genotype.genome; count = count i }

    -- each genome of the living is counted under its number
    is-counted : (genome : List Letter) → Contains alive genome
        → (number : ℕ) × (genotype_at genotypes number ≡ Some (counted_in alive genome))
    is-counted genome has =
        let place = place-of cells genome has in
        let number : ℕ = get_or keys place.0 0 in
        let named = kept.keyed place.0 genome place.1 in
        let at = is_found (genotype_at genotypes number)
        (omega (
          arith,
          among-counted alive genome has,
          kept.counted number genome named,
          genome-in cells genome,
        )) in
        let there = kept.named number at.0 at.1 in
        let same : at.0.genome ≡ genome = cc in (
          number,
          at.1 ∙ ap Some (counted-is number at.0 at.1)
              ∙ ap (λ g. Some (counted_in alive g)) same,
        )

    -- the genotypes are the genomes of the living with their counts
    pub same-members : HaveSameMembers (values_of genotypes)
        (map (counted_in (genomes_of_cells cells)) (genomes_of_cells cells))
    same-members = record {
      forth = λ genotype has. (let entry = Contains-from_values_of genotypes genotype has in
          let at = lookup-from_Contains nat_eq_equiv entry.0 genotype genotypes
          are.keys entry.1 in
          let is = counted-is entry.0 genotype at in
          let among = counted-among alive genotype.genome
          (omega (
            arith,
            are.counted entry.0 genotype at,
            ap (λ (g : GenotypeCount). g.count) is,
          )) in
          subst (Contains (map (counted_in alive) alive)) (sym is)
          (contained-map (counted_in alive) alive genotype.genome among));
      back = λ genotype has. (let from =
          shown-in (counted_in alive) alive genotype genotype.genome has in
          let counted = is-counted from.0 from.1 in
          Contains-values_of genotypes counted.0 genotype
          (Contains-from_lookup eqb-true counted.0 genotype genotypes
          (counted.1 ∙ ap Some from.2)));
    }

    -- their genomes
    abbrev shown : List (List Letter)
    shown = map (λ (e : ℕ × GenotypeCount). e.1.genome) genotypes

    -- what is found under the key of an entry
    entry-at : (i : ℕ) (d : ℕ × GenotypeCount) → i < length genotypes
        → genotype_at genotypes (get_or genotypes i d).0 ≡ Some (get_or genotypes i d).1
    entry-at i d within =
        lookup-from_Contains nat_eq_equiv (get_or genotypes i d).0
        (get_or genotypes i d).1 genotypes are.keys (Contains-get_or genotypes i d within)

    -- the key of an entry
    key-at : (i : ℕ) (d : ℕ × GenotypeCount) → i < length genotypes
        → get_or (keys_of genotypes) i 0 ≡ (get_or genotypes i d).0
    key-at i d within = get_or-map (λ (e : ℕ × GenotypeCount). e.0) genotypes i d 0 within

    -- there are as many genomes as entries
    shown-long : length shown ≡ length genotypes
    shown-long = length-map genotypes (λ (e : ℕ × GenotypeCount). e.1.genome)

    -- no genome stands twice
    shown-distinct : IsDistinct same_letters shown
    shown-distinct = IsDistinct-from_apart same_letters shown (λ i j d upward within.
        false_from_ne_true (same_letters (get_or shown i d) (get_or shown j d)) (λ same.
        clash i j d upward (omega (arith, within, shown-long))
        ((one_list (get_or shown i d) (get_or shown j d)).0 same)))
      where
        clash : (i j : ℕ) (d : List Letter) → i < j → j < length genotypes
            → get_or shown i d ≡ get_or shown j d → ⊥
        clash i j d upward within same =
            let e : ℕ × GenotypeCount = (0, record { genome = d; count = 0 }) in
            let early : i < length genotypes = omega (arith, upward, within) in
            let of = get_or-map (λ (e : ℕ × GenotypeCount). e.1.genome) genotypes in
            let key = are.one_key _ _ _ _ (entry-at i e early) (entry-at j e within)
            (sym (of i e d early) ∙ same ∙ of j e d within) in
            let long = length-map genotypes (λ (e : ℕ × GenotypeCount). e.0) in
            eqb-false _ _ (apart_from_distinct nat_eq (keys_of genotypes) i j 0 are.keys upward
            (omega (arith, within, long))) (key-at i e early ∙ key ∙ sym (key-at j e within))

    -- the different genomes of the living stand apart
    different-distinct : HasEachOnce (different_of alive) alive
        → IsDistinct same_letters (different_of alive)
    different-distinct each =
        IsDistinct-from_apart same_letters (different_of alive) (λ i j d upward within.
        false_from_ne_true
        (same_letters (get_or (different_of alive) i d) (get_or (different_of alive) j d)) (λ same.
        each.once i j d upward within ((one_list _ _).0 same)))

    -- a genome of an entry is one of the living
    shown-lives : (genome : List Letter) → Contains shown genome → Contains alive genome
    shown-lives genome has =
        let entry = shown-in (λ (e : ℕ × GenotypeCount). e.1.genome) genotypes genome
        (0, record { genome = genome; count = 0 }) has in
        let living = shown-in (counted_in alive) alive entry.0.1 genome
        (same-members.forth entry.0.1
        (Contains-values_of genotypes entry.0.0 entry.0.1 entry.1)) in
        subst (Contains alive) (ap (λ (g : GenotypeCount). g.genome) living.2 ∙ entry.2) living.1

    -- and each of the living has an entry
    living-shown : (genome : List Letter) → Contains alive genome → Contains shown genome
    living-shown genome has =
        let counted = is-counted genome has in
        contained-map (λ (e : ℕ × GenotypeCount). e.1.genome) genotypes
        (counted.0, counted_in alive genome)
        (Contains-from_lookup eqb-true counted.0 (counted_in alive genome) genotypes counted.1)

    -- as many keys as there are different genomes
    pub genotype-number : HasEachOnce (different_of (genomes_of_cells cells))
        (genomes_of_cells cells)
        → length genotypes ≡ length (different_of (genomes_of_cells cells))
    genotype-number each =
        sym shown-long
        ∙ length-from_same_keys (same_letters-equivalence one_list) shown
        (different_of alive) shown-distinct
        (different-distinct each)
        (λ q. same_from_decides (list_any (same_letters q) shown)
        (list_any (same_letters q) (different_of alive)) (found-in shown q)
        (Decides-like (list_any (same_letters q) (different_of alive))
        (λ has. living-shown q ((each.members q).0 has))
        (λ has. (each.members q).1 (shown-lives q has)) (found-in (different_of alive) q)))
