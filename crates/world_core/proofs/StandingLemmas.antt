-- The genotypes that are counted, beside the genomes that stand and those that have a number.
use Rattle.std.proofs.Common.{◌≡◌, ◌∙◌, refl, sym, ap, ℕ, zero, suc, ◌<◌, true, List, [], ◌∷◌, length, get_or, Option, Some, None, is_some, replicate, arith, rules, inl, inr}
use Rattle.std.specs.Prelude.{IsSome, slice_get}
use Rattle.world_core.proofs.Prelude.{IsPrefix, count_by, option_map, unwrap_or, cases_Bool, cases_lt, length-replicate, sum_by-replicate, sum_by-cons, get_or-le-sum_by, GenotypeCount, genotype_at, count_under, genome_under, Letter, same_letters, AreCountedIn, AreDifferent, is_genome, OneList, slice_get-begins}
use Rattle.world_core.proofs.SumLemmas.{one}

-- the cells in which a genome stands
abbrev pub cells_of : List (Option (List Letter)) → List Letter → ℕ
cells_of standing genome = count_by (is_genome genome) standing

-- how many organisms are counted in what is found
abbrev pub count_in : Option GenotypeCount → ℕ
count_in found = unwrap_or (option_map (λ g. g.count) found) 0

-- what is counted is found
pub is_found : (found : Option GenotypeCount) → 0 < count_in found
    → (genotype : GenotypeCount) × (found ≡ Some genotype)
is_found None some = absurd (omega (arith, some))
is_found (Some g) some = (g, refl)

-- nobody is not somebody
pub apart : {X : Type 0} (found : Option X) (x : X) → found ≡ None → found ≡ Some x → ⊥
apart found x none some = cc

-- nobody stands in such cells
pub nobody : {X : Type 0} (n cell : ℕ)
    → get_or (replicate {A = Option X} n None) cell None ≡ None
nobody zero cell = refl
nobody (suc n) zero = refl
nobody (suc n) (suc cell) = nobody n cell

-- nobody stands anywhere, and no genome has a number
pub AreCountedIn-none : (n : ℕ) (keys : List ℕ) → length keys ≡ n
    → AreCountedIn (replicate n None) [] keys []
AreCountedIn-none n keys long = record {
  size = long ∙ sym (length-replicate {A = Option (List Letter)} n None);
  keyed = λ cell genome is. absurd (apart _ genome (nobody n cell) is);
  named = λ number genotype is. cc;
  counted = λ number genome is. cc;
  living =
      omega (arith, sum_by-replicate (λ (slot : Option (List Letter)). one (is_some slot)) n None);
}

module _ (one_list : OneList) where
  -- a genome is itself
  pub is_itself : (genome : List Letter) → same_letters genome genome ≡ true
  is_itself genome = (one_list genome genome).1 refl

  -- a genome that is counted in some cell stands in one
  some_cell : (genome : List Letter) (standing : List (Option (List Letter)))
      → 0 < cells_of standing genome → (cell : ℕ) × (get_or standing cell None ≡ Some genome)
  some_cell genome [] some = absurd (omega (arith, some))
  some_cell genome (None ∷ rest) some = let later =
      some_cell genome rest (omega
      (arith, some, sum_by-cons (λ slot. one (is_genome genome slot)) None rest)) in
      (suc later.0, later.1)
  some_cell genome (Some other ∷ rest) some = elim (cases_Bool (same_letters genome other)) [
    | inl same ↦ (0, ap Some (sym ((one_list genome other).0 same)))
    | inr differ ↦
        let sum = sum_by-cons (λ slot. one (is_genome genome slot)) (Some other) rest in
        let later = some_cell genome rest (omega (arith, some, sum, ap one differ)) in
        (suc later.0, later.1)
  ]

  -- the genome under a number that is counted is the genome with the number
  pub genome-under : (standing : List (Option (List Letter))) (genomes : List (List Letter))
      (keys : List ℕ) (genotypes : List (ℕ × GenotypeCount)) (number : ℕ)
      → AreCountedIn standing genomes keys genotypes → 0 < count_under genotypes number
      → slice_get genomes number ≡ Some (genome_under genotypes number)
  genome-under standing genomes keys genotypes number are some =
      let at = is_found (genotype_at genotypes number) some in
      rw at.1 (are.named number at.0 at.1)

  -- where a genome has no cell it is not counted
  none-counted : (standing : List (Option (List Letter))) (genomes : List (List Letter))
      (keys : List ℕ) (genotypes : List (ℕ × GenotypeCount)) (later : List (List Letter))
      (genome : List Letter) (number : ℕ) → IsPrefix genomes later → AreDifferent later
      → AreCountedIn standing genomes keys genotypes → slice_get genomes number ≡ None
      → slice_get later number ≡ Some genome
      → count_under genotypes number ≡ cells_of standing genome
  none-counted standing genomes keys genotypes later genome number prefix different are none is =
      elim (cases_lt 0 (count_under genotypes number)) [
        | inl some ↦ absurd (apart _ _ none
            (genome-under standing genomes keys genotypes number are some))
        | inr uncounted ↦ elim (cases_lt 0 (cells_of standing genome)) [
          | inl some ↦
              let at = some_cell genome standing some in
              let there = are.keyed at.0 genome at.1 in
              let same = different (get_or keys at.0 0) number genome
              (slice_get-begins genomes later _ genome prefix there) is in
              absurd (apart _ genome none (ap (slice_get genomes) (sym same) ∙ there))
          | inr nowhere ↦ omega arith
        ]
      ]

  -- genomes that come behind change no count
  pub AreCountedIn-more : (standing : List (Option (List Letter))) (genomes : List (List Letter))
      (keys : List ℕ) (genotypes : List (ℕ × GenotypeCount)) (later : List (List Letter))
      → IsPrefix genomes later → AreDifferent later → AreCountedIn standing genomes keys genotypes
      → AreCountedIn standing later keys genotypes
  AreCountedIn-more standing genomes keys genotypes later prefix different are = record {
    size = are.size;
    keyed = λ cell genome is. slice_get-begins genomes later (get_or keys cell 0) genome prefix
        (are.keyed cell genome is);
    named = λ number genotype is. slice_get-begins genomes later number genotype.genome prefix
        (are.named number genotype is);
    counted = λ number genome is. counted number genome is (slice_get genomes number) refl;
    living = are.living;
  }
    where
      counted : (number : ℕ) (genome : List Letter) → slice_get later number ≡ Some genome
          → (found : Option (List Letter)) → slice_get genomes number ≡ found
          → count_under genotypes number ≡ cells_of standing genome
      counted number genome is None none =
          none-counted standing genomes keys genotypes later genome number prefix different are none
          is
      counted number genome is (Some old) some =
          let kept = slice_get-begins genomes later number old prefix some in
          let same : old ≡ genome = cc in
          are.counted number old some ∙ ap (cells_of standing) same

  -- a genome that stands in a cell is counted under the key there
  pub some-counted : (standing : List (Option (List Letter))) (genomes : List (List Letter))
      (keys : List ℕ) (genotypes : List (ℕ × GenotypeCount)) (cell : ℕ) (genome : List Letter)
      → cell < length standing → get_or standing cell None ≡ Some genome
      → AreCountedIn standing genomes keys genotypes
      → IsSome (genotype_at genotypes (get_or keys cell 0))
  some-counted standing genomes keys genotypes cell genome within stands are =
      let at = is_found (genotype_at genotypes (get_or keys cell 0))
      (omega (
        arith,
        are.counted (get_or keys cell 0) genome (are.keyed cell genome stands),
        get_or-le-sum_by (λ slot. one (is_genome genome slot)) standing cell None within,
        ap (λ slot. one (is_genome genome slot)) stands,
        ap one (is_itself genome),
      )) in
      rw at.1 (search rules)
