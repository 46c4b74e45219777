-- What one organism more or less does to the genotypes.
use Rattle.std.proofs.Common.{◌≡◌, refl, ℕ, ◌+◌, ◌≤◌, List, arith}
use Rattle.std.specs.Prelude.{nat_eq}
use Rattle.std.specs.HashMap.{HashMap, PutsEntry, get}
use Rattle.std.specs.List.Sorted.{IsPermutation}
use Rattle.std.specs.Map.{remove_entry}
use Rattle.std.proofs.lemmas.Map.Entries.{sum_by-remove_entry, sum_by_puts_entry, sum_by_values_permutation}
use Rattle.census.specs.Counts.{GenotypeCount, living_of}
use Rattle.census.specs.Changes.{count_under}

-- a count is at most the number of the counted
pub count_under-le-living : (genotypes : List (ℕ × GenotypeCount)) (key : ℕ)
    → count_under genotypes key ≤ living_of genotypes
count_under-le-living genotypes key =
    omega (arith, sum_by-remove_entry (λ (g : GenotypeCount). g.count) (nat_eq key) genotypes)

module _ {S : Type 0} (before after : HashMap ℕ GenotypeCount S) (key : ℕ) where
  -- a genotype is put under a key, in the place of the one that was counted there
  pub living-put : (genotype : GenotypeCount)
      → PutsEntry nat_eq before after key genotype (get nat_eq before key)
      → living_of after.entries + count_under before.entries key
      ≡ living_of before.entries + genotype.count
  living-put genotype puts =
      sum_by_puts_entry (λ (g : GenotypeCount). g.count) nat_eq before after key genotype
      (get nat_eq before key) refl puts

  -- the only organism that was counted under a key goes, and the key with it
  pub living-removed : IsPermutation (remove_entry (nat_eq key) before.entries) after.entries
      → count_under before.entries key ≡ 1
      → living_of after.entries + 1 ≡ living_of before.entries
  living-removed gone last =
      omega (
        arith,
        last,
        sum_by-remove_entry (λ (g : GenotypeCount). g.count) (nat_eq key) before.entries,
        sum_by_values_permutation (λ (g : GenotypeCount). g.count)
            (remove_entry (nat_eq key) before.entries) after.entries gone,
      )
