-- What a census has counted, and the dominant genome (docs/WORLD.md, "Statistics").
use Rattle.std.specs.Prelude.{◌≡◌, ◌<◌, ℕ, List, Option, Some, nat_eq, Bool, not, map, find, Contains}
use Rattle.std.specs.List.{IsDistinct, sum_by, list_all}
use Rattle.std.specs.Map.{keys_of, values_of, lookup}
use Rattle.instruction_set.specs.declared.letter.Letter.{Letter}
use Rattle.std.specs.Cmp.Lexicographic.{slice_cmp}
use Rattle.std.specs.Ordering.{nat_cmp, ordering_then, is_lt}
use Rattle.std.specs.declared.cmp.Ordering.{Ordering}
use Rattle.genome.specs.Genome.{letters}
use Rattle.instruction_set.specs.Letter.{index_of}
use Rattle.census.specs.declared.dominant.Dominant.{Dominant}

-- a genome, and how many of the counted organisms have it
pub record GenotypeCount : Type 0 where
  pub genome : List Letter
  pub count : ℕ

-- genotypes by keys, in no order that matters, the sum of merits, how many have each task credited
pub record Counts : Type 0 where
  pub genotypes : List (ℕ × GenotypeCount)
  pub merit : ℕ
  pub tasks : List ℕ

-- what is counted under a key
abbrev pub genotype_at : List (ℕ × GenotypeCount) → ℕ → Option GenotypeCount
genotype_at genotypes key = lookup (nat_eq key) genotypes

-- how many organisms are counted
abbrev pub living_of : List (ℕ × GenotypeCount) → ℕ
living_of genotypes = sum_by (λ genotype. genotype.count) (values_of genotypes)

-- each key stands once, for a genome that some organism has, and each genome has one key
pub record AreGenotypes (genotypes : List (ℕ × GenotypeCount)) : Type 0 where
  pub keys : IsDistinct nat_eq (keys_of genotypes)
  pub counted : (key : ℕ) (genotype : GenotypeCount)
      → genotype_at genotypes key ≡ Some genotype → 0 < genotype.count
  pub one_key : (key other : ℕ) (genotype twin : GenotypeCount)
      → genotype_at genotypes key ≡ Some genotype → genotype_at genotypes other ≡ Some twin
      → genotype.genome ≡ twin.genome → key ≡ other

-- the order of two genomes by their letters
abbrev pub letters_cmp : List Letter → List Letter → Ordering
letters_cmp genome other = slice_cmp nat_cmp (map index_of genome) (map index_of other)

-- the more frequent genotype comes first, and of equally frequent ones that with the first letters
abbrev pub dominance_cmp : GenotypeCount → GenotypeCount → Ordering
dominance_cmp genotype other =
    ordering_then (nat_cmp other.count genotype.count) (letters_cmp genotype.genome other.genome)

-- a genotype comes before another
abbrev pub outranks : GenotypeCount → GenotypeCount → Bool
outranks genotype other = is_lt (dominance_cmp genotype other)

-- the genotype before which no other comes
unfoldable pub dominant_among : List GenotypeCount → Option GenotypeCount
dominant_among genotypes =
    find (λ genotype. list_all (λ other. not (outranks other genotype)) genotypes) genotypes

-- each genotype of one list is in the other
pub record HaveSameMembers (genotypes others : List GenotypeCount) : Type 0 where
  pub forth : (genotype : GenotypeCount) → Contains genotypes genotype → Contains others genotype
  pub back : (genotype : GenotypeCount) → Contains others genotype → Contains genotypes genotype

-- a dominant genome with its count
abbrev pub dominant_value : Dominant → GenotypeCount
dominant_value dominant = record { genome = letters dominant.genome.value; count = dominant.count }
