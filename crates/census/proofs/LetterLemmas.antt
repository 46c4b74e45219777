-- Genomes are ordered by the indexes of their letters.
use Rattle.std.proofs.Common.{◌≡◌, ◌∙◌, refl, ℕ, ◌+◌, List, [], ◌∷◌, Less, Equal, Greater, arith}
use Rattle.std.specs.Cmp.Derive.{points}
use Rattle.std.specs.Cmp.Lexicographic.{slice_cmp}
use Rattle.std.proofs.lemmas.Bool.Decides.{nat_tests}
use Rattle.std.specs.Ordering.{nat_cmp, ordering_then}
use denote.Enum.Compared.{by}
use denote.Enum.Declared.{Choice}
use denote.Struct.Field.{Field}
use mathlib.Core.Logic.{inl, inr}
use Rattle.genome.specs.Genome.{letters}
use Rattle.genome.specs.declared.genome.Genome.{Genome}
use Rattle.genome.specs.contracts.genome.GenomeOrd.TheImpl as genome_order
use Rattle.instruction_set.specs.contracts.letter.Letter.{the_parts, as_values}
use Rattle.instruction_set.specs.contracts.letter.LetterOrd.TheImpl as letter_order
use Rattle.instruction_set.specs.declared.letter.Letter.{Letter}
use Rattle.instruction_set.specs.declared.letter.Letter.TheVariants.{NopA}
use Rattle.instruction_set.specs.Letter.{index_of}
use Rattle.census.specs.Counts.{letters_cmp}

-- which of the variants a value is
place : (variants : List (List Field)) → Choice variants → ℕ
place [] c = absurd c
place (fields ∷ variants) (inl x) = 0
place (fields ∷ variants) (inr c) = place variants c + 1

-- values without fields are ordered by their variants
by-place : (variants : List (List Field)) (c d : Choice variants)
    → by Less Greater variants (points Equal variants) c d
    ≡ nat_cmp (place variants c) (place variants d)
unfolding place
by-place [] c d = absurd c
by-place (fields ∷ variants) (inl x) (inl y) = refl
by-place (fields ∷ variants) (inl x) (inr d) = grind (arith, nat_tests)
by-place (fields ∷ variants) (inr c) (inl y) = grind (arith, nat_tests)
by-place (fields ∷ variants) (inr c) (inr d) =
    by-place variants c d ∙ both (place variants c) (place variants d) where
      both : (m n : ℕ) → nat_cmp m n ≡ nat_cmp (m + 1) (n + 1)
      both m n = grind (arith, nat_tests)

-- the variant of a letter is its index
letter-place : (letter : Letter) → place the_parts (as_values letter) ≡ index_of letter
unfolding place
letter-place NopA = refl
letter-place _ = refl

-- two letters are ordered by their indexes
letter_cmp : (a b : Letter) → letter_order.ghosts.cmp a b ≡ nat_cmp (index_of a) (index_of b)
letter_cmp a b = by-place the_parts (as_values a) (as_values b)
    ∙ (λ i. nat_cmp (letter-place a i) (letter-place b i))

-- two lists of letters are ordered by their indexes
by_index : (ls others : List Letter)
    → slice_cmp letter_order.ghosts.cmp ls others ≡ letters_cmp ls others
by_index [] [] = refl
by_index [] (b ∷ bs) = refl
by_index (a ∷ rest) [] = refl
by_index (a ∷ rest) (b ∷ others) = λ i. ordering_then (letter_cmp a b i) (by_index rest others i)

-- the order of genomes
pub genome_cmp : (a b : Genome) → genome_order.ghosts.cmp a b ≡ letters_cmp (letters a) (letters b)
genome_cmp a b = by_index (letters a) (letters b)
