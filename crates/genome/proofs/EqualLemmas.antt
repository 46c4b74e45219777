-- Two genomes are equal exactly where their letters are.
use Rattle.std.proofs.Common.{◌≡◌, refl, List}
use Rattle.std.specs.Bool.{Decides}
use Rattle.std.proofs.lemmas.Bool.Decides.{same_from_decides}
use Rattle.std.proofs.lemmas.Slice.Eq.{slice_eq-Decides}
use denote.Enum.Bare.{sameb, same_true, true_same}
use Rattle.genome.specs.Genome.{letters}
use Rattle.genome.specs.declared.genome.Genome.{Genome}
use Rattle.genome.specs.contracts.genome.GenomePartialEq.TheImpl.{ghosts}
use Rattle.instruction_set.specs.declared.letter.Letter.{Letter}
use Rattle.instruction_set.specs.contracts.letter.Letter.{the_type}
use Rattle.instruction_set.specs.Letter.{same_letters}

-- two letters by their own equality
letter_eq-Decides : (a b : Letter) → Decides (sameb the_type a b) (a ≡ b)
letter_eq-Decides a b = (same_true the_type tt a b, true_same the_type a b)

-- two genomes are one value exactly where their letters are the same
pub genome_eq : ((one other : List Letter) → Decides (same_letters one other) (one ≡ other))
    → (a b : Genome) → ghosts.eq a b ≡ same_letters (letters a) (letters b)
genome_eq one_list a b =
    same_from_decides {P = letters a ≡ letters b} (ghosts.eq a b)
    (same_letters (letters a) (letters b))
    (slice_eq-Decides letter_eq-Decides (letters a) (letters b) _ refl)
    (one_list (letters a) (letters b))
