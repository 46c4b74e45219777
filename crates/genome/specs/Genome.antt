-- Genomes (docs/FORMATS.md, "Genomes by letters").
use Rattle.std.specs.Prelude.{◌≤◌, List, Result, Ok, Err, length, if◌then◌else◌, nat_lt, [], ◌∷◌, filter, not}
use Rattle.instruction_set.specs.declared.letter.Letter.{Letter}
use Rattle.genome.specs.declared.genome.Genome.{Genome}
use Rattle.genome.specs.declared.stop.GenomeStop.{GenomeStop}
use Rattle.genome.specs.declared.stop.GenomeStop.TheVariants.{TooShort, TooLong}
use Rattle.genome.specs.Lengths.{shortest_genome, longest_genome}
use Rattle.instruction_set.specs.Letter.{same_letters}

-- the letters of a genome
abbrev pub letters : Genome → List Letter
letters genome = genome.letters.items

-- these letters can be a genome
pub record IsGenome (ls : List Letter) : Type 0 where
  pub least : shortest_genome ≤ length ls
  pub greatest : length ls ≤ longest_genome

-- these letters as a genome, or what refuses them
abbrev pub genome_of : List Letter → Result (List Letter) GenomeStop
genome_of ls =
    if nat_lt (length ls) shortest_genome then Err (TooShort (length ls))
    else if nat_lt longest_genome (length ls) then Err (TooLong (length ls)) else Ok ls

-- the different ones of some genomes, in order of their first place
abbrev pub different_of : List (List Letter) → List (List Letter)
different_of [] = []
different_of (genome ∷ genomes) =
    genome ∷ filter (λ other. not (same_letters genome other)) (different_of genomes)
