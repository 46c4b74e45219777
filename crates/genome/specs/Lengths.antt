-- The lengths of a genome (docs/FORMATS.md, "Genomes by letters").
use Rattle.std.specs.Prelude.{ℕ}

-- the least length
abbrev pub shortest_genome : ℕ
shortest_genome = 8

-- the greatest length
abbrev pub longest_genome : ℕ
longest_genome = 8192
