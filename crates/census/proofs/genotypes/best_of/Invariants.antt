use Rattle.std.proofs.Common.{◌≡◌}
use Rattle.std.specs.List.{best_of}
use Rattle.census.specs.Counts.{outranks}
use Rattle.census.proofs.genotypes.best_of.Given as goal

-- what the rest makes of the best so far
abbrev pub invariant-loop-genotype : goal.invariant-loop-genotype
invariant-loop-genotype l =
    best_of outranks l.best l.genotype-iterator ≡ best_of outranks l.first l.fn.rest
