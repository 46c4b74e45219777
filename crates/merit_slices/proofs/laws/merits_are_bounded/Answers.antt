use Rattle.std.proofs.Common.{min, arith}
use Rattle.merit_slices.specs.Merit.{exponent_sum, merit_of}
use Rattle.merit_slices.proofs.MeritLemmas.{exponent_sum-le, merit_of-le, merit_of-positive}
use Rattle.merit_slices.proofs.laws.merits_are_bounded.Goals as goal

pub returns-clause-bounded : goal.returns-clause-bounded
unfolding merit_of
returns-clause-bounded c =
    λ genome_length executed copied tasks short.
    merit_of-le (min (min genome_length executed) copied) (exponent_sum tasks) (omega arith)
    (exponent_sum-le tasks)

pub returns-clause-positive : goal.returns-clause-positive
unfolding merit_of
returns-clause-positive c =
    λ genome_length executed copied tasks some_length some_executed some_copied.
    merit_of-positive (min (min genome_length executed) copied) (exponent_sum tasks) (omega arith)
