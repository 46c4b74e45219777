-- Only blanks are passed.
use Rattle.std.proofs.Common.{◌≡◌, length}
use Rattle.genome.specs.GenomeText.{after_blanks}
use Rattle.genome.proofs.names.after_blanks.Given as goal

abbrev pub invariant-loop-rest : goal.invariant-loop-rest
invariant-loop-rest l = after_blanks l.rest ≡ after_blanks l.fn.bytes

abbrev pub decreases-loop-rest : goal.decreases-loop-rest
decreases-loop-rest l = length l.rest
