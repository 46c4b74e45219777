use Rattle.std.proofs.Common.{◌∙◌}
use Rattle.mutations.proofs.dividing.are_equal.Goals as goal

pub returns : goal.returns
returns c = c.eq.ensures ∙ c.equal_by_letters.ensures c.args.genome.now c.args.other.now
