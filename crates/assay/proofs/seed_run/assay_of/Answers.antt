use Rattle.std.proofs.Common.{option_map}
use Rattle.genome.specs.Genome.{letters}
use Rattle.assay.proofs.SeedLemmas.{seed_is}
use Rattle.assay.proofs.seed_run.assay_of.Goals as goal

pub returns : goal.returns
returns c = λ config so.
    seed_is config c.args.seed c.args.world.now c.args.sums c.stats.result
    (option_map letters c.in_ok-dominant.dominant) so c.stats.ensures c.in_ok-dominant.ensures
