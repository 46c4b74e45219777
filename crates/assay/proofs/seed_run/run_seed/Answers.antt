use Rattle.world_config.specs.Values.{values_of}
use Rattle.assay.proofs.seed_run.run_seed.Goals as goal

pub returns : goal.returns
returns g c =
    c.assay_of.ensures (values_of c.args.config.now)
    (rw c.in_ok-config.ensures at c.in_ok-world.ensures)
