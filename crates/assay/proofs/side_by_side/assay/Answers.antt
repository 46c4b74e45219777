use Rattle.std.proofs.Common.{◌∙◌, ap, map}
use Rattle.world_config.specs.Values.{values_of}
use Rattle.assay.specs.Assay.{assay_list, assay_of_seed}
use Rattle.assay.proofs.SeedLemmas.{runs_are}
use Rattle.assay.proofs.side_by_side.assay.Goals as goal

pub returns : goal.returns
unfolding assay_list
returns g c =
    let config = values_of c.args.config.now in
    c.from_vec.ensures
    ∙ runs_are config c.in_ok-seeds.seeds.items c.in_ok-runs.runs.items c.in_ok-assays.assays.items
    c.in_ok-runs.ensures.count c.in_ok-runs.ensures.each c.in_ok-assays.ensures
    ∙ ap (map (assay_of_seed config)) c.in_ok-seeds.ensures.seeds
