use Rattle.std.proofs.Common.{◌≡◌, ℕ, rules, sym, subst, get_or, IfOk}
use Rattle.std.proofs.lemmas.Result.{IfOk-weaker}
use Rattle.world_config.specs.Values.{values_of}
use Rattle.assay.specs.Assay.{assay_of_seed}
use Rattle.assay.proofs.side_by_side.run_seeds.Goals as goal

pub returns-clause-each : goal.returns-clause-each
returns-clause-each g c = IfOk-weaker c.map_vec.result _ _ (λ runs gives place seed run within.
    let one = (gives place run within).1 in
    let config = values_of c.args.config.now in
    subst (λ (s : ℕ). IfOk (get_or runs.items place run) (λ a. a ≡ assay_of_seed config s))
    (sym (one.job_is seed)) (search (rules, one))) c.map_vec.ensures.each
