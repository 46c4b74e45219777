use Rattle.avida_program.proofs.Prelude.{values_of}
use Rattle.avida_program.proofs.BenchLemmas.{bench_values, events_fit}
use Rattle.avida_program.proofs.bench.config_with.Goals as goal

pub invariant_of-config-clause-event_bounds : goal.invariant_of-config-clause-event_bounds
invariant_of-config-clause-event_bounds c =
    events_fit (values_of c.in_ok-config.config) _ c.in_ok-config.ensures

pub returns : goal.returns
returns c = bench_values c.args.seed (values_of c.in_ok-config.config) c.in_ok-config.ensures
