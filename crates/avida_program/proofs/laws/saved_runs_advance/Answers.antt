use Rattle.avida_program.proofs.Prelude.{values_of}
use Rattle.avida_program.proofs.AdvanceLemmas.{run_advances}
use Rattle.avida_program.proofs.laws.saved_runs_advance.Goals as goal

pub returns : goal.returns
returns c can =
    run_advances (values_of c.args.config.now) c.args.more can
    c.runs_are_read_again.ensures c.resumed_runs_go_on.ensures.state
