use Rattle.avida_program.proofs.Prelude.{values_of}
use Rattle.avida_program.proofs.SavedLemmas.{run_goes_on}
use Rattle.avida_program.proofs.laws.saved_runs_go_on.Goals as goal

pub returns : goal.returns
returns c can =
    run_goes_on (values_of c.args.config.now) c.args.more can
    c.runs_are_read_again.ensures c.resumed_runs_go_on.ensures.log
