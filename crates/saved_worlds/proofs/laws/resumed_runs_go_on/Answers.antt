use Rattle.saved_worlds.proofs.Prelude.{values_of}
use Rattle.saved_worlds.proofs.Quiet.{happens_in_time}
use Rattle.saved_worlds.proofs.Resumes.{state_goes_on, log_goes_on}
use Rattle.saved_worlds.proofs.laws.resumed_runs_go_on.Goals as goal

pub returns-clause-state : goal.returns-clause-state
returns-clause-state c =
    let config = c.args.config.now in
    state_goes_on (values_of config) (happens_in_time config) c.args.more

pub returns-clause-log : goal.returns-clause-log
returns-clause-log c =
    let config = c.args.config.now in
    log_goes_on (values_of config) (happens_in_time config) c.args.more
