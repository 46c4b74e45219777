use Rattle.saved_worlds.proofs.Prelude.{values_of}
use Rattle.saved_worlds.proofs.Quiet.{happens_in_time}
use Rattle.saved_worlds.proofs.Resumes.{next_state_is, next_text_is}
use Rattle.saved_worlds.proofs.laws.states_go_on.Goals as goal

pub returns-clause-state : goal.returns-clause-state
returns-clause-state c w ended =
    let config = c.args.config.now in
    next_state_is (values_of config) (happens_in_time config) w ended

pub returns-clause-text : goal.returns-clause-text
returns-clause-text c w ended =
    let config = c.args.config.now in
    next_text_is (values_of config) (happens_in_time config) w ended
