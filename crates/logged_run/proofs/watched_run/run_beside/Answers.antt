use Rattle.logged_run.proofs.Prelude.{values_of}
use Rattle.logged_run.proofs.EndLemmas.{at_end, run_ended}
use Rattle.logged_run.proofs.watched_run.run_beside.Goals as goal

pub end-requires : goal.end-requires
end-requires g c =
    let both = c.side_by_side-outcomes.ensures in
    at_end _ _ (values_of c.args.begun.now.config.value)
    c.side_by_side-outcomes.new.begun.publisher _ both.watched.begins both.ran.come

pub returns : goal.returns
returns g c =
    let both = c.side_by_side-outcomes.ensures in
    run_ended c.args.looks (values_of c.args.begun.now.config.value) _ _ c.end.result both.ran
    both.watched c.end.ensures
