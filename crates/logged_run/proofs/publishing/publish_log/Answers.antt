use Rattle.std.proofs.Common.{subst, sym}
use Rattle.logged_run.proofs.Prelude.{err_from_is_err_and, values_of, ConfigValues, HasCome, kept_holds, kept_writes}
use Rattle.logged_run.proofs.RunLemmas.{first_stopped, last_written, updates_stopped}
use Rattle.logged_run.proofs.publishing.publish_log.Goals as goal

pub publish_updates-requires-clause-come : goal.publish_updates-requires-clause-come
publish_updates-requires-clause-come g c κs within =
    rw c.in_ok-progress.ensures.value (subst (λ (of : ConfigValues). HasCome of 0
    c.args.publisher.now c.args.progress) (sym c.requires.world.config) c.requires)

pub returns-in_err-progress-clause-text : goal.returns-in_err-progress-clause-text
returns-in_err-progress-clause-text g c =
    let p = err_from_is_err_and c.from_residual.result c.from_residual.ensures.1 in
    rw (p.1, p.2) (first_stopped c.requires.world.config c.args.config.now.updates
    (rw c.in_err-progress.ensures.err at c.write_first-first.ensures))

pub returns-in_err-progress-2-clause-text : goal.returns-in_err-progress-2-clause-text
returns-in_err-progress-2-clause-text g c =
    let p = err_from_is_err_and c.from_residual-in_err-progress-2.result
    c.from_residual-in_err-progress-2.ensures.1 in
    let so = c.in_ok-progress.ensures in
    rw (p.1, p.2) (updates_stopped c.requires.world.config c.args.config.now.updates
    (rw so.ok at c.write_first-first.ensures) (rw so.value at c.in_err-progress-2.ensures.text))

pub returns-clause-come : goal.returns-clause-come
returns-clause-come g c =
    let of = values_of c.args.config.now in
    let ran = rw c.in_ok-progress.ensures.value at c.in_ok-progress-2.ensures.come in
    kept_holds (HasCome of c.args.config.now.updates c.publish_updates.new.publisher)
    c.in_ok-progress-2.progress c.kept-2.result c.kept-2.ensures.value
    (rw c.requires.world.config at ran)

pub returns-clause-text : goal.returns-clause-text
returns-clause-text g c =
    let so = c.in_ok-progress.ensures in
    last_written c.requires.world.config c.args.config.now.updates
    (rw so.ok at c.write_first-first.ensures) (rw so.value at c.in_ok-progress-2.ensures.text)
    (kept_writes c.kept-2.ensures.ok c.kept-2.ensures.err c.write_last-last.ensures)
    c.in_ok-progress-2.ensures.come.world.update
