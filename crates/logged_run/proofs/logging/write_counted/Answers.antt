use Rattle.std.proofs.Common.{◌∙◌, ap, subst}
use Rattle.logged_run.proofs.Prelude.{err_from_is_err_and, values_of, ConfigValues, WorldValue, AreSumsOf, IsEndOf, kept_holds, kept_writes, run_text, nothing_written}
use Rattle.logged_run.specs.declared.sums.Sums.{Sums}
use Rattle.logged_run.proofs.RunLemmas.{first_stopped, last_written, updates_stopped}
use Rattle.logged_run.proofs.logging.write_counted.Goals as goal

pub returns-in_err-world-clause-text : goal.returns-in_err-world-clause-text
returns-in_err-world-clause-text g c =
    let p = err_from_is_err_and c.from_residual.result c.from_residual.ensures.1 in
    rw (p.1, p.2) (nothing_written (g.O.Sink.seen c.args.out.now)
    (run_text (values_of c.args.config)))

pub returns-in_err-world-2-clause-text : goal.returns-in_err-world-2-clause-text
returns-in_err-world-2-clause-text g c =
    let p = err_from_is_err_and c.from_residual-in_err-world-2.result
    c.from_residual-in_err-world-2.ensures.1 in
    rw (p.1, p.2) (first_stopped c.in_ok-world.ensures.0 c.args.config.updates
    (rw c.in_err-world-2.ensures.err at c.write_first-first.ensures))

pub returns-in_err-world-3-clause-text : goal.returns-in_err-world-3-clause-text
returns-in_err-world-3-clause-text g c =
    let p = err_from_is_err_and c.from_residual-in_err-world-3.result
    c.from_residual-in_err-world-3.ensures.1 in
    let so = c.in_ok-world-2.ensures in
    rw (p.1, p.2) (updates_stopped c.in_ok-world.ensures.0 c.args.config.updates
    (rw so.ok at c.write_first-first.ensures) (rw so.value at c.in_err-world-3.ensures.text))

pub returns-clause-ended : goal.returns-clause-ended
returns-clause-ended g c =
    let founded = ap (λ (w : WorldValue). w.config) c.in_ok-world-2.ensures.value
    ∙ c.in_ok-world.ensures.0 in
    let so = c.in_ok-world-3.ensures in
    kept_holds (λ (ran : WorldValue × Sums). IsEndOf (values_of c.args.config) ran.0 ran.1)
    (c.in_ok-world-3.world, c.in_ok-world-3.sums) c.kept-2.result c.kept-2.ensures.value (record {
      final = record { config = so.world.config ∙ founded; update = so.world.update };
      summed = subst (λ (of : ConfigValues). AreSumsOf of c.args.config.updates
          c.in_ok-world-3.sums) founded so.sums;
    })

pub returns-clause-text : goal.returns-clause-text
returns-clause-text g c =
    let so = c.in_ok-world-2.ensures in
    last_written c.in_ok-world.ensures.0 c.args.config.updates
    (rw so.ok at c.write_first-first.ensures) (rw so.value at c.in_ok-world-3.ensures.text)
    (kept_writes c.kept-2.ensures.ok c.kept-2.ensures.err c.write_last-last.ensures)
    c.in_ok-world-3.ensures.world.update
