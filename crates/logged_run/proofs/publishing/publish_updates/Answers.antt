use Rattle.std.proofs.Common.{◌≡◌, ◌<◌, ℕ, Ok, arith, subst}
use Rattle.logged_run.proofs.Prelude.{err_from_is_err_and, updates_text, WritesAll, writes_same, Progress, HasCome}
use Rattle.logged_run.proofs.PublishedLemmas.{come_again, come_more}
use Rattle.logged_run.proofs.RunLemmas.{update_stopped, update_written}
use Rattle.logged_run.proofs.publishing.publish_updates.Goals as goal

pub publish_update-requires-clause-come : goal.publish_update-requires-clause-come
publish_update-requires-clause-come g c κs within = come_again c.loop.invariant.come

pub returns-in_err-progress-clause-text : goal.returns-in_err-progress-clause-text
returns-in_err-progress-clause-text g c =
    let p = err_from_is_err_and c.from_residual.result c.from_residual.ensures.1 in
    let so = c.loop.invariant in
    let within : c.loop.counter < c.args.updates = omega arith in
    rw (p.1, p.2)
    (update_stopped within so.written c.in_err-progress.ensures.text so.come.world.config
    so.come.world.update)

pub returns-clause-come : goal.returns-clause-come
returns-clause-come g c =
    let all : c.loop.counter ≡ c.args.updates = omega arith in
    subst (λ (n : ℕ). HasCome c.args.progress.world.config n c.loop.publisher c.loop.progress) all
    c.loop.invariant.come

pub returns-clause-text : goal.returns-clause-text
returns-clause-text g c =
    let all : c.loop.counter ≡ c.args.updates = omega arith in
    subst (λ n. WritesAll {T = Progress} (g.O.Sink.seen c.args.out.now) (g.O.Sink.seen c.loop.out)
    (updates_text c.args.progress.world.config n) (Ok c.loop.progress)) all
    (writes_same c.loop.invariant.written)

pub loop-preserved : goal.loop-preserved
loop-preserved g c =
    let so = c.loop.invariant in
    let next = c.in_ok-progress.ensures in
    record {
      come = come_more so.come next.come;
      written = writes_same (update_written so.written next.text so.come.world.config
          so.come.world.update);
    }
