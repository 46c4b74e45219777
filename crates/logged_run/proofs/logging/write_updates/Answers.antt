use Rattle.std.proofs.Common.{◌≡◌, ◌<◌, ◌+◌, ◌∙◌, Ok, ap, arith, refl, subst}
use Rattle.logged_run.proofs.Prelude.{err_from_is_err_and, WorldValue, updates_text, WritesAll, wanting_after, writes_nothing, writes_same, AreSumsOf}
use Rattle.logged_run.proofs.RunLemmas.{update_stopped, update_written}
use Rattle.logged_run.proofs.SumLemmas.{sums_here, sums_none, sums_then}
use Rattle.logged_run.proofs.logging.write_updates.Goals as goal

pub loop-init : goal.loop-init
loop-init g c = record {
  at = record {
    config = ap (λ (w : WorldValue). w.config) c.into_running-running.ensures;
    update = ap (λ (w : WorldValue). w.update) c.into_running-running.ensures ∙ c.requires.new;
  };
  summed = sums_none c.args.world.config _ refl refl refl;
  written = writes_nothing _;
}

pub count_update-requires-clause-sums : goal.count_update-requires-clause-sums
count_update-requires-clause-sums g c κs within =
    sums_here c.loop.invariant.at c.loop.invariant.summed

pub returns-in_err-running-clause-text : goal.returns-in_err-running-clause-text
returns-in_err-running-clause-text g c =
    let p = err_from_is_err_and c.from_residual.result c.from_residual.ensures.1 in
    let so = c.loop.invariant in
    let within : c.loop.counter < c.args.updates = omega arith in
    rw (p.1, p.2)
    (update_stopped within so.written c.in_err-running.ensures.text so.at.config so.at.update)

pub returns-in_err-into_world-clause-text : goal.returns-in_err-into_world-clause-text
returns-in_err-into_world-clause-text g c =
    let p = err_from_is_err_and c.from_residual-in_err-into_world.result
    c.from_residual-in_err-into_world.ensures.1 in
    let all : c.loop.counter ≡ c.args.updates = omega arith in
    let wrote = subst (λ n. WritesAll {T = Unit {0}} (g.O.Sink.seen c.args.out.now)
    (g.O.Sink.seen c.loop.out) (updates_text c.args.world.config n) (Ok tt)) all
    c.loop.invariant.written in
    rw (p.1, p.2) (wanting_after wrote)

pub returns-clause-text : goal.returns-clause-text
returns-clause-text g c =
    let all : c.loop.counter ≡ c.args.updates = omega arith in
    writes_same (subst (λ n. WritesAll {T = Unit {0}} (g.O.Sink.seen c.args.out.now)
    (g.O.Sink.seen c.loop.out) (updates_text c.args.world.config n) (Ok tt)) all
    c.loop.invariant.written)

pub returns-clause-world : goal.returns-clause-world
returns-clause-world g c =
    let so = c.loop.invariant.at in
    let all : c.loop.counter ≡ c.args.updates = omega arith in
    let same = c.in_ok-into_world.ensures in
    record {
      config = ap (λ (w : WorldValue). w.config) same ∙ so.config;
      update = ap (λ (w : WorldValue). w.update) same ∙ so.update ∙ all;
    }

pub returns-clause-sums : goal.returns-clause-sums
returns-clause-sums g c =
    let all : c.loop.counter ≡ c.args.updates = omega arith in
    subst (λ n. AreSumsOf c.args.world.config n c.loop.sums) all c.loop.invariant.summed

pub loop-preserved : goal.loop-preserved
loop-preserved g c =
    let so = c.loop.invariant in
    let next = c.in_ok-running.ensures in
    record {
      at = record {
        config = next.world.config ∙ so.at.config;
        update = next.world.update ∙ ap (λ n. n + 1) so.at.update;
      };
      summed = sums_then so.at next.sums;
      written = writes_same (update_written so.written next.text so.at.config so.at.update);
    }
