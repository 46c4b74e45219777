use Rattle.std.proofs.Common.{◌≤◌, ◌+◌, arith}
use Rattle.logged_run.proofs.Prelude.{err_from_is_err_and, values_of}
use Rattle.logged_run.proofs.WatcherLemmas.{looks_begun, looks_done, looks_within}
use Rattle.logged_run.proofs.watching.write_looks.Goals as goal

pub returns-in_err-written : goal.returns-in_err-written
returns-in_err-written g c =
    let p = err_from_is_err_and c.from_residual.result c.from_residual.ensures.1 in
    let within : c.loop.counter + 1 ≤ c.args.looks = omega arith in
    rw (p.1, p.2) (record {
      begins = tt;
      lines = looks_within (c.loop.counter + 1) c.args.looks (values_of c.args.config.now) _ _ _
          (c.in_err-written.ensures c.loop.counter _ c.loop.invariant) within;
    })

pub returns-then-at_end : goal.returns-then-at_end
returns-then-at_end g c =
    let within : c.loop.counter + 1 ≤ c.args.looks = omega arith in
    looks_done (c.loop.counter + 1) c.args.looks (values_of c.args.config.now) _ _ _ _
    (c.in_ok-written.ensures c.loop.counter _ c.loop.invariant) within

pub returns : goal.returns
returns g c =
    let within : c.loop.counter ≤ c.args.looks = omega arith in
    looks_done c.loop.counter c.args.looks (values_of c.args.config.now) _ _ _ _
    c.loop.invariant within

pub loop-init : goal.loop-init
loop-init g c = looks_begun (values_of c.args.config.now) c.args.observer.now _ c.requires

pub loop-preserved : goal.loop-preserved
loop-preserved g c = c.in_ok-written.ensures c.loop.counter _ c.loop.invariant
