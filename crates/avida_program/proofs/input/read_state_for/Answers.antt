use Rattle.std.proofs.Common.{rules, ◌≡◌, ◌∙◌, ◌+◌, ◌<◌, Err, ap, arith}
use Rattle.std.specs.Prelude.{nat_lt}
use Rattle.avida_program.proofs.Prelude.{cond-true, lt-ltb, Updates}
use Rattle.avida_program.proofs.input.read_state_for.Goals as goal

pub returns-else-updates-from-clause-err : goal.returns-else-updates-from-clause-err
returns-else-updates-from-clause-err g c = λ bytes told.
    let updates = c.in_ok-state.state.head.update + c.args.more in
    let same : updates ≡ c.from.result + c.from-2.result = search rules in
    let above : 1000000 < updates = omega arith in
    let many = lt-ltb 1000000 updates above in
    rw (c.in_ok-state.ensures.ok.reads bytes told)
    (cond-true (nat_lt 1000000 updates) _ _ many ∙ ap (λ n. Err (Updates n)) same)
