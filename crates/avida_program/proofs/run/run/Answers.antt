use Rattle.std.proofs.Common.{refl}
use Rattle.avida_program.proofs.Prelude.{err_from_is_err_and, values_of}
use Rattle.avida_program.proofs.RunEnds.{ran_to_end, run_not_read, run_stopped}
use Rattle.avida_program.proofs.run.run.Goals as goal

pub returns-in_err-config : goal.returns-in_err-config
returns-in_err-config g c =
    let p = err_from_is_err_and c.from_residual.result c.from_residual.ensures.1 in
    rw (p.1, p.2) (run_not_read c.args.asked _ _ c.in_err-config.ensures.err refl refl refl)

pub returns-in_err-world : goal.returns-in_err-world
returns-in_err-world g c =
    let p = err_from_is_err_and c.from_residual-in_err-world.result
    c.from_residual-in_err-world.ensures.1 in
    let ran = c.in_err-world.ensures in
    rw (p.1, p.2) (run_stopped c.args.asked _ (values_of c.in_ok-config.config) _
    c.in_ok-config.ensures.ok ran.err ran.unwatched refl)

pub returns : goal.returns
returns g c =
    let ran = c.in_ok-world.ensures in
    ran_to_end c.args.asked _ (values_of c.in_ok-config.config)
    c.in_ok-config.ensures.ok ran.ok ran.watched ran.unwatched
    (c.in_ok-world.world, c.leave.ensures, ran.world) c.replay_gives_living.ensures
    (λ bytes lines. (c.read_exactly.ensures bytes lines).0)
