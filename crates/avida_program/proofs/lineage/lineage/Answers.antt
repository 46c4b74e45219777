use Rattle.std.proofs.Common.{refl}
use Rattle.avida_program.proofs.Prelude.{err_from_is_err_and, values_of}
use Rattle.avida_program.proofs.ReadEnds.{not_read, read_and_wrote}
use Rattle.avida_program.proofs.RunEnds.{descended}
use Rattle.avida_program.proofs.lineage.lineage.Goals as goal

pub returns-in_err-config : goal.returns-in_err-config
returns-in_err-config g c = λ watch.
    let p = err_from_is_err_and c.from_residual.result c.from_residual.ensures.1 in
    rw (p.1, p.2) (descended c.args.asked _ _
    (not_read c.in_err-config.field-0.0 refl c.in_err-config.ensures.err) refl refl tt)

pub returns-in_err-world : goal.returns-in_err-world
returns-in_err-world g c = λ watch.
    let p = err_from_is_err_and c.from_residual-in_err-world.result
    c.from_residual-in_err-world.ensures.1 in
    rw (p.1, p.2) (descended c.args.asked _ _
    (read_and_wrote c.in_ok-config.ensures.ok c.in_err-world.ensures.text refl) refl refl tt)

pub returns : goal.returns
returns g c = λ watch.
    let read = c.in_ok-config.ensures.ok in
    let ran = c.in_ok-world.ensures in
    descended c.args.asked _ _ (read_and_wrote read ran.text refl) refl tt (λ bytes told. (
      values_of c.in_ok-config.config,
      read.reads bytes told,
      (c.in_ok-world.world, c.leave.ensures, ran.world),
    ))
