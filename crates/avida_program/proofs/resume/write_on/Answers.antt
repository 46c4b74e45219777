use Rattle.avida_program.proofs.Prelude.{err_from_is_err_and}
use Rattle.avida_program.proofs.ResumeLemmas.{end_written, updates_stopped}
use Rattle.avida_program.proofs.resume.write_on.Goals as goal

pub returns-in_err-after : goal.returns-in_err-after
returns-in_err-after g c =
    let p = err_from_is_err_and c.from_residual.result c.from_residual.ensures.1 in
    rw (p.1, p.2) (updates_stopped c.args.state c.args.more c.in_err-after.ensures.text)

pub returns : goal.returns
returns g c =
    let so = c.in_ok-after.ensures in
    end_written c.args.state c.in_ok-after.after c.args.more c.update-updates.result so.text
    c.write_end.ensures so.state c.update-updates.ensures
