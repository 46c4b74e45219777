use Rattle.std.proofs.Common.{Err, refl}
use Rattle.avida_program.proofs.Prelude.{err_from_is_err_and, bench_text}
use Rattle.avida_program.proofs.BenchLemmas.{benched}
use Rattle.avida_program.proofs.ReadEnds.{text_ended}
use Rattle.avida_program.proofs.bench.bench.Goals as goal

pub returns-in_err-world : goal.returns-in_err-world
returns-in_err-world g c = λ source watch.
    let p = err_from_is_err_and c.from_residual.result c.from_residual.ensures.1 in
    rw (p.1, p.2) (benched c.args.asked _ _ refl refl
    (text_ended (bench_text c.args.asked.seed) (Err c.in_err-world.field-0.0)
    c.in_err-world.ensures.text) refl tt)

pub returns : goal.returns
returns g c = λ source watch.
    benched c.args.asked _ _ refl refl c.in_ok-world.ensures.text.ok tt
    (c.in_ok-world.world, c.leave.ensures, c.in_ok-world.ensures.world)
