use Rattle.std.proofs.Common.{◌≡◌, ℕ, List, arith, subst}
use Rattle.std.specs.Prelude.{IfOk}
use Rattle.avida_program.proofs.BenchLemmas.{sums_told}
use Rattle.avida_program.proofs.bench.text_of.Goals as goal

pub log_bytes-requires : goal.log_bytes-requires
log_bytes-requires c =
    omega (
      arith,
      c.requires.updates,
      c.requires.end.final.update,
      c.requires.end.summed.bytes.small,
    )

pub returns : goal.returns
returns c =
    subst (λ (lines : List ℕ). IfOk c.lines_of.result (λ text. text.items ≡ lines))
    (sums_told c.args.world.now c.args.sums c.stats.result c.in_ok-bytes.bytes c.requires.end
    c.stats.ensures c.in_ok-bytes.ensures) c.lines_of.ensures
