use Rattle.std.proofs.Common.{ap, arith, length}
use Rattle.avida_program.proofs.bench.log_bytes.Goals as goal

pub returns : goal.returns
returns c =
    let first = ap length c.in_ok-first.ensures in
    let last = ap length c.in_ok-last.ensures in
    omega (
      arith,
      first,
      last,
      c.len.ensures,
      c.in_ok-first.first.ok.0,
      c.len-2.ensures,
      c.in_ok-last.last.ok.0,
    )
