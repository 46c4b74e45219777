use Rattle.std.proofs.Common.{arith}
use Rattle.log_lines.proofs.BirthFrontLemmas.{number_front}
use Rattle.log_lines.proofs.front.place_front.Goals as goal

pub returns : goal.returns
returns c =
    let found = c.in_ok-value in
    number_front c.args.text.now found.value found.len c.from.result
    (omega (arith, c.from.ensures)) found.ensures.number found.ensures.len found.ensures.within
