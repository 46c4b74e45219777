use Rattle.std.proofs.Common.{arith}
use Rattle.command_line.proofs.NumberLemmas.{cut_so}
use Rattle.command_line.proofs.numbers.cut_at_comma.Goals as goal

pub returns : goal.returns
returns c = cut_so c.args.text.now c.split_once.result
    (c.split_once.ensures.byte (omega arith) (λ text found is. is))
