use Rattle.virtual_cpu.proofs.OperandLemmas.{takes_operand}
use Rattle.virtual_cpu.proofs.laws.letters_take_their_operands.Goals as goal

pub returns : goal.returns
returns c = takes_operand
