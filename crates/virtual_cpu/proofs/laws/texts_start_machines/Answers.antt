use Rattle.virtual_cpu.proofs.MachineLemmas.{fresh}
use Rattle.virtual_cpu.proofs.laws.texts_start_machines.Goals as goal

pub returns : goal.returns
returns c = fresh
