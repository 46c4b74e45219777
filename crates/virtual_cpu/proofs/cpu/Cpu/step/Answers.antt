use Rattle.virtual_cpu.proofs.StepLemmas.{step_keeps_limits}
use Rattle.virtual_cpu.proofs.cpu.Cpu.step.Goals as goal

pub returns-clause-kept : goal.returns-clause-kept
returns-clause-kept c = step_keeps_limits _ _ _ c.take-letter.ensures.marked c.perform.ensures.kept
