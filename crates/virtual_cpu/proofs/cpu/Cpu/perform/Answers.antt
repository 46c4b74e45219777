use Rattle.virtual_cpu.proofs.StepLemmas.{effect_keeps_limits}
use Rattle.virtual_cpu.proofs.cpu.Cpu.perform.Goals as goal

pub returns-clause-kept : goal.returns-clause-kept
returns-clause-kept c = effect_keeps_limits _ _ _ _ _ _ c.act.ensures.effect
