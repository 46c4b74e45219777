use Rattle.virtual_cpu.proofs.Prelude.{letter_under_ip, with_ip_marked, step}
use Rattle.virtual_cpu.proofs.EffectLemmas.{effect}
use Rattle.virtual_cpu.proofs.MachineLemmas.{marked}
use Rattle.virtual_cpu.proofs.QuestionLemmas.{effect-asks}
use Rattle.virtual_cpu.proofs.StepLemmas.{effect_of-keeps}
use Rattle.virtual_cpu.proofs.laws.steps_leave_machines.Goals as goal

pub returns-clause-machine : goal.returns-clause-machine
unfolding step
returns-clause-machine c =
    λ m input copy h. effect (letter_under_ip m) (with_ip_marked m) input copy (marked m h)

pub returns-clause-question : goal.returns-clause-question
unfolding step
returns-clause-question c =
    λ m input copy. effect-asks (letter_under_ip m) (with_ip_marked m) input copy

pub returns-clause-kept : goal.returns-clause-kept
unfolding step
returns-clause-kept c = λ m input copy. let k =
    effect_of-keeps (letter_under_ip m) (with_ip_marked m) input copy in
    record { birth_length = k.birth_length; limit = k.limit }
