use Rattle.std.proofs.Common.{Some, ap, sym, ◌∙◌}
use Rattle.genome.specs.Genome.{letters}
use Rattle.organism.specs.declared.traced.Remark.{Remark}
use Rattle.organism.specs.TracedStep.{remark_value}
use Rattle.landscape.specs.Trials.{trial_at}
use Rattle.landscape.proofs.trying.trial_at.Goals as goal

pub returns-in-Divide : goal.returns-in-Divide
returns-in-Divide c =
    let genome = letters c.args.genome.now in
    let number = c.args.number in
    let same =
    c.eq.ensures ∙ c.equal_by_letters.ensures c.in-Divide.child c.args.genome.now in
    (λ i. Some (record { step = number; merit = c.in-Divide.merit; same = same i }))
    ∙ sym (ap (λ (r : Remark). trial_at genome number (remark_value r)) c.in-Divide.is)
