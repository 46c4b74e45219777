use Rattle.std.proofs.Common.{◌∙◌, refl, ap, subst, length}
use Rattle.organism.proofs.Prelude.{rule_numbers, letters, IsMachine, OrganismState}
use Rattle.organism.proofs.DivideLemmas.{viable-divide}
use Rattle.organism.proofs.organism.Organism.after_question.Goals as goal

pub returns-in-Viable-clause-divide : goal.returns-in-Viable-clause-divide
returns-in-Viable-clause-divide c =
    let machine = subst (λ (o : OrganismState). IsMachine o.machine) c.self.view_is
    c.length.ensures.machine in
    let genome = ap letters c.deref.ensures ∙ ap (λ (o : OrganismState). o.genome) c.self.view_is in
    viable-divide c.args.self.now c.args.ask.now c.len.result (rule_numbers c.args.rules.now)
    machine (c.len.ensures.length ∙ ap length genome) c.args.rules.now.long_enough c.requires
    (c.in-Viable.ensures.viable.0 refl)
