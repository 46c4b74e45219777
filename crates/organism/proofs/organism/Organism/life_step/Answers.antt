use Rattle.std.proofs.Common.{◌∙◌, ◌+◌, ap}
use Rattle.organism.proofs.Prelude.{rule_numbers, OrganismState}
use Rattle.organism.proofs.StepLemmas.{letter-step}
use Rattle.organism.proofs.organism.Organism.life_step.Goals as goal

-- where nothing follows from the letter
pub returns-in_default : goal.returns-in_default
returns-in_default c = record {
  step = c.perform_quietly.ensures.step (rule_numbers c.args.rules.now)
      ∙ letter-step c.args.self.now c.take-letter.new.self c.take-letter.result c.args.copy
      (rule_numbers c.args.rules.now) c.take-letter.ensures.letter c.take-letter.ensures.marked;
  divide = tt;
  age = c.perform_quietly.ensures.age
      ∙ ap (λ (o : OrganismState). o.age + 1) c.take-letter.ensures.marked;
}
