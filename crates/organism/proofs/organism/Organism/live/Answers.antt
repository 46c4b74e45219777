use Rattle.std.proofs.Common.{refl, ap, sym, ◌∙◌, ◌+◌, Option}
use Rattle.organism.proofs.Prelude.{Letter, Stream, word_of, after_letter, OrganismState, life_now, setting_numbers, life_state}
use Rattle.organism.proofs.GoingOnLemmas.{goes_on-quiet}
use Rattle.organism.proofs.StepLemmas.{step-quiet}
use Rattle.organism.proofs.organism.Organism.live.Goals as goal

-- nothing follows from this letter
pub returns-in_default : goal.returns-in_default
returns-in_default c =
    let settings = setting_numbers c.args.settings.now in
    let marked = c.take-letter.ensures.marked in
    let quiet = c.perform_quietly.ensures in
    let stream = c.draw_copy-copy.ensures.stream in
    record {
      state = ap (life_state c.perform_quietly.new.self c.args.births.now) stream
          ∙ step-quiet settings (word_of c.args.draws.now)
          (life_state c.args.self.now c.args.births.now c.args.draws.now) c.take-letter.result
          c.take-letter.new.self c.take-letter.ensures.letter marked c.perform_quietly.new.self
          (quiet.step settings.rules
          ∙ ap (λ (copy : Option Letter).
          after_letter c.take-letter.new.self c.take-letter.result copy settings.rules)
          c.draw_copy-copy.ensures.letter);
      stream = stream ∙ ap (λ (s : Stream). record c.args.draws.now { taken = s.taken }) (sym stream);
      bounds = goes_on-quiet settings
          (life_now c.args.self.now c.args.births.now c.args.draws.now)
          (life_now c.perform_quietly.new.self c.args.births.now c.draw_copy-copy.new.draws)
          (quiet.age ∙ ap (λ (o : OrganismState). o.age + 1) marked)
          (quiet.merit ∙ ap (λ (o : OrganismState). o.merit) marked)
          (quiet.genome ∙ ap (λ (o : OrganismState). o.genome) marked)
          c.draw_copy-copy.ensures.taken refl;
    }
