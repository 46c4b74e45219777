use Rattle.organism.proofs.SoundLemmas.{founded}
use Rattle.organism.proofs.laws.new_organisms_are_sound.Goals as goal

pub returns : goal.returns
returns c = founded (record {
  starts = c.texts_start_machines.ensures;
  begins = c.machines_hold_words.ensures.start;
})
