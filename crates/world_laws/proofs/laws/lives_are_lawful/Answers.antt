use Rattle.world_laws.proofs.laws.lives_are_lawful.Goals as goal

pub returns : goal.returns
returns c = record {
  lives = c.lives_are_sound.ensures;
  words = c.words_fit.ensures;
  new = c.new_organisms_are_sound.ensures;
  slices = c.slices_are_few.ensures;
}
