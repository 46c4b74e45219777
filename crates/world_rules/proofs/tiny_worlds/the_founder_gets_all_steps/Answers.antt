use Rattle.std.proofs.Common.{refl}
use Rattle.world_rules.proofs.Prelude.{first_world, founder_of, slices_at, new_organism, slices_of}
use Rattle.world_rules.proofs.tiny_worlds.the_founder_gets_all_steps.Goals as goal

pub returns : goal.returns
unfolding first_world founder_of slices_at new_organism slices_of
returns c = refl
