use Rattle.std.proofs.Common.{refl}
use Rattle.world_rules.proofs.Prelude.{digits, new_organism, first_world, founder_of, world_after, stats_of, stats_in, dominant_of}
use Rattle.census.specs.Counts.{dominant_among}
use Rattle.world_rules.specs.Picture.{picture_of, picture_text}
use Rattle.world_rules.proofs.tiny_worlds.the_first_picture_shows_the_founder.Goals as goal

pub returns : goal.returns
unfolding picture_of picture_text stats_of stats_in dominant_of dominant_among world_after
    first_world founder_of new_organism digits
returns c = refl
