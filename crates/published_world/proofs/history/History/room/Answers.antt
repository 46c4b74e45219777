use Rattle.published_world.proofs.RuleLemmas.{admits}
use Rattle.published_world.proofs.history.History.room.Goals as goal

pub reader-requires : goal.reader-requires
reader-requires g c = admits g.P.Picture.number g.P.Picture.of
