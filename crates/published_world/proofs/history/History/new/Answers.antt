use Rattle.std.proofs.Common.{refl}
use Rattle.published_world.proofs.RuleLemmas.{begins}
use Rattle.published_world.proofs.history.History.new.Goals as goal

pub new-requires-clause-rule : goal.new-requires-clause-rule
new-requires-clause-rule g c = begins g.P.Picture.number g.P.Picture.of _ refl
