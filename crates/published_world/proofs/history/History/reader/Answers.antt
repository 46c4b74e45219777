use Rattle.std.proofs.Common.{rules}
use Rattle.published_world.proofs.RuleLemmas.{admits, tells, learns}
use Rattle.published_world.proofs.history.History.reader.Goals as goal

pub reader-requires : goal.reader-requires
reader-requires g c = admits g.P.Picture.number g.P.Picture.of

pub tell-requires : goal.tell-requires
tell-requires g c = tells g.P.Picture.number g.P.Picture.of _ _

pub learn-requires-clause-rule : goal.learn-requires-clause-rule
learn-requires-clause-rule g c = learns g.P.Picture.number g.P.Picture.of _ _ _ _ (search rules)
