use Rattle.std.proofs.Common.{◌≡◌, ◌<◌, ◌*◌, ◌∙◌, ℕ, ap, length, sym, subst, Option, None, Some}
use Rattle.std.specs.Prelude.{IfSome}
use Rattle.world_core.proofs.Prelude.{World, id_at, IsStanding, WorldValue, world_in}
use Rattle.world_core.proofs.IdLemmas.{stands_by_id}
use Rattle.world_core.proofs.world.Present.standing_at.Goals as goal

pub returns-clause-id : goal.returns-clause-id
returns-clause-id c = c.standing_at.ensures ∙ ap (λ (w : World). id_at w.cells c.args.cell)
    (c.self.invariant.0.world ∙ ap world_in c.self.view_is)

pub returns-clause-standing : goal.returns-clause-standing
returns-clause-standing c = stands c.standing_at.result c.standing_at.ensures where
  now : World
  now = world_in c.args.self.now

  within : c.args.cell < length c.self.inside.scene.cells
  within = subst (λ n. c.args.cell < n) (sym (c.self.invariant.0.size
      ∙ ap (λ (v : WorldValue). v.config.width * v.config.height) c.self.view_is)) c.requires

  stands : (r : Option ℕ) → r ≡ id_at c.self.inside.scene.cells c.args.cell
      → IfSome r (λ id. IsStanding now.cells id)
  stands None e = tt
  stands (Some id) e = subst (λ (w : World). IsStanding w.cells id)
      (c.self.invariant.0.world ∙ ap world_in c.self.view_is)
      (stands_by_id c.self.inside.scene.cells c.args.cell id within e)
