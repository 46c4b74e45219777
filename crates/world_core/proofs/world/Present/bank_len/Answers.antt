use Rattle.std.proofs.Common.{◌∙◌, List, ap, subst}
use Rattle.world_core.proofs.Prelude.{Letter, HasEachOnce, World, genomes_ever, WorldValue, world_in}
use Rattle.world_core.proofs.world.Present.bank_len.Goals as goal

pub returns-clause-each : goal.returns-clause-each
returns-clause-each c =
    subst (λ (w : World). HasEachOnce c.args.self.now.bank (genomes_ever w.everyone))
    (c.self.invariant.0.world ∙ ap world_in c.self.view_is)
    (subst (λ (bank : List (List Letter)).
    HasEachOnce bank (genomes_ever c.self.inside.scene.everyone))
    (ap (λ (v : WorldValue). v.bank) c.self.view_is) c.self.invariant.0.bank)
