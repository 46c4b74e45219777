use Rattle.std.proofs.Common.{◌∙◌, ap, length, refl}
use Rattle.world_core.proofs.Prelude.{letters, Scene}
use Rattle.world_core.proofs.ComingLemmas.{newcomer-many, newcomer-size}
use Rattle.world_core.proofs.GrowLemmas.{Grows_founder, newcomer-added}
use Rattle.world_core.proofs.events.inject.Goals as goal

pub returns-clause-grown : goal.returns-clause-grown
returns-clause-grown g c =
    let came = c.in_ok-found_in.ensures in (
      ap (λ (s : Scene). length s.cells) came.scene ∙ newcomer-size _ _ _,
      ap (λ (s : Scene). length s.everyone) came.scene ∙ newcomer-many _ _ _,
      came.first,
      Grows_founder c.genotypes_are_what_was_interned.ensures.one_more c.args.scene.now.bank
          c.found_in.new.scene.bank c.args.scene.now.everyone c.found_in.new.scene.everyone _
          (letters c.args.genome.now) came.bank
          (ap (λ (s : Scene). s.everyone) came.scene ∙ newcomer-added _ _ _) refl,
    )
