use Rattle.std.proofs.Common.{◌≡◌, ◌∙◌, ap, List, Some}
use Rattle.world_core.proofs.Prelude.{letters, with_genome, Letter}
use Rattle.world_core.proofs.ComingLemmas.{image_with_same}
use Rattle.world_core.proofs.resuming.intern_again.Given as given
use Rattle.world_core.proofs.resuming.intern_again.Goals.{In_ok-copy}
use Rattle.world_core.proofs.resuming.intern_again.Goals as goal

-- the copy has the same letters
copied : (g : given.Over) (c : In_ok-copy g)
    → letters c.in_ok-copy.field-0 ≡ letters c.args.image.now.genome.value
copied g c = c.in_ok-copy.ensures ∙ ap letters c.deref.ensures

pub returns-clause-scene : goal.returns-clause-scene
returns-clause-scene g c =
    c.in_ok-handle.ensures.scene
    ∙ ap (λ (genome : List Letter). record c.args.scene.now {
      bank = with_genome c.args.scene.now.bank genome;
    }) (copied g (goal.at.returns-clause-scene g c).In_ok-copy)

pub returns-clause-same : goal.returns-clause-same
returns-clause-same g c limit =
    image_with_same c.args.image.now limit _ (c.in_ok-handle.ensures.genome
    ∙ copied g (goal.at.returns-clause-same g c).In_ok-copy)

pub returns-clause-number : goal.returns-clause-number
returns-clause-number g c =
    c.in_ok-handle.ensures.number
    ∙ ap (λ (genome : List Letter). Some genome)
    (copied g (goal.at.returns-clause-number g c).In_ok-copy)
