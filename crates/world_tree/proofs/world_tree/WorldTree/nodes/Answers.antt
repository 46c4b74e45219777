use Rattle.std.proofs.Common.{◌∙◌, ap, length}
use Rattle.world_tree.proofs.Prelude.{TreeValue}
use Rattle.world_tree.proofs.SeenLemmas.{links_are}
use Rattle.world_tree.proofs.world_tree.WorldTree.nodes.Goals as goal

pub returns : goal.returns
returns c = λ w of.
    c.nodes.ensures.count
    ∙ ap (λ (t : TreeValue). length t.links) c.self.view_is
    ∙ ap length (links_are c.keeping_goes_on.ensures.same w c.args.self.now of)
