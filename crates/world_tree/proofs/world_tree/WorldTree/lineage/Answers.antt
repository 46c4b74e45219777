use Rattle.std.proofs.Common.{◌≡◌, ◌∙◌, List, ap, sym, subst}
use Rattle.std.specs.Prelude.{Contains}
use Rattle.world_tree.proofs.Prelude.{Link, TreeValue, World, IsNumberedWorld, descent_line_of, IsTreeOf}
use Rattle.lineage_log.specs.Ancestry as tree
use Rattle.world_tree.proofs.SeenLemmas.{LineLaws, if_ok, path_is}
use Rattle.world_tree.proofs.world_tree.WorldTree.lineage.Goals as goal

pub path-requires : goal.path-requires
path-requires c = c.nodes-nodes.ensures.living c.args.id
    (subst (λ (t : TreeValue). Contains t.living c.args.id) (sym c.self.view_is) c.requires)

pub returns : goal.returns
returns c =
    let lines : LineLaws = record {
      trees = c.lines_come_from_parents.ensures;
      all = c.lines_come_from_parents-2.ensures;
    } in
    if_ok c.path.result (λ (path : List Link). path
    ≡ tree.line_of_descent c.self.inside.tree.links c.args.id)
    (λ (path : List Link). (w : World) → IsNumberedWorld w → IsTreeOf w c.args.self.now
    → path ≡ descent_line_of w.everyone c.args.id)
    (λ path is w numbered of. is
    ∙ ap (λ (t : TreeValue). tree.line_of_descent t.links c.args.id) c.self.view_is
    ∙ path_is c.keeping_goes_on.ensures lines w c.args.self.now c.args.id numbered of c.requires)
    c.path.ensures
