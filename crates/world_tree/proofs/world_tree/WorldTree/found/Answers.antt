use Rattle.std.proofs.Common.{◌∙◌, ◌*◌, ◌<◌, ◌≤◌, ap, List, arith}
use Rattle.world_tree.proofs.Prelude.{founded_by, values_of, founder_link}
use Rattle.std.proofs.Math.Nat.{mul-le-mul}
use Rattle.instruction_set.specs.declared.letter.Letter.{Letter}
use Rattle.world_tree.proofs.SeenLemmas.{tree_found}
use Rattle.world_tree.proofs.world_tree.WorldTree.found.Goals as goal

pub returns : goal.returns
returns c =
    let config = values_of c.args.config.now in
    let some : 1 ≤ config.width * config.height =
    mul-le-mul c.args.config.now.width_bounds.0 c.args.config.now.height_bounds.0 in
    let within : config.founder_cell < config.width * config.height =
    omega (arith, c.args.config.now.founder_cell_bounds.1, some) in
    tree_found config c.in_ok-tree.tree within
    (c.in_ok-tree.ensures ∙ ap
    (λ (letters : List Letter). founded_by (founder_link 0 0 config.founder_cell letters))
    c.requires)
