use Rattle.std.proofs.Common.{◌≡◌, ◌∙◌, List, ◌++◌, ap, sym, subst, append_assoc, length}
use Rattle.std.specs.Prelude.{flat_map}
use Rattle.avida_program.proofs.Prelude.{err_from_is_err_and, Line, pedigree_of, ancestor_line, depth_line, shape_line, tree_text, WritesAll, nothing_written, counts_line, last_lines, lines_of_tree}
use Rattle.phylogeny.specs.declared.tree.Phylogeny.{Phylogeny}
use Rattle.phylogeny.specs.CommonAncestor.{branches_of, depths_of, kept_ids_of, most_recent_common_ancestor}
use Rattle.avida_program.proofs.tree.write_tree.Goals as goal

-- the lines of what was found are the tree of the log
lines_are : (found : Phylogeny) (lines : List Line) → found.depths ≡ depths_of (pedigree_of lines)
    → found.common ≡ most_recent_common_ancestor (pedigree_of lines)
    → found.kept ≡ length (kept_ids_of (pedigree_of lines))
    → found.branches ≡ length (branches_of (pedigree_of lines))
    → lines_of_tree found ≡ tree_text lines
lines_are found lines depths common kept branches =
    let living = flat_map depth_line (depths_of (pedigree_of lines)) in
    let ancestor = ancestor_line (most_recent_common_ancestor (pedigree_of lines)) in
    ap (λ l. flat_map depth_line l ++ last_lines found) depths
    ∙ ap (λ a. living ++ (ancestor_line a ++ counts_line found.kept found.branches)) common
    ∙ ap (λ n. living ++ (ancestor ++ counts_line n found.branches)) kept
    ∙ ap (λ n. living ++ (ancestor ++ counts_line (length (kept_ids_of (pedigree_of lines))) n))
    branches
    ∙ sym (append_assoc living ancestor (shape_line (pedigree_of lines)))

pub returns-in_err-found : goal.returns-in_err-found
returns-in_err-found g c =
    let p = err_from_is_err_and c.from_residual.result c.from_residual.ensures.1 in
    rw (p.1, p.2) (nothing_written (g.O.Sink.seen c.args.out.now) (tree_text c.args.log.now))

pub returns : goal.returns
returns g c =
    let so = c.in_ok-found.ensures in
    let same = lines_are c.in_ok-found.found c.args.log.now so.depths so.common so.kept so.branches
    in
    subst (λ l. WritesAll {T = Unit {0}} (g.O.Sink.seen c.args.out.now)
    (g.O.Sink.seen c.write_found.new.out) l c.write_found.result) same c.write_found.ensures
