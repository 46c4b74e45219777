use Rattle.std.proofs.Common.{◌≡◌, ℕ, ◌+◌, ◌<◌, [], ◌∷◌, ap, sym, ◌∙◌, length, length-append, arith}
use Rattle.phylogeny.proofs.Prelude.{get_or_from_slice_get, Root, parent_at, line}
use Rattle.phylogeny.proofs.AncestorLemmas.{child_root, depth_bound, depth_in, founder_in, founder_root}
use Rattle.phylogeny.proofs.ListLemmas.{each_pushed}
use Rattle.phylogeny.proofs.depths.roots_of.Goals.{in-Some, in-None}
use Rattle.phylogeny.proofs.depths.roots_of.Goals as goal

pub overflow_add-root : goal.overflow_add-root
overflow_add-root c =
    let parents = c.args.parents.now in
    let id = c.in-Some.parent in
    let older : id < c.loop-id.id = c.requires c.loop-id.id id c.in-Some.is in
    let root = c.index-above.ensures
    ∙ get_or_from_slice_get c.loop-id.roots.items id _ c.index-above.result.now
    (c.loop-id.invariant.roots id older) in
    let depth = ap (λ (r : Root). r.depth) root in
    let bound = depth_bound (parent_at parents) c.requires id in
    omega (arith, depth, bound, older)

pub loop-id-preserved : goal.loop-id-preserved
loop-id-preserved c =
    let parent_of = parent_at c.args.parents.now in
    let want : ℕ → Root = λ id.
    record { depth = depth_in (line parent_of id); founder = founder_in (line parent_of id) } in
    let at = c.loop-id.id in
    let is : c.match-parent.root ≡ want at = elim c.match-parent.branch [
      | in-Some w ↦
          let id = w.in-Some.parent in
          let older : id < at = c.requires at id w.in-Some.is in
          let above : w.index-above.result.now ≡ want id = w.index-above.ensures
          ∙ get_or_from_slice_get c.loop-id.roots.items id (want id) w.index-above.result.now
          (c.loop-id.invariant.roots id older) in
          let root = child_root parent_of c.requires at id w.in-Some.is in
          w.root-is ∙ (λ i. record { depth = (above i).depth + 1; founder = (above i).founder })
          ∙ (λ i. record { depth = sym root.0 i; founder = sym root.1 i })
      | in-None w ↦
          let root = founder_root parent_of c.requires at w.in-None.is in
          w.root-is ∙ (λ i. record { depth = sym root.0 i; founder = sym root.1 i })
    ] in
    record {
      as_many = ap length c.in_ok-push.ensures.items
          ∙ length-append c.loop-id.roots.items (c.match-parent.root ∷ [])
          ∙ omega (arith, c.loop-id.invariant.as_many);
      roots = λ id within. rw c.in_ok-push.ensures.items
          (each_pushed want c.loop-id.roots.items c.match-parent.root at c.loop-id.invariant.as_many
          c.loop-id.invariant.roots is id within);
    }
