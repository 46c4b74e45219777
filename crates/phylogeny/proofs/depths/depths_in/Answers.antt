use Rattle.std.proofs.Common.{ℕ, Option, ◌≡◌, ◌<◌, ◌++◌, ◌∷◌, [], List, length, map, append-nil, sym, ap, ◌∙◌, arith, ◌-◌}
use Rattle.phylogeny.proofs.Prelude.{drop_all, get_or_from_slice_get, slice_get_within, depth_at, depths_of, founding_ancestor_of, ancestors_of, Root, living_from, pedigree_with}
use Rattle.phylogeny.proofs.SlotLemmas.{mapped_with, mapped_without}
use Rattle.phylogeny.proofs.depths.depths_in.Goals.{in-Some+in_ok-push, in_default}
use Rattle.phylogeny.proofs.depths.depths_in.Goals as goal

pub index-requires : goal.index-requires
index-requires c =
    let id = c.in-Some.id in
    let few = c.requires.among c.loop-cell.cell id c.in-Some.is in
    let there : id < length c.in_ok-roots.roots.items =
    slice_get_within c.in_ok-roots.roots.items id _ (c.in_ok-roots.ensures id few) in
    omega (arith, there, c.in_ok-roots.roots.ok.0)

pub loop-cell-preserved : goal.loop-cell-preserved
loop-cell-preserved c =
    let tree = pedigree_with c.args.parents.now c.args.standing.now in
    let standing = c.args.standing.now in
    let cell = c.loop-cell.cell in
    let old = c.loop-cell.depths.items in
    let all = map (depth_at tree) (living_from 0 standing) in
    elim c.match-slot.branch [
      | in-Some+in_ok-push w ↦
          let id = w.in-Some.id in
          let few = c.requires.among cell id w.in-Some.is in
          let root : w.index.result.now
          ≡ record {
            depth = length (ancestors_of tree id) - 1;
            founder = founding_ancestor_of tree id;
          } =
          w.index.ensures
          ∙ get_or_from_slice_get c.in_ok-roots.roots.items id _ w.index.result.now
          (c.in_ok-roots.ensures id few) in
          let more : w.push.new.self.items ≡ old ++ depth_at tree (record { cell = cell; id = id })
          ∷ [] = w.in_ok-push.ensures.items
          ∙ ap (λ (r : Root). old ++ record {
            cell = cell;
            id = id;
            depth = r.depth;
            founder = r.founder;
          } ∷ []) root in
          rw w.depths-is (mapped_with (depth_at tree) old w.push.new.self.items all standing cell id
          c.loop-cell-test.true w.in-Some.is more c.loop-cell.invariant)
      | in_default w ↦
          rw w.depths-is (mapped_without (depth_at tree) old all standing cell c.loop-cell-test.true
          w.in_default.is c.loop-cell.invariant)
    ]

pub returns : goal.returns
unfolding depths_of
returns c =
    let tree = pedigree_with c.args.parents.now c.args.standing.now in
    let items = c.loop-cell.depths.items in
    let none = drop_all c.loop-cell.cell c.args.standing.now (omega arith) in
    c.from_vec.ensures
    ∙ sym (append-nil items)
    ∙ sym (ap (λ (slots : List (Option ℕ)). items
    ++ map (depth_at tree) (living_from c.loop-cell.cell slots)) none)
    ∙ c.loop-cell.invariant
