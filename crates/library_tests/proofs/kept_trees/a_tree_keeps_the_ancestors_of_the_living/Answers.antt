use Rattle.std.proofs.Common.{◌∙◌, ap, sym, subst, refl, Some}
use Rattle.mutations.specs.BirthRecord.{record_of}
use Rattle.lineage_log.specs.Ancestry.{TreeValue, CanCome, genome_in_tree}
use Rattle.library_tests.proofs.FamilyLemmas.{applies, family_of, grandchild_comes, lives_first, lives_last, lives_middle, living_three, middle_stays, same_child}
use Rattle.library_tests.proofs.kept_trees.a_tree_keeps_the_ancestors_of_the_living.Goals as goal

pub born-requires-clause-applies : goal.born-requires-clause-applies
born-requires-clause-applies g c = applies _ _ c.unchanged.ensures

pub born-requires-2-clause-can_come : goal.born-requires-2-clause-can_come
born-requires-2-clause-can_come g c =
    let child = c.in_ok-born.ensures.ok (genome_in_tree c.in_ok-tree.tree 0)
    (same_child (genome_in_tree c.in_ok-tree.tree 0) (record_of c.unchanged.result)
    c.unchanged.ensures) in
    subst (λ (t : TreeValue). CanCome t 2 (Some 1)) (sym child)
    (grandchild_comes _ refl c.in_ok-tree.tree c.in_ok-tree.ensures
    (record_of c.unchanged.result) (record_of c.unchanged-2.result))

pub born-requires-2-clause-applies : goal.born-requires-2-clause-applies
born-requires-2-clause-applies g c = applies _ _ c.unchanged-2.ensures

pub died-requires : goal.died-requires
died-requires g c =
    let family = family_of c.in_ok-tree.tree c.born.new.self c.born-2.new.self
    (record_of c.unchanged.result) (record_of c.unchanged-2.result) c.unchanged.ensures
    c.unchanged-2.ensures c.in_ok-born.ensures.ok c.in_ok-born-2.ensures.ok in
    lives_first c.born-2.new.self
    (ap (λ (t : TreeValue). t.living) family
    ∙ living_three _ refl c.in_ok-tree.tree c.in_ok-tree.ensures (record_of c.unchanged.result)
    (record_of c.unchanged-2.result))

pub died-requires-2 : goal.died-requires-2
died-requires-2 g c =
    let family = family_of c.in_ok-tree.tree c.born.new.self c.born-2.new.self
    (record_of c.unchanged.result) (record_of c.unchanged-2.result) c.unchanged.ensures
    c.unchanged-2.ensures c.in_ok-born.ensures.ok c.in_ok-born-2.ensures.ok in
    lives_last c.born-2.new.self c.died.new.self
    (ap (λ (t : TreeValue). t.living) family
    ∙ living_three _ refl c.in_ok-tree.tree c.in_ok-tree.ensures (record_of c.unchanged.result)
    (record_of c.unchanged-2.result)) c.died.ensures

pub path-requires : goal.path-requires
path-requires g c =
    let family = family_of c.in_ok-tree.tree c.born.new.self c.born-2.new.self
    (record_of c.unchanged.result) (record_of c.unchanged-2.result) c.unchanged.ensures
    c.unchanged-2.ensures c.in_ok-born.ensures.ok c.in_ok-born-2.ensures.ok in
    middle_stays _ c.in_ok-tree.tree c.born-2.new.self c.died.new.self c.died-2.new.self
    (record_of c.unchanged.result) (record_of c.unchanged-2.result) c.in_ok-tree.ensures family
    c.died.ensures c.died-2.ensures

pub died-requires-3 : goal.died-requires-3
died-requires-3 g c =
    let family = family_of c.in_ok-tree.tree c.born.new.self c.born-2.new.self
    (record_of c.unchanged.result) (record_of c.unchanged-2.result) c.unchanged.ensures
    c.unchanged-2.ensures c.in_ok-born.ensures.ok c.in_ok-born-2.ensures.ok in
    lives_middle c.born-2.new.self c.died.new.self c.died-2.new.self
    (ap (λ (t : TreeValue). t.living) family
    ∙ living_three _ refl c.in_ok-tree.tree c.in_ok-tree.ensures (record_of c.unchanged.result)
    (record_of c.unchanged-2.result)) c.died.ensures c.died-2.ensures
