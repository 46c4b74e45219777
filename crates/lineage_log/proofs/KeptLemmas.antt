-- Where each node is needed, the links that are left are those of the living and of their
-- ancestors.
use Rattle.std.proofs.Common.{◌≡◌, zero, eq-eqb, inl, inr, ◌∙◌, refl, sym, ap, ℕ, suc, ◌<◌, Bool, true, false, cond, List, [], ◌∷◌, ◌++◌, append_assoc, length, get_or, Option, Some, None, nat_cmp, arith}
use Rattle.std.specs.Prelude.{All, Contains, IfSome, IsSome, filter, filter_map, is_some, option_and_then}
use Rattle.lineage_log.proofs.Prelude.{is_at, set_value, option_map_or, cases_Bool, nat_tests, common_steps, Link, ancestor_ids_of, is_kept, kept_of, link_of, parent_of, IsPruned, genome_in_tree, tree_with_death, without_id, NodeValue, AreFamilies, AreNeededBut, AreNodes, IsInFamily, children_of, links_of, living_ids_of, node_at, node_link, tree_of}
use Rattle.lineage_log.proofs.AncestorLemmas.{AreLeft, AreWanted, Older, kept_left, line_is, wanted_kept}
use Rattle.lineage_log.proofs.NodeLemmas.{below_top, child_exists, is_some_link, link_there, node_told, parent_there, some_of, top_of}
use Rattle.lineage_log.proofs.LivingLemmas.{links_set, lives_there, living_dead, there_lives}
use Rattle.lineage_log.proofs.TreeLemmas.{fewer_same, found_new, is_there, set_is, still_there, AreFewer}

-- the link of an id among those whose id passes a test
pub find_left : (left : ℕ → Bool) (id : ℕ) (links : List Link)
    → link_of (filter (λ (link : Link). left link.id) links) id
    ≡ cond (left id) (link_of links id) None
find_left left id [] = grind arith
find_left left id (link ∷ links) = grind (arith, common_steps, nat_tests, find_left left id links)

-- two tests that agree on each element filter alike
pub filter_alike : (p q : Link → Bool) (links : List Link) → All (λ link. p link ≡ q link) links
    → filter p links ≡ filter q links
filter_alike p q [] same = refl
filter_alike p q (link ∷ links) same =
    rw (
      same 0 link (omega arith),
      filter_alike p q links (λ k d low. same (suc k) d (omega (arith, low))),
    )

-- each of some links is found by its id
pub found_at : (links : List Link) (k : ℕ) (d : Link) → k < length links
    → is_some (link_of links (get_or links k d).id) ≡ true
found_at [] k d low = absurd (omega (arith, low))
found_at (link ∷ links) zero d low = rw (eq-eqb link.id link.id refl)
found_at (link ∷ links) (suc k) d low =
    grind (arith, common_steps, found_at links k d (omega (arith, low)))

-- a parent has a lower id
nodes_older : (nodes : List (ℕ × NodeValue)) → AreFamilies nodes
    → Older (parent_of (links_of nodes))
nodes_older nodes are id above is =
    let node = node_told nodes id above is in
    (are.each id node.0 node.1).older above node.2

module _ (before after : List (ℕ × NodeValue)) (old : AreFamilies before) (new : AreNodes after)
    (fewer : AreFewer before after) where
  -- an id has a node then
  abbrev has : ℕ → Bool
  has id = is_some (node_at after id)

  -- the link of an id then
  at : (id : ℕ) → link_of (links_of after) id
      ≡ cond (fewer.left id) (link_of (links_of before) id) None
  at id = rw fewer.links (find_left fewer.left id (links_of before))

  -- who has a node then had a link that is left
  has_is : (id : ℕ) → is_some (node_at after id)
      ≡ is_some (cond (fewer.left id) (link_of (links_of before) id) None)
  has_is id = sym (is_some_link after id) ∙ ap is_some (at id)

  -- who has a node then has the link of before
  same_link : (id : ℕ) → is_some (node_at after id) ≡ true
      → link_of (links_of after) id ≡ link_of (links_of before) id
  same_link id h = grind (arith, common_steps, at id, has_is id, h)

  -- and the parent of before
  same_parent : (id : ℕ) → is_some (node_at after id) ≡ true
      → parent_of (links_of after) id ≡ parent_of (links_of before) id
  same_parent id h = ap (option_and_then (λ (link : Link). link.parent)) (same_link id h)

  -- with each of them its parent is left
  pub are_left : AreLeft (parent_of (links_of before)) (parent_of (links_of after)) has
  are_left = record {
    same = same_parent;
    closed = λ id above h is.
        let node = node_told after id above (same_parent id h ∙ is) in
        (new.families.each id node.0 node.1).there above node.2;
  }

  -- each of them lives or has a child among them
  wanted : AreWanted (parent_of (links_of before)) has (living_ids_of after)
  wanted id h =
      let found = some_of (node_at after id) h in
      elim (cases_Bool found.0.lives) [
        | inl lives ↦ inl (there_lives after id found.0 found.1 lives)
        | inr dies ↦
            let some : 0 < children_of after id =
            omega (
              arith,
              new.needed id found.0 found.1 dies (λ same. cc),
              (new.families.each id found.0 found.1).counted,
            ) in
            let child = child_exists after id new.families.rising some in
            let is : is_some (node_at after child.0) ≡ true =
            is_there (node_at after child.0) child.1 child.2 in
            inr (
              child.0,
              is,
              sym (same_parent child.0 is) ∙ parent_there after child.0 child.1 child.2
                  ∙ child.3,
            )
      ]

  -- who is kept is who is left
  pub kept_is : (id : ℕ) → is_kept (links_of before) (living_ids_of after) id
      ≡ is_some (node_at after id)
  kept_is id =
      let older = nodes_older before old in
      let keeps : is_some (node_at after id) ≡ true
      → is_kept (links_of before) (living_ids_of after) id ≡ true =
      wanted_kept (parent_of (links_of before)) has (living_ids_of after) older wanted
      (top_of after) (top_of after) id (below_top after) (omega arith) in
      let left : is_kept (links_of before) (living_ids_of after) id ≡ true
      → is_some (node_at after id) ≡ true =
      kept_left (parent_of (links_of before)) (parent_of (links_of after)) has older are_left
      (living_ids_of after) id lives_left in
      grind (arith, keeps, left)
    where
      lives_left : (one : ℕ) → Contains (living_ids_of after) one
          → is_some (node_at after one) ≡ true
      lives_left one lives =
          let found = lives_there after one new.families.rising lives in
          is_there (node_at after one) found.0 found.1

  -- the links that are left are those of the living and of their ancestors
  pub links_kept : links_of after ≡ kept_of (links_of before) (living_ids_of after)
  unfolding kept_of
  links_kept = fewer.links
      ∙ filter_alike (λ (link : Link). fewer.left link.id)
      (λ (link : Link). is_kept (links_of before) (living_ids_of after) link.id) (links_of before)
      (λ k d low. grind (
        arith,
        found_at (links_of before) k d low,
        has_is (get_or (links_of before) k d).id,
        kept_is (get_or (links_of before) k d).id,
      ))

-- the links of nodes are kept
pub nodes_kept : (nodes : List (ℕ × NodeValue)) → AreNodes nodes → IsPruned (tree_of nodes)
nodes_kept nodes are = sym (links_kept nodes nodes are.families are (fewer_same nodes))

-- ---- an organism dies

-- one that lived no longer does, and perhaps its node is there in vain
pub record IsLaid (before after : List (ℕ × NodeValue)) (id : ℕ) : Type 0 where
  pub families : AreFamilies after
  pub needed : AreNeededBut (Some id) after
  pub links : links_of after ≡ links_of before
  pub living : living_ids_of after ≡ without_id id (living_ids_of before)

-- so it is where its node was set to that
pub laid : (before after : List (ℕ × NodeValue)) (id : ℕ) → AreNodes before
    → Contains (living_ids_of before) id
    → ((node : NodeValue) → node_at before id ≡ Some node
    → after ≡ set_value (is_at (nat_cmp id)) before (record node { lives = false }))
    → IsLaid before after id
laid before after id are lives change =
    let found = lives_there before id are.families.rising lives in
    let old = found.0 in
    let is = found.1 in
    let new : NodeValue = record old { lives = false } in
    let e = change old is in
    let set = set_is before after id old new are.families.rising is refl e in
    let fit : (other : ℕ) (node : NodeValue) → IsInFamily before other node
    → IsInFamily after other node =
    λ other node fits. record {
      older = fits.older;
      there = λ above parent. still_there before after id new above (set.at above)
          (fits.there above parent);
      counted = fits.counted ∙ sym (set.kids other);
    } in
    let fit_new : IsInFamily before id new = let fits = are.families.each id old is in
    record { older = fits.older; there = fits.there; counted = fits.counted } in
    record {
      families = record {
        rising = set.rising;
        each = λ other node has.
            elim (found_new before after id new other node (set.at other) has) [
              | inl here ↦ rw (← here.0, ← here.1) (fit id new fit_new)
              | inr apart ↦ fit other node (are.families.each other node apart.1)
            ];
      };
      needed = λ other node has dies hole.
          elim (found_new before after id new other node (set.at other) has) [
            | inl here ↦ absurd (hole (ap (λ (n : ℕ). Some n) here.0))
            | inr apart ↦ are.needed other node apart.1 dies (λ same. cc)
          ];
      links = ap links_of e ∙ links_set before id old new is (λ key. refl);
      living = ap living_ids_of e ∙ living_dead before id old new are.families.rising is refl;
    }

-- what is left then
pub buried : (before mid after : List (ℕ × NodeValue)) (id : ℕ) → IsLaid before mid id
    → AreNodes after → AreFewer mid after → tree_of after ≡ tree_with_death (tree_of before) id
buried before mid after id lays are fewer =
    let living = fewer.living ∙ lays.living in
    let links : links_of after ≡ kept_of (links_of before) (without_id id (living_ids_of before)) =
    links_kept mid after lays.families are fewer ∙ (λ i. kept_of (lays.links i) (living i)) in
    λ i. record { links = links i; living = living i }

-- ---- the line of an organism

-- the genome of an organism of a tree is that of its node
pub genome_there : (nodes : List (ℕ × NodeValue)) (id : ℕ) (node : NodeValue)
    → node_at nodes id ≡ Some node → genome_in_tree (tree_of nodes) id ≡ node.genome
genome_there nodes id node is = rw (link_there nodes id, is)

-- the links of an id's ancestors, the id first
abbrev pub links_back : List (ℕ × NodeValue) → Option ℕ → List Link
links_back nodes next =
    filter_map (link_of (links_of nodes)) (option_map_or (ancestor_ids_of (links_of nodes)) next [])

-- one step back
pub back_once : (nodes : List (ℕ × NodeValue)) (front links : List Link) (id : ℕ) (node : NodeValue)
    → AreFamilies nodes → node_at nodes id ≡ Some node → front ++ links_back nodes (Some id) ≡ links
    → (front ++ node_link id node ∷ []) ++ links_back nodes node.parent ≡ links
back_once nodes front links id node are is all =
    let here : links_back nodes (Some id) ≡ node_link id node ∷ links_back nodes node.parent = rw (
      line_is (parent_of (links_of nodes)) (nodes_older nodes are) id,
      parent_there nodes id node is,
      link_there nodes id,
      is,
    ) in
    rw (append_assoc front (node_link id node ∷ []) (links_back nodes node.parent), ← here) all

-- a parent is there
pub parent_stands : (nodes : List (ℕ × NodeValue)) (id : ℕ) (node : NodeValue) (next : Option ℕ)
    → AreFamilies nodes → node_at nodes id ≡ Some node → next ≡ node.parent
    → IfSome next (λ above. IsSome (node_at nodes above))
parent_stands nodes id node None are is same = tt
parent_stands nodes id node (Some above) are is same = (are.each id node is).there above (sym same)

-- a parent has a lower id, as a measure
pub parent_lower : (nodes : List (ℕ × NodeValue)) (id : ℕ) (node : NodeValue) (next : Option ℕ)
    → AreFamilies nodes → node_at nodes id ≡ Some node → next ≡ node.parent
    → option_map_or suc next 0 < suc id
parent_lower nodes id node None are is same = omega arith
parent_lower nodes id node (Some above) are is same =
    omega (arith, (are.each id node is).older above (sym same))
