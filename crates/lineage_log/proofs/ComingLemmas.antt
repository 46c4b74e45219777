-- What an organism that comes does to the nodes of a tree.
use Rattle.std.proofs.Common.{◌≡◌, ◌≢◌, ◌⊎◌, inl, inr, ◌∙◌, refl, sym, ap, ℕ, ◌+◌, ◌<◌, ◌≤◌, true, cond, List, length, Some, None, nat_cmp, arith}
use Rattle.std.specs.Prelude.{All, IsSome}
use Rattle.lineage_log.proofs.Prelude.{insert_entry, is_at, nat_cmp_total, IsStrictlySortedBy, keys_of, set_value, sum_by-insert_entry, cases_lt, Link, CanCome, tree_with_newcomer, NodeValue, AreFamilies, AreNodes, IsInFamily, as_child, children_of, links_of, node_at, node_link, tree_of}
use Rattle.lineage_log.proofs.NodeLemmas.{by_key, child_apart, child_exists, child_is, children_few, founder_is, is_some_link, some_of}
use Rattle.lineage_log.proofs.LivingLemmas.{insert_last, links_newcomer, links_set, living_newcomer, living_set, newest_above, none_newest}
use Rattle.lineage_log.proofs.TreeLemmas.{IsSet, found_new, is_there, set_is, still_there}

-- there is one node more
pub record HasCome (before after : List (ℕ × NodeValue)) (id : ℕ) (new : NodeValue) : Type 0 where
  pub rising : IsStrictlySortedBy nat_cmp (keys_of after)
  pub at : (other : ℕ) → node_at after other ≡ cond (is_at (nat_cmp id) other) (Some new)
      (node_at before other)
  pub kids : (other : ℕ) → children_of after other ≡ children_of before other + as_child other new

-- so it is where its entry was inserted
pub has_come : (before after : List (ℕ × NodeValue)) (id : ℕ) (new : NodeValue)
    → IsStrictlySortedBy nat_cmp (keys_of before) → IsStrictlySortedBy nat_cmp (keys_of after)
    → node_at before id ≡ None → after ≡ insert_entry nat_cmp before id new
    → ((other : ℕ) → node_at after other ≡ cond (is_at (nat_cmp id) other) (Some new)
    (node_at before other)) → HasCome before after id new
has_come before after id new rising rises none e at = record {
  rising = rises;
  at = at;
  kids = λ other. rw e (omega (
    arith,
    rw none at (sum_by-insert_entry (as_child other) nat_cmp_total before id new rising),
  ));
}

-- nobody is a child of who is not there
no_children : (nodes : List (ℕ × NodeValue)) (id : ℕ) → AreFamilies nodes → node_at nodes id ≡ None
    → children_of nodes id ≤ 0
no_children nodes id are none = elim (cases_lt 0 (children_of nodes id)) [
  | inl some ↦
      let child = child_exists nodes id are.rising some in
      absurd (let found = rw none at ((are.each child.0 child.1 child.2).there id child.3) in cc)
  | inr few ↦ few
]

module _ (before mid : List (ℕ × NodeValue)) (id : ℕ) (new : NodeValue) (are : AreNodes before)
    (none : node_at before id ≡ None) (childless : new.children ≡ 0) (lives : new.lives ≡ true)
    (come : HasCome before mid id new) where
  -- who was there is there
  stays : (other : ℕ) → IsSome (node_at before other) → IsSome (node_at mid other)
  stays other = still_there before mid id new other (come.at other)

  -- the newcomer, or one that was there
  pub come_from : (other : ℕ) (node : NodeValue) → node_at mid other ≡ Some node
      → ((id ≡ other) × (new ≡ node)) ⊎ ((id ≢ other) × (node_at before other ≡ Some node))
  come_from other node is = found_new before mid id new other node (come.at other) is

  -- a founder comes
  pub founder_comes : new.parent ≡ None → AreNodes mid
  founder_comes founder = record {
    families = record {
      rising = come.rising;
      each = λ other node has. elim (come_from other node has) [
        | inl here ↦ rw (← here.0, ← here.1) fit_founder
        | inr apart ↦
            let fits = are.families.each other node apart.1 in
            record {
              older = fits.older;
              there = λ above parent. stays above (fits.there above parent);
              counted = omega (arith, fits.counted, come.kids other, founder_is other new founder);
            }
      ];
    };
    needed = λ other node has dies hole. elim (come_from other node has) [
      | inl here ↦ absurd (let same = here.1 in cc)
      | inr apart ↦ are.needed other node apart.1 dies hole
    ];
  }
    where
      fit_founder : IsInFamily mid id new
      fit_founder = record {
        older = λ above parent. absurd cc;
        there = λ above parent. absurd cc;
        counted = omega (
          arith,
          childless,
          come.kids id,
          founder_is id new founder,
          no_children before id are.families none,
        );
      }

  module _ (after : List (ℕ × NodeValue)) (above : ℕ) (parent : NodeValue)
      (child : new.parent ≡ Some above) (older : above < id)
      (above_is : node_at before above ≡ Some parent)
      (set : IsSet mid after above (record parent { children = parent.children + 1 })) where
    -- the newcomer is not its parent
    differs : id ≢ above
    differs same = omega (arith, same, older)

    -- the parent is as it should be
    fit_parent : IsInFamily after above (record parent { children = parent.children + 1 })
    fit_parent =
        let fits = are.families.each above parent above_is in
        record {
          older = fits.older;
          there = λ higher h. still_there mid after above _ higher (set.at higher)
              (stays higher (fits.there higher h));
          counted = omega (
            arith,
            fits.counted,
            set.kids above,
            come.kids above,
            child_is above new child,
          );
        }

    -- so is the child
    fit_child : IsInFamily after id new
    fit_child = record {
      older = λ higher h. let same : above ≡ higher = cc in omega (arith, older);
      there = λ higher h. let same : above ≡ higher = cc in
          still_there mid after above _ higher (set.at higher)
          (stays higher (is_there (node_at before higher) parent (rw (← same) above_is)));
      counted = omega (
        arith,
        childless,
        set.kids id,
        come.kids id,
        child_apart id above new child (λ same. differs (sym same)),
        no_children before id are.families none,
      );
    }

    -- a child comes, and its parent counts one child more
    pub child_comes : AreNodes after
    child_comes = record {
      families = record {
        rising = set.rising;
        each = λ other node has.
            elim (found_new mid after above _ other node (set.at other) has) [
              | inl one ↦ rw (← one.0, ← one.1) fit_parent
              | inr far ↦ elim (come_from other node far.1) [
                | inl here ↦ rw (← here.0, ← here.1) fit_child
                | inr apart ↦
                    let fits = are.families.each other node apart.1 in
                    record {
                      older = fits.older;
                      there = λ higher h. still_there mid after above _ higher (set.at higher)
                          (stays higher (fits.there higher h));
                      counted = omega (
                        arith,
                        fits.counted,
                        set.kids other,
                        come.kids other,
                        child_apart other above new child far.0,
                      );
                    }
              ]
            ];
      };
      needed = λ other node has dies hole.
          elim (found_new mid after above _ other node (set.at other) has) [
            | inl one ↦ rw (← one.1) (omega arith)
            | inr far ↦ elim (come_from other node far.1) [
              | inl here ↦ absurd (let same = here.1 in cc)
              | inr apart ↦ are.needed other node apart.1 dies hole
            ]
          ];
    }

-- the tree with a newcomer
pub tree_come : (before after : List (ℕ × NodeValue)) (id : ℕ) (new : NodeValue)
    → All (λ (link : Link). link.id < id) (links_of before) → new.lives ≡ true
    → after ≡ insert_entry nat_cmp before id new
    → tree_of after ≡ tree_with_newcomer (tree_of before) (node_link id new)
tree_come before after id new newest lives e =
    rw (
      e ∙ insert_last before id new newest,
      links_newcomer before id new,
      living_newcomer before id new lives,
    )

-- a node has another number of children
pub tree_set : (before after : List (ℕ × NodeValue)) (id children : ℕ) (old : NodeValue)
    → node_at before id ≡ Some old
    → after ≡ set_value (is_at (nat_cmp id)) before (record old { children = children })
    → tree_of after ≡ tree_of before
tree_set before after id children old is e =
    let new : NodeValue = record old { children = children } in
    rw (e, links_set before id old new is (λ key. refl), living_set before id old new is refl)

-- what a newcomer does to the nodes before its parent has another child
pub record Comes (before mid : List (ℕ × NodeValue)) (link : Link) (new : NodeValue) : Type 0 where
  pub none : node_at before link.id ≡ None
  pub childless : new.children ≡ 0
  pub lives : new.lives ≡ true
  pub parent : new.parent ≡ link.parent
  pub come : HasCome before mid link.id new
  pub tree : tree_of mid ≡ tree_with_newcomer (tree_of before) link

-- the node of a newcomer
abbrev pub new_node : Link → NodeValue
new_node link = record {
  parent = link.parent;
  update = link.update;
  cell = link.cell;
  origin = link.origin;
  genome = link.genome;
  children = 0;
  lives = true;
}

-- so it is where its entry was inserted
pub comes : (before mid : List (ℕ × NodeValue)) (link : Link) (new : NodeValue) → AreNodes before
    → CanCome (tree_of before) link.id link.parent → new ≡ new_node link
    → IsStrictlySortedBy nat_cmp (keys_of mid) → mid ≡ insert_entry nat_cmp before link.id new
    → ((other : ℕ) → node_at mid other ≡ cond (is_at (nat_cmp link.id) other) (Some new)
    (node_at before other)) → Comes before mid link new
comes before mid link new are can is rising e at =
    let none = none_newest before link.id can.newest in
    let lives : new.lives ≡ true = ap (λ (n : NodeValue). n.lives) is in
    record {
      none = none;
      childless = ap (λ (n : NodeValue). n.children) is;
      lives = lives;
      parent = ap (λ (n : NodeValue). n.parent) is;
      come = has_come before mid link.id new are.families.rising rising none e at;
      tree = tree_come before mid link.id new can.newest lives e
          ∙ ap (λ (n : NodeValue). tree_with_newcomer (tree_of before) (node_link link.id n)) is;
    }

-- there is room for one child more
pub has_room : (before mid : List (ℕ × NodeValue)) (link : Link) (new : NodeValue) (bound id : ℕ)
    (node : NodeValue) → AreNodes before → Comes before mid link new → length before < bound
    → node_at mid id ≡ Some node → node.children < bound
has_room before mid link new bound id node are is few there =
    let counted : node_at before id ≡ Some node → node.children ≡ children_of before id =
    λ old. (are.families.each id node old).counted in
    grind (
      arith,
      found_new before mid link.id new id node (is.come.at id) there,
      is.childless,
      counted,
      children_few before id,
    )

-- a child enters
pub child_enters : (before mid after : List (ℕ × NodeValue)) (link : Link) (new : NodeValue)
    (above : ℕ) → AreNodes before → CanCome (tree_of before) link.id link.parent
    → Comes before mid link new → link.parent ≡ Some above
    → ((node : NodeValue) → node_at mid above ≡ Some node
    → after ≡ set_value (is_at (nat_cmp above)) mid (record node { children = node.children + 1 }))
    → AreNodes after × (tree_of after ≡ tree_with_newcomer (tree_of before) link)
child_enters before mid after link new above are can is child raise =
    let found =
    some_of (node_at before above) (sym (is_some_link before above) ∙ can.there above child) in
    let parent = found.0 in
    let older = newest_above before link.id above parent can.newest found.1 in
    let stays : node_at mid above ≡ Some parent =
    grind (arith, is.come.at above, by_key link.id above, older, found.1) in
    let e = raise parent stays in
    let set = set_is mid after above parent _ is.come.rising stays refl e in (
      child_comes before mid link.id new are is.none is.childless is.lives is.come after above
          parent (is.parent ∙ child) older found.1 set,
      tree_set mid after above (parent.children + 1) parent stays e ∙ is.tree,
    )

-- a founder enters
pub founder_enters : (before mid : List (ℕ × NodeValue)) (link : Link) (new : NodeValue)
    → AreNodes before → Comes before mid link new → link.parent ≡ None → AreNodes mid
founder_enters before mid link new are is founder =
    founder_comes before mid link.id new are is.none is.childless is.lives is.come
    (is.parent ∙ founder)
