-- What the steps of a tree do to its nodes.
use Rattle.std.proofs.Common.{◌≡◌, ◌≢◌, ◌⊎◌, inl, inr, ◌∙◌, refl, sym, ap, subst, ℕ, ◌+◌, ◌-◌, ◌<◌, ◌≤◌, true, false, cond, not, ◌&&◌, eqb, Bool, List, [], ◌∷◌, Option, Some, None, nat_cmp, arith}
use Rattle.std.specs.Prelude.{IsSome, filter}
use Rattle.lineage_log.proofs.Prelude.{is_at, nat_cmp_total, keys_of, remove_entry, set_value, eq_by_cmp, eq_by_cmp_equiv, common_steps, lookup-remove_entry, lookup-set_value, keys-set_value, sum_by-remove_entry, sum_by-set_value, IsDistinct-from_sorted, Link, NodeValue, AreFamilies, AreNeededBut, IsInFamily, as_child, children_of, links_of, living_ids_of, node_at}
use Rattle.lineage_log.proofs.NodeLemmas.{Rises, by_key, child_apart, child_counts, child_is, founder_is, one_for, some_of}
use Rattle.lineage_log.proofs.LivingLemmas.{links_gone, links_set, living_gone, living_set}

-- what is there is something
pub is_there : {X : Type 0} (found : Option X) (x : X) → found ≡ Some x → IsSome found
is_there found x is = subst IsSome (sym is) refl

-- one thing isn't two
pub one_node : (found : Option NodeValue) (one other : NodeValue) → found ≡ Some one
    → found ≡ Some other → one ≡ other
one_node found one other is has = cc

-- what stands there where one node is new
pub found_new : (before after : List (ℕ × NodeValue)) (id : ℕ) (new : NodeValue) (other : ℕ)
    (node : NodeValue)
    → node_at after other ≡ cond (is_at (nat_cmp id) other) (Some new) (node_at before other)
    → node_at after other ≡ Some node
    → ((id ≡ other) × (new ≡ node)) ⊎ ((id ≢ other) × (node_at before other ≡ Some node))
found_new before after id new other node look is = grind (arith, by_key id other)

-- what was there is there
pub still_there : (before after : List (ℕ × NodeValue)) (id : ℕ) (new : NodeValue) (other : ℕ)
    → node_at after other ≡ cond (is_at (nat_cmp id) other) (Some new) (node_at before other)
    → IsSome (node_at before other) → IsSome (node_at after other)
still_there before after id new other look is = grind (arith, by_key id other)

-- ---- a node that changes, but not its parent

-- under an id there is another node, with the parent of before
pub record IsSet (before after : List (ℕ × NodeValue)) (id : ℕ) (new : NodeValue) : Type 0 where
  pub rising : Rises after
  pub at : (other : ℕ) → node_at after other ≡ cond (is_at (nat_cmp id) other) (Some new)
      (node_at before other)
  pub kids : (other : ℕ) → children_of after other ≡ children_of before other

-- so it is where the value under the id was set
pub set_is : (before after : List (ℕ × NodeValue)) (id : ℕ) (old new : NodeValue) → Rises before
    → node_at before id ≡ Some old → new.parent ≡ old.parent
    → after ≡ set_value (is_at (nat_cmp id)) before new → IsSet before after id new
set_is before after id old new rising is same e =
    let laws = eq_by_cmp_equiv nat_cmp_total in
    record {
      rising = rw (e, keys-set_value (is_at (nat_cmp id)) before new) rising;
      at = λ other. rw e (lookup-set_value {eq = eq_by_cmp nat_cmp} laws (is_at (nat_cmp id))
          (λ x y h. laws.congr id x y h) other new before (is_there (node_at before id) old is));
      kids = λ other. rw e (omega (
        arith,
        sum_by-set_value (as_child other) (is_at (nat_cmp id)) before old new is,
        ap (one_for other) same,
      ));
    }

-- ---- a node that goes

-- under an id there is no node any longer
pub record IsGone (before after : List (ℕ × NodeValue)) (id : ℕ) (old : NodeValue) : Type 0 where
  pub rising : Rises after
  pub at : (other : ℕ) → node_at after other
      ≡ cond (is_at (nat_cmp id) other) None (node_at before other)
  pub kids : (other : ℕ) → children_of after other + as_child other old ≡ children_of before other

-- so it is where the entry of the id was removed
pub gone_is : (before after : List (ℕ × NodeValue)) (id : ℕ) (old : NodeValue) → Rises before
    → Rises after → node_at before id ≡ Some old → after ≡ remove_entry (is_at (nat_cmp id)) before
    → IsGone before after id old
gone_is before after id old rising rises is e =
    let laws = eq_by_cmp_equiv nat_cmp_total in
    record {
      rising = rises;
      at = λ other. rw e (lookup-remove_entry {eq = eq_by_cmp nat_cmp} laws (is_at (nat_cmp id))
          (λ x y h. laws.congr id x y h) other before
          (IsDistinct-from_sorted nat_cmp (keys_of before) rising));
      kids = λ other. rw e (omega (
        arith,
        rw is at (sum_by-remove_entry (as_child other) (is_at (nat_cmp id)) before),
      ));
    }

-- what stands there then stood there
pub gone_from : (before after : List (ℕ × NodeValue)) (id : ℕ) (old : NodeValue) (other : ℕ)
    (node : NodeValue) → IsGone before after id old → node_at after other ≡ Some node
    → (id ≢ other) × (node_at before other ≡ Some node)
gone_from before after id old other node gone is =
    grind (arith, by_key id other, gone.at other)

-- what stood there stands there then, but for one
pub gone_still : (before after : List (ℕ × NodeValue)) (id : ℕ) (old : NodeValue) (other : ℕ)
    → IsGone before after id old → id ≢ other → node_at after other ≡ node_at before other
gone_still before after id old other gone differs =
    grind (arith, by_key id other, gone.at other)

-- ---- a node that is there in vain goes

module _ (before mid : List (ℕ × NodeValue)) (id : ℕ) (old : NodeValue)
    (families : AreFamilies before) (needed : AreNeededBut (Some id) before)
    (is : node_at before id ≡ Some old) (vain : old.children ≤ 0) (gone : IsGone before mid id old)
  where
    -- it is nobody's parent
    no_parent : (other : ℕ) (node : NodeValue) → node_at before other ≡ Some node
        → node.parent ≢ Some id
    no_parent other node has child =
        omega (
          arith,
          child_counts before id other node has,
          child_is id node child,
          (families.each id old is).counted,
          vain,
        )

    -- a parent of others stays
    pub parent_stays : (other above : ℕ) (node : NodeValue) → node_at before other ≡ Some node
        → node.parent ≡ Some above → IsSome (node_at mid above)
    parent_stays other above node has parent =
        let differs : id ≢ above =
        λ same. no_parent other node has cc in
        subst IsSome (sym (gone_still before mid id old above gone differs))
        ((families.each other node has).there above parent)

    -- its parent has it as a child
    pub parent_counts : (above : ℕ) (parent : NodeValue) → old.parent ≡ Some above
        → node_at mid above ≡ Some parent → 0 < parent.children
    parent_counts above parent child above_is =
        let was = gone_from before mid id old above parent gone above_is in
        omega (
          arith,
          (families.each above parent was.1).counted,
          child_counts before above id old is,
          child_is above old child,
        )

    -- a founder goes
    pub founder_goes : old.parent ≡ None → AreFamilies mid × AreNeededBut None mid
    founder_goes founder = (
      record {
        rising = gone.rising;
        each = λ other node has.
            let was = gone_from before mid id old other node gone has in
            let fit = families.each other node was.1 in
            record {
              older = fit.older;
              there = λ above parent. parent_stays other above node was.1 parent;
              counted = omega (arith, fit.counted, gone.kids other, founder_is other old founder);
            };
      },
      λ other node has dies hole.
          let was = gone_from before mid id old other node gone has in
          needed other node was.1 dies (λ same. was.0 cc),
    )

    module _ (after : List (ℕ × NodeValue)) (above : ℕ) (parent : NodeValue)
        (child : old.parent ≡ Some above) (above_is : node_at mid above ≡ Some parent)
        (set : IsSet mid after above (record parent { children = parent.children - 1 })) where
      -- the parent, with one child fewer, stays as it should be
      fit_parent : IsInFamily after above (record parent { children = parent.children - 1 })
      fit_parent =
          let was = gone_from before mid id old above parent gone above_is in
          let fit = families.each above parent was.1 in
          record {
            older = fit.older;
            there = λ higher h. still_there mid after above _ higher (set.at higher)
                (parent_stays above higher parent was.1 h);
            counted = omega (
              arith,
              fit.counted,
              set.kids above,
              gone.kids above,
              child_is above old child,
              parent_counts above parent child above_is,
            );
          }

      -- all others stay as they should be
      fit_other : (other : ℕ) (node : NodeValue) → above ≢ other → node_at mid other ≡ Some node
          → IsInFamily after other node
      fit_other other node differs has =
          let was = gone_from before mid id old other node gone has in
          let fit = families.each other node was.1 in
          record {
            older = fit.older;
            there = λ higher h. still_there mid after above _ higher (set.at higher)
                (parent_stays other higher node was.1 h);
            counted = omega (
              arith,
              fit.counted,
              set.kids other,
              gone.kids other,
              child_apart other above old child differs,
            );
          }

      -- a child goes, and its parent counts one child fewer
      pub child_goes : AreFamilies after × AreNeededBut (Some above) after
      child_goes = (
        record {
          rising = set.rising;
          each = λ other node has.
              elim (found_new mid after above _ other node (set.at other) has) [
                | inl here ↦ rw (← here.0, ← here.1) fit_parent
                | inr apart ↦ fit_other other node apart.0 apart.1
              ];
        },
        λ other node has dies hole.
            elim (found_new mid after above _ other node (set.at other) has) [
              | inl here ↦ absurd (hole (ap (λ (n : ℕ). Some n) here.0))
              | inr apart ↦
                  let was = gone_from before mid id old other node gone apart.1 in
                  needed other node was.1 dies (λ same. was.0 cc)
            ],
      )

-- ---- fewer nodes

-- some nodes were removed, none of which lived: those that are left have the links that they had
pub record AreFewer (before after : List (ℕ × NodeValue)) : Type 0 where
  pub left : ℕ → Bool
  pub links : links_of after ≡ filter (λ (link : Link). left link.id) (links_of before)
  pub living : living_ids_of after ≡ living_ids_of before

-- none fewer
pub fewer_same : (nodes : List (ℕ × NodeValue)) → AreFewer nodes nodes
fewer_same nodes = record { left = λ id. true; links = all (links_of nodes); living = refl } where
  -- a filter that lets all links pass leaves them all
  all : (links : List Link) → links ≡ filter (λ (link : Link). true) links
  all [] = refl
  all (link ∷ links) = ap (λ (others : List Link). link ∷ others) (all links)

-- fewer, and fewer again
pub fewer_again : (before mid after : List (ℕ × NodeValue)) → AreFewer before mid
    → AreFewer mid after → AreFewer before after
fewer_again before mid after one two = record {
  left = λ id. one.left id && two.left id;
  links = rw (two.links, one.links) (both (links_of before));
  living = two.living ∙ one.living;
}
  where
    both : (links : List Link)
        → filter (λ (link : Link). two.left link.id)
        (filter (λ (link : Link). one.left link.id) links)
        ≡ filter (λ (link : Link). one.left link.id && two.left link.id) links
    both [] = refl
    both (link ∷ links) = grind (arith, common_steps, both links)

-- one fewer
pub fewer_gone : (before after : List (ℕ × NodeValue)) (id : ℕ) (old : NodeValue) → Rises before
    → node_at before id ≡ Some old → old.lives ≡ false
    → after ≡ remove_entry (is_at (nat_cmp id)) before → AreFewer before after
fewer_gone before after id old rising is dead e = record {
  left = λ other. not (eqb other id);
  links = ap links_of e ∙ links_gone before id rising;
  living = ap living_ids_of e ∙ living_gone before id old is dead;
}

-- none fewer where a node has another number of children
pub fewer_set : (before after : List (ℕ × NodeValue)) (id children : ℕ) (old : NodeValue)
    → node_at before id ≡ Some old
    → after ≡ set_value (is_at (nat_cmp id)) before (record old { children = children })
    → AreFewer before after
fewer_set before after id children old is e =
    let same = fewer_same before in
    record {
      left = same.left;
      links = rw e (links_set before id old _ is (λ key. refl) ∙ same.links);
      living = rw e (living_set before id old _ is refl);
    }

-- ---- a child goes

-- what is left: all is as it should be but for the parent, which may be there in vain
pub record LetsGo (before after : List (ℕ × NodeValue)) (above : ℕ) : Type 0 where
  pub families : AreFamilies after
  pub needed : AreNeededBut (Some above) after
  pub fewer : AreFewer before after

-- so it is where the node of a child is removed and its parent has one child fewer
pub lets_go : (before mid after : List (ℕ × NodeValue)) (id above : ℕ) (old : NodeValue)
    → AreFamilies before → AreNeededBut (Some id) before → node_at before id ≡ Some old
    → old.lives ≡ false → old.children ≤ 0 → IsGone before mid id old
    → mid ≡ remove_entry (is_at (nat_cmp id)) before → old.parent ≡ Some above
    → ((node : NodeValue) → node_at mid above ≡ Some node
    → after ≡ set_value (is_at (nat_cmp above)) mid (record node { children = node.children - 1 }))
    → LetsGo before after above
lets_go before mid after id above old families needed is dead vain gone removed child lowered =
    let stays = parent_stays before mid id old families needed is vain gone id above old is child in
    let parent = (some_of (node_at mid above) stays).0 in
    let above_is = (some_of (node_at mid above) stays).1 in
    let set =
    set_is mid after above parent _ gone.rising above_is refl (lowered parent above_is) in
    let both = child_goes before mid id old families needed is vain gone after above parent child
    above_is set in
    record {
      families = both.0;
      needed = both.1;
      fewer = fewer_again before mid after
          (fewer_gone before mid id old families.rising is dead removed)
          (fewer_set mid after above (parent.children - 1) parent above_is
          (lowered parent above_is));
    }
