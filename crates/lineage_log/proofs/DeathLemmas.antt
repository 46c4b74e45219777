-- After a death: nodes go one after another, up the line, as far as they are there in vain.
use Rattle.std.proofs.Common.{◌≡◌, inl, inr, ⊎_elim, ◌∙◌, refl, sym, ap, subst, ℕ, ◌-◌, ◌<◌, ◌≤◌, suc, true, false, cond, ltb, ltb-true, ltb-false, List, [], ◌∷◌, Option, Some, None, nat_cmp, arith}
use Rattle.std.specs.Prelude.{Contains, IfSome, IsSome, nat_eq}
use Rattle.lineage_log.proofs.Prelude.{insert_entry, is_at, lookup, remove_entry, set_value, option_map_or, cases_Bool, or_parts, NodeValue, AreFamilies, AreNeededBut, AreNodes, IsSettled, id_order, is_needed, living_ids_of, node_at}
use Rattle.lineage_log.proofs.NodeLemmas.{Rises, by_key, some_of}
use Rattle.lineage_log.proofs.OrderLemmas.{insert_is_set, order_finds, order_gone, order_put, order_rises}
use Rattle.lineage_log.proofs.LivingLemmas.{lives_there}
use Rattle.lineage_log.proofs.TreeLemmas.{IsGone, fewer_again, fewer_gone, fewer_same, founder_goes, gone_is, is_there, lets_go, one_node, parent_counts, parent_stays, set_is, AreFewer}
use Rattle.lineage_log.proofs.KeptLemmas.{IsLaid, laid, parent_lower}

-- where a node goes it doesn't matter what it was
remove_once_set : (nodes : List (ℕ × NodeValue)) (id : ℕ) (node : NodeValue)
    → remove_entry (is_at (nat_cmp id)) (set_value (is_at (nat_cmp id)) nodes node)
    ≡ remove_entry (is_at (nat_cmp id)) nodes
remove_once_set [] id node = refl
remove_once_set (e ∷ es) id node = grind (arith, by_key id e.0, remove_once_set es id node)

-- ---- one node more goes, or none

-- after one node was changed: it stays where it is needed then, and else it goes and its parent
-- is the next one
pub record Settles (before after : List (ℕ × NodeValue)) (id : ℕ) (node : NodeValue)
    (next : Option ℕ) : Type 0 where
  pub rising : Rises after
  pub entries : after ≡ cond (is_needed node) (insert_entry nat_cmp before id node)
      (remove_entry (is_at (nat_cmp id)) before)
  pub above : next ≡ cond (is_needed node) None node.parent

-- so it is in order, whatever order the nodes are kept in
settles : (before after : List (ℕ × NodeValue)) (id : ℕ) (node : NodeValue) (next : Option ℕ)
    → IsSettled before after id node next
    → Settles (id_order before) (id_order after) id node next
settles before after id node next settled = record {
  rising = order_rises after;
  entries = elim (cases_Bool (is_needed node)) [
    | inl wanted ↦ rw wanted (order_put before after id node
        (λ other. settled.found other ∙ rw wanted))
    | inr vain ↦ rw vain (order_gone before after id
        (λ other. settled.found other ∙ rw vain))
  ];
  above = settled.above;
}

-- a parent with one child fewer
abbrev fewer_children : NodeValue → NodeValue
fewer_children parent = record parent { children = parent.children - 1 }

-- the nodes once the next one has one child fewer
abbrev lowered : Option ℕ → List (ℕ × NodeValue) → List (ℕ × NodeValue)
lowered None nodes = nodes
lowered (Some id) nodes =
    option_map_or (λ parent. set_value (is_at (nat_cmp id)) nodes (fewer_children parent))
    (node_at nodes id) nodes

-- so it is where the next one is known
lowered_is : (nodes : List (ℕ × NodeValue)) (id : ℕ) (parent : NodeValue)
    → node_at nodes id ≡ Some parent
    → lowered (Some id) nodes ≡ set_value (is_at (nat_cmp id)) nodes (fewer_children parent)
lowered_is nodes id parent is = rw is

-- some nodes went, and all is as it should be once the next one has one child fewer
pub record Go (start nodes : List (ℕ × NodeValue)) (next : Option ℕ) : Type 0 where
  pub rising : Rises nodes
  pub there : IfSome next (λ id. IsSome (node_at nodes id))
  pub counts : IfSome next (λ id. (parent : NodeValue) → node_at nodes id ≡ Some parent
      → 0 < parent.children)
  pub families : AreFamilies (lowered next nodes)
  pub needed : AreNeededBut next (lowered next nodes)
  pub fewer : AreFewer start (lowered next nodes)

module _ (start before mid after : List (ℕ × NodeValue)) (id : ℕ) (old new : NodeValue)
    (next : Option ℕ) (rising : Rises before) (is : node_at before id ≡ Some old)
    (same : new.parent ≡ old.parent) (set : mid ≡ set_value (is_at (nat_cmp id)) before new)
    (families : AreFamilies mid) (needed : AreNeededBut (Some id) mid)
    (fewer : AreFewer start mid) (settled : Settles before after id new next) where
  -- what stands there once it was changed
  new_at : node_at mid id ≡ Some new
  new_at =
      grind (arith, by_key id id, (set_is before mid id old new rising is same set).at id)

  -- it is needed and stays
  stays : is_needed new ≡ true → Go start after next
  stays wanted =
      let e : mid ≡ after = set
      ∙ sym (insert_is_set before id new rising (is_there (node_at before id) old is))
      ∙ sym (rw wanted at settled.entries) in
      let none : None ≡ next = sym (rw wanted at settled.above) in
      let all : Go start mid None = record {
        rising = families.rising;
        there = tt;
        counts = tt;
        families = families;
        needed = λ other node has dies hole. elim (by_key id other) [
          | inl here ↦
              let one : node ≡ new =
              one_node (node_at mid id) node new (rw (← here.0) at has) new_at in
              ltb-true 0 node.children (rw dies at (ap is_needed one ∙ wanted))
          | inr apart ↦ needed other node has dies (λ it. apart.0 cc)
        ];
        fewer = fewer;
      } in
      subst (λ o. Go start after o) none (subst (λ nodes. Go start nodes None) e all)

  -- it is there in vain and goes
  goes : is_needed new ≡ false → Go start after next
  goes vain = subst (λ o. Go start after o) (sym above) (by new.parent refl) where
    above : next ≡ new.parent
    above = rw vain at settled.above

    removed : after ≡ remove_entry (is_at (nat_cmp id)) mid
    removed = (rw vain at settled.entries)
        ∙ sym (ap (remove_entry (is_at (nat_cmp id))) set ∙ remove_once_set before id new)

    dead : new.lives ≡ false
    dead = (or_parts new.lives (ltb 0 new.children) vain).0

    childless : new.children ≤ 0
    childless = ltb-false 0 new.children (or_parts new.lives (ltb 0 new.children) vain).1

    gone : IsGone mid after id new
    gone = gone_is mid after id new families.rising settled.rising new_at removed

    by : (parent : Option ℕ) → new.parent ≡ parent → Go start after parent
    by None founder =
        let both = founder_goes mid after id new families needed new_at childless gone founder in
        record {
          rising = settled.rising;
          there = tt;
          counts = tt;
          families = both.0;
          needed = both.1;
          fewer = fewer_again start mid after fewer
              (fewer_gone mid after id new families.rising new_at dead removed);
        }
    by (Some higher) child =
        let left = lets_go mid after (lowered (Some higher) after) id higher new families needed
        new_at dead childless gone removed child (lowered_is after higher) in
        record {
          rising = settled.rising;
          there = parent_stays mid after id new families needed new_at childless gone id higher new
              new_at child;
          counts = λ parent. parent_counts mid after id new families needed new_at childless gone
              higher parent child;
          families = left.families;
          needed = left.needed;
          fewer = fewer_again start mid (lowered (Some higher) after) fewer left.fewer;
        }

  -- either way
  go_on : Go start after next
  go_on = ⊎_elim stays goes (cases_Bool (is_needed new))

  -- who is next has a lower id
  go_up : option_map_or suc next 0 < suc id
  go_up =
      grind (arith, settled.above, parent_lower mid id new new.parent families new_at refl)

-- ---- from the first to the last

-- the nodes once the organism of an id no longer lives
abbrev pub laid_down : ℕ → List (ℕ × NodeValue) → List (ℕ × NodeValue)
laid_down id nodes =
    option_map_or (λ node. set_value (is_at (nat_cmp id)) nodes (record node { lives = false }))
    (node_at nodes id) nodes

-- so it is where the node is known
laid_down_is : (nodes : List (ℕ × NodeValue)) (id : ℕ) (node : NodeValue)
    → node_at nodes id ≡ Some node → laid_down id nodes
    ≡ set_value (is_at (nat_cmp id)) nodes (record node { lives = false })
laid_down_is nodes id node is = rw is

-- one that lived no longer does
pub lies : (nodes : List (ℕ × NodeValue)) (id : ℕ) → AreNodes nodes
    → Contains (living_ids_of nodes) id → IsLaid nodes (laid_down id nodes) id
lies nodes id are lives = laid nodes (laid_down id nodes) id are lives (laid_down_is nodes id)

-- its node goes if it is there in vain then
pub go_first : (before after : List (ℕ × NodeValue)) (id : ℕ) (next : Option ℕ)
    → AreNodes (id_order before) → Contains (living_ids_of (id_order before)) id
    → ((node : NodeValue) → lookup (nat_eq id) before ≡ Some node
    → IsSettled before after id (record node { lives = false }) next)
    → Go (laid_down id (id_order before)) (id_order after) next
go_first before after id next are lives settled =
    let nodes = id_order before in
    let found = lives_there nodes id are.families.rising lives in
    let old = found.0 in
    let new : NodeValue = record old { lives = false } in
    let lie = lies nodes id are lives in
    go_on (laid_down id nodes) nodes (laid_down id nodes) (id_order after) id old new next
    are.families.rising found.1 refl (laid_down_is nodes id old found.1) lie.families lie.needed
    (fewer_same (laid_down id nodes))
    (settles before after id new next (settled old (sym (order_finds before id) ∙ found.1)))

-- who is next has children
pub next_counts : (start nodes : List (ℕ × NodeValue)) (now : Option ℕ) (id : ℕ)
    → Go start (id_order nodes) now → now ≡ Some id → (node : NodeValue)
    → lookup (nat_eq id) nodes ≡ Some node → 0 < node.children
next_counts start nodes now id go is node there =
    (subst (λ o. Go start (id_order nodes) o) is go).counts node (order_finds nodes id ∙ there)

-- its parent has one child fewer, and goes if it is there in vain then; and so up the line
pub go_again : (start before after : List (ℕ × NodeValue)) (now : Option ℕ) (id : ℕ)
    (next : Option ℕ) → Go start (id_order before) now → now ≡ Some id
    → ((node : NodeValue) → lookup (nat_eq id) before ≡ Some node
    → IsSettled before after id (record node { children = node.children - 1 }) next)
    → Go start (id_order after) next × (option_map_or suc next 0 < suc id)
go_again start before after now id next going this settled =
    let nodes = id_order before in
    let go = subst (λ o. Go start nodes o) this going in
    let found = some_of (node_at nodes id) go.there in
    let old = found.0 in
    let is = found.1 in
    let mid = lowered (Some id) nodes in
    let set = lowered_is nodes id old is in
    let settling = settles before after id (fewer_children old) next
    (settled old (sym (order_finds before id) ∙ is)) in (
      go_on start nodes mid (id_order after) id old (fewer_children old) next go.rising is refl set
          go.families go.needed go.fewer settling,
      go_up start nodes mid (id_order after) id old (fewer_children old) next go.rising is refl set
          go.families go.needed go.fewer settling,
    )
