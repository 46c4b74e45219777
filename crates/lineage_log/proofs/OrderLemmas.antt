-- Nodes in order of their ids: what is found there, whatever order they are kept in.
use Rattle.std.proofs.Common.{◌≡◌, ◌≢◌, ◌⊎◌, inl, inr, ⊎_elim, ◌∙◌, refl, sym, ap, subst, ℕ, ◌+◌, ◌<◌, ◌≤◌, true, false, cond, List, [], ◌∷◌, length, Option, Some, None, nat_cmp, Less, Equal, Greater, arith}
use Rattle.std.specs.Prelude.{IsSome, nat_eq}
use Rattle.lineage_log.proofs.Prelude.{insert_entry, is_at, nat_cmp_is, nat_cmp_total, ranked, unsigned_tied, AllByRecursion, IsDistinct, keys_of, lookup, remove_entry, set_value, eq_by_cmp, is_eq, IsStrictlySortedBy, eq_by_cmp_equiv, nat_eq_equiv, lookup-none, lookup-remove_entry, lookup-set_value, none_below_head, IsDistinct-from_sorted, IsDistinct-head, IsDistinct-tail, sorted_head, sorted_tail, NodeValue, AreNodes, id_order, node_at}
use Rattle.lineage_log.proofs.NodeLemmas.{Rises, by_key, first_node, none_behind, other_node}

-- how two ids compare, and what the order answers
compared : (id other : ℕ) → ((id < other) × (nat_cmp id other ≡ Less))
    ⊎ ((id ≡ other) × (nat_cmp id other ≡ Equal)) ⊎ ((other < id) × (nat_cmp id other ≡ Greater))
compared id other = grind (arith, ranked id other)

-- all of these ids are above one
abbrev Above : ℕ → List (ℕ × NodeValue) → Type 0
Above id nodes = AllByRecursion (λ other. nat_cmp id other ≡ Less) (keys_of nodes)

-- a node before others whose ids are above
rises_cons : (e : ℕ × NodeValue) (es : List (ℕ × NodeValue)) → Above e.0 es → Rises es
    → Rises (e ∷ es)
unfolding IsStrictlySortedBy
rises_cons e es above rising = (above, rising)

-- what is above a higher id is above a lower one
above_lower : (id higher : ℕ) (es : List (ℕ × NodeValue)) → id < higher → Above higher es
    → Above id es
above_lower id higher [] low above = tt
above_lower id higher (e ∷ es) low above =
    grind (arith, compared id e.0, compared higher e.0, above_lower id higher es low above.1)

-- one id above more
above_put : (low : ℕ) (es : List (ℕ × NodeValue)) (id : ℕ) (node : NodeValue)
    → nat_cmp low id ≡ Less → Above low es → Above low (insert_entry nat_cmp es id node)
above_put low [] id node is above = (is, tt)
above_put low (e ∷ es) id node is above =
    grind (arith, compared id e.0, above_put low es id node is above.1)

-- ids still rise where one is put
rises_put : (es : List (ℕ × NodeValue)) (id : ℕ) (node : NodeValue) → Rises es
    → Rises (insert_entry nat_cmp es id node)
rises_put [] id node rising = rises_cons (id, node) [] tt rising
rises_put (e ∷ es) id node rising =
    let head = sorted_head nat_cmp e.0 (keys_of es) rising in
    let tail = sorted_tail nat_cmp e.0 (keys_of es) rising in
    elim (compared id e.0) [
      | inl below ↦ rw below.1 (rises_cons (id, node) (e ∷ es)
          (below.1, above_lower id e.0 es below.0 head) rising)
      | inr (inl same) ↦ rw same.1 (rises_cons (e.0, node) es head tail)
      | inr (inr above) ↦ rw above.1 (rises_cons e (insert_entry nat_cmp es id node)
          (above_put e.0 es id node (sym (nat_cmp_is e.0 id Less above.0)) head)
          (rises_put es id node tail))
    ]

-- fewer ids are above too
above_remove : (low id : ℕ) (es : List (ℕ × NodeValue)) → Above low es
    → Above low (remove_entry (is_at (nat_cmp id)) es)
above_remove low id [] above = tt
above_remove low id (e ∷ es) above = grind (arith, by_key id e.0, above_remove low id es above.1)

-- ids still rise where one is removed
rises_remove : (es : List (ℕ × NodeValue)) (id : ℕ) → Rises es
    → Rises (remove_entry (is_at (nat_cmp id)) es)
rises_remove [] id rising = rising
rises_remove (e ∷ es) id rising =
    let tail = sorted_tail nat_cmp e.0 (keys_of es) rising in
    elim (by_key id e.0) [
      | inl here ↦ rw here.1 tail
      | inr apart ↦ rw apart.1 (rises_cons e (remove_entry (is_at (nat_cmp id)) es)
          (above_remove e.0 id es (sorted_head nat_cmp e.0 (keys_of es) rising))
          (rises_remove es id tail))
    ]

-- an id is itself
itself : (id : ℕ) → is_at (nat_cmp id) id ≡ true
itself id = ⊎_elim (λ here. here.1) (λ apart. absurd (apart.0 refl)) (by_key id id)

-- what is put is there
put_here : (es : List (ℕ × NodeValue)) (id : ℕ) (node : NodeValue)
    → node_at (insert_entry nat_cmp es id node) id ≡ Some node
put_here [] id node = first_node (id, node) [] id (itself id)
put_here (e ∷ es) id node = grind (arith, compared id e.0, itself id, put_here es id node)

-- what else is there stays
put_apart : (es : List (ℕ × NodeValue)) (id : ℕ) (node : NodeValue) (other : ℕ) → id ≢ other
    → node_at (insert_entry nat_cmp es id node) other ≡ node_at es other
put_apart [] id node other differs = grind (arith, by_key other id)
put_apart (e ∷ es) id node other differs =
    grind (arith, compared id e.0, by_key other id, put_apart es id node other differs)

-- ---- two lists in order in which all ids have the same nodes are one

-- a first node is found in no list whose ids are above
not_above : (d e : ℕ × NodeValue) (ds es : List (ℕ × NodeValue)) → Rises (e ∷ es)
    → node_at (d ∷ ds) d.0 ≡ node_at (e ∷ es) d.0 → d.0 < e.0 → ⊥
not_above d e ds es rising same below =
    let none = lookup-none (is_at (nat_cmp d.0)) (e ∷ es)
    (none_below_head nat_cmp_total d.0 e es rising (sym (nat_cmp_is d.0 e.0 Less below))) in
    cc (first_node d ds d.0 (itself d.0))

-- the lists are one
pub one_order : (ds es : List (ℕ × NodeValue)) → Rises ds → Rises es
    → ((id : ℕ) → node_at ds id ≡ node_at es id) → ds ≡ es
one_order [] [] low high same = refl
one_order [] (e ∷ es) low high same = absurd (cc (same e.0, first_node e es e.0 (itself e.0)))
one_order (d ∷ ds) [] low high same = absurd (cc (same d.0, first_node d ds d.0 (itself d.0)))
one_order (d ∷ ds) (e ∷ es) low high same =
    elim (compared d.0 e.0) [
      | inl below ↦ absurd (not_above d e ds es high (same d.0) below.0)
      | inr (inr above) ↦ absurd (not_above e d es ds low (sym (same e.0)) above.0)
      | inr (inl equal) ↦
          let key = equal.0 in
          let value : d.1 ≡ e.1 = cc
          (same d.0, first_node d ds d.0 (itself d.0), first_node e es d.0 (ap is_eq equal.1)) in
          let tails = one_order ds es (sorted_tail nat_cmp d.0 (keys_of ds) low)
          (sorted_tail nat_cmp e.0 (keys_of es) high) (λ id. elim (by_key id d.0) [
            | inl here ↦ none_behind d ds id low here.1 ∙ sym (none_behind e es id high
                (subst (λ k. is_at (nat_cmp id) k ≡ true) key here.1))
            | inr apart ↦ sym (other_node d ds id apart.1) ∙ same id ∙ other_node e es id
                (subst (λ k. is_at (nat_cmp id) k ≡ false) key apart.1)
          ]) in
          λ i. (key i, value i) ∷ tails i
    ]

-- ---- in order

-- ids rise there
pub order_rises : (nodes : List (ℕ × NodeValue)) → Rises (id_order nodes)
unfolding IsStrictlySortedBy
order_rises [] = tt
order_rises (e ∷ es) = rises_put (id_order es) e.0 e.1 (order_rises es)

-- each id has its node there
pub order_finds : (nodes : List (ℕ × NodeValue)) (id : ℕ)
    → node_at (id_order nodes) id ≡ lookup (nat_eq id) nodes
order_finds [] id = refl
order_finds (e ∷ es) id =
    grind (
      arith,
      by_key id e.0,
      unsigned_tied id e.0,
      put_here (id_order es) id e.1,
      put_apart (id_order es) e.0 e.1 id,
      order_finds es id,
    )

-- what is put anywhere is put in order
pub order_put : (before after : List (ℕ × NodeValue)) (id : ℕ) (node : NodeValue)
    → ((other : ℕ) → lookup (nat_eq other) after
    ≡ cond (nat_eq id other) (Some node) (lookup (nat_eq other) before))
    → id_order after ≡ insert_entry nat_cmp (id_order before) id node
order_put before after id node at =
    one_order (id_order after) (insert_entry nat_cmp (id_order before) id node)
    (order_rises after) (rises_put (id_order before) id node (order_rises before))
    (λ other. grind (
      arith,
      order_finds after other,
      at other,
      by_key id other,
      unsigned_tied id other,
      put_here (id_order before) id node,
      order_finds before other,
      put_apart (id_order before) id node other,
    ))

-- what one look-up says of each id
pub order_at : (before after : List (ℕ × NodeValue)) (id : ℕ) (what : Option NodeValue)
    → ((other : ℕ) → lookup (nat_eq other) after
    ≡ cond (nat_eq id other) what (lookup (nat_eq other) before)) → (other : ℕ)
    → node_at (id_order after) other
    ≡ cond (is_at (nat_cmp id) other) what (node_at (id_order before) other)
order_at before after id what at other =
    order_finds after other ∙ at other
    ∙ (λ i. cond (sym (unsigned_tied id other) i) what (sym (order_finds before other) i))

-- what is removed anywhere is removed in order
pub order_gone : (before after : List (ℕ × NodeValue)) (id : ℕ)
    → ((other : ℕ) → lookup (nat_eq other) after
    ≡ cond (nat_eq id other) None (lookup (nat_eq other) before))
    → id_order after ≡ remove_entry (is_at (nat_cmp id)) (id_order before)
order_gone before after id at =
    let laws = eq_by_cmp_equiv nat_cmp_total in
    let nodes = id_order before in
    one_order (id_order after) (remove_entry (is_at (nat_cmp id)) nodes) (order_rises after)
    (rises_remove nodes id (order_rises before))
    (λ other. order_at before after id None at other
    ∙ sym (lookup-remove_entry {eq = eq_by_cmp nat_cmp} laws (is_at (nat_cmp id))
    (λ x y h. laws.congr id x y h) other nodes
    (IsDistinct-from_sorted nat_cmp (keys_of nodes) (order_rises before))))

-- what is put under an id that is there is set
pub insert_is_set : (nodes : List (ℕ × NodeValue)) (id : ℕ) (node : NodeValue) → Rises nodes
    → IsSome (node_at nodes id)
    → insert_entry nat_cmp nodes id node ≡ set_value (is_at (nat_cmp id)) nodes node
insert_is_set [] id node rising is = absurd cc
insert_is_set (e ∷ es) id node rising is =
    let none : nat_cmp id e.0 ≡ Less → node_at (e ∷ es) id ≡ None =
    λ below. lookup-none (is_at (nat_cmp id)) (e ∷ es)
    (none_below_head nat_cmp_total id e es rising below) in
    let rest = insert_is_set es id node (sorted_tail nat_cmp e.0 (keys_of es) rising) in
    grind (arith, compared id e.0, none, rest)

-- what is set anywhere is set in order
pub order_set : (nodes : List (ℕ × NodeValue)) (id : ℕ) (old new : NodeValue)
    → lookup (nat_eq id) nodes ≡ Some old → id_order (set_value (nat_eq id) nodes new)
    ≡ set_value (is_at (nat_cmp id)) (id_order nodes) new
order_set nodes id old new is =
    order_put nodes (set_value (nat_eq id) nodes new) id new
    (λ other. lookup-set_value {eq = nat_eq} nat_eq_equiv (nat_eq id)
    (λ x y h. nat_eq_equiv.congr id x y h) other new nodes (subst IsSome (sym is) refl))
    ∙ insert_is_set (id_order nodes) id new (order_rises nodes)
    (subst IsSome (sym (order_finds nodes id ∙ is)) refl)

-- at most one more
one_more : (nodes : List (ℕ × NodeValue)) (id : ℕ) (node : NodeValue)
    → length (insert_entry nat_cmp nodes id node) ≤ length nodes + 1
one_more [] id node = omega arith
one_more (d ∷ ds) id node = grind (arith, compared id d.0, one_more ds id node)

-- there are no more nodes in order
pub order_few : (nodes : List (ℕ × NodeValue)) → length (id_order nodes) ≤ length nodes
order_few [] = omega arith
order_few (e ∷ es) = omega (arith, one_more (id_order es) e.0 e.1, order_few es)

-- one more where the id isn't there
put_length : (nodes : List (ℕ × NodeValue)) (id : ℕ) (node : NodeValue) → node_at nodes id ≡ None
    → length (insert_entry nat_cmp nodes id node) ≡ length nodes + 1
put_length [] id node none = refl
put_length (e ∷ es) id node none = grind (arith, compared id e.0, put_length es id node)

-- an id that differs from all is not found
not_found : (nodes : List (ℕ × NodeValue)) (id : ℕ)
    → AllByRecursion (λ other. nat_eq id other ≡ false) (keys_of nodes)
    → lookup (nat_eq id) nodes ≡ None
not_found [] id apart = refl
not_found (e ∷ es) id apart = rw apart.0 (not_found es id apart.1)

-- there are as many nodes in order where the ids are distinct
pub order_length : (nodes : List (ℕ × NodeValue)) → IsDistinct nat_eq (keys_of nodes)
    → length (id_order nodes) ≡ length nodes
order_length [] distinct = refl
order_length (e ∷ es) distinct =
    omega (
      arith,
      put_length (id_order es) e.0 e.1 (order_finds es e.0
          ∙ not_found es e.0 (IsDistinct-head nat_eq e.0 (keys_of es) distinct)),
      order_length es (IsDistinct-tail nat_eq e.0 (keys_of es) distinct),
    )

-- no nodes are nodes
pub no_nodes : AreNodes []
no_nodes = record {
  families = record { rising = order_rises []; each = λ id node is. absurd cc };
  needed = λ id node is dies hole. absurd cc;
}
