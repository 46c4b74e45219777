-- The nodes of a tree as a list of entries: what is looked up, and what the list of links shows of
-- it.
use Rattle.std.proofs.Common.{◌≡◌, ◌≢◌, ◌⊎◌, inl, inr, ⊎_elim, ◌∙◌, refl, sym, ap, ℕ, suc, ◌+◌, ◌<◌, ◌≤◌, true, false, List, [], ◌∷◌, length, Option, Some, None, nat_cmp, eq-eqb, ne_eqb, arith}
use Rattle.std.specs.Prelude.{◌==◌, if◌then◌else◌, is_some, slice_get}
use Rattle.lineage_log.proofs.Prelude.{is_at, nat_cmp_total, unsigned_tied, sum_by, IsStrictlySortedBy, keys_of, values_of, option_map, option_map_or, unwrap_or, eq_by_cmp, cases_eq, cases_lt, nat_tests, eq_by_cmp_equiv, common_steps, lookup-none, lookup_from_place, none_past_head, sum_by-remove_entry, IsDistinct-from_sorted, link_of, parent_of, NodeValue, as_child, children_of, links_of, node_at, node_link}
use Rattle.std.proofs.lemmas.List.Sums.{sum_by-cons}
use Rattle.lineage_log.proofs.AncestorLemmas.{cases_Option}

-- the ids rise
abbrev pub Rises : List (ℕ × NodeValue) → Type 0
Rises nodes = IsStrictlySortedBy nat_cmp (keys_of nodes)

-- two ids are one, or the order tells them apart
pub by_key : (key other : ℕ) → ((key ≡ other) × (is_at (nat_cmp key) other ≡ true))
    ⊎ ((key ≢ other) × (is_at (nat_cmp key) other ≡ false))
by_key key other = elim (cases_eq key other) [
  | inl same ↦ inl (same, unsigned_tied key other ∙ eq-eqb key other same)
  | inr apart ↦ inr (apart, unsigned_tied key other ∙ ne_eqb key other apart)
]

-- the first node
pub first_node : (e : ℕ × NodeValue) (es : List (ℕ × NodeValue)) (id : ℕ)
    → is_at (nat_cmp id) e.0 ≡ true → node_at (e ∷ es) id ≡ Some e.1
first_node e es id here = rw here

-- another node
pub other_node : (e : ℕ × NodeValue) (es : List (ℕ × NodeValue)) (id : ℕ)
    → is_at (nat_cmp id) e.0 ≡ false → node_at (e ∷ es) id ≡ node_at es id
other_node e es id apart = rw apart

-- an id stands once
pub none_behind : (e : ℕ × NodeValue) (es : List (ℕ × NodeValue)) (id : ℕ) → Rises (e ∷ es)
    → is_at (nat_cmp id) e.0 ≡ true → node_at es id ≡ None
none_behind e es id rising here =
    lookup-none (is_at (nat_cmp id)) es
    (none_past_head {eq = eq_by_cmp nat_cmp} (eq_by_cmp_equiv nat_cmp_total) id e es
    (IsDistinct-from_sorted nat_cmp (keys_of (e ∷ es)) rising) here)

-- a node behind the first stands under its id
pub behind_first : (e : ℕ × NodeValue) (es : List (ℕ × NodeValue)) (id : ℕ) (node : NodeValue)
    → Rises (e ∷ es) → node_at es id ≡ Some node → node_at (e ∷ es) id ≡ Some node
behind_first e es id node rising is =
    grind (arith, common_steps, none_behind e es id rising, is)

-- the link of an id is that of its node
pub link_there : (nodes : List (ℕ × NodeValue)) (id : ℕ)
    → link_of (links_of nodes) id ≡ option_map (node_link id) (node_at nodes id)
link_there [] id = refl
link_there (e ∷ es) id =
    grind (arith, common_steps, nat_tests, unsigned_tied id e.0, link_there es id)

-- the parent of an id is that of its node
pub parent_there : (nodes : List (ℕ × NodeValue)) (id : ℕ) (node : NodeValue)
    → node_at nodes id ≡ Some node → parent_of (links_of nodes) id ≡ node.parent
parent_there nodes id node is = rw (link_there nodes id, is)

-- where a parent is told there is a node
pub node_told : (nodes : List (ℕ × NodeValue)) (id above : ℕ)
    → parent_of (links_of nodes) id ≡ Some above → (node : NodeValue)
    × (node_at nodes id ≡ Some node) × (node.parent ≡ Some above)
node_told nodes id above is = elim (cases_Option (node_at nodes id)) [
  | inl none ↦ absurd (let nobody = rw (link_there nodes id, none) at is in cc)
  | inr some ↦ (some.0, some.1, sym (parent_there nodes id some.0 some.1) ∙ is)
]

-- an id has a link where it has a node
pub is_some_link : (nodes : List (ℕ × NodeValue)) (id : ℕ)
    → is_some (link_of (links_of nodes) id) ≡ is_some (node_at nodes id)
is_some_link nodes id = rw (link_there nodes id) (grind (arith, common_steps))

-- what is there, as an equation
pub some_of : {X : Type 0} (found : Option X) → is_some found ≡ true → (x : X) × (found ≡ Some x)
some_of None is = absurd cc
some_of (Some x) is = (x, refl)

-- a number above all ids
abbrev pub top_of : List (ℕ × NodeValue) → ℕ
top_of [] = 0
top_of (e ∷ es) = e.0 + 1 + top_of es

-- each id is below it
pub below_top : (nodes : List (ℕ × NodeValue)) (id : ℕ) → is_some (node_at nodes id) ≡ true
    → id < top_of nodes
below_top [] id is = absurd cc
below_top (e ∷ es) id is =
    grind (arith, common_steps, nat_tests, unsigned_tied id e.0, below_top es id)

-- ---- children

-- a sum above 0 has a part above 0
positive : (f : NodeValue → ℕ) (nodes : List (ℕ × NodeValue)) → 0 < sum_by f (values_of nodes)
    → (i key : ℕ) × (node : NodeValue) × (slice_get nodes i ≡ Some (key, node)) × (0 < f node)
positive f [] h = absurd (omega (arith, h))
positive f (e ∷ es) h = ⊎_elim
    (λ here. (0, e.0, e.1, refl, here))
    (λ none.
    let rest = positive f es (omega (arith, h, none, sum_by-cons f e.1 (values_of es))) in
    (suc rest.0, rest.1, rest.2, rest.3, rest.4))
    (cases_lt 0 (f e.1))

-- one for a child of this id, by its parent
abbrev pub one_for : ℕ → Option ℕ → ℕ
one_for id parent = option_map_or (λ above. if above == id then 1 else 0) parent 0

-- who is counted as a child is one
is_child : (id : ℕ) (node : NodeValue) → 0 < as_child id node → node.parent ≡ Some id
is_child id node h = grind (arith, common_steps, nat_tests, h)

-- a node that is somebody's child
pub child_is : (id : ℕ) (node : NodeValue) → node.parent ≡ Some id → as_child id node ≡ 1
child_is id node is = rw (is, eq-eqb id id refl)

-- a founder is nobody's child
pub founder_is : (id : ℕ) (node : NodeValue) → node.parent ≡ None → as_child id node ≡ 0
founder_is id node is = rw is

-- a node is the child of no other than its parent
pub child_apart : (id above : ℕ) (node : NodeValue) → node.parent ≡ Some above → above ≢ id
    → as_child id node ≡ 0
child_apart id above node is apart = rw (is, ne_eqb above id apart)

-- who has children has one among the nodes
pub child_exists : (nodes : List (ℕ × NodeValue)) (id : ℕ) → Rises nodes → 0 < children_of nodes id
    → (child : ℕ) × (node : NodeValue) × (node_at nodes child ≡ Some node) × (node.parent ≡ Some id)
child_exists nodes id rising h =
    let p = positive (as_child id) nodes h in (
      p.1,
      p.2,
      lookup_from_place {eq = eq_by_cmp nat_cmp} (eq_by_cmp_equiv nat_cmp_total) nodes p.0
          p.1 p.2 (IsDistinct-from_sorted nat_cmp (keys_of nodes) rising) p.3,
      is_child id p.2 p.4,
    )

-- a child is counted
pub child_counts : (nodes : List (ℕ × NodeValue)) (id child : ℕ) (node : NodeValue)
    → node_at nodes child ≡ Some node → as_child id node ≤ children_of nodes id
child_counts nodes id child node is =
    omega (
      arith,
      sum_by-remove_entry (as_child id) (is_at (nat_cmp child)) nodes,
      ap (λ (o : Option NodeValue). unwrap_or (option_map (as_child id) o) 0) is,
    )

-- there are no more children than nodes
pub children_few : (nodes : List (ℕ × NodeValue)) (id : ℕ) → children_of nodes id ≤ length nodes
children_few [] id = omega arith
children_few (e ∷ es) id =
    let one : as_child id e.1 ≤ 1 = grind (arith, common_steps) in
    omega (arith, sum_by-cons (as_child id) e.1 (values_of es), children_few es id, one)
