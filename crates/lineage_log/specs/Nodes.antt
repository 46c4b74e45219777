-- The nodes of a tree, as they are kept: under each id an organism, with the number of its children
-- that are nodes.
use Rattle.std.specs.Prelude.{◌≡◌, ◌≢◌, ℕ, ◌<◌, ◌==◌, ◌||◌, nat_eq, nat_lt, Bool, false, List, [], ◌∷◌, filter, map, if◌then◌else◌, Option, None, Some, IsSome}
use Rattle.lineage_log.specs.Prelude.{sum_by, keys_of, values_of, lookup, option_map_or, Letter, BirthRecord}
use Rattle.std.specs.BTreeMap.{insert_entry, is_at}
use Rattle.std.specs.List.Sorted.{IsStrictlySortedBy}
use Rattle.std.specs.Ordering.{nat_cmp}
use Rattle.lineage_log.specs.Ancestry.{Link, TreeValue}

-- an organism without its id, how many of its children are nodes, and whether it lives
pub record NodeValue : Type 0 where
  pub parent : Option ℕ
  pub update : ℕ
  pub cell : ℕ
  pub origin : Option BirthRecord
  pub genome : List Letter
  pub children : ℕ
  pub lives : Bool

-- the link of a node
abbrev pub node_link : ℕ → NodeValue → Link
node_link id node = record {
  id = id;
  parent = node.parent;
  update = node.update;
  cell = node.cell;
  origin = node.origin;
  genome = node.genome;
}

-- the node of an id
abbrev pub node_at : List (ℕ × NodeValue) → ℕ → Option NodeValue
node_at nodes id = lookup (is_at (nat_cmp id)) nodes

-- nodes in order of their ids
abbrev pub id_order : List (ℕ × NodeValue) → List (ℕ × NodeValue)
id_order [] = []
id_order (e ∷ es) = insert_entry nat_cmp (id_order es) e.0 e.1

-- it lives, or has a child among the nodes
abbrev pub is_needed : NodeValue → Bool
is_needed node = node.lives || nat_lt 0 node.children

-- the links of the nodes
abbrev pub links_of : List (ℕ × NodeValue) → List Link
links_of nodes = map (λ (e : ℕ × NodeValue). node_link e.0 e.1) nodes

-- the ids of those that live
abbrev pub living_ids_of : List (ℕ × NodeValue) → List ℕ
living_ids_of nodes = keys_of (filter (λ (e : ℕ × NodeValue). e.1.lives) nodes)

-- the tree of the nodes
abbrev pub tree_of : List (ℕ × NodeValue) → TreeValue
tree_of nodes = record { links = links_of nodes; living = living_ids_of nodes }

-- one for a child of this id
abbrev pub as_child : ℕ → NodeValue → ℕ
as_child id node = option_map_or (λ above. if above == id then 1 else 0) node.parent 0

-- how many of an id's children are nodes
abbrev pub children_of : List (ℕ × NodeValue) → ℕ → ℕ
children_of nodes id = sum_by (as_child id) (values_of nodes)

-- the parent has a lower id and is a node too, and the children are counted
pub record IsInFamily (nodes : List (ℕ × NodeValue)) (id : ℕ) (node : NodeValue) : Type 0 where
  pub older : (above : ℕ) → node.parent ≡ Some above → above < id
  pub there : (above : ℕ) → node.parent ≡ Some above → IsSome (node_at nodes above)
  pub counted : node.children ≡ children_of nodes id

-- ids rise, and so is each node
pub record AreFamilies (nodes : List (ℕ × NodeValue)) : Type 0 where
  pub rising : IsStrictlySortedBy nat_cmp (keys_of nodes)
  pub each : (id : ℕ) (node : NodeValue)
      → node_at nodes id ≡ Some node → IsInFamily nodes id node

-- each node lives or has a child, but perhaps this one
abbrev pub AreNeededBut : Option ℕ → List (ℕ × NodeValue) → Type 0
AreNeededBut hole nodes =
    (id : ℕ) (node : NodeValue)
    → node_at nodes id ≡ Some node → node.lives ≡ false → hole ≢ Some id → 0 < node.children

-- the nodes of a tree: no node is there in vain
pub record AreNodes (nodes : List (ℕ × NodeValue)) : Type 0 where
  pub families : AreFamilies nodes
  pub needed : AreNeededBut None nodes

-- one node was changed: it stays where it is needed, and else it goes and its parent is next
pub record IsSettled (before after : List (ℕ × NodeValue)) (id : ℕ) (node : NodeValue)
    (next : Option ℕ) : Type 0 where
  pub found : (other : ℕ) → lookup (nat_eq other) after
      ≡ (if nat_eq id other then (if is_needed node then Some node else None)
      else lookup (nat_eq other) before)
  pub above : next ≡ (if is_needed node then None else node.parent)
