-- Who descends from whom, and a tree of those who are kept: the living and their ancestors
-- (docs/WORLD.md, "Lines of descent" and "Trees of descent").
use Rattle.std.specs.Prelude.{ℕ, List, Option, ◌≡◌, ◌<◌, zero, suc, ◌==◌, Bool, [], ◌∷◌, filter, filter_map, find, reverse, Some, option_and_then, All, ◌++◌, not, IsSome}
use Rattle.lineage_log.specs.Prelude.{Letter, BirthRecord, list_any, option_map_or}

-- one of all organisms ever in a world: where it came from, and its genome at birth
pub record Link : Type 0 where
  pub id : ℕ
  -- a founder has no parent and no origin
  pub parent : Option ℕ
  pub update : ℕ
  pub cell : ℕ
  pub origin : Option BirthRecord
  pub genome : List Letter

-- the link with this id
abbrev pub link_of : List Link → ℕ → Option Link
link_of links id = find (λ link. link.id == id) links

-- the parent of an id, which a founder has not
abbrev pub parent_of : List Link → ℕ → Option ℕ
parent_of links id = option_and_then (λ (link : Link). link.parent) (link_of links id)

-- each parent has a lower id than its child
abbrev pub AreOlder : List Link → Type 0
AreOlder links = (id above : ℕ) → parent_of links id ≡ Some above → above < id

-- an id, and its ancestors up to so many generations back
abbrev pub ancestors_within : ℕ → (ℕ → Option ℕ) → ℕ → List ℕ
ancestors_within zero parent_of id = id ∷ []
ancestors_within (suc generations) parent_of id =
    id ∷ option_map_or (ancestors_within generations parent_of) (parent_of id) []

-- an id, its parent, and so on to a founder: parents have lower ids, so at most `id` generations
abbrev pub ancestor_ids_of : List Link → ℕ → List ℕ
ancestor_ids_of links id = ancestors_within id (parent_of links) id

-- the line of descent of an organism, its founder first
unfoldable pub line_of_descent : List Link → ℕ → List Link
line_of_descent links id = reverse (filter_map (link_of links) (ancestor_ids_of links id))

-- an organism is the other one, or an ancestor of it
abbrev pub is_in_line : List Link → ℕ → ℕ → Bool
is_in_line links id other = list_any (λ ancestor. ancestor == id) (ancestor_ids_of links other)

-- an organism lives, or is an ancestor of one that lives
abbrev pub is_kept : List Link → List ℕ → ℕ → Bool
is_kept links living id = list_any (is_in_line links id) living

-- the links of those that live and of their ancestors
unfoldable pub kept_of : List Link → List ℕ → List Link
kept_of links living = filter (λ (link : Link). is_kept links living link.id) links

-- the links of a tree and the ids of those that live, both in the order of ids
pub record TreeValue : Type 0 where
  pub links : List Link
  pub living : List ℕ

-- its links are those of the living and of their ancestors
abbrev pub IsPruned : TreeValue → Type 0
IsPruned t = kept_of t.links t.living ≡ t.links

-- the genome of an organism of a tree
abbrev pub genome_in_tree : TreeValue → ℕ → List Letter
genome_in_tree t id = option_map_or (λ (link : Link). link.genome) (link_of t.links id) []

-- the tree of a founder alone
abbrev pub founded_by : Link → TreeValue
founded_by link = record { links = link ∷ []; living = link.id ∷ [] }

-- an organism comes
abbrev pub tree_with_newcomer : TreeValue → Link → TreeValue
tree_with_newcomer t link =
    record { links = t.links ++ link ∷ []; living = t.living ++ link.id ∷ [] }

-- the ids without this one
abbrev pub without_id : ℕ → List ℕ → List ℕ
without_id id ids = filter (λ other. not (other == id)) ids

-- an organism dies: the links of the living and of their ancestors are left
abbrev pub tree_with_death : TreeValue → ℕ → TreeValue
tree_with_death t id =
    record { links = kept_of t.links (without_id id t.living); living = without_id id t.living }

-- an organism can come: its id is above all ids, and its parent is there
pub record CanCome (t : TreeValue) (id : ℕ) (parent : Option ℕ) : Type 0 where
  pub newest : All (λ (link : Link). link.id < id) t.links
  pub there : (above : ℕ) → parent ≡ Some above → IsSome (link_of t.links above)
