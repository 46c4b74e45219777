-- Who descends from whom: depths, founders and the latest common ancestor (docs/WORLD.md, "Trees of
-- descent").
use Rattle.std.specs.Prelude.{ℕ, List, Option, ◌-◌, ◌==◌, Bool, false, nat_le, length, filter, map, count_by, max, None, unwrap_or, ◌≡◌, ◌≢◌, ◌⊎◌, ◌≤◌, [], All, Contains, IsTrue, Some}
use Rattle.lineage_log.specs.Ancestry.{ancestors_within}
use Rattle.std.specs.List.{last_or, list_all, list_any, reduce}
use Rattle.std.specs.Option.{option_map_or}
use Rattle.phylogeny.specs.declared.depths.Depth.{Depth}

-- an organism that lives, and its cell
pub record Dweller : Type 0 where
  pub cell : ℕ
  pub id : ℕ

-- the parent of each id but a founder's, the ids of all ever, rising, and who lives, by cells
pub record Pedigree : Type 0 where
  pub parent_of : ℕ → Option ℕ
  pub everyone : List ℕ
  pub living : List Dweller

-- an id, its parent, and so on to a founder: parents have lower ids, so at most `id` generations
abbrev pub ancestors_of : Pedigree → ℕ → List ℕ
ancestors_of p id = ancestors_within id p.parent_of id

-- the founder of an id: the last of its ancestors, of which there is at least one
abbrev pub founding_ancestor_of : Pedigree → ℕ → ℕ
founding_ancestor_of p id = unwrap_or (last_or None (ancestors_of p id)) 0

-- the depth, which is how many generations one is from its founder, and the founder of who lives
abbrev pub depth_at : Pedigree → Dweller → Depth
depth_at p who = record {
  cell = who.cell;
  id = who.id;
  depth = length (ancestors_of p who.id) - 1;
  founder = founding_ancestor_of p who.id;
}

-- the same of each who lives, in order of cells
unfoldable pub depths_of : Pedigree → List Depth
depths_of p = map (depth_at p) p.living

-- this id stands in the line of who lives
abbrev pub descends_from : Pedigree → ℕ → Dweller → Bool
descends_from p ancestor who = list_any (λ id. id == ancestor) (ancestors_of p who.id)

-- this id stands in the line of somebody who lives
abbrev pub is_kept_id : Pedigree → ℕ → Bool
is_kept_id p id = list_any (descends_from p id) p.living

-- this id stands in the line of everybody who lives
abbrev pub is_common : Pedigree → ℕ → Bool
is_common p id = list_all (descends_from p id) p.living

-- the ids that stand in the line of somebody who lives
unfoldable pub kept_ids_of : Pedigree → List ℕ
kept_ids_of p = filter (is_kept_id p) p.everyone

-- the greatest id in the line of everybody who lives, if there is one
unfoldable pub most_recent_common_ancestor : Pedigree → Option ℕ
most_recent_common_ancestor p = reduce max (filter (is_common p) (kept_ids_of p))

-- the second id is a child of the first
abbrev pub is_child : Pedigree → ℕ → ℕ → Bool
is_child p parent id = option_map_or (λ above. above == parent) (p.parent_of id) false

-- this id has at least two children that are kept
abbrev pub is_branch : Pedigree → ℕ → Bool
is_branch p id = nat_le 2 (count_by (is_child p id) (kept_ids_of p))

-- the kept ids that have at least two children that are kept
unfoldable pub branches_of : Pedigree → List ℕ
branches_of p = filter (is_branch p) (kept_ids_of p)

-- the greatest common id, with the founder of all; none where nobody lives, or founders differ
abbrev pub TellsLatestCommon : Pedigree → Option ℕ → Type 0
TellsLatestCommon p (Some id) =
    IsTrue (is_common p id) × ((other : ℕ) → IsTrue (is_common p other) → other ≤ id)
    × All (λ who. founding_ancestor_of p who.id ≡ founding_ancestor_of p id) p.living
TellsLatestCommon p None = (p.living ≡ [])
    ⊎ ((one : Dweller) × (other : Dweller) × Contains p.living one × Contains p.living other
    × (founding_ancestor_of p one.id ≢ founding_ancestor_of p other.id))
