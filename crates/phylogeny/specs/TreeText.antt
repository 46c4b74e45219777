-- Who descends from whom in a log, and what its tree looks like as text (docs/WORLD.md, "Trees of
-- descent"; docs/FORMATS.md, "Tree lines").
use Rattle.std.specs.Prelude.{ℕ, ◌==◌, List, [], ◌∷◌, map, flat_map, Option, Some, None, if◌then◌else◌, ◌++◌, length, codes}
use Rattle.std.specs.Option.{option_or}
use Rattle.log_lines.specs.Line.{Line, Start, Birth, Injected}
use Rattle.lineage_log.specs.Replay.{Resident, replay_of}
use Rattle.phylogeny.specs.CommonAncestor.{Dweller, Pedigree, branches_of, depths_of, kept_ids_of, most_recent_common_ancestor}
use Rattle.log_lines.specs.LineText.{numbers_text}
use Rattle.phylogeny.specs.declared.depths.Depth.{Depth}

-- the parent that a line gives to an id: only the line of its birth does
abbrev pub parent_told : ℕ → Line → Option ℕ
parent_told id (Birth born parent update cell over birth) =
    if born == id then Some parent else None
parent_told id _ = None

-- the parent of an id, by the lines of a log
abbrev pub parent_by_lines : List Line → ℕ → Option ℕ
parent_by_lines [] id = None
parent_by_lines (line ∷ lines) id = option_or (parent_told id line) (parent_by_lines lines id)

-- the id of the organism that comes by a line
abbrev pub newcomer : Line → List ℕ
newcomer (Start version width height cell genome) = 0 ∷ []
newcomer (Birth id parent update cell over birth) = id ∷ []
newcomer (Injected id update cell over genome) = id ∷ []
newcomer _ = []

-- who lives at the end of a log, without the genome
abbrev pub dweller : Resident → Dweller
dweller r = record { cell = r.cell; id = r.id }

-- the pedigree that a log tells
unfoldable pub pedigree_of : List Line → Pedigree
pedigree_of lines = record {
  parent_of = parent_by_lines lines;
  everyone = flat_map newcomer lines;
  living = map dweller (replay_of lines);
}

-- the line of one who lives
abbrev pub depth_line : Depth → List ℕ
depth_line d =
    codes "T" ++ numbers_text (d.cell ∷ d.id ∷ d.depth ∷ d.founder ∷ []) ++ codes "\n"

-- the line of the latest common ancestor, with a dash where there is none
abbrev pub ancestor_line : Option ℕ → List ℕ
ancestor_line None = codes "A -\n"
ancestor_line (Some id) = codes "A" ++ numbers_text (id ∷ []) ++ codes "\n"

-- the last line: how many ids are kept, and how many of these are branches
abbrev pub shape_line : Pedigree → List ℕ
shape_line p =
    codes "K" ++ numbers_text (length (kept_ids_of p) ∷ length (branches_of p) ∷ []) ++ codes "\n"

-- the tree of a log
abbrev pub tree_text : List Line → List ℕ
tree_text lines =
    let p = pedigree_of lines in
    flat_map depth_line (depths_of p) ++ ancestor_line (most_recent_common_ancestor p)
    ++ shape_line p
