-- The order of the lines of a saved world (docs/FORMATS.md, "Saved worlds"): which line may stand
-- where, and the state that they tell.
use Rattle.std.specs.Prelude.{ℕ, ◌*◌, ◌^◌, ◌==◌, ◌&&◌, Bool, true, not, nat_lt, nat_le, List, [], ◌∷◌, ◌++◌, length, fold, replicate, Option, None, Some, if◌then◌else◌, slice_set}
use Rattle.std.specs.List.{list_all}
use Rattle.virtual_cpu.specs.declared.cpu_image.CpuImage.{CpuImage}
use Rattle.virtual_cpu.specs.View.{machine_of_image}
use Rattle.world_rules.specs.World.{Occupant}
use Rattle.saved_lines.specs.SavedText.{SavedLine, Head, Organism, Machine as MachineLine, Count}
use Rattle.saved_lines.specs.SavedValues.{HeadValues, OrganismValues}
use Rattle.saved_worlds.specs.SavedState.{SavedState}

-- an organism of a saved world, in its cell
pub record Placed : Type 0 where
  pub cell : ℕ
  pub occupant : Occupant

-- before the first line, between organisms, behind the line of an organism, or after the last line
pub data SavedPlace : Type 0 where
  Before : SavedPlace
  Among : HeadValues → List Placed → SavedPlace
  Halfway : HeadValues → List Placed → OrganismValues → SavedPlace
  After : SavedState → SavedPlace

-- the cell is above those that came before
abbrev pub is_above : ℕ → List Placed → Bool
is_above cell placed = list_all (λ p. nat_lt p.cell cell) placed

-- nobody before has this id
abbrev pub is_new : ℕ → List Placed → Bool
is_new id placed = list_all (λ p. not (p.occupant.id == id)) placed

-- it has not reached the age of death
abbrev pub is_young : HeadValues → OrganismValues → Bool
is_young head o =
    if head.death then nat_lt o.age (head.age_limit * length o.genome) else true

-- the line of an organism may come: cell, id, merit, its genome's length and its age are in order
abbrev pub may_stand : HeadValues → List Placed → OrganismValues → Bool
may_stand head placed o =
    nat_lt o.cell (head.width * head.height)
    && is_above o.cell placed
    && nat_lt o.id head.next_id
    && is_new o.id placed
    && (nat_le 1 o.merit && nat_le o.merit (2 ^ 38))
    && (nat_le head.rules.least (length o.genome) && nat_le (length o.genome) head.rules.greatest)
    && (nat_lt o.age (2 ^ 48) && nat_le o.read o.age)
    && is_young head o

-- a head is within memory
abbrev pub are_within : CpuImage → Bool
are_within image = list_all (λ head. nat_lt head (length image.memory)) image.heads

-- the line of a machine may follow: its texts have one length, not too long, with its heads within
abbrev pub may_follow : HeadValues → OrganismValues → CpuImage → Bool
may_follow head o image =
    (length image.clean == length image.memory)
    && (length image.executed == length image.memory)
    && (length image.copied == length image.memory)
    && nat_le (length image.memory) head.memory_limit
    && nat_le (length image.memory) ((if image.pending then 6 else 2) * length o.genome)
    && are_within image

-- the organism of its two lines, and its cell
abbrev pub placed_of : HeadValues → OrganismValues → CpuImage → Placed
placed_of head line image =
    record {
      cell = line.cell;
      occupant = record {
        id = line.id;
        organism = record {
          genome = line.genome;
          inputs = line.inputs;
          merit = line.merit;
          credited = line.credited;
          age = line.age;
          read = line.read;
          gestation = line.gestation;
          machine = machine_of_image image (length line.genome) head.memory_limit;
        };
      };
    }

-- an organism stands in its cell
abbrev pub with_placed : List (Option Occupant) → Placed → List (Option Occupant)
with_placed cells placed = slice_set cells placed.cell (Some placed.occupant)

-- the state of a head and its organisms
abbrev pub state_of_lines : HeadValues → List Placed → SavedState
state_of_lines head placed = record {
  head = head;
  cells = fold with_placed (replicate (head.width * head.height) None) placed;
}

-- the place after a line; none where the line doesn't fit
abbrev pub told_saved_line : SavedPlace → SavedLine → Option SavedPlace
told_saved_line Before (Head head) = Some (Among head [])
told_saved_line (Among head placed) (Organism o) =
    if may_stand head placed o then Some (Halfway head placed o) else None
told_saved_line (Halfway head placed o) (MachineLine image) =
    if may_follow head o image then Some (Among head (placed ++ placed_of head o image ∷ []))
    else None
told_saved_line (Among head placed) (Count organisms) =
    if organisms == length placed then Some (After (state_of_lines head placed)) else None
told_saved_line _ _ = None
