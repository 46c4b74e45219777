-- Somebody comes into a cell: a founder, or who stood there in a saved world.
use Rattle.std.proofs.Common.{◌≡◌, ◌∙◌, refl, ap, ℕ, ◌+◌, ◌<◌, ◌≤◌, ◌^◌, List, [], ◌∷◌, ◌++◌, Option, None, Some, length, set, slice_get, arith}
use Rattle.world_core.proofs.Prelude.{length-set, length_push, option_to_list, letters, Letter, Link, organism_of_image, OrganismState, new_organism, machine_of_image, ConfigValues, Scene, with_death, with_newcomer, Occupant, empty_cells, first_world, founder_link, founder_of, id_at, id_of, world_of, CanStand, SceneValue, scene_in, with_occupant}
use Rattle.organism.specs.declared.image.Image.{Image}
use Rattle.world_core.proofs.BoundedCells.{set_over}
use Rattle.world_core.proofs.StandingLemmas.{nobody}

-- the scene once who stood in the cell has died
abbrev pub left_scene : SceneValue → ℕ → SceneValue
left_scene s cell = record s {
  cells = set s.cells cell None;
  gone = s.gone ++ option_to_list (id_at s.cells cell);
}

-- a death changes nothing else
pub died_is : (before after : SceneValue) (cell : ℕ)
    → scene_in after ≡ with_death (scene_in before) cell → after.bank ≡ before.bank
    → after.first ≡ before.first → after ≡ left_scene before cell
unfolding with_death
died_is before after cell scene bank first = λ i. record {
  update = (scene i).update;
  cells = (scene i).cells;
  everyone = (scene i).everyone;
  first = first i;
  gone = (scene i).gone;
  bank = bank i;
}

-- who comes into the cell stands there alone
pub put_over_is : (before died last : SceneValue) (cell : ℕ) (o : Occupant)
    → died ≡ left_scene before cell
    → last ≡ record died { cells = set died.cells cell (Some o) }
    → last ≡ with_occupant before cell o
put_over_is before died last cell o gone came =
    rw (came, gone, set_over before.cells cell None (Some o))

-- the scene once somebody with this link is one of all, and the bank is another one
abbrev pub with_link : SceneValue → Link → List (List Letter) → SceneValue
with_link s link bank = record s { everyone = s.everyone ++ link ∷ []; bank = bank }

-- who is listed comes into the cell
pub found_is : (before now last : SceneValue) (link : Link) (bank : List (List Letter)) (id : ℕ)
    (made organism : OrganismState) → now ≡ with_link before link bank → id ≡ link.id
    → made ≡ organism → last ≡ with_occupant now link.cell (record { id = id; organism = made })
    → last ≡ with_occupant (with_link before link bank) link.cell
    (record { id = link.id; organism = organism })
found_is before now last link bank id made organism listed own same came =
    came
    ∙ (λ i. with_occupant (listed i) link.cell (record { id = own i; organism = same i }))

-- that is a newcomer
pub newcomer_is : (before : SceneValue) (link : Link) (bank : List (List Letter))
    (organism : OrganismState)
    → scene_in (with_occupant (with_link before link bank) link.cell
    (record { id = link.id; organism = organism }))
    ≡ with_newcomer (scene_in before) link organism
unfolding with_newcomer
newcomer_is before link bank organism = refl

-- a founder can come into a cell
pub founder-stands : (config : ConfigValues) (cell nth number : ℕ) (genome : List Letter)
    (bank : List (List Letter)) → slice_get bank number ≡ Some genome → length genome ≤ 8192
    → CanStand bank number (founder_of config cell nth genome)
unfolding founder_of new_organism
founder-stands config cell nth number genome bank is few =
    let young : 0 < 2 ^ 48 = omega arith in
    record { genome = is; age = young; merit = omega (arith, few) }

-- an image's organism with another genome
abbrev pub image_with : Image → ℕ → List Letter → OrganismState
image_with image limit genome = record (organism_of_image image limit) {
  genome = genome;
  machine = machine_of_image image.cpu (length genome) limit;
}

-- with an equal one it is the same
pub image_with_same : (image : Image) (limit : ℕ) (genome : List Letter)
    → genome ≡ letters image.genome.value
    → image_with image limit genome ≡ organism_of_image image limit
image_with_same image limit genome same = ap (image_with image limit) same

-- a newcomer leaves the number of cells
pub newcomer-size : (scene : Scene) (link : Link) (organism : OrganismState)
    → length (with_newcomer scene link organism).cells ≡ length scene.cells
unfolding with_newcomer
newcomer-size scene link organism =
    length-set scene.cells link.cell (Some (record { id = link.id; organism = organism }))

-- it is one more
pub newcomer-many : (scene : Scene) (link : Link) (organism : OrganismState)
    → length (with_newcomer scene link organism).everyone ≡ length scene.everyone + 1
unfolding with_newcomer
newcomer-many scene link organism = length_push scene.everyone link

-- the scene of update 0 before the founder comes
abbrev pub empty_scene : ConfigValues → SceneValue
empty_scene config = record {
  update = 0;
  cells = empty_cells config;
  everyone = [];
  first = 0;
  gone = [];
  bank = [];
}

-- once the founder has come it is that of the first world
pub first_world_is : (config : ConfigValues)
    → world_of (with_newcomer (scene_in (empty_scene config))
    (founder_link 0 0 config.founder_cell config.ancestor)
    (founder_of config config.founder_cell 0 config.ancestor)) ≡ first_world config
unfolding with_newcomer first_world
first_world_is config = refl

-- nobody dies when the founder comes
pub nobody_gone : (config : ConfigValues) (link : Link) (organism : OrganismState)
    → (with_newcomer (scene_in (empty_scene config)) link organism).gone ≡ []
unfolding with_newcomer
nobody_gone config link organism =
    ap (λ (slot : Option Occupant). option_to_list (id_of slot)) (nobody _ link.cell)
