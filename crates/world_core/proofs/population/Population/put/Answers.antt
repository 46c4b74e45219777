use Rattle.std.proofs.Common.{◌≡◌, get_or, List, ℕ, None, Some, length, ◌<◌}
use Rattle.std.specs.Prelude.{slice_get}
use Rattle.world_core.proofs.Prelude.{Letter, Occupant, PopulationValue}
use Rattle.world_core.proofs.KeptOfLemmas.{IsKeptOf-put, can-add}
use Rattle.world_core.proofs.population.Population.put.Goals as goal

-- the cell is there and empty, and the genome has this number
record HasRoom (p : PopulationValue) (cell number : ℕ) (genome : List Letter) : Type 0 where
  within : cell < length p.cells
  empty : get_or p.cells cell None ≡ None
  number_is : slice_get p.bank number ≡ Some genome

-- what was required of the population holds of what it is made of
room_inside : {inside now : PopulationValue} {cell number : ℕ} {genome : List Letter}
    → inside ≡ now → cell < length now.cells → get_or now.cells cell None ≡ None
    → slice_get now.bank number ≡ Some genome → HasRoom inside cell number genome
room_inside is within empty number_is =
    rw is (record { within = within; empty = empty; number_is = number_is })

pub add-requires : goal.add-requires
add-requires c =
    let o : Occupant = record { id = c.args.id; organism = c.args.organism } in
    let room = room_inside c.self.view_is c.requires.cell c.requires.empty c.requires.number in
    rw (c.genome.ensures, c.standing-standing.ensures)
    (can-add c.one_index.ensures.list c.self.inside.cells c.self.inside.genotypes
    c.self.inside.keys.items c.self.inside.census c.self.inside.census c.args.cell room.within o
    c.args.number room.number_is room.empty c.requires.merit c.self.invariant)

pub invariant_of-self-2 : goal.invariant_of-self-2
invariant_of-self-2 c =
    let o : Occupant = record { id = c.args.id; organism = c.args.organism } in
    let room = room_inside c.self.view_is c.requires.cell c.requires.empty c.requires.number in
    let before = c.self.inside.census in
    let number = c.args.number in
    rw c.put.ensures (IsKeptOf-put c.one_index.ensures.list c.self.inside.cells
    c.self.inside.genotypes c.self.inside.keys.items before c.add.new.self c.args.cell room.within
    o number room.number_is room.empty c.requires.merit c.self.invariant
    (rw (c.genome.ensures, c.standing-standing.ensures) at c.in_ok-add.ensures.ok))
