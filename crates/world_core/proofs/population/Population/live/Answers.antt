use Rattle.std.proofs.Common.{◌≡◌, ◌∙◌, ◌+◌, ◌<◌, ◌≤◌, ◌^◌, All, List, None, Option, ap, arith, get_or, length, map, Ok, subst, sum, sym, ℕ}
use Rattle.world_core.proofs.Prelude.{IfOk-at_ok, left_in, part_from, shard_lives_of, length-map, round_numbers, standing_in, Letter, slices_of, values_of, lives_of, merit_in, slices_at, Delivery, births_of, Occupant, AreBounded, AreBoundedLives, occupants_of, IsKeptOf, PopulationValue, merit_or_zero, occupant_genome, TakesIn, deliveries_in, delivery_at, departure_by}
use Rattle.world_core.proofs.BoundLemmas.{lives-bounded, lives-keep}
use Rattle.world_core.proofs.CellTableLemmas.{occupants_of-length}
use Rattle.world_core.proofs.CountLemmas.{GoesOn}
use Rattle.world_core.proofs.KeptOfLemmas.{IsKeptOf-more}
use Rattle.world_core.proofs.LivedLemmas.{LiveApart, cells-long, goes-on, lived-births, lived-cells, lived-dead, lived-length, merits-fit, slices-are, young-are}
use Rattle.world_core.proofs.TurnLemmas.{AreRead, IsRead, all-counted, can-count-here, counted-here}
use Rattle.world_core.proofs.population.Population.live.Given as given
use Rattle.world_core.proofs.population.Population.live.Goals.{After-index-in-loop-cell-2, In-loop-cell, In_ok-genotypes}
use Rattle.world_core.proofs.population.Population.live.Goals as goal

-- what the shards gave
module _ (g : given.Over) (c : In_ok-genotypes g) where
  -- the call gave it
  given_by : c.live_in_shards-ended.result
      ≡ Ok (c.in_ok-genotypes.genotypes, c.in_ok-genotypes.ended, c.in_ok-genotypes.outcome)
  given_by = c.in_ok-genotypes.ensures.0

  -- the cells
  cells_by : c.in_ok-genotypes.ended.organisms.items ≡ map left_in
      (shard_lives_of (round_numbers c.round_at-round.result)
      (part_from 0 c.cells.inside.organisms.items c.in_ok-slices.slices.items))
  cells_by = IfOk-at_ok _ given_by c.live_in_shards-ended.ensures.cells

  -- what is counted of them
  standings_by : c.in_ok-genotypes.ended.standings.items
      ≡ map standing_in c.in_ok-genotypes.ended.organisms.items
  standings_by = IfOk-at_ok _ given_by c.live_in_shards-ended.ensures.standings

  -- the bank
  bank_by : TakesIn c.self.inside.genotypes c.in_ok-genotypes.genotypes
      c.in_ok-genotypes.ended.births.items
  bank_by = IfOk-at_ok _ given_by c.live_in_shards-ended.ensures.bank

-- the cells as their shards had them
apart : (g : given.Over) (c : In_ok-genotypes g)
    → LiveApart (values_of c.args.config.now) (c.args.update + 1) c.args.self.cells
    c.cells.inside.organisms.items c.cells.inside.ids.items c.in_ok-slices.slices.items
    (round_numbers c.round_at-round.result)
apart g c = record {
  long = c.cells.invariant.long;
  were = c.cells.view_is ∙ ap (λ (p : PopulationValue). p.cells) c.self.view_is;
  bought = c.in_ok-slices.ensures.slices;
  shared = c.round_at-round.ensures;
}

-- no cell had too many steps
few : (g : given.Over) (c : In_ok-genotypes g) → (place : ℕ)
    → get_or (slices_at (values_of c.args.config.now) c.args.self.cells) place 0 < 2 ^ 27
few g c = subst (λ (steps : List ℕ). (place : ℕ) → get_or steps place 0 < 2 ^ 27)
    (apart g c).bought c.in_ok-slices.ensures.few

-- whoever is left in a cell stood there before
goes : (g : given.Over) (c : In_ok-genotypes g) → (place : ℕ)
    → GoesOn (get_or c.cells.inside.organisms.items place None)
    (get_or c.in_ok-genotypes.ended.organisms.items place None)
goes g c = goes-on (apart g c) c.in_ok-genotypes.ended.organisms.items
    (cells_by g c)
    (λ place. (let kept = lives-keep (values_of c.args.config.now) c.args.update c.args.self.cells
    c.requires.bounded c.requires.lives (few g c) place in (kept.cell, kept.genome)))

-- what the count reads of the cells
lists : (g : given.Over) (c : In_ok-genotypes g)
    → AreRead c.cells.inside.organisms.items c.in_ok-genotypes.ended.organisms.items
    c.self.inside.keys.items c.cells.inside.standings.items
    c.in_ok-genotypes.ended.standings.items
lists g c = record {
  keyed = c.self.invariant.genotypes.size ∙ length-map c.self.inside.cells occupant_genome
      ∙ ap (λ (p : PopulationValue). length p.cells) c.self.view_is ∙ cells-long (apart g c);
  before_are = c.cells.invariant.counted;
  after_are = (standings_by g c);
}

-- there are as many organisms and gaps as before
left-long : (g : given.Over) (c : In_ok-genotypes g)
    → length c.in_ok-genotypes.ended.organisms.items ≡ length c.cells.inside.organisms.items
left-long g c = sym (lived-length (apart g c) c.in_ok-genotypes.ended.organisms.items
    (cells_by g c)) ∙ c.cells.invariant.long

-- somebody or nobody is left in the cell of a turn
inside : (g : given.Over) (c : In-loop-cell g)
    → c.loop-cell.cell < length c.in_ok-genotypes.ended.organisms.items
inside g c = omega (
  arith,
  c.loop-cell-test.true,
  c.len-cell-end.ensures,
  c.in_ok-genotypes.ended.organisms.ok.0,
)

-- what is read of that cell
read : (g : given.Over) (c : After-index-in-loop-cell-2 g)
    → IsRead c.self.inside.keys.items c.cells.inside.standings.items
    c.in_ok-genotypes.ended.standings.items c.loop-cell.cell c.index.result.now
    c.index-in-loop-cell.result.now c.index-in-loop-cell-2.result.now
read g c = record {
  key_is = c.index.ensures;
  was_is = c.index-in-loop-cell.ensures;
  now_is = c.index-in-loop-cell-2.ensures;
}

pub live_in_shards-ended-requires-clause-cells : goal.live_in_shards-ended-requires-clause-cells
live_in_shards-ended-requires-clause-cells g c l b =
    let long = occupants_of-length c.cells.inside.organisms.items c.cells.inside.ids.items
    c.cells.invariant.long in (
      omega (
        arith,
        c.requires.some,
        long,
        ap length c.cells.view_is,
        ap (λ (p : PopulationValue). length p.cells) c.self.view_is,
      ),
      omega (arith, long, ap length c.cells.view_is, c.self.invariant.sums.few),
    )

pub live_in_shards-ended-requires-clause-slices : goal.live_in_shards-ended-requires-clause-slices
live_in_shards-ended-requires-clause-slices g c l b =
    omega (
      arith,
      c.in_ok-slices.ensures.length,
      occupants_of-length c.cells.inside.organisms.items c.cells.inside.ids.items
          c.cells.invariant.long,
      ap length c.cells.view_is,
      ap (λ (p : PopulationValue). length p.cells) c.self.view_is,
    )

pub live_in_shards-ended-requires-clause-young : goal.live_in_shards-ended-requires-clause-young
live_in_shards-ended-requires-clause-young g c l b =
    young-are c.args.update c.cells.inside.organisms.items c.cells.inside.ids.items
    c.cells.invariant.long c.requires.update
    (subst (AreBounded c.args.update)
    (sym (c.cells.view_is ∙ ap (λ (p : PopulationValue). p.cells) c.self.view_is))
    c.requires.bounded)

pub loop-cell-init : goal.loop-cell-init
loop-cell-init g c =
    subst (λ (p : PopulationValue).
    IsKeptOf p.cells p.bank c.self.inside.keys.items c.self.inside.census) c.self.view_is
    c.self.invariant

pub index-requires : goal.index-requires
index-requires g c =
    let at = goal.at.index-requires g c in
    omega (
      arith,
      inside g at.In-loop-cell,
      left-long g at.In_ok-genotypes,
      (lists g at.In_ok-genotypes).keyed,
      c.self.inside.keys.ok.0,
    )

pub index-requires-in-loop-cell : goal.index-requires-in-loop-cell
index-requires-in-loop-cell g c =
    let at = goal.at.index-requires-in-loop-cell g c in
    omega (
      arith,
      inside g at.In-loop-cell,
      left-long g at.In_ok-genotypes,
      ap length c.cells.invariant.counted,
      length-map c.cells.inside.organisms.items standing_in,
      c.cells.inside.standings.ok.0,
    )

pub index-requires-in-loop-cell-2 : goal.index-requires-in-loop-cell-2
index-requires-in-loop-cell-2 g c =
    let at = goal.at.index-requires-in-loop-cell-2 g c in
    omega (
      arith,
      inside g at.In-loop-cell,
      ap length (standings_by g at.In_ok-genotypes),
      length-map c.in_ok-genotypes.ended.organisms.items standing_in,
      c.in_ok-genotypes.ended.standings.ok.0,
    )

pub count_change-requires : goal.count_change-requires
count_change-requires g c =
    let at = goal.at.count_change-requires g c in
    let before = at.In_ok-genotypes in
    can-count-here (apart g before) (cells_by g before) c.one_index.ensures.list
    (lists g before) c.args.self.bank c.loop-cell.census c.loop-cell.census
    c.loop-cell.cell (inside g at.In-loop-cell) (goes g before c.loop-cell.cell)
    c.loop-cell.invariant (read g at.After-index-in-loop-cell-2)

pub loop-cell-preserved : goal.loop-cell-preserved
loop-cell-preserved g c =
    let at = goal.at.loop-cell-preserved g c in
    let before = at.In_ok-genotypes in
    counted-here (apart g before) (cells_by g before) c.one_index.ensures.list
    (lists g before) c.args.self.bank c.loop-cell.census c.count_change.new.census
    c.loop-cell.cell (inside g at.In-loop-cell) (goes g before c.loop-cell.cell)
    c.loop-cell.invariant (read g at.After-index-in-loop-cell-2) c.count_change.ensures

pub invariant_of-population : goal.invariant_of-population
invariant_of-population g c =
    let before = (goal.at.invariant_of-population g c).In_ok-genotypes in
    record {
      long = lived-length (apart g before) c.in_ok-genotypes.ended.organisms.items
          (cells_by g before);
      counted = standings_by g before;
    }

pub invariant_of-population-2 : goal.invariant_of-population-2
invariant_of-population-2 g c =
    let before = (goal.at.invariant_of-population-2 g c).In_ok-genotypes in
    let keys = c.self.inside.keys.items in
    let counts = c.loop-cell.census in
    let left = occupants_of c.in_ok-genotypes.ended.organisms.items c.cells.inside.ids.items in
    let counted = all-counted (apart g before) (cells_by g before) c.loop-cell.cell
    c.args.self.bank keys counts
    (omega (
      arith,
      c.loop-cell-test.false,
      c.len-cell-end.ensures,
      c.in_ok-genotypes.ended.organisms.ok.0,
    ))
    c.loop-cell.invariant in
    IsKeptOf-more c.one_index.ensures.list left c.self.inside.genotypes c.in_ok-genotypes.genotypes
    keys counts (bank_by g before).stays
    (IfOk-at_ok _ (given_by g before) c.live_in_shards-ended.ensures.different)
    (subst (λ (bank : List (List Letter)). IsKeptOf left bank keys counts)
    (sym (ap (λ (p : PopulationValue). p.bank) c.self.view_is)) counted)

pub returns-clause-cells : goal.returns-clause-cells
returns-clause-cells g c =
    let before = (goal.at.returns-clause-cells g c).In_ok-genotypes in
    lived-cells (apart g before) c.in_ok-genotypes.ended.organisms.items (cells_by g before)

-- the ids are those of the cells
copied : (g : given.Over) (c : In_ok-genotypes g)
    → c.in_ok-genotypes.ids_before.items ≡ c.cells.inside.ids.items
copied g c = IfOk-at_ok _ c.in_ok-genotypes.ensures.1 c.copy_of-ids_before.ensures
    ∙ c.deref.ensures.value

-- the newborns are those of the cells' lives
born : (g : given.Over) (c : In_ok-genotypes g)
    → map (delivery_at c.in_ok-genotypes.ids_before.items) c.in_ok-genotypes.ended.births.items
    ≡ births_of (lives_of (values_of c.args.config.now) (c.args.update + 1) c.args.self.cells)
born g c = (λ i. map (delivery_at (copied g c i)) c.in_ok-genotypes.ended.births.items)
    ∙ lived-births (apart g c) c.in_ok-genotypes.ended.births.items
    (IfOk-at_ok _ (given_by g c) c.live_in_shards-ended.ensures.births)

pub returns-clause-births : goal.returns-clause-births
returns-clause-births g c = born g (goal.at.returns-clause-births g c).In_ok-genotypes

pub returns-clause-dead : goal.returns-clause-dead
returns-clause-dead g c =
    let before = (goal.at.returns-clause-dead g c).In_ok-genotypes in
    lived-dead (apart g before) c.in_ok-genotypes.ended.dead.items _
    (IfOk-at_ok _ (given_by g before) c.live_in_shards-ended.ensures.dead)
    (ap (λ (ids : List ℕ). map (departure_by ids) c.in_ok-genotypes.ended.dead.items)
    (copied g before))

pub returns-clause-bank : goal.returns-clause-bank
returns-clause-bank g c =
    let newborns = c.in_ok-genotypes.ended.births.items in
    subst (λ (old : List (List Letter)). TakesIn old c.in_ok-genotypes.genotypes newborns)
    (ap (λ (p : PopulationValue). p.bank) c.self.view_is)
    (bank_by g (goal.at.returns-clause-bank g c).In_ok-genotypes)

pub returns-clause-bounds : goal.returns-clause-bounds
returns-clause-bounds g c =
    let before = (goal.at.returns-clause-bounds g c).In_ok-genotypes in
    let live = apart g before in
    let config = values_of c.args.config.now in
    let cells = c.args.self.cells in
    let total : sum (slices_at config cells) < 2 ^ 27 =
    subst (λ (steps : List ℕ). sum steps < 2 ^ 27) live.bought
    (omega (arith, c.in_ok-slices.ensures.total)) in
    let many : length (slices_at config cells) ≡ length cells =
    omega (arith, ap length live.bought, c.in_ok-slices.ensures.length) in
    let bounded = lives-bounded config c.args.update cells c.requires.bounded c.requires.lives
    (few g before) many total in
    let cells_are = lived-cells live c.in_ok-genotypes.ended.organisms.items (cells_by g before) in
    subst (λ (all : List Delivery). AreBoundedLives config (c.args.update + 1)
    (occupants_of c.in_ok-genotypes.ended.organisms.items c.cells.inside.ids.items) all)
    (sym (born g before))
    (subst (λ (left : List (Option Occupant)). AreBoundedLives config (c.args.update + 1) left
    (births_of (lives_of config (c.args.update + 1) cells))) (sym cells_are) bounded)
