use Rattle.std.proofs.Common.{◌≡◌, ◌∙◌, ◌≤◌, ◌^◌, All, List, Option, ap, arith, length, map, subst, sym}
use Rattle.world_core.proofs.Prelude.{IfOk-weaker, length-map, standing_in, merit_in, slices_of, merit_or_zero, values_of, Occupant, PopulationValue, occupants_of}
use Rattle.world_core.specs.declared.population.Population.TheInside.{Inside}
use Rattle.world_core.proofs.CellTableLemmas.{occupants_of-length}
use Rattle.world_core.proofs.LivedLemmas.{merits-fit, slices-are}
use Rattle.world_core.proofs.population.Population.slices.Goals.{After-deref}
use Rattle.world_core.proofs.population.Population.slices.Goals as goal

-- the organisms and the ids of the cells
were : (c : After-deref) → occupants_of c.self-inside.inside.0.0.organisms.items
    c.self-inside.inside.0.0.ids.items ≡ c.self.inside.cells
were c = ap (λ (p : Inside). p.cells) c.self-inside.view_is

-- there are as many standings as cells
many : (c : After-deref) → length c.deref.result.now ≡ length c.self.inside.cells
many c =
    let os = c.self-inside.inside.0.0.organisms.items in
    omega (
      arith,
      ap length c.deref.ensures.value,
      ap length c.self-inside.invariant.counted,
      length-map os standing_in,
      occupants_of-length os c.self-inside.inside.0.0.ids.items c.self-inside.invariant.long,
      ap length (were c),
    )

pub slices_by-requires-clause-cells : goal.slices_by-requires-clause-cells
slices_by-requires-clause-cells c = omega (arith, many c, c.self.invariant.sums.few)

pub slices_by-requires-clause-merits : goal.slices_by-requires-clause-merits
slices_by-requires-clause-merits c =
    merits-fit c.self-inside.inside.0.0.organisms.items c.self-inside.inside.0.0.ids.items
    c.deref.result.now c.self-inside.invariant.long
    (c.deref.ensures.value ∙ c.self-inside.invariant.counted)
    (subst (All (λ (slot : Option Occupant). merit_in slot ≤ 2 ^ 38)) (sym (were c))
    c.self.invariant.sums.fits)

pub returns-clause-slices : goal.returns-clause-slices
returns-clause-slices c =
    let here = (goal.at.returns-clause-slices c).After-deref in
    IfOk-weaker c.slices_by.result _ _ (λ slices are.
    slices-are (values_of c.args.config.now) c.args.self.now.cells
    c.self-inside.inside.0.0.organisms.items c.self-inside.inside.0.0.ids.items slices.items
    c.self-inside.inside.0.0.standings.items c.self-inside.invariant.long
    (were here ∙ ap (λ (p : PopulationValue). p.cells) c.self.view_is)
    c.self-inside.invariant.counted
    (are ∙ ap (λ all. slices_of (map merit_or_zero all) c.args.config.now.average_slices)
    c.deref.ensures.value)) c.slices_by.ensures.slices

pub returns-clause-length : goal.returns-clause-length
returns-clause-length c =
    IfOk-weaker c.slices_by.result _ _ (λ slices same. same
    ∙ many (goal.at.returns-clause-length c).After-deref
    ∙ ap (λ (p : PopulationValue). length p.cells) c.self.view_is) c.slices_by.ensures.length
