use Rattle.std.proofs.Common.{◌∙◌, List, Option, ap, get_or, sym, None, Some}
use Rattle.std.specs.Prelude.{option_map, slice_get}
use Rattle.world_core.proofs.Prelude.{Letter, Occupant, World, occupant_genome, WorldValue, world_in}
use Rattle.world_core.specs.declared.world.Present.TheInside.{Inside}
use Rattle.world_core.proofs.world.Present.handle_at.Goals as goal

pub returns : goal.returns
returns c =
    let bank = ap (λ (w : Inside). w.scene.bank) c.self-inside.view_is
    ∙ ap (λ (v : WorldValue). v.bank) c.self.view_is in
    let cells = ap (λ (w : Inside). w.scene.cells) c.self-inside.view_is in
    let world = c.self.invariant.0.world ∙ ap world_in c.self.view_is in
    ap (λ (bank : List (List Letter)). option_map (λ number. slice_get bank number)
    c.number_at.result) (sym bank)
    ∙ c.number_at.ensures
    ∙ ap (λ (cells : List (Option Occupant)). option_map (λ genome. Some genome)
    (occupant_genome (get_or cells c.args.cell None))) cells
    ∙ ap (λ (w : World). option_map (λ genome. Some genome)
    (occupant_genome (get_or w.cells c.args.cell None))) world
