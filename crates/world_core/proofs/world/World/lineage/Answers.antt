use Rattle.std.proofs.Common.{◌∙◌, ap, Some}
use Rattle.std.specs.Prelude.{option_map}
use Rattle.world_core.proofs.Prelude.{WorldValue, world_in}
use Rattle.world_rules.specs.Descent.{descent_line_of, line_in}
use Rattle.world_core.proofs.world.World.lineage.Goals as goal

pub lineage-requires : goal.lineage-requires
lineage-requires c = c.self.invariant.standing c.in-Some.id c.in-Some.ensures.standing

pub returns-in_ok-lineage-in-Some : goal.returns-in_ok-lineage-in-Some
unfolding line_in
returns-in_ok-lineage-in-Some c =
    let now = c.self.inside.present in
    let here = world_in now in
    ap (λ path. Some path) (c.in_ok-lineage-in-Some.ensures here
    (c.ids_are_places.ensures now.config now.update) c.self.invariant)
    ∙ ap (option_map (descent_line_of here.everyone)) c.in-Some.ensures.id
    ∙ ap (λ (v : WorldValue). line_in (world_in v) c.args.cell) c.self.view_is

pub returns-in-None : goal.returns-in-None
unfolding line_in
returns-in-None c =
    ap (option_map (descent_line_of (world_in c.self.inside.present).everyone)) c.in-None.ensures.id
    ∙ ap (λ (v : WorldValue). line_in (world_in v) c.args.cell) c.self.view_is
