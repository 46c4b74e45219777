use Rattle.std.proofs.Common.{◌≡◌, ◌∙◌, ap, get_or, None, List, subst, sym}
use Rattle.world_core.proofs.Prelude.{get_or-set_same, on_ok_weaker, Letter, CanStand, SceneValue}
use Rattle.world_core.proofs.ComingLemmas.{died_is, left_scene, put_over_is}
use Rattle.world_core.proofs.scene.Scene.put_over.Goals.{In_ok-kill}
use Rattle.world_core.proofs.scene.Scene.put_over.Goals as goal

-- who stood there has died
died : (c : In_ok-kill) → c.kill.new.self ≡ left_scene c.args.self.now c.args.cell
died c =
    died_is c.args.self.now c.kill.new.self c.args.cell c.in_ok-kill.ensures.scene
    c.in_ok-kill.ensures.bank c.in_ok-kill.ensures.first

pub put-requires-clause-empty : goal.put-requires-clause-empty
put-requires-clause-empty c =
    ap (λ (s : SceneValue). get_or s.cells c.args.cell None)
    (died (goal.at.put-requires-clause-empty c).In_ok-kill)
    ∙ get_or-set_same c.args.self.now.cells c.args.cell None None c.requires.cell

pub put-requires-clause-organism : goal.put-requires-clause-organism
put-requires-clause-organism c =
    subst (λ (bank : List (List Letter)). CanStand bank c.args.number c.args.organism)
    (sym c.in_ok-kill.ensures.bank) c.requires.organism

pub returns : goal.returns
returns c =
    let gone = died (goal.at.returns c).In_ok-kill in
    on_ok_weaker c.put.result
    (λ came. put_over_is c.args.self.now c.kill.new.self c.put.new.self c.args.cell
    (record { id = c.args.id; organism = c.args.organism }) gone came) c.put.ensures
