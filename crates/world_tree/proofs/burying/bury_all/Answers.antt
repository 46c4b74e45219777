use Rattle.std.proofs.Common.{◌≡◌, ◌∙◌, ◌+◌, ap, sym, subst, length, get_or, ℕ, List, Some, arith}
use Rattle.std.specs.Prelude.{slice_get}
use Rattle.world_tree.proofs.Prelude.{slice_get-get_or, TreeValue, values_of, World, world_after, HasBuried, IsTreeOf, scene_after}
use Rattle.world_tree.proofs.EnterLemmas.{IsUpdate, next_is, update_is}
use Rattle.world_tree.proofs.BuryLemmas.{buried_all, buried_more, can_die}
use Rattle.world_tree.proofs.burying.bury_all.Goals.{After-keeping_goes_on, In-loop-id}
use Rattle.world_tree.proofs.burying.bury_all.Goals as goal

-- the update in which they died
update : (c : After-keeping_goes_on)
    → IsUpdate (world_after (values_of c.args.config.now) c.args.update)
    (scene_after (values_of c.args.config.now) c.args.update)
update c = update_is (values_of c.args.config.now) c.args.update c.organisms_come_and_go.ensures
    (c.ids_are_places.ensures (values_of c.args.config.now))

-- the id of a turn is the next of theirs
there : (c : In-loop-id)
    → slice_get (scene_after (values_of c.args.config.now) c.args.update).gone c.loop-id.id-index
    ≡ Some (get_or c.args.gone.now c.loop-id.id-index 0)
there c = ap (λ (ids : List ℕ). slice_get ids c.loop-id.id-index) (sym c.requires.gone)
    ∙ slice_get-get_or c.args.gone.now c.loop-id.id-index 0 c.loop-id-test.true

pub died-requires : goal.died-requires
died-requires c =
    let at = goal.at.died-requires c in
    can_die c.keeping_goes_on.ensures (update at.After-keeping_goes_on) c.loop-id.invariant
    (there at.In-loop-id)

pub loop-id-preserved : goal.loop-id-preserved
loop-id-preserved c =
    let at = goal.at.loop-id-preserved c in
    let more = buried_more c.keeping_goes_on.ensures (update at.After-keeping_goes_on)
    c.loop-id.invariant (there at.In-loop-id) in
    subst (λ (t : TreeValue). HasBuried (world_after (values_of c.args.config.now) c.args.update)
    (scene_after (values_of c.args.config.now) c.args.update) (c.loop-id.id-index + 1) t)
    (sym c.died.ensures) more

pub returns : goal.returns
returns c =
    let config = values_of c.args.config.now in
    let all : c.loop-id.id-index ≡ length (scene_after config c.args.update).gone =
    omega (arith, c.loop-id-test.false, c.loop-id.auto.id-index-end, ap length c.requires.gone)
    in
    subst (λ (w : World). IsTreeOf w c.loop-id.tree) (sym (next_is config c.args.update))
    (buried_all c.keeping_goes_on.ensures
    (update (goal.at.returns c).After-keeping_goes_on)
    (subst (λ count. HasBuried (world_after config c.args.update)
    (scene_after config c.args.update) count c.loop-id.tree) all c.loop-id.invariant))
