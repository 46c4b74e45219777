use Rattle.std.proofs.Common.{◌≡◌, ◌∙◌, ◌+◌, ap, sym, length, length-drop, List, Some, arith}
use Rattle.std.specs.Prelude.{slice_get}
use Rattle.world_tree.proofs.Prelude.{length_push, slice_get-get_or, Link, values_of, world_after, get_dropped, scene_after}
use Rattle.std.specs.Vec.Iter.{into_iter_steps}
use Rattle.std.proofs.lemmas.Iterator.{YieldsList}
use Rattle.std.proofs.lemmas.Iterator.Adapters.{YieldsList-from_vec}
use Rattle.std.proofs.lemmas.Iterator.Consumers.{YieldsList-turn, YieldsList-end}
use Rattle.world_tree.proofs.EnterLemmas.{IsUpdate, can_enter, entered_all, entered_more, update_is}
use Rattle.world_tree.proofs.entering.enter_all.Goals.{After-into_iter-newcomer-iterator, After-keeping_goes_on, In-Some}
use Rattle.world_tree.proofs.entering.enter_all.Goals as goal

-- the update in which the newcomers come
update : (c : After-keeping_goes_on)
    → IsUpdate (world_after (values_of c.args.config.now) c.args.update)
    (scene_after (values_of c.args.config.now) c.args.update)
update c = update_is (values_of c.args.config.now) c.args.update c.organisms_come_and_go.ensures
    (c.ids_are_places.ensures (values_of c.args.config.now))

-- the loop goes over all of them
road : (c : After-into_iter-newcomer-iterator)
    → YieldsList into_iter_steps (λ y. y) c.into_iter-newcomer-iterator.result
    c.args.newcomers.items
road c =
    let gives = c.into_iter-newcomer-iterator.ensures.into_iter_gives in
    YieldsList-from_vec c.args.newcomers.items gives.0 (gives.1 ∙ c.args.newcomers.ok.0)

-- the newcomer of a turn stands at its place among all organisms
there : (c : In-Some)
    → YieldsList into_iter_steps (λ y. y) c.into_iter-newcomer-iterator.result
    c.args.newcomers.items
    → slice_get (scene_after (values_of c.args.config.now) c.args.update).everyone
    (length (world_after (values_of c.args.config.now) c.args.update).everyone
    + length c.loop-newcomer.yielded) ≡ Some c.in-Some.newcomer
there c road =
    let config = values_of c.args.config.now in
    let so_far = c.loop-newcomer.yielded in
    let item = c.in-Some.newcomer in
    let here = YieldsList-turn road so_far c.loop-newcomer.newcomer-iterator
    c.loop-newcomer.yielded_by c.next.result c.next.new.self item c.in-Some.is
    c.next.ensures.steps in
    sym (get_dropped (length (world_after config c.args.update).everyone)
    (scene_after config c.args.update).everyone (length so_far))
    ∙ (ap (λ (links : List Link). slice_get links (length so_far)) (sym c.requires.newcomers)
    ∙ slice_get-get_or c.args.newcomers.items (length so_far) item here.0
    ∙ ap (λ (link : Link). Some link) (sym here.1))

pub enter-requires : goal.enter-requires
enter-requires c =
    let at = goal.at.enter-requires c in
    can_enter c.keeping_goes_on.ensures (update at.After-keeping_goes_on) c.loop-newcomer.invariant
    (there at.In-Some (road at.After-into_iter-newcomer-iterator))

pub loop-newcomer-preserved : goal.loop-newcomer-preserved
loop-newcomer-preserved c =
    let at = goal.at.loop-newcomer-preserved c in
    let more = entered_more c.keeping_goes_on.ensures (update at.After-keeping_goes_on)
    c.loop-newcomer.invariant
    (there at.In-Some (road at.After-into_iter-newcomer-iterator)) in
    rw (length_push c.loop-newcomer.yielded c.in-Some.newcomer, c.in_ok-enter.ensures.ok) more

pub returns : goal.returns
returns c =
    let config = values_of c.args.config.now in
    let at = goal.at.returns c in
    let whole = YieldsList-end (road at.After-into_iter-newcomer-iterator) c.loop-newcomer.yielded
    c.loop-newcomer.newcomer-iterator c.loop-newcomer.yielded_by c.next.result c.next.new.self
    c.in-None.is c.next.ensures.steps in
    let all : length (world_after config c.args.update).everyone + length c.loop-newcomer.yielded
    ≡ length (scene_after config c.args.update).everyone =
    omega (
      arith,
      whole.1,
      ap length c.requires.newcomers,
      length-drop (length (world_after config c.args.update).everyone)
          (scene_after config c.args.update).everyone,
      c.organisms_come_and_go.ensures.grown,
    ) in
    entered_all c.keeping_goes_on.ensures (update at.After-keeping_goes_on) all
    c.loop-newcomer.invariant
