use Rattle.std.proofs.Common.{◌≡◌, ◌*◌, ◌∙◌, [], ap, length, None, refl, subst, sym}
use Rattle.world_core.proofs.Prelude.{IfOk-at_ok, length-replicate, letters, HasEachOnce, Link, OrganismState, values_of, Scene, next_id, with_newcomer, founder_link, founder_of, world_of, EveryoneValue, genomes_ever, SceneValue, scene_in}
use Rattle.world_core.proofs.ComingLemmas.{empty_scene, first_world_is, newcomer-many, newcomer-size, nobody_gone}
use Rattle.world_core.proofs.GrowLemmas.{Grows_founder, newcomer-added}
use Rattle.world_core.proofs.founding.first_scene.Given as given
use Rattle.world_core.proofs.founding.first_scene.Goals.{In_ok-scene-2}
use Rattle.world_core.proofs.founding.first_scene.Goals as goal

-- the founder
abbrev organism : (g : given.Over) (c : In_ok-scene-2 g) → OrganismState
organism g c = founder_of (values_of c.args.config.now) c.args.config.now.founder_cell 0
    (letters c.args.config.now.ancestor)

-- the founder in the list of all, behind those of a scene
abbrev link : (g : given.Over) (c : In_ok-scene-2 g) → SceneValue → Link
link g c s = founder_link (next_id (scene_in s)) s.update c.args.config.now.founder_cell
    (letters c.args.config.now.ancestor)

-- the scene before
start : (g : given.Over) (c : In_ok-scene-2 g)
    → c.in_ok-scene.scene ≡ empty_scene (values_of c.args.config.now)
start g c = c.in_ok-scene.ensures
    ∙ ap (λ (e : EveryoneValue). record (empty_scene (values_of c.args.config.now)) {
      everyone = e.links;
      first = e.first;
    }) c.none.ensures

-- the scene once it has come
came : (g : given.Over) (c : In_ok-scene-2 g) → scene_in c.in_ok-scene-2.scene
    ≡ with_newcomer (scene_in (empty_scene (values_of c.args.config.now)))
    (link g c (empty_scene (values_of c.args.config.now))) (organism g c)
came g c = ap scene_in c.in_ok-scene-2.ensures.value
    ∙ IfOk-at_ok (λ _. _) c.in_ok-scene-2.ensures.other c.found_in-founded.ensures.scene
    ∙ ap (λ (s : SceneValue). with_newcomer (scene_in s) (link g c s) (organism g c)) (start g c)

pub returns-clause-world : goal.returns-clause-world
returns-clause-world g c =
    ap world_of (came g (goal.at.returns-clause-world g c).In_ok-scene-2)
    ∙ first_world_is (values_of c.args.config.now)

pub returns-clause-size : goal.returns-clause-size
returns-clause-size g c =
    ap (λ (s : Scene). length s.cells) (came g (goal.at.returns-clause-size g c).In_ok-scene-2)
    ∙ newcomer-size _ _ _
    ∙ length-replicate (c.args.config.now.width * c.args.config.now.height) None

pub returns-clause-nobody : goal.returns-clause-nobody
returns-clause-nobody g c =
    ap (λ (s : Scene). s.gone) (came g (goal.at.returns-clause-nobody g c).In_ok-scene-2)
    ∙ nobody_gone (values_of c.args.config.now) _ _

pub returns-clause-one : goal.returns-clause-one
returns-clause-one g c =
    ap (λ (s : Scene). length s.everyone) (came g (goal.at.returns-clause-one g c).In_ok-scene-2)
    ∙ newcomer-many _ _ _

pub returns-clause-first : goal.returns-clause-first
returns-clause-first g c =
    ap (λ (s : SceneValue). s.first) c.in_ok-scene-2.ensures.value
    ∙ IfOk-at_ok (λ _. _) c.in_ok-scene-2.ensures.other c.found_in-founded.ensures.first
    ∙ ap (λ (s : SceneValue). s.first) (start g (goal.at.returns-clause-first g c).In_ok-scene-2)

pub returns-clause-bank : goal.returns-clause-bank
returns-clause-bank g c =
    let interned = c.genotypes_are_what_was_interned.ensures in
    let before = c.in_ok-scene.scene in
    let last = c.in_ok-scene-2.scene in
    let same = c.in_ok-scene-2.ensures.value in
    let done = c.in_ok-scene-2.ensures.other in
    let grows = Grows_founder interned.one_more before.bank last.bank before.everyone last.everyone
    _ (letters c.args.config.now.ancestor)
    (ap (λ (s : SceneValue). s.bank) same
    ∙ IfOk-at_ok (λ _. _) done c.found_in-founded.ensures.bank)
    (ap (λ (s : SceneValue). s.everyone) same
    ∙ ap (λ (s : Scene). s.everyone) (IfOk-at_ok (λ _. _) done c.found_in-founded.ensures.scene)
    ∙ newcomer-added _ _ _) refl in
    grows.each
    (subst (λ (s : SceneValue). HasEachOnce s.bank (genomes_ever s.everyone))
    (sym (start g (goal.at.returns-clause-bank g c).In_ok-scene-2)) (interned.each []))
