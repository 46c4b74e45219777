use Rattle.std.proofs.Common.{◌≡◌, ◌∙◌, ◌<◌, ap, subst, sym, arith}
use Rattle.world_core.proofs.Prelude.{lines_text, next_state, next_text, SavedState, values_of, ConfigValues, LiveOn, update_lines, world_of, IsState, state_in, scene_in}
use Rattle.world_core.proofs.ResumeLemmas.{GoOnLaws, LeadsTo, go_on_laws, goes_on, state_is, text_is}
use Rattle.world_core.proofs.state.State.advance.Goals as goal

laws : (g : _) (c : goal.After-forget g)
    → GoOnLaws (values_of c.self.inside.config.value)
laws g c =
    go_on_laws (values_of c.self.inside.config.value) (values_of c.deref-2.result.now)
    (ap values_of c.deref-2.ensures) c.states_go_on.ensures.state c.states_go_on.ensures.text

leads : (g : _) (c : goal.After-forget g)
    → LeadsTo (values_of c.self.inside.config.value) c.self.inside.scene c.in_ok-scene.scene
leads g c =
    let told = c.in_ok-scene.ensures.next in
    let is : LeadsTo (values_of c.deref-3.result.now) c.self.inside.scene c.in_ok-scene.scene =
    record { scene = told.scene; update = told.update } in
    subst (λ (config : ConfigValues). LeadsTo config c.self.inside.scene c.in_ok-scene.scene)
    (ap values_of c.deref-3.ensures) is

pub next_scene-requires-clause-lives : goal.next_scene-requires-clause-lives
next_scene-requires-clause-lives g c l b =
    let lives = c.sound_organisms_live_on.ensures.lives (world_of (scene_in c.self.inside.scene))
    c.self.invariant.0.valid.stand.sound in
    subst (λ (config : ConfigValues). LiveOn config (world_of (scene_in c.self.inside.scene)))
    (ap values_of c.deref.ensures ∙ sym (ap values_of c.deref-3.ensures)) lives

pub next_scene-requires-clause-few : goal.next_scene-requires-clause-few
next_scene-requires-clause-few g c =
    omega (arith, c.self.invariant.0.valid.head.next_id.1, c.self.invariant.0.valid.head.update)

pub forget-requires : goal.forget-requires
forget-requires g c =
    let head = c.self.invariant.0.valid.head in
    omega (arith, c.in_ok-scene.ensures.next.few, head.next_id.1, head.update)

pub invariant_of-state : goal.invariant_of-state
invariant_of-state g c =
    let own = values_of c.self.inside.config.value in
    let early : c.self.inside.scene.update < 1000000 =
    omega (arith, c.requires, ap (λ (s : SavedState). s.head.update) c.self.view_is) in (
      subst (IsState own) (sym c.forget.ensures)
          (goes_on own c.self.inside.scene c.in_ok-scene.scene (laws g c)
          c.self.invariant.0 (leads g c)
          (c.states_stay_valid.ensures.next (state_in own c.self.inside.scene)
          c.self.invariant.0.valid early)),
      c.self.invariant.1,
      c.self.invariant.2,
    )

pub returns-clause-state : goal.returns-clause-state
returns-clause-state g c =
    let own = values_of c.self.inside.config.value in
    ap (state_in own) c.forget.ensures
    ∙ state_is own c.self.inside.scene c.in_ok-scene.scene (laws g c) c.self.invariant.0 (leads g c)
    ∙ ap next_state c.self.view_is

pub returns-clause-text : goal.returns-clause-text
returns-clause-text g c =
    let own = values_of c.self.inside.config.value in
    let told = subst (λ (config : ConfigValues). c.in_ok-scene.text.items
    ≡ lines_text (update_lines config (world_of (scene_in c.self.inside.scene))))
    (ap values_of c.deref-3.ensures) c.in_ok-scene.ensures.text in
    text_is own c.self.inside.scene c.in_ok-scene.scene (laws g c) c.self.invariant.0 (leads g c)
    c.in_ok-scene.text.items told
    ∙ ap next_text c.self.view_is
