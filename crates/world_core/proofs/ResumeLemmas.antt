-- A saved world goes on as its run would.
use Rattle.std.proofs.Common.{◌≡◌, ◌∙◌, sym, ap, subst, ℕ, ◌+◌, ◌≤◌, List, Option, length, replicate, arith}
use Rattle.world_core.proofs.Prelude.{length-replicate, Link, lines_text, Stats, forgotten, next_state, next_text, SavedState, head_at, state_of, state_of_world, CanGoOn, ConfigValues, update_lines, next_scene, next_world, world_of, Occupant, World, world_after, IsState, KeepsPast, state_in, SceneValue, scene_in, IsWorldOf, WorldValue}
use Rattle.world_core.proofs.WorldLemmas.{world_of-next}

-- the update and all organisms ever stay once more
pub past_kept : {a b c : SceneValue} → KeepsPast a b → KeepsPast b c → KeepsPast a c
past_kept first second = record {
  update = second.update ∙ first.update;
  everyone = second.everyone ∙ first.everyone;
  first = second.first ∙ first.first;
}

-- a world is that of its three parts
pub world_made : {w : World} {update : ℕ} {cells : List (Option Occupant)} {everyone : List Link}
    → w.update ≡ update → w.cells ≡ cells → w.everyone ≡ everyone
    → w ≡ record { update = update; cells = cells; everyone = everyone }
world_made update cells everyone =
    λ i. record { update = update i; cells = cells i; everyone = everyone i }

-- the scene, of whose organisms nothing but their number is known
abbrev pub forgotten_scene : SceneValue → SceneValue
forgotten_scene s = record s {
  first = length s.everyone;
  everyone = replicate (length s.everyone) forgotten;
}

-- what the laws below say of the worlds of a configuration whose events are over
pub record GoOnLaws (config : ConfigValues) : Type 0 where
  pub state : (w : World) → config.updates ≤ w.update
      → next_state (state_of_world config w) ≡ state_of_world config (next_world config w)
  pub text : (w : World) → config.updates ≤ w.update
      → next_text (state_of_world config w) ≡ lines_text (update_lines config w)

-- an update leads from a scene to another
pub record LeadsTo (config : ConfigValues) (before after : SceneValue) : Type 0 where
  pub scene : scene_in after ≡ next_scene config (world_of (scene_in before))
  pub update : after.update ≡ before.update + 1

module _ (config : ConfigValues) (before after : SceneValue) (laws : GoOnLaws config)
    (is : IsState config before) (leads : LeadsTo config before after) where
  -- the world that the scene leaves is the next one
  world_is : world_of (scene_in after) ≡ next_world config (world_of (scene_in before))
  world_is = ap world_of leads.scene ∙ world_of-next config before

  -- the state is the next one
  pub state_is : state_in config (forgotten_scene after) ≡ next_state (state_in config before)
  state_is =
      let shown : ℕ → SavedState = λ n.
      record { head = head_at config after.update n; cells = after.cells } in
      ap shown (length-replicate (length after.everyone) forgotten)
      ∙ ap (state_of_world config) world_is
      ∙ sym (laws.state (world_of (scene_in before)) is.over)

  -- it is settled, and can go on
  pub goes_on : CanGoOn (next_state (state_in config before)) → IsState config (forgotten_scene after)
  goes_on valid = record {
    over = omega (arith, is.over, leads.update);
    settled = sym (length-replicate (length after.everyone) forgotten);
    valid = rw state_is valid;
  }

  -- and so is its text
  pub text_is : (text : List ℕ)
      → text ≡ lines_text (update_lines config (world_of (scene_in before)))
      → text ≡ next_text (state_in config before)
  text_is text told = told ∙ sym (laws.text (world_of (scene_in before)) is.over)

-- what the laws say of one configuration
pub go_on_laws : (config other : ConfigValues) → other ≡ config
    → ((w : World) → other.updates ≤ w.update
    → next_state (state_of_world other w) ≡ state_of_world other (next_world other w))
    → ((w : World) → other.updates ≤ w.update
    → next_text (state_of_world other w) ≡ lines_text (update_lines other w))
    → GoOnLaws config
go_on_laws config other same state text = record {
  state = rw (← same) state;
  text = rw (← same) text;
}

-- a world whose updates are over
module _ (config : ConfigValues) (scene : SceneValue) (stats : Stats)
    (is : IsWorldOf config scene stats) (v : WorldValue)
    (shown : record { config = config; update = scene.update; bank = scene.bank } ≡ v)
    (over : v.update ≡ v.config.updates) where
  -- its update is the last of its configuration
  ended : scene.update ≡ config.updates
  ended = ap (λ (v : WorldValue). v.update) shown ∙ over
      ∙ ap (λ (v : WorldValue). v.config.updates) (sym shown)

  -- what a run leaves is settled and can go on
  pub run_goes_on : CanGoOn (state_of_world config (world_after config scene.update))
      → IsState config scene
  run_goes_on valid = record {
    over = omega (arith, ended);
    settled = is.settled;
    valid = subst (λ (w : World). CanGoOn (state_of_world config w)) (sym is.world) valid;
  }

  -- it is the state of its configuration
  pub run_leaves : state_in config scene ≡ state_of v.config
  unfolding state_of
  run_leaves = ap (state_of_world config) is.world
      ∙ ap (λ n. state_of_world config (world_after config n)) ended
      ∙ ap (λ (v : WorldValue). state_of v.config) shown
