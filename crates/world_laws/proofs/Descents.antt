-- The genomes of all who ever were in a world come from their parents'.
use Rattle.std.proofs.Common.{◌≡◌, ℕ, zero, suc, List, [], ◌∷◌, ◌++◌, Option, Some, None, refl, sym, subst, ◌∙◌, inl, inr}
use Rattle.std.specs.Prelude.{slice_get, fold}
use Rattle.world_laws.proofs.Prelude.{AllByRecursion, slice_get-map, Placing, Link, EventValue, WhatValue, inject, clear, rate, ConfigValues, World, founder_link, first_world, Scene, next_id, cells_from, with_newcomer, Delivery, birth_link, with_newborn, after_what, after_event, after_burials, deaths_of, births_of, turns_of, after_births, events_at, after_events, last_scene, scene_of_lives, lives_after, next_scene, next_world, world_after, ComesFrom, AreDescended, LifeLaws, IsConfig, size_of, People, get_more, get_pushed}
use Rattle.world_laws.proofs.ListLemmas.{fold-keeps}
use Rattle.world_laws.proofs.Scenes.{IsScene}
use Rattle.world_laws.proofs.UpdateLines.{IsTurn, scene_birth, scene_deaths}
use Rattle.world_laws.proofs.Runs.{IsRun, ended, scene_ended, turns_are}
use Rattle.world_laws.proofs.WholeLogs.{kept_after, run_after}
use Rattle.world_rules.proofs.IdLemmas.{deaths_keep}
use Rattle.genome.proofs.ListLemmas.{some_map}

-- who came from somebody did so among more
comes_more : (everyone : List Link) (new : Link) (parent : Option ℕ) (link : Link)
    → ComesFrom everyone parent link → ComesFrom (everyone ++ new ∷ []) parent link
comes_more everyone new None link is = is
comes_more everyone new (Some parent) link is =
    (is.0, get_more everyone (new ∷ []) parent is.0 is.1, is.2)

-- with one more who comes from its parent, each still does
descended_more : (everyone : List Link) (new : Link) → AreDescended everyone
    → ComesFrom everyone new.parent new → AreDescended (everyone ++ new ∷ [])
descended_more everyone new are is place link h = elim (get_pushed everyone new link place h) [
  | inl before ↦ comes_more everyone new link.parent link (are place link before)
  | inr last ↦ comes_more everyone new link.parent link
      (subst (λ (l : Link). ComesFrom everyone l.parent l) last.1 is)
]

-- after a lawful birth each who ever was still comes from its parent
descended_birth : (size : ℕ) (start : People) (config : ConfigValues) (scene : Scene)
    (turn : Delivery × Placing) → IsScene size start scene → IsTurn size start turn
    → AreDescended scene.everyone → AreDescended (with_newborn config scene turn).everyone
unfolding with_newborn with_newcomer
descended_birth size start config scene turn is lawful are =
    let b = turn.0 in
    let wrote = sym (slice_get-map (λ (l : Link). l.genome) scene.everyone b.parent)
    ∙ is.agree b.parent lawful.letters lawful.lived in
    let before = slice_get scene.everyone b.parent in
    let found = some_map (λ (l : Link). l.genome) before lawful.letters wrote in
    descended_more scene.everyone (birth_link (next_id scene) scene.update b turn.1.cell) are (
      found.0,
      found.1,
      record {
        record_of_birth = b.newborn.origin;
        recorded = refl;
        child = rw found.2 lawful.child;
      },
    )

-- so it is after lawful births, one after another
descended_births : (size : ℕ) (start : People) (config : ConfigValues) (scene : Scene)
    (turns : List (Delivery × Placing)) → IsScene size start scene
    → AllByRecursion (IsTurn size start) turns → AreDescended scene.everyone
    → AreDescended (fold (with_newborn config) scene turns).everyone
descended_births size start config scene [] is lawful are = are
descended_births size start config scene (turn ∷ turns) is lawful are =
    descended_births size start config (with_newborn config scene turn) turns
    (scene_birth size start config scene turn is) lawful.1
    (descended_birth size start config scene turn is lawful.0 are)

-- after what an event does each who ever was still comes from its parent
descended_what : (config : ConfigValues) (scene : Scene) (nth : ℕ) (what : WhatValue)
    → AreDescended scene.everyone → AreDescended (after_what config scene nth what).everyone
unfolding with_newcomer
descended_what config scene nth (inject cell letters) are =
    descended_more scene.everyone (founder_link (next_id scene) scene.update cell letters) are refl
descended_what config scene nth (clear first last) are =
    rw (deaths_keep scene (cells_from first last)) are
descended_what config scene nth (rate name ppm) are = are

-- so it is after events, one after another
descended_events : (config : ConfigValues) (scene : Scene) (events : List (ℕ × EventValue))
    → AreDescended scene.everyone → AreDescended (fold (after_event config) scene events).everyone
unfolding after_event
descended_events config =
    fold-keeps (after_event config) (λ scene. AreDescended scene.everyone)
    (λ scene event are. descended_what config scene event.0 event.1.what are)

-- the founder, who is alone at first, has no record of birth
founder_descended : (config : ConfigValues)
    → AreDescended (founder_link 0 0 config.founder_cell config.ancestor ∷ [])
founder_descended config zero link h =
    let same : founder_link 0 0 config.founder_cell config.ancestor ≡ link = cc in
    rw (← same) refl
founder_descended config (suc place) link h = absurd cc

module _ (laws : LifeLaws) (config : ConfigValues) (fit : IsConfig config) where
  -- where each who ever was comes from its parent, so it is after one more update
  descended_next : (n : ℕ) (start : People) (w : World) → IsRun config n start w
      → AreDescended w.everyone → AreDescended (next_world config w).everyone
  unfolding next_world next_scene scene_of_lives last_scene after_burials after_births after_events
  descended_next n start w is are =
      let lives = lives_after config w in
      let scene = ended laws config fit n start w is in
      let is_ended = scene_ended laws config fit n start w is in
      let buried = after_burials scene lives in
      let born = after_births config buried (births_of lives) in
      let turns = turns_are laws config fit n start w is in
      let still : AreDescended buried.everyone =
      subst AreDescended (sym (deaths_keep scene (deaths_of lives))) are in
      descended_events config born (events_at config born.update)
      (descended_births (size_of config) start config buried
      (turns_of config buried (births_of lives))
      (scene_deaths (size_of config) start scene (deaths_of lives) is_ended) turns.lawful still)

  -- in each world of a run
  pub descended_after : (n : ℕ) → AreDescended (world_after config n).everyone
  unfolding world_after first_world
  descended_after zero = founder_descended config
  descended_after (suc n) =
      descended_next n (kept_after config n) (world_after config n) (run_after laws config fit n)
      (descended_after n)
