-- Each world of a run has the number of its update.
use Rattle.std.proofs.Common.{◌≡◌, ℕ, zero, suc, ◌+◌, List, [], ◌∷◌, refl, ap, ◌∙◌, arith}
use Rattle.std.specs.Prelude.{fold}
use Rattle.world_rules.proofs.Prelude.{World, first_world, Scene, with_death, cells_from, with_newcomer, CellLife, with_newborn, deaths_of, after_burials, births_of, turns_of, events_at, after_births, after_what, after_event, after_events, last_scene, scene_of_lives, world_of, next_scene, next_world, lives_after, after_lives, world_after}
use Rattle.world_config.specs.Events.{WhatValue, inject, clear, rate}
use Rattle.world_config.specs.Values.{ConfigValues}

-- what changes scenes one after another keeps the update
fold_keeps : {X : Type 0} (f : Scene → X → Scene)
    (each : (s : Scene) (x : X) → (f s x).update ≡ s.update) (s : Scene) (xs : List X)
    → (fold f s xs).update ≡ s.update
fold_keeps f each s [] = refl
fold_keeps f each s (x ∷ xs) = fold_keeps f each (f s x) xs ∙ each s x

-- an event
what_keeps : (config : ConfigValues) (s : Scene) (nth : ℕ) (what : WhatValue)
    → (after_what config s nth what).update ≡ s.update
unfolding with_newcomer with_death
what_keeps config s nth (inject cell letters) = refl
what_keeps config s nth (clear first last) =
    fold_keeps with_death (λ s cell. refl) s (cells_from first last)
what_keeps config s nth (rate name ppm) = refl

-- the end of an update
last_keeps : (config : ConfigValues) (s : Scene) (lives : List CellLife)
    → (last_scene config s lives).update ≡ s.update
unfolding last_scene after_burials after_births after_events after_event with_newborn with_newcomer
    with_death
last_keeps config s lives =
    let buried = after_burials s lives in
    let born = after_births config buried (births_of lives) in
    fold_keeps (after_event config) (λ s event. what_keeps config s event.0 event.1.what) born
    (events_at config born.update)
    ∙ fold_keeps (with_newborn config) (λ s turn. refl) buried
    (turns_of config buried (births_of lives))
    ∙ fold_keeps with_death (λ s cell. refl) s (deaths_of lives)

-- the scene that some lives lead to
pub update_next : (config : ConfigValues) (w : World) (lives : List CellLife)
    → (world_of (scene_of_lives config w lives)).update ≡ w.update + 1
unfolding scene_of_lives
update_next config w lives = last_keeps config (after_lives (w.update + 1) w.everyone lives) lives

-- the next world
pub next_update : (config : ConfigValues) (w : World) → (next_world config w).update ≡ w.update + 1
unfolding next_world next_scene
next_update config w = update_next config w (lives_after config w)

-- a world of a run
pub update_of : (config : ConfigValues) (n : ℕ) → (world_after config n).update ≡ n
unfolding world_after first_world
update_of config zero = refl
update_of config (suc n) =
    next_update config (world_after config n) ∙ ap (λ k. k + 1) (update_of config n) ∙ omega arith
