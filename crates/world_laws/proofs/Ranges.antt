-- The organisms of a run stay in range, and its worlds gave few ids.
use Rattle.std.proofs.Common.{◌≡◌, inl, inr, ◌∙◌, refl, sym, ap, ℕ, zero, suc, ◌+◌, ◌*◌, ◌≤◌, Bool, false, List, [], ◌∷◌, length, map, sum, Option, Some, None, arith}
use Rattle.std.specs.Prelude.{fold, slice_index_or}
use Rattle.world_laws.proofs.Prelude.{AllByRecursion, zip, mul-le-mul, cases_lt, get_or_past, length-map, length-replicate, length-map-range_with_len, get_or-le-sum_by, Letter, HasTopBytes, inputs_of, inputs_of-top, no_tasks, Run, draw, Placing, IsSoundOrganism, beginning, life_by, new_organism, life, EventValue, WhatValue, inject, clear, rate, ConfigValues, CellLife, life_at, life_of, lives_of, no_life, slice_at, slices_at, Scene, cells_from, next_id, Occupant, World, first_world, founder_link, founder_of, founder_words, ids_of, settings_at, placing_round_at, torus_of, Delivery, after_births, after_burials, after_event, after_events, after_lives, after_what, birth_link, births_of, child_of_birth, deaths_of, events_at, last_scene, lives_after, next_scene, next_world, placings_of, scene_of_lives, with_newborn, world_after, HasFewIds, HaveOwnIds, IsInRange, StandInRange, StayInRange, LifeLaws, FitsWhat, IsConfig}
use Rattle.world_laws.proofs.Configs.{FitsPlaced, events_fit}
use Rattle.world_laws.proofs.Each.{all_births, all_lives, each_left, each_with, fails_test, life_there, stood_before}
use Rattle.world_laws.proofs.AfterLives.{IsBorn, births_born}
use Rattle.world_laws.proofs.Endings.{all_come, all_grown, all_steps, next_own, next_sized, next_sound, sound_lives}
use Rattle.world_laws.proofs.LifeRanges.{BringsNine, KeepLimits, LeavesInRange, LivesWithNine, life-in-range}
use Rattle.world_laws.proofs.ListLemmas.{got_some}
use Rattle.world_laws.proofs.Mirror.{written}
use Rattle.world_laws.proofs.Placements.{IsEquipped, placements_equipped}
use Rattle.world_laws.proofs.RunForms.{everyone_few}
use Rattle.world_laws.proofs.Scenes.{Each, id_below}
use Rattle.world_laws.proofs.WholeLogs.{only_founder, run_after}
use Rattle.world_rules.proofs.Updates.{next_update}

-- no cell gets more steps than all together
entry_few : (xs : List ℕ) (i : ℕ) → slice_index_or xs i 0 ≤ sum xs
entry_few xs i = elim (cases_lt i (length xs)) [
  | inl low ↦ omega (arith, get_or-le-sum_by (λ x. x) xs i 0 low)
  | inr past ↦ omega (arith, get_or_past xs i 0 past)
]

module _ (config : ConfigValues) (fit : IsConfig config) (ages : ℕ) (some : 1 ≤ ages) where
  -- an organism that comes
  range_new : (letters : List Letter) (inputs : List ℕ) (merit : ℕ) (credited : List Bool)
      → config.rules.least ≤ length letters → length letters ≤ config.rules.greatest
      → length credited ≡ 9 → HasTopBytes inputs
      → IsInRange config ages
      (new_organism letters inputs merit credited config.memory_limit)
  unfolding new_organism
  range_new letters inputs merit credited least greatest nine top =
      let long : 1 ≤ length letters = omega (arith, least, fit.rules.long_enough) in
      let limit : 1 * 1 ≤ config.age_limit * length letters = mul-le-mul fit.some_age long in
      record {
        least = least;
        greatest = greatest;
        age = some;
        young = λ death. omega (arith, limit);
        limit = refl;
        credited = nine;
        gestation = length-replicate 9 false;
        inputs = top;
      }

  -- a founder of an allowed length is in range
  range_founder : (cell nth : ℕ) (letters : List Letter) → config.rules.least ≤ length letters
      → length letters ≤ config.rules.greatest
      → IsInRange config ages (founder_of config cell nth letters)
  unfolding founder_of
  range_founder cell nth letters least greatest =
      let words = founder_words config.seed cell nth in
      range_new letters (inputs_of words) (length letters) no_tasks least greatest
      (length-replicate 9 false) (inputs_of-top words)

  -- a newborn, with its placing
  record ComesInRange (turn : Delivery × Placing) : Type 0 where
    born : IsBorn config turn.0
    nine : BringsNine turn.0.newborn
    equipped : IsEquipped turn.1

  -- lawful newborns with sets of nine tasks come in range, with placings that equip them
  come_in_range : (births : List Delivery) (placings : List Placing)
      → AllByRecursion (IsBorn config) births
      → AllByRecursion (λ (d : Delivery). BringsNine d.newborn) births
      → AllByRecursion IsEquipped placings → AllByRecursion ComesInRange (zip births placings)
  come_in_range (b ∷ births) (p ∷ placings) born nine equipped = (
    record { born = born.0; nine = nine.0; equipped = equipped.0 },
    come_in_range births placings born.1 nine.1 equipped.1,
  )
  come_in_range _ _ born nine equipped = tt

  -- each who stands in these cells is in range
  abbrev InRange : List (Option Occupant) → Type 0
  InRange cells = Each (IsInRange config ages) cells

  -- births of newborns that come in range leave all in range
  range_births : (scene : Scene) (turns : List (Delivery × Placing))
      → AllByRecursion ComesInRange turns → InRange scene.cells
      → InRange (fold (with_newborn config) scene turns).cells
  unfolding with_newborn
  range_births scene [] come each = each
  range_births scene (turn ∷ turns) come each =
      let child = range_new turn.0.newborn.genome turn.1.inputs turn.0.newborn.merit
      turn.0.newborn.credited come.0.born.born.least come.0.born.born.greatest come.0.nine
      come.0.equipped in
      range_births (with_newborn config scene turn) turns come.1
      (each_with (IsInRange config ages) scene
      (birth_link (next_id scene) scene.update turn.0 turn.1.cell)
      (child_of_birth config turn.0 turn.1) child each)

  -- so does what an event does, where it fits
  range_what : (scene : Scene) (nth : ℕ) (what : WhatValue) → FitsWhat config what
      → InRange scene.cells → InRange (after_what config scene nth what).cells
  range_what scene nth (inject cell letters) fits each =
      each_with (IsInRange config ages) scene
      (founder_link (next_id scene) scene.update cell letters)
      (founder_of config cell nth letters) (range_founder cell nth letters fits.1 fits.2) each
  range_what scene nth (clear first last) fits each =
      each_left (IsInRange config ages) scene (cells_from first last) each
  range_what scene nth (rate name ppm) fits each = each

  -- so do events that fit, one after another
  range_events : (scene : Scene) (events : List (ℕ × EventValue))
      → AllByRecursion (FitsPlaced config) events → InRange scene.cells
      → InRange (fold (after_event config) scene events).cells
  unfolding after_event
  range_events scene [] fits each = each
  range_events scene (event ∷ events) fits each =
      range_events (after_what config scene event.0 event.1.what) events fits.1
      (range_what scene event.0 event.1.what fits.0 each)

module _ (laws : LifeLaws) (config : ConfigValues) (fit : IsConfig config) where
  -- the ids of a run's world
  own_after : (n : ℕ) → HaveOwnIds (world_after config n).cells
      (length (world_after config n).everyone)
  own_after n =
      let w = world_after config n in
      let is = (run_after laws config fit n).world in
      record {
        given = λ cell o h. let low = id_below (map written w.everyone) w.cells cell o is.kept h in
            omega (arith, low, length-map w.everyone written);
        apart = is.apart;
      }

module _ (laws : LifeLaws) (keep : KeepLimits) (config : ConfigValues) (fit : IsConfig config)
  where
    -- a life of who stands there in range
    life_leaves : (ages update cell steps : ℕ) (x : Occupant) → IsInRange config ages x.organism
        → LeavesInRange (settings_at config update) (beginning x.organism)
        (life (settings_at config update) (draw config.seed update cell Run)
        (beginning x.organism) steps)
    life_leaves ages update cell steps x range =
        let has : LivesWithNine x.organism.machine.limit (beginning x.organism) = record {
          organism =
              record { limit = refl; credited = range.credited; gestation = range.gestation };
          newborns = tt;
        } in
        life-in-range keep (settings_at config update) (draw config.seed update cell Run)
        (beginning x.organism) steps has

    -- who lives on after a life
    range_ended : (ages update cell steps : ℕ) (x : Occupant) → steps ≤ 65536000
        → IsSoundOrganism x.organism → IsInRange config ages x.organism
        → (life_of config update cell steps (Some x)).died ≡ false
        → IsInRange config (ages + 65536000) (life (settings_at config update)
        (draw config.seed update cell Run) (beginning x.organism) steps).0.organism
    unfolding life_of life_by settings_at
    range_ended ages update cell steps x few sound range alive =
        let words = draw config.seed update cell Run in
        let settings = settings_at config update in
        let lived = laws.lives settings words x.organism steps fit.rules
        (laws.words config.seed update cell Run) sound in
        let left = life_leaves ages update cell steps x range in
        record {
          least = rw lived.genome range.least;
          greatest = rw lived.genome range.greatest;
          age = omega (arith, lived.age, range.age, few);
          young = λ death. rw lived.genome (left.young alive death (range.young death));
          limit = left.nine.organism.limit ∙ range.limit;
          credited = left.nine.organism.credited;
          gestation = left.nine.organism.gestation;
          inputs = rw lived.inputs range.inputs;
        }

    -- who is left by a life that was no death
    range_left : (ages update cell steps : ℕ) (slot : Option Occupant) (o : Occupant)
        → steps ≤ 65536000
        → ((x : Occupant) → slot ≡ Some x
        → IsSoundOrganism x.organism × IsInRange config ages x.organism)
        → (life_of config update cell steps slot).occupant ≡ Some o
        → (life_of config update cell steps slot).died ≡ false
        → IsInRange config (ages + 65536000) o.organism
    unfolding life_of life_by
    range_left ages update cell steps None o few stood there alive = absurd cc
    range_left ages update cell steps (Some x) o few stood there alive =
        let ended = life (settings_at config update) (draw config.seed update cell Run)
        (beginning x.organism) steps in
        let who : Occupant = record { id = x.id; organism = ended.0.organism } in
        let is : who ≡ o = cc in
        rw (← is) (range_ended ages update cell steps x few (stood x refl).0 (stood x refl).1 alive)

    -- the newborns of a life
    range_newborns : (ages update cell steps : ℕ) (slot : Option Occupant)
        → ((x : Occupant) → slot ≡ Some x → IsInRange config ages x.organism)
        → AllByRecursion BringsNine (life_of config update cell steps slot).newborns
    unfolding life_of life_by
    range_newborns ages update cell steps None stood = tt
    range_newborns ages update cell steps (Some x) stood =
        (life_leaves ages update cell steps x (stood x refl)).nine.newborns

    module _ (ages : ℕ) (w : World) (stand : StandInRange config ages w) where
      -- the scene as the lives have ended
      abbrev lived : Scene
      lived = after_lives (w.update + 1) w.everyone (lives_after config w)

      -- no cell gets more than 65536000 steps
      steps_few : (cell : ℕ) → slice_at config w.cells cell ≤ 65536000
      steps_few cell =
          let all = all_steps laws config fit w stand.sound stand.cells in
          omega (arith, entry_few (slices_at config w.cells) cell, all)

      -- once the dead have left
      range_buried : Each (IsInRange config (ages + 65536000))
          (after_burials lived (lives_after config w)).cells
      unfolding after_burials deaths_of lives_of
      range_buried cell o h =
          let run = life_at config (w.update + 1) w.cells in
          let lives = lives_after config w in
          let stood = stood_before lived (deaths_of lives) cell o h in
          let there = life_there run (length w.cells) cell o stood.0 in
          let long : length lives ≡ length w.cells =
          length-map-range_with_len run 0 (length w.cells) in
          let alive : (run cell).died ≡ false =
          ap (λ (l : CellLife). l.died) (sym there.1)
          ∙ fails_test (λ (at : ℕ). (slice_index_or lives at no_life).died) 0 (length lives) cell
          stood.1 (omega arith) (omega (arith, there.0, long)) in
          range_left ages (w.update + 1) cell (slice_at config w.cells cell)
          (slice_index_or w.cells cell None) o (steps_few cell)
          (λ x e.
          let here = got_some w.cells cell x e in
          (stand.sound cell x here, stand.each cell x here))
          there.2 alive

      -- all newborns of the update have sets of nine tasks
      births_nine : AllByRecursion (λ (d : Delivery). BringsNine d.newborn)
          (births_of (lives_after config w))
      unfolding births_of lives_of
      births_nine =
          let run = life_at config (w.update + 1) w.cells in
          all_births BringsNine 0 (lives_after config w)
          (all_lives (λ (l : CellLife). AllByRecursion BringsNine l.newborns) run (length w.cells)
          (λ cell low. range_newborns ages (w.update + 1) cell (slice_at config w.cells cell)
          (slice_index_or w.cells cell None)
          (λ x e. stand.each cell x (got_some w.cells cell x e))))

      -- all placings of newborns bring inputs with the top bytes
      equipped : (scene : Scene) (births : List Delivery)
          → AllByRecursion IsEquipped (placings_of config scene births)
      unfolding placings_of
      equipped scene births = placements_equipped (torus_of config)
          (map (λ (b : Delivery). b.cell) births) (ids_of scene.cells)
          (placing_round_at config scene.update (next_id scene))

      -- the next world
      range_next : Each (IsInRange config (ages + 65536000)) (next_world config w).cells
      unfolding next_world next_scene scene_of_lives last_scene after_births after_events
      range_next =
          let lives = lives_after config w in
          let births = births_of lives in
          let buried = after_burials lived lives in
          let placings = placings_of config buried births in
          let born = after_births config buried births in
          let some : 1 ≤ ages + 65536000 = omega arith in
          range_events config fit (ages + 65536000) some born (events_at config born.update)
          (events_fit config fit born.update)
          (range_births config fit (ages + 65536000) some buried (zip births placings)
          (come_in_range config fit (ages + 65536000) some births placings
          (births_born config (slice_at config w.cells) w.cells lives
          (sound_lives laws config fit w stand.sound)) births_nine (equipped buried births))
          range_buried)

      -- so are they all one update later
      pub stay_next : StayInRange config ages w (next_world config w)
      stay_next = record {
        stand = record {
          cells = next_sized laws config fit w stand.sound ∙ stand.cells;
          sound = next_sound laws config fit w stand.sound;
          each = range_next;
          own = next_own laws config fit w stand.sound stand.own;
        };
        update = next_update config w;
        grown = all_grown laws config fit w stand.sound;
        few = all_come laws config fit w stand.sound stand.cells;
      }

    -- the founder
    range_first : Each (IsInRange config 1) (first_world config).cells
    unfolding first_world
    range_first cell o h =
        rw (← (only_founder config cell o h).1) (range_founder config fit 1 (omega arith)
        config.founder_cell 0 config.ancestor fit.long_enough fit.short_enough)

    -- each organism of a run
    pub range_after : (n : ℕ)
        → Each (IsInRange config (1 + 65536000 * n)) (world_after config n).cells
    unfolding world_after
    range_after zero = range_first
    range_after (suc n) =
        let is = run_after laws config fit n in
        let next = range_next (1 + 65536000 * n) (world_after config n) (record {
          cells = is.world.sized;
          sound = is.sound;
          each = range_after n;
          own = own_after laws config fit n;
        }) in
        let ages : 1 + 65536000 * n + 65536000 ≡ 1 + 65536000 * suc n = omega arith in
        rw ages at next

module _ (laws : LifeLaws) (config : ConfigValues) (fit : IsConfig config) where
  -- each world of a run has had somebody
  some_ids : (n : ℕ) → 1 ≤ length (world_after config n).everyone
  unfolding world_after first_world
  some_ids zero = omega arith
  some_ids (suc n) =
      let sound = (run_after laws config fit n).sound in
      omega (arith, some_ids n, all_grown laws config fit (world_after config n) sound)

  -- the ids of a run
  pub ids_after : (n : ℕ) → HasFewIds config n (world_after config n)
  ids_after n =
      let is = run_after laws config fit n in
      record {
        update = is.update;
        cells = is.world.sized;
        some = some_ids n;
        few = everyone_few laws config fit n;
        own = own_after laws config fit n;
      }
