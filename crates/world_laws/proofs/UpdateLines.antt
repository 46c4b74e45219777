-- All deaths of age, all births and all events of an update, line after line.
use Rattle.std.proofs.Common.{add-zero, ◌≡◌, ℕ, zero, suc, ◌+◌, ◌<◌, ◌≤◌, Bool, true, List, [], ◌∷◌, length, Option, Some, None, Ok, refl, arith, inl, inr}
use Rattle.std.specs.Prelude.{slice_get, option_map, filter, fold}
use Rattle.world_laws.proofs.Prelude.{filter_map, cons_option, scan, range_with_len, AllByRecursion, flat_map, cases_Bool, nat_tests, Letter, Placing, child_of, Line, Death, Cleared, Stage, may_die, may_be_born, Link, new_organism, EventValue, WhatValue, inject, clear, rate, ConfigValues, founder_of, founder_link, Scene, next_id, standing_at, with_death, with_deaths, cells_from, Delivery, birth_link, child_of_birth, with_newborn, after_what, after_event, death_lines, birth_line, cleared_line, what_lines, lines_of_event, People}
use Rattle.lineage_log.specs.declared.stage.Stage.TheVariants.{Dying, Placing as Placed, Happening}
use Rattle.world_laws.proofs.ListLemmas.{fold-keeps}
use Rattle.world_laws.proofs.Mirror.{Passes, no_lines, more_lines}
use Rattle.world_laws.proofs.Scenes.{IsScene, no_death, scene_death, scene_newcomer}
use Rattle.world_laws.proofs.Steps.{one_death, one_cleared, one_rate, one_injected, one_birth}

-- cells from a place on, each above the one before it
abbrev pub Rising : ℕ → List ℕ → Type 0
Rising from [] = Unit {0}
Rising from (cell ∷ cells) = (from ≤ cell) × Rising (cell + 1) cells

-- cells that rise from a place on rise from a lower one
rising_low : (from lower : ℕ) (cells : List ℕ) → lower ≤ from → Rising from cells
    → Rising lower cells
rising_low from lower [] h r = tt
rising_low from lower (cell ∷ cells) h r = (omega (arith, h, r.0), r.1)

-- a part of a range rises
pub rising_part : (test : ℕ → Bool) (from count : ℕ)
    → Rising from (filter test (range_with_len from count))
rising_part test from zero = tt
rising_part test from (suc count) =
    let rest = rising_part test (from + 1) count in
    elim (cases_Bool (test from)) [
      | inl b ↦ rw b (omega arith, rest)
      | inr b ↦ rw b (rising_low (from + 1) from _ (omega arith) rest)
    ]

-- lines after which births may come
pub record ToBirths (start : People) (stage : Stage) (births : ℕ) (scene : Scene)
    (lines : List Line) (more : ℕ) (next : Scene) : Type 0 where
  pub later : Stage
  pub may : may_be_born later ≡ true
  pub passes : Passes start stage births scene lines later more next

-- lines after which events may come
pub record ToEvents (start : People) (stage : Stage) (births : ℕ) (scene : Scene)
    (lines : List Line) (next : Scene) : Type 0 where
  pub later : Stage
  pub passes : Passes start stage births scene lines later births next

-- all deaths keep a scene
pub scene_deaths : (size : ℕ) (start : People) (scene : Scene) (cells : List ℕ)
    → IsScene size start scene → IsScene size start (with_deaths scene cells)
scene_deaths size start =
    fold-keeps with_death (IsScene size start) (λ scene cell is. scene_death size start scene is cell)

-- one cell of those that may die of age
death_first : (start : People) (stage : Stage) (births : ℕ) (scene : Scene) (cell : ℕ)
    (others : List Line) (last : Scene) (slot : Option ℕ) → standing_at scene cell ≡ slot
    → may_die stage cell ≡ true
    → ToBirths start stage births (with_death scene cell) others births last
    → ToBirths start (Dying cell) births (with_death scene cell) others births last
    → ToBirths start stage births scene
    (cons_option (option_map (λ id. Death id scene.update cell) slot) others) births last
death_first start stage births scene cell others last None e may rest after =
    rw (no_death scene cell e) at rest
death_first start stage births scene cell others last (Some id) e may rest after = record {
  later = after.later;
  may = after.may;
  passes = more_lines (Death id scene.update cell ∷ []) others
      (one_death start stage births scene cell id may e) after.passes;
}

-- the deaths of age
pub all_deaths : (start : People) (stage : Stage) (births from : ℕ) (scene : Scene) (cells : List ℕ)
    → Rising from cells → ((cell : ℕ) → from ≤ cell → may_die stage cell ≡ true)
    → may_be_born stage ≡ true
    → ToBirths start stage births scene (death_lines scene cells) births (with_deaths scene cells)
all_deaths start stage births from scene [] rising may born =
    record { later = stage; may = born; passes = no_lines _ _ }
all_deaths start stage births from scene (cell ∷ cells) rising may born =
    let next = with_death scene cell in
    death_first start stage births scene cell (death_lines next cells) (with_deaths next cells)
    (standing_at scene cell) refl (may cell rising.0)
    (all_deaths start stage births (cell + 1) next cells rising.1
    (λ c h. may c (omega (arith, h, rising.0))) born)
    (all_deaths start (Dying cell) births (cell + 1) next cells rising.1
    (λ c h. let lt : cell < c = omega (arith, h) in grind (arith, nat_tests)) refl)

-- one cell of those that are cleared
cleared_first : (start : People) (stage : Stage) (births : ℕ) (scene : Scene) (cell : ℕ)
    (others : List Line) (last : Scene) (slot : Option ℕ) → standing_at scene cell ≡ slot
    → ToEvents start stage births (with_death scene cell) others last
    → ToEvents start Happening births (with_death scene cell) others last
    → ToEvents start stage births scene
    (cons_option (option_map (λ id. Cleared id scene.update cell) slot) others) last
cleared_first start stage births scene cell others last None e rest after =
    rw (no_death scene cell e) at rest
cleared_first start stage births scene cell others last (Some id) e rest after = record {
  later = after.later;
  passes = more_lines (Cleared id scene.update cell ∷ []) others
      (one_cleared start stage births scene cell id e) after.passes;
}

-- all who are cleared
pub all_cleared : (start : People) (stage : Stage) (births : ℕ) (scene : Scene) (cells : List ℕ)
    → ToEvents start stage births scene
    (filter_map (λ line. line) (scan with_death cleared_line scene cells))
    (with_deaths scene cells)
all_cleared start stage births scene [] = record { later = stage; passes = no_lines _ _ }
all_cleared start stage births scene (cell ∷ cells) =
    let next = with_death scene cell in
    cleared_first start stage births scene cell
    (filter_map (λ line. line) (scan with_death cleared_line next cells))
    (with_deaths next cells) (standing_at scene cell) refl
    (all_cleared start stage births next cells) (all_cleared start Happening births next cells)

-- the parent lived when the update began, the record makes the newborn's genome of the parent's,
-- and the cell is in the world
pub record IsTurn (size : ℕ) (start : People) (turn : Delivery × Placing) : Type 0 where
  pub letters : List Letter
  pub lived : slice_get start turn.0.parent ≡ Some (Some letters)
  pub child : child_of letters turn.0.newborn.origin ≡ Ok turn.0.newborn.genome
  pub within : turn.1.cell < size

-- the newborn's link
abbrev pub link_of : Scene → Delivery × Placing → Link
link_of scene turn = birth_link (next_id scene) scene.update turn.0 turn.1.cell

-- a birth keeps a scene
pub scene_birth : (size : ℕ) (start : People) (config : ConfigValues) (scene : Scene)
    (turn : Delivery × Placing) → IsScene size start scene
    → IsScene size start (with_newborn config scene turn)
unfolding with_newborn new_organism
scene_birth size start config scene turn is =
    scene_newcomer size start scene is (link_of scene turn) (child_of_birth config turn.0 turn.1)
    refl refl

-- all births keep a scene
pub scene_births : (size : ℕ) (start : People) (config : ConfigValues) (scene : Scene)
    (turns : List (Delivery × Placing)) → IsScene size start scene
    → IsScene size start (fold (with_newborn config) scene turns)
scene_births size start config =
    fold-keeps (with_newborn config) (IsScene size start) (scene_birth size start config)

-- the line of a birth
pub turn_passes : (size : ℕ) (start : People) (stage : Stage) (births : ℕ) (config : ConfigValues)
    (scene : Scene) (turn : Delivery × Placing) → IsScene size start scene → IsTurn size start turn
    → may_be_born stage ≡ true
    → Passes start stage births scene (birth_line scene turn ∷ []) Placed (births + 1)
    (with_newborn config scene turn)
unfolding with_newborn
turn_passes size start stage births config scene turn is lawful may =
    one_birth start stage births scene (link_of scene turn) (child_of_birth config turn.0 turn.1)
    turn.0.parent turn.0.newborn.origin lawful.letters
    may is.grown (omega (arith, lawful.within, is.sized)) refl lawful.lived
    (is.agree turn.0.parent lawful.letters lawful.lived) lawful.child

-- the births
pub all_births : (size : ℕ) (start : People) (stage : Stage) (births : ℕ) (config : ConfigValues)
    (scene : Scene) (turns : List (Delivery × Placing)) → IsScene size start scene
    → AllByRecursion (IsTurn size start) turns → may_be_born stage ≡ true
    → ToBirths start stage births scene (scan (with_newborn config) birth_line scene turns)
    (births + length turns) (fold (with_newborn config) scene turns)
all_births size start stage births config scene [] is lawful may =
    record { later = stage; may = may; passes = rw add-zero (no_lines _ _) }
all_births size start stage births config scene (turn ∷ turns) is lawful may =
    let next = with_newborn config scene turn in
    let first = turn_passes size start stage births config scene turn is lawful.0 may in
    let rest = all_births size start Placed (births + 1) config next turns
    (scene_birth size start config scene turn is) lawful.1 refl in
    let e : births + 1 + length turns ≡ births + length (turn ∷ turns) = omega arith in
    let all = more_lines (birth_line scene turn ∷ [])
    (scan (with_newborn config) birth_line next turns) first rest.passes in
    record { later = rest.later; may = rest.may; passes = rw (← e) all }

-- an injected organism's cell is in the world
abbrev pub IsWhat : ℕ → WhatValue → Type 0
IsWhat size (inject cell letters) = cell < size
IsWhat size (clear first last) = Unit {0}
IsWhat size (rate name ppm) = Unit {0}

-- an event keeps a scene
pub scene_what : (size : ℕ) (start : People) (config : ConfigValues) (scene : Scene) (nth : ℕ)
    (what : WhatValue) → IsScene size start scene
    → IsScene size start (after_what config scene nth what)
unfolding founder_of new_organism
scene_what size start config scene nth (inject cell letters) is =
    scene_newcomer size start scene is (founder_link (next_id scene) scene.update cell letters)
    (founder_of config cell nth letters) refl refl
scene_what size start config scene nth (clear first last) is =
    scene_deaths size start scene (cells_from first last) is
scene_what size start config scene nth (rate name ppm) is = is

-- the lines of an event
what_passes : (size : ℕ) (start : People) (stage : Stage) (births : ℕ) (config : ConfigValues)
    (scene : Scene) (nth : ℕ) (what : WhatValue) → IsScene size start scene → IsWhat size what
    → ToEvents start stage births scene (what_lines scene what) (after_what config scene nth what)
what_passes size start stage births config scene nth (inject cell letters) is within = record {
  later = Happening;
  passes = one_injected start stage births scene
      (founder_link (next_id scene) scene.update cell letters) (founder_of config cell nth letters)
      is.grown (omega (arith, within, is.sized)) refl;
}
what_passes size start stage births config scene nth (clear first last) is within =
    all_cleared start stage births scene (cells_from first last)
what_passes size start stage births config scene nth (rate name ppm) is within =
    record { later = Happening; passes = one_rate start stage births scene name ppm }

-- an event's cell is in the world
abbrev pub IsEvent : ℕ → ℕ × EventValue → Type 0
IsEvent size event = IsWhat size event.1.what

-- an event that is given with its place keeps a scene
scene_event : (size : ℕ) (start : People) (config : ConfigValues) (scene : Scene)
    (event : ℕ × EventValue) → IsScene size start scene
    → IsScene size start (after_event config scene event)
unfolding after_event
scene_event size start config scene event is =
    scene_what size start config scene event.0 event.1.what is

-- all events keep a scene
pub scene_events : (size : ℕ) (start : People) (config : ConfigValues) (scene : Scene)
    (events : List (ℕ × EventValue)) → IsScene size start scene
    → IsScene size start (fold (after_event config) scene events)
scene_events size start config =
    fold-keeps (after_event config) (IsScene size start) (scene_event size start config)

-- the events
pub all_events : (size : ℕ) (start : People) (stage : Stage) (births : ℕ) (config : ConfigValues)
    (scene : Scene) (events : List (ℕ × EventValue)) → IsScene size start scene
    → AllByRecursion (IsEvent size) events
    → ToEvents start stage births scene
    (flat_map (λ lines. lines) (scan (after_event config) lines_of_event scene events))
    (fold (after_event config) scene events)
unfolding after_event
all_events size start stage births config scene [] is within =
    record { later = stage; passes = no_lines _ _ }
all_events size start stage births config scene (event ∷ events) is within =
    let next = after_event config scene event in
    let first =
    what_passes size start stage births config scene event.0 event.1.what is within.0 in
    let rest = all_events size start first.later births config next events
    (scene_event size start config scene event is) within.1 in
    record {
      later = rest.later;
      passes =
          more_lines (lines_of_event scene event)
          (flat_map (λ lines. lines) (scan (after_event config) lines_of_event next events))
          first.passes rest.passes;
    }
