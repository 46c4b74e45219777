-- Each line of an update has the form that a log asks for.
use Rattle.std.proofs.Common.{◌≡◌, ℕ, suc, ◌+◌, ◌<◌, ◌≤◌, List, [], ◌∷◌, length, Some, arith, length-append}
use Rattle.std.specs.Prelude.{IfSome}
use Rattle.world_laws.proofs.Prelude.{AllByRecursion, filter_map, flat_map, scan, zip, slice_get_within, Placing, Line, Death, Cleared, HasForm, IsLarge, EventValue, WhatValue, inject, clear, rate, ConfigValues, founder_link, Scene, next_id, standing_at, with_death, with_deaths, cells_from, with_newcomer, Delivery, birth_link, with_newborn, after_what, after_event, death_lines, birth_line, cleared_line, what_lines, lines_of_event, IsConfig, size_of, FitsWhat, all_append, People, genome-fits}
use Rattle.world_laws.proofs.Scenes.{IsScene, who_stands, id_small, scene_death}
use Rattle.world_laws.proofs.LeavingLines.{leaving_lines}
use Rattle.world_laws.proofs.UpdateLines.{scene_birth, scene_what}
use Rattle.world_laws.proofs.AfterLives.{IsDelivery}
use Rattle.world_laws.proofs.Configs.{FitsPlaced, genome_fits, few_cells}
use Rattle.world_laws.proofs.FormLemmas.{over_form}

-- each line has its form
abbrev pub Forms : List Line → Type 0
Forms lines = AllByRecursion HasForm lines

-- a scene whose numbers fit a log, with room for so many newcomers
pub record HasRoom (scene : Scene) (more : ℕ) : Type 0 where
  pub ids : length scene.everyone + more ≤ 18446744073709551615
  pub early : scene.update ≤ 4294967295

module _ (size : ℕ) (start : People) (small : size ≤ 65536) where
  -- an id that stands in a cell
  standing_low : (scene : Scene) → IsScene size start scene → (cell id : ℕ)
      → standing_at scene cell ≡ Some id → (id < length scene.everyone) × (cell < size)
  standing_low scene is cell id h =
      let who = who_stands scene.cells cell id h in (
        omega (arith, id_small size start scene is cell who.0 who.1, who.2),
        omega (arith, slice_get_within scene.cells cell (Some who.0) who.1, is.sized),
      )

  -- who stands in a cell, or nobody, fits the field for it
  over_fits : (scene : Scene) (more : ℕ) → IsScene size start scene → HasRoom scene more
      → (cell : ℕ) → IfSome (standing_at scene cell) IsLarge
  over_fits scene more is room cell =
      over_form (standing_at scene cell) (length scene.everyone)
      (λ id h. (standing_low scene is cell id h).0) (omega (arith, room.ids))

  -- a scene with room for so many newcomers
  abbrev Roomy : ℕ → Scene → Type 0
  Roomy more scene = IsScene size start scene × HasRoom scene more

  -- a death leaves a scene its room for newcomers
  roomy_death : (more : ℕ) (scene : Scene) (cell : ℕ) → Roomy more scene
      → Roomy more (with_death scene cell)
  unfolding with_death
  roomy_death more scene cell roomy = (
    scene_death size start scene roomy.0 cell,
    record { ids = roomy.1.ids; early = roomy.1.early },
  )

  -- the line of a death has its form, and so has that of who is cleared, which has the same fields
  leaving_form : (more : ℕ) (scene : Scene) (cell id : ℕ) → Roomy more scene
      → standing_at scene cell ≡ Some id → HasForm (Death id scene.update cell)
  leaving_form more scene cell id roomy e =
      let low = standing_low scene roomy.0 cell id e in (
        (omega arith, omega (arith, low.0, roomy.1.ids)),
        (omega arith, roomy.1.early),
        (omega arith, omega (arith, low.1, small)),
      )

  -- the lines of deaths
  pub deaths_fit : (scene : Scene) (more : ℕ) (cells : List ℕ) → IsScene size start scene
      → HasRoom scene more → Forms (death_lines scene cells)
  deaths_fit scene more cells is room =
      leaving_lines HasForm (λ s cell id. Death id s.update cell) (Roomy more) (roomy_death more)
      (leaving_form more) scene cells (is, room)

  -- the lines of all who are cleared from these cells
  cleared_fit : (scene : Scene) (more : ℕ) (cells : List ℕ) → IsScene size start scene
      → HasRoom scene more → Forms
      (filter_map (λ line. line) (scan with_death cleared_line scene cells))
  cleared_fit scene more cells is room =
      leaving_lines HasForm (λ s cell id. Cleared id s.update cell) (Roomy more)
      (roomy_death more) (leaving_form more) scene cells (is, room)

  -- a birth takes the room of one newcomer
  room_birth : (config : ConfigValues) (scene : Scene) (more : ℕ) (turn : Delivery × Placing)
      → HasRoom scene (suc more) → HasRoom (with_newborn config scene turn) more
  unfolding with_newborn with_newcomer
  room_birth config scene more turn room =
      let link = birth_link (next_id scene) scene.update turn.0 turn.1.cell in
      record {
        ids = omega (arith, room.ids, length-append scene.everyone (link ∷ []));
        early = room.early;
      }

  -- the lines of births
  pub births_fit : (config : ConfigValues) (scene : Scene) (births : List Delivery)
      (placings : List Placing) → IsScene size start scene → HasRoom scene (length births)
      → AllByRecursion (IsDelivery config size start) births
      → AllByRecursion (λ (p : Placing). p.cell < size) placings
      → Forms (scan (with_newborn config) birth_line scene (zip births placings))
  births_fit config scene (b ∷ births) (p ∷ placings) is room are within =
      let parent = slice_get_within start b.parent (Some are.0.letters) are.0.lived in
      let over = over_fits scene (length (b ∷ births)) is room p.cell in
      let first : HasForm (birth_line scene (b, p)) = (
        (omega arith, omega (arith, room.ids)),
        (omega arith, omega (arith, parent, is.grown, room.ids)),
        (omega arith, room.early),
        (omega arith, omega (arith, within.0, small)),
        over,
        are.0.born.form,
      ) in (
        first,
        births_fit config (with_newborn config scene (b, p)) births placings
            (scene_birth size start config scene (b, p) is)
            (room_birth config scene (length births) (b, p) room) are.1 within.1,
      )
  births_fit config scene _ _ is room are within = tt

-- deaths leave a scene its room for newcomers
room_deaths : (scene : Scene) (more : ℕ) (cells : List ℕ) → HasRoom scene more
    → HasRoom (with_deaths scene cells) more
unfolding with_death
room_deaths scene more [] room = room
room_deaths scene more (cell ∷ cells) room =
    room_deaths (with_death scene cell) more cells (record { ids = room.ids; early = room.early })

module _ (start : People) (config : ConfigValues) (fit : IsConfig config) where
  -- what an event does takes the room of at most one newcomer
  room_what : (scene : Scene) (more nth : ℕ) (what : WhatValue) → HasRoom scene (suc more)
      → HasRoom (after_what config scene nth what) more
  unfolding with_newcomer
  room_what scene more nth (inject cell letters) room =
      let link = founder_link (next_id scene) scene.update cell letters in
      record {
        ids = omega (arith, room.ids, length-append scene.everyone (link ∷ []));
        early = room.early;
      }
  room_what scene more nth (clear first last) room =
      room_deaths scene more (cells_from first last)
      (record { ids = omega (arith, room.ids); early = room.early })
  room_what scene more nth (rate name ppm) room =
      record { ids = omega (arith, room.ids); early = room.early }

  -- the lines of an event
  what_fit : (scene : Scene) (more : ℕ) (what : WhatValue) → IsScene (size_of config) start scene
      → HasRoom scene (suc more) → FitsWhat config what → Forms (what_lines scene what)
  what_fit scene more (inject cell letters) is room fits =
      let small = few_cells config fit in
      let over = over_fits (size_of config) start small scene (suc more) is room cell in
      let text = genome-fits letters (genome_fits config fit letters fits.1 fits.2) in (
        (
          (omega arith, omega (arith, room.ids)),
          (omega arith, room.early),
          (omega arith, omega (arith, fits.0, small)),
          over,
          text,
        ),
        tt,
      )
  what_fit scene more (clear first last) is room fits =
      cleared_fit (size_of config) start (few_cells config fit) scene (suc more)
      (cells_from first last) is room
  what_fit scene more (rate name ppm) is room fits =
      (((omega arith, room.early), (omega arith, fits)), tt)

  -- the lines of events
  pub events_fit_forms : (scene : Scene) (events : List (ℕ × EventValue))
      → IsScene (size_of config) start scene → HasRoom scene (length events)
      → AllByRecursion (FitsPlaced config) events
      → Forms (flat_map (λ lines. lines) (scan (after_event config) lines_of_event scene events))
  unfolding after_event
  events_fit_forms scene [] is room fits = tt
  events_fit_forms scene (event ∷ events) is room fits =
      let next = after_what config scene event.0 event.1.what in
      all_append HasForm (lines_of_event scene event)
      (flat_map (λ lines. lines) (scan (after_event config) lines_of_event next events))
      (what_fit scene (length events) event.1.what is room fits.0)
      (events_fit_forms next events
      (scene_what (size_of config) start config scene event.0 event.1.what is)
      (room_what scene (length events) event.0 event.1.what room) fits.1)
