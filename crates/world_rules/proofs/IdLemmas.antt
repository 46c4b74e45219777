-- The ids of a world, through an update.
use Rattle.std.proofs.Common.{◌≡◌, refl, sym, ap, ℕ, zero, suc, ◌+◌, ◌*◌, ◌<◌, ◌≤◌, List, [], ◌∷◌, ◌++◌, length, map, fold, replicate, Option, None, Some, arith, inl, inr, length-append}
use Rattle.std.specs.Prelude.{All, slice_index_or}
use Rattle.world_rules.proofs.Prelude.{AllByRecursion, zip, flat_map, enumerate_from, range_with_len, Placing, OrganismState, life_by, Link, Occupant, World, id_of, founder_of, founder_link, first_world, Scene, next_id, with_death, cells_from, with_newcomer, CellLife, life_of, life_at, slice_at, lives_of, Delivery, delivery_of, births_by, births_in, births_of, deaths_of, after_lives, after_burials, placings_of, birth_link, child_of_birth, with_newborn, turns_of, after_births, after_what, after_event, events_at, after_events, last_scene, scene_of_lives, lives_after, next_scene, next_world, world_of, world_after, IsBelow, HasPlaceAsId, AreNumbered, IsNumberedWorld}
use Rattle.std.proofs.lemmas.Bool.{cases_lt}
use Rattle.std.proofs.lemmas.List.{get_or_past}
use Rattle.std.proofs.lemmas.List.Elements.{All-map, All-set, All-weaker, All-replicate, recursion_from_All}
use Rattle.organism.specs.Newborns.{NewbornValue}
use Rattle.world_config.specs.Events.{EventValue, WhatValue, inject, clear, rate}
use Rattle.world_config.specs.Values.{ConfigValues}
use Rattle.genome.proofs.ListLemmas.{all_append}
use Rattle.lineage_log.proofs.StandingLemmas.{get_pushed}

-- a scene's ids are places
abbrev IsNumberedScene : Scene → Type 0
IsNumberedScene scene = IsNumberedWorld (world_of scene)

-- an id below a number, if there is one, is below a greater number
below_more : (few many : ℕ) (id : Option ℕ) → few ≤ many → IsBelow few id → IsBelow many id
below_more few many None more below = tt
below_more few many (Some id) more below = omega (arith, more, below)

-- with one more that has its place as its id, each still has
numbered_more : (everyone : List Link) (link : Link) → AreNumbered everyone
    → HasPlaceAsId (length everyone) link → AreNumbered (everyone ++ link ∷ [])
numbered_more everyone link are is place other there =
    elim (get_pushed everyone link other place there) [
      | inl before ↦ are place other before
      | inr last ↦ rw (last.0, sym last.1) is
    ]

-- after a death a scene's ids are places still
numbered_death : (scene : Scene) (cell : ℕ) → IsNumberedScene scene
    → IsNumberedScene (with_death scene cell)
unfolding with_death
numbered_death scene cell is = record {
  everyone = is.everyone;
  standing = All-set (λ slot. IsBelow (length scene.everyone) (id_of slot)) scene.cells cell None tt
      is.standing;
}

-- so they are after deaths, one after another
numbered_deaths : (scene : Scene) (cells : List ℕ) → IsNumberedScene scene
    → IsNumberedScene (fold with_death scene cells)
numbered_deaths scene [] is = is
numbered_deaths scene (cell ∷ cells) is =
    numbered_deaths (with_death scene cell) cells (numbered_death scene cell is)

-- deaths leave the list of all as it is
pub deaths_keep : (scene : Scene) (cells : List ℕ)
    → (fold with_death scene cells).everyone ≡ scene.everyone
unfolding with_death
deaths_keep scene [] = refl
deaths_keep scene (cell ∷ cells) = deaths_keep (with_death scene cell) cells

-- with a newcomer that has its place as its id, a scene's ids are places still
numbered_newcomer : (scene : Scene) (link : Link) (organism : OrganismState) → IsNumberedScene scene
    → HasPlaceAsId (length scene.everyone) link
    → IsNumberedScene (with_newcomer scene link organism)
unfolding with_newcomer
numbered_newcomer scene link organism is new =
    let few = length scene.everyone in
    let many = length (scene.everyone ++ link ∷ []) in
    let more : many ≡ few + 1 = length-append scene.everyone (link ∷ []) in
    let low : few ≤ many = omega (arith, more) in
    let mine : link.id < many = omega (arith, more, new.id) in
    record {
      everyone = numbered_more scene.everyone link is.everyone new;
      standing = All-set (λ slot. IsBelow many (id_of slot)) scene.cells link.cell
          (Some (record { id = link.id; organism = organism })) mine
          (All-weaker (λ slot. IsBelow few (id_of slot)) (λ slot. IsBelow many (id_of slot))
          (λ slot. below_more few many (id_of slot) low) scene.cells is.standing);
    }

-- so they are after a birth whose parent is in the list of all
numbered_birth : (config : ConfigValues) (scene : Scene) (turn : Delivery × Placing)
    → turn.0.parent < length scene.everyone → IsNumberedScene scene
    → IsNumberedScene (with_newborn config scene turn)
unfolding with_newborn
numbered_birth config scene turn parent is =
    numbered_newcomer scene (birth_link (next_id scene) scene.update turn.0 turn.1.cell)
    (child_of_birth config turn.0 turn.1) is (record { id = refl; parent = parent })

-- a birth makes the list of all one longer
birth_grows : (config : ConfigValues) (scene : Scene) (turn : Delivery × Placing)
    → length (with_newborn config scene turn).everyone ≡ length scene.everyone + 1
unfolding with_newborn with_newcomer
birth_grows config scene turn =
    length-append scene.everyone (birth_link (next_id scene) scene.update turn.0 turn.1.cell ∷ [])

-- the parent is one of so many
abbrev IsOf : ℕ → Delivery → Type 0
IsOf count b = b.parent < count

-- after births whose parents are in the list of all, a scene's ids are places still
numbered_births : (config : ConfigValues) (count : ℕ) (scene : Scene) (births : List Delivery)
    (placings : List Placing) → count ≤ length scene.everyone → AllByRecursion (IsOf count) births
    → IsNumberedScene scene → IsNumberedScene
    (fold (with_newborn config) scene (zip births placings))
numbered_births config count scene [] placings few of is = is
numbered_births config count scene (b ∷ births) [] few of is = is
numbered_births config count scene (b ∷ births) (p ∷ placings) few of is =
    let parent : b.parent < length scene.everyone = omega (arith, few, of.0) in
    numbered_births config count (with_newborn config scene (b, p)) births placings
    (omega (arith, few, birth_grows config scene (b, p))) of.1
    (numbered_birth config scene (b, p) parent is)

-- so they are after what an event does
numbered_what : (config : ConfigValues) (scene : Scene) (nth : ℕ) (what : WhatValue)
    → IsNumberedScene scene → IsNumberedScene (after_what config scene nth what)
numbered_what config scene nth (inject cell letters) is =
    numbered_newcomer scene (founder_link (next_id scene) scene.update cell letters)
    (founder_of config cell nth letters) is (record { id = refl; parent = tt })
numbered_what config scene nth (clear first last) is =
    numbered_deaths scene (cells_from first last) is
numbered_what config scene nth (rate name ppm) is = is

-- so they are after an event, given with its place
numbered_event : (config : ConfigValues) (scene : Scene) (event : ℕ × EventValue)
    → IsNumberedScene scene → IsNumberedScene (after_event config scene event)
unfolding after_event
numbered_event config scene event is = numbered_what config scene event.0 event.1.what is

-- so they are after events, one after another
numbered_events : (config : ConfigValues) (scene : Scene) (events : List (ℕ × EventValue))
    → IsNumberedScene scene → IsNumberedScene (fold (after_event config) scene events)
numbered_events config scene [] is = is
numbered_events config scene (event ∷ events) is =
    numbered_events config (after_event config scene event) events
    (numbered_event config scene event is)

-- a life leaves the organism its id
among_life : (config : ConfigValues) (count update cell steps : ℕ) (slot : Option Occupant)
    → IsBelow count (id_of slot)
    → IsBelow count (id_of (life_of config update cell steps slot).occupant)
unfolding life_of life_by
among_life config count update cell steps None below = tt
among_life config count update cell steps (Some o) below = below

-- who stands in a cell, if somebody does, is one of so many
slot_among : (count : ℕ) (cells : List (Option Occupant)) (cell : ℕ)
    → All (λ slot. IsBelow count (id_of slot)) cells
    → IsBelow count (id_of (slice_index_or cells cell None))
slot_among count cells cell among = elim (cases_lt cell (length cells)) [
  | inl within ↦ among cell None within
  | inr past ↦ rw (get_or_past cells cell None past) tt
]

-- who stands in the cells after their lives is one of so many
lives_among : (config : ConfigValues) (count update : ℕ) (cells : List (Option Occupant))
    → All (λ slot. IsBelow count (id_of slot)) cells → All (λ l. IsBelow count (id_of l.occupant))
    (lives_of config update cells)
unfolding lives_of
lives_among config count update cells among =
    All-map (λ (l : CellLife). IsBelow count (id_of l.occupant)) (life_at config update cells)
    (range_with_len 0 (length cells))
    (λ k d within. let cell = slice_index_or (range_with_len 0 (length cells)) k d in
    among_life config count update cell (slice_at config cells cell)
    (slice_index_or cells cell None) (slot_among count cells cell among))

-- where a parent is one of so many, so is that of each of its newborns
deliveries_of : (count cell parent : ℕ) (newborns : List NewbornValue) → parent < count
    → AllByRecursion (IsOf count) (map (delivery_of cell parent) newborns)
deliveries_of count cell parent [] below = tt
deliveries_of count cell parent (n ∷ newborns) below =
    (below, deliveries_of count cell parent newborns below)

-- where who stands in a cell is one of so many, so is the parent of each of its newborns
births_by_of : (count cell : ℕ) (newborns : List NewbornValue) (slot : Option Occupant)
    → IsBelow count (id_of slot) → AllByRecursion (IsOf count) (births_by cell newborns slot)
births_by_of count cell newborns None below = tt
births_by_of count cell newborns (Some o) below = deliveries_of count cell o.id newborns below

-- so is the parent of each newborn of the cells from one on
births_from_of : (count from : ℕ) (lives : List CellLife)
    → AllByRecursion (λ l. IsBelow count (id_of l.occupant)) lives
    → AllByRecursion (IsOf count) (flat_map births_in (enumerate_from from lives))
births_from_of count from [] among = tt
births_from_of count from (l ∷ lives) among =
    all_append (IsOf count) (births_by from l.newborns l.occupant)
    (flat_map births_in (enumerate_from (from + 1) lives))
    (births_by_of count from l.newborns l.occupant among.0)
    (births_from_of count (from + 1) lives among.1)

-- so is the parent of each newborn of an update
births_of_of : (count : ℕ) (lives : List CellLife)
    → All (λ l. IsBelow count (id_of l.occupant)) lives
    → AllByRecursion (IsOf count) (births_of lives)
unfolding births_of
births_of_of count lives among =
    births_from_of count 0 lives
    (recursion_from_All (λ (l : CellLife). IsBelow count (id_of l.occupant)) lives among)

-- at the end of an update a scene's ids are places still
numbered_last : (config : ConfigValues) (scene : Scene) (lives : List CellLife)
    → All (λ l. IsBelow (length scene.everyone) (id_of l.occupant)) lives → IsNumberedScene scene
    → IsNumberedScene (last_scene config scene lives)
unfolding last_scene after_burials after_births after_events
numbered_last config scene lives among is =
    let dead = fold with_death scene (deaths_of lives) in
    let births = births_of lives in
    let same : length dead.everyone ≡ length scene.everyone =
    ap length (deaths_keep scene (deaths_of lives)) in
    let born = fold (with_newborn config) dead (turns_of config dead births) in
    numbered_events config born (events_at config born.update)
    (numbered_births config (length scene.everyone) dead births (placings_of config dead births)
    (omega (arith, same)) (births_of_of (length scene.everyone) lives among)
    (numbered_deaths scene (deaths_of lives) is))

-- where a world's ids are places, so are those of the next world
numbered_update : (config : ConfigValues) (w : World) → IsNumberedWorld w
    → IsNumberedWorld (next_world config w)
unfolding next_world next_scene scene_of_lives
numbered_update config w is =
    let lives = lives_after config w in
    let among = lives_among config (length w.everyone) (w.update + 1) w.cells is.standing in
    numbered_last config (after_lives (w.update + 1) w.everyone lives) lives among (record {
      everyone = is.everyone;
      standing = All-map (λ slot. IsBelow (length w.everyone) (id_of slot))
          (λ (l : CellLife). l.occupant) lives among;
    })

-- the ids of the founder's world are places
numbered_first : (config : ConfigValues) → IsNumberedWorld (first_world config)
unfolding first_world
numbered_first config =
    let founder = founder_link 0 0 config.founder_cell config.ancestor in
    let one : 0 < 1 = omega arith in
    record {
      everyone = numbered_more [] founder (λ place link there. absurd cc)
          (record { id = refl; parent = tt });
      standing = All-set (λ slot. IsBelow 1 (id_of slot))
          (replicate (config.width * config.height) None) config.founder_cell
          (Some (record {
            id = 0;
            organism = founder_of config config.founder_cell 0 config.ancestor;
          })) one
          (All-replicate (λ slot. IsBelow 1 (id_of slot)) (config.width * config.height) None tt);
    }

-- the ids of each world of a run are places
pub numbered : (config : ConfigValues) (updates : ℕ) → IsNumberedWorld (world_after config updates)
unfolding world_after
numbered config zero = numbered_first config
numbered config (suc n) = numbered_update config (world_after config n) (numbered config n)
