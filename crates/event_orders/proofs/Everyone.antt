-- The genomes of all organisms that were ever in a world, through an update.
use Rattle.std.proofs.Common.{◌≡◌, ◌∙◌, refl, sym, ap, ℕ, ◌+◌, List, [], ◌∷◌, ◌++◌, length, map, fold, Option, None, Some, arith, append_assoc, append-nil}
use Rattle.event_orders.proofs.Prelude.{AllByRecursion, zip, flat_map, filter_map, cons_option, enumerate_from, range_with_len, map-append, length-map, map-map, Letter, ConfigValues, Occupant, World, founder_of, founder_link, ids_of, Scene, next_id, with_death, cells_from, with_newcomer, CellLife, life_of, life_at, slice_at, Delivery, delivery_of, births_by, births_in, births_of, deaths_of, after_lives, after_burials, placings_of, birth_link, child_of_birth, with_newborn, after_births, after_what, after_event, events_at, after_events, last_scene, scene_of_lives, world_of, newborn_genomes, injected_by, injections_at, genomes_ever}
use Rattle.std.specs.Option.{option_to_list}
use Rattle.birth_board.specs.declared.placing.Placing.{Placing}
use Rattle.birth_board.proofs.PlacementLemmas.{placements_number}
use Rattle.lineage_log.specs.Ancestry.{Link}
use Rattle.organism.specs.OrganismState.{OrganismState}
use Rattle.organism.specs.Lived.{life_by}
use Rattle.world_config.specs.Events.{EventValue, WhatValue, inject, clear, rate}
use Rattle.world_rules.specs.Settings.{torus_of, placing_round_at}

-- the genome of a newborn that is to be placed
abbrev pub birth_genome : Delivery → List Letter
birth_genome b = b.newborn.genome

-- from one scene to the next the organisms with these genomes have come, within one update
record Comes (scene next : Scene) (come : List (List Letter)) : Type 0 where
  genomes : genomes_ever next.everyone ≡ genomes_ever scene.everyone ++ come
  update : next.update ≡ scene.update

-- in a scene that stays nobody comes
comes_none : (scene : Scene) → Comes scene scene []
comes_none scene = record { genomes = sym (append-nil (genomes_ever scene.everyone)); update = refl }

-- some come, and then others
comes_on : {a b c : Scene} (first second : List (List Letter)) → Comes a b first → Comes b c second
    → Comes a c (first ++ second)
comes_on {a} first second before after = record {
  genomes = after.genomes ∙ ap (λ l. l ++ second) before.genomes
      ∙ append_assoc (genomes_ever a.everyone) first second;
  update = after.update ∙ before.update;
}

-- a newcomer is one more
newcomer_comes : (scene : Scene) (link : Link) (organism : OrganismState)
    → Comes scene (with_newcomer scene link organism) (link.genome ∷ [])
unfolding with_newcomer
newcomer_comes scene link organism = record {
  genomes = map-append (λ (l : Link). l.genome) scene.everyone (link ∷ []);
  update = refl;
}

-- with deaths nobody comes
deaths_keep : (scene : Scene) (cells : List ℕ) → Comes scene (fold with_death scene cells) []
unfolding with_death
deaths_keep scene [] = comes_none scene
deaths_keep scene (cell ∷ cells) = let rest = deaths_keep (with_death scene cell) cells in
    record { genomes = rest.genomes; update = rest.update }

-- the newborns come, each with its placing
births_come : (config : ConfigValues) (scene : Scene) (births : List Delivery)
    (placings : List Placing) → length placings ≡ length births
    → Comes scene (fold (with_newborn config) scene (zip births placings)) (map birth_genome births)
unfolding with_newborn
births_come config scene [] placings as_many = comes_none scene
births_come config scene (b ∷ births) [] as_many = absurd (omega (arith, as_many))
births_come config scene (b ∷ births) (p ∷ placings) as_many =
    comes_on (birth_genome b ∷ []) (map birth_genome births)
    (newcomer_comes scene (birth_link (next_id scene) scene.update b p.cell)
    (child_of_birth config b p))
    (births_come config (with_newborn config scene (b, p)) births placings (omega (arith, as_many)))

-- what an event brings
what_comes : (config : ConfigValues) (scene : Scene) (nth : ℕ) (what : WhatValue)
    → Comes scene (after_what config scene nth what) (option_to_list (injected_by what))
what_comes config scene nth (inject cell letters) =
    newcomer_comes scene (founder_link (next_id scene) scene.update cell letters)
    (founder_of config cell nth letters)
what_comes config scene nth (clear first last) = deaths_keep scene (cells_from first last)
what_comes config scene nth (rate name ppm) = comes_none scene

-- what may be there, before a list
in_front : {X : Type 0} (o : Option X) (xs : List X) → option_to_list o ++ xs ≡ cons_option o xs
in_front None xs = refl
in_front (Some x) xs = refl

-- the genome that an event injects, given with its place
abbrev injected : ℕ × EventValue → Option (List Letter)
injected event = injected_by event.1.what

-- what these events bring
events_come : (config : ConfigValues) (scene : Scene) (events : List (ℕ × EventValue))
    → Comes scene (fold (after_event config) scene events) (filter_map injected events)
unfolding after_event
events_come config scene [] = comes_none scene
events_come config scene (event ∷ events) =
    rw (in_front (injected event) (filter_map injected events)) at (comes_on (option_to_list (injected event)) (filter_map injected events)
    (what_comes config scene event.0 event.1.what)
    (events_come config (after_event config scene event) events))

-- there is a placing for each newborn
placings_number : (config : ConfigValues) (scene : Scene) (births : List Delivery)
    → length (placings_of config scene births) ≡ length births
unfolding placings_of
placings_number config scene births =
    placements_number (torus_of config) (map (λ b. b.cell) births) (ids_of scene.cells)
    (placing_round_at config scene.update (next_id scene)) ∙ length-map births (λ b. b.cell)

module _ (config : ConfigValues) (w : World) (lives : List CellLife) where
  -- the scene once the dead have left
  abbrev buried : Scene
  buried = fold with_death (after_lives (w.update + 1) w.everyone lives) (deaths_of lives)

  -- and once the newborns are placed
  abbrev borne : Scene
  borne =
      fold (with_newborn config) buried (zip (births_of lives)
      (placings_of config buried (births_of lives)))

  -- the births have come in that scene, in the update after the world
  borne_comes : Comes (after_lives (w.update + 1) w.everyone lives) borne
      (map birth_genome (births_of lives))
  borne_comes =
      comes_on [] (map birth_genome (births_of lives))
      (deaths_keep (after_lives (w.update + 1) w.everyone lives) (deaths_of lives))
      (births_come config buried (births_of lives) (placings_of config buried (births_of lives))
      (placings_number config buried (births_of lives)))

  -- then the founders come that the events inject
  all_come : Comes (after_lives (w.update + 1) w.everyone lives)
      (fold (after_event config) borne (events_at config borne.update))
      (map birth_genome (births_of lives) ++ injections_at config borne.update)
  all_come =
      comes_on (map birth_genome (births_of lives)) (injections_at config borne.update) borne_comes
      (events_come config borne (events_at config borne.update))

  -- an update adds its births and its injected founders
  pub genomes_next : genomes_ever (world_of (scene_of_lives config w lives)).everyone
      ≡ genomes_ever w.everyone ++ (map birth_genome (births_of lives) ++ injections_at config
      (w.update + 1))
  unfolding scene_of_lives last_scene after_burials after_births after_events
  genomes_next =
      all_come.genomes ∙ ap (λ u. genomes_ever w.everyone
      ++ (map birth_genome (births_of lives) ++ injections_at config u)) borne_comes.update

-- the newborns of a life are all born
abbrev Bears : CellLife → Type 0
Bears l = (cell : ℕ) → map birth_genome (births_by cell l.newborns l.occupant) ≡ newborn_genomes l

-- this holds of the life of a cell
life_bears : (config : ConfigValues) (update cell steps : ℕ) (slot : Option Occupant)
    → Bears (life_of config update cell steps slot)
unfolding life_of life_by
life_bears config update cell steps None at = refl
life_bears config update cell steps (Some o) at = map-map birth_genome (delivery_of at o.id) _

-- and of those of several cells
all_bear : (f : ℕ → CellLife) (cells : List ℕ) → ((cell : ℕ) → Bears (f cell))
    → AllByRecursion Bears (map f cells)
all_bear f [] each = tt
all_bear f (cell ∷ cells) each = (each cell, all_bear f cells each)

-- the births of some lives are their newborns
births_borne : (first : ℕ) (lives : List CellLife) → AllByRecursion Bears lives
    → map birth_genome (flat_map births_in (enumerate_from first lives))
    ≡ flat_map newborn_genomes lives
births_borne first [] bear = refl
births_borne first (l ∷ lives) bear =
    rw (
      map-append birth_genome (births_by first l.newborns l.occupant),
      bear.0 first,
      births_borne (first + 1) lives bear.1,
    ) refl

-- the births of an update are the newborns of its lives
pub births_are : (config : ConfigValues) (update : ℕ) (cells : List (Option Occupant))
    → map birth_genome (births_of (map (life_at config update cells)
    (range_with_len 0 (length cells)))) ≡ flat_map newborn_genomes
    (map (life_at config update cells) (range_with_len 0 (length cells)))
unfolding births_of
births_are config update cells =
    births_borne 0 (map (life_at config update cells) (range_with_len 0 (length cells)))
    (all_bear (life_at config update cells) (range_with_len 0 (length cells))
    (λ cell. life_bears config update cell (slice_at config cells cell) _))
