-- The whole log of a run: its lines in order, from the first to the last, and what they replay to.
use Rattle.std.proofs.Common.{add-one, ◌≡◌, ℕ, zero, suc, ◌+◌, ◌*◌, ◌<◌, ◌≤◌, true, List, [], ◌∷◌, ◌++◌, map, Option, Some, None, Ok, refl, sym, ap, ◌∙◌, arith, inl, inr}
use Rattle.std.specs.Prelude.{replicate, slice_get, slice_set, option_map, unwrap_or, nat_lt, ◌==◌}
use Rattle.world_laws.proofs.Prelude.{AllByRecursion, filter_map, enumerate_from, map-set, length-set, length-replicate, slice_get-map, nat_tests, Letter, Line, End, LogPlace, Before, Within, After, IsWhole, told_start, told_end, told_all, Seen, seen_on, residents_from, replay_of, Link, new_organism, ConfigValues, Occupant, ids_of, founder_of, founder_link, empty_cells, first_occupant, first_world, next_scene, world_after, resident_of, residents_of_world, update_lines, head_line, LifeLaws, IsConfig, size_of, all_append, People, genomes_ever}
use Rattle.world_laws.proofs.ListLemmas.{map-replicate, eqb_same}
use Rattle.world_laws.proofs.Mirror.{written, between, seen_in, Tells, one_line, more_lines, no_lines}
use Rattle.world_laws.proofs.Scenes.{Stands, Known, Agree, stands_with}
use Rattle.world_laws.proofs.Updates.{written_there, people_after}
use Rattle.world_laws.proofs.Sounds.{sound_founder}
use Rattle.world_laws.proofs.Runs.{IsRun, update_tells, run_next}
use Rattle.lineage_log.proofs.ReplayLemmas.{nobody}

-- the lines of so many updates
abbrev pub updates_lines : ConfigValues → ℕ → List Line
updates_lines config zero = []
updates_lines config (suc n) = updates_lines config n ++ update_lines config (world_after config n)

-- what holds of the lines of each update holds of the lines of so many
pub each_update : (config : ConfigValues) (P : Line → Type 0)
    → ((n : ℕ) → n < 4294967295 → AllByRecursion P (update_lines config (world_after config n)))
    → (n : ℕ) → n ≤ 4294967295 → AllByRecursion P (updates_lines config n)
each_update config P each zero few = tt
each_update config P each (suc n) few =
    all_append P (updates_lines config n) (update_lines config (world_after config n))
    (each_update config P each n (omega (arith, few))) (each n (omega (arith, few)))

-- the lines of a run
abbrev pub run_lines : ConfigValues → ℕ → List Line
run_lines config n = head_line config ∷ (updates_lines config n ++ End n ∷ [])

-- the genomes that a reader keeps after so many updates
abbrev pub kept_after : ConfigValues → ℕ → People
kept_after config zero = Some config.ancestor ∷ []
kept_after config (suc n) =
    people_after (kept_after config n) (next_scene config (world_after config n))

-- in empty cells nobody stands
none_there : (count cell : ℕ) (o : Occupant) → Stands (replicate count None) cell o → ⊥
none_there (suc count) (suc cell) o e = none_there count cell o e
none_there _ _ o e = absurd cc

-- who stands in the founder's world
pub only_founder : (config : ConfigValues) (cell : ℕ) (o : Occupant)
    → Stands (slice_set (empty_cells config) config.founder_cell (Some (first_occupant config)))
    cell o → (cell ≡ config.founder_cell) × (first_occupant config ≡ o)
only_founder config cell o h =
    elim (stands_with (empty_cells config) cell config.founder_cell (first_occupant config) o h) [
      | inl here ↦ here
      | inr there ↦ absurd (none_there (size_of config) cell o there.0)
    ]

-- the founder has the genome of the ancestor
founder_genome : (config : ConfigValues) → (first_occupant config).organism.genome ≡ config.ancestor
unfolding founder_of new_organism
founder_genome config = refl

-- the genomes that are kept at first are those of the founder's link
founder_agrees : (config : ConfigValues)
    → Agree (Some config.ancestor ∷ []) (founder_link 0 0 config.founder_cell config.ancestor ∷ [])
founder_agrees config zero letters h = let same : config.ancestor ≡ letters = cc in ap Some same
founder_agrees config (suc id) letters h = absurd cc

-- a genome by its id, as a replay finds it
found_genome : (everyone : List Link) (id : ℕ) (letters : List Letter)
    → slice_get (map written everyone) id ≡ Some (Some letters)
    → unwrap_or (slice_get (genomes_ever everyone) id) [] ≡ letters
found_genome everyone id letters h =
    let found = written_there (slice_get everyone id) letters
    (sym (slice_get-map written everyone id) ∙ h) in
    rw (slice_get-map (λ (l : Link). l.genome) everyone id, found.1) found.2

-- who stands by the ids and the genomes by id is who lives
same_living : (from : ℕ) (cells : List (Option Occupant)) (everyone : List Link)
    → Known (map written everyone) cells
    → residents_from from (ids_of cells) (genomes_ever everyone)
    ≡ filter_map (λ place. option_map (resident_of place.0) place.1) (enumerate_from from cells)
same_living from [] everyone known = refl
same_living from (None ∷ cells) everyone known =
    rw (add-one from) (same_living (suc from) cells everyone (λ c o h. known (suc c) o h))
same_living from (Some o ∷ cells) everyone known =
    let rest = same_living (suc from) cells everyone (λ c o h. known (suc c) o h) in
    rw (found_genome everyone o.id o.organism.genome (known 0 o refl), add-one from, rest) refl

module _ (laws : LifeLaws) (config : ConfigValues) (fit : IsConfig config) where
  -- the genome of who stands in the founder's world is kept at its id
  founder_known : Known (Some config.ancestor ∷ []) (first_world config).cells
  unfolding first_world
  founder_known cell o h = rw (← (only_founder config cell o h).1, founder_genome config) refl

  -- the founder's world
  run_first : IsRun config 0 (Some config.ancestor ∷ []) (first_world config)
  unfolding first_world
  run_first = record {
    world = record {
      sized = length-set (empty_cells config) config.founder_cell (Some (first_occupant config))
          ∙ length-replicate (size_of config) None;
      number = refl;
      known = founder_known;
      kept = founder_known;
      apart = λ cell other o x h k e. (only_founder config cell o h).0
          ∙ sym (only_founder config other x k).0;
      agree = founder_agrees config;
    };
    sound = λ cell o h. rw (← (only_founder config cell o h).1)
        (sound_founder laws config fit config.founder_cell 0 config.ancestor fit.long_enough
        fit.short_enough);
    update = refl;
  }

  -- the world after so many updates
  pub run_after : (n : ℕ) → IsRun config n (kept_after config n) (world_after config n)
  unfolding world_after
  run_after zero = run_first
  run_after (suc n) =
      run_next laws config fit n (kept_after config n) (world_after config n) (run_after n)

  -- the reader after so many updates, and the replay
  abbrev pub reader_after : ℕ → LogPlace
  reader_after n = Within (between (kept_after config n) ((world_after config n).update + 1)
      (world_after config n).cells)

  -- what a replay has seen after so many updates
  abbrev pub seen_after : ℕ → Seen
  seen_after n = seen_in (world_after config n).cells (world_after config n).everyone

  -- the ids in the founder's world
  ids_first : ids_of
      (slice_set (empty_cells config) config.founder_cell (Some (first_occupant config)))
      ≡ slice_set (replicate (size_of config) None) config.founder_cell (Some 0)
  ids_first =
      rw (map-set, map-replicate) refl

  -- the first line leads to the reader of the founder's world
  head_told : told_start 2 config.width config.height config.founder_cell config.ancestor
      ≡ Ok (reader_after 0)
  unfolding told_start world_after first_world
  head_told =
      let inside = fit.founder in
      let test : nat_lt config.founder_cell (config.width * config.height) ≡ true =
      grind (arith, nat_tests) in
      rw (test, ids_first) refl

  -- by the first line a replay sees the founder's world, whatever it has seen
  head_seen : (s : Seen) → seen_on s (head_line config) ≡ seen_after 0
  unfolding world_after first_world
  head_seen s = rw ids_first refl

  -- the lines of one more update take the reader and the replay to the next world
  next_tells : (n : ℕ) → Tells (reader_after n) (seen_after n)
      (update_lines config (world_after config n)) (reader_after (suc n)) (seen_after (suc n))
  unfolding world_after
  next_tells n =
      update_tells laws config fit n (kept_after config n) (world_after config n) (run_after n)

  -- the lines of so many updates take them from the founder's world to the one after
  updates_tell : (n : ℕ) → Tells (reader_after 0) (seen_after 0) (updates_lines config n)
      (reader_after n) (seen_after n)
  updates_tell zero = no_lines (reader_after 0) (seen_after 0)
  updates_tell (suc n) = more_lines (updates_lines config n)
      (update_lines config (world_after config n)) (updates_tell n) (next_tells n)

  -- the last line, with their number, may come after so many updates
  end_told : (n : ℕ) → told_end
      (between (kept_after config n) ((world_after config n).update + 1)
      (world_after config n).cells) n
      ≡ Ok (After (between (kept_after config n) ((world_after config n).update + 1)
      (world_after config n).cells))
  unfolding told_end
  end_told n = let test : (n + 1 == (world_after config n).update + 1) ≡ true =
      rw (run_after n).update (eqb_same (n + 1)) in rw test refl

  -- all lines of a run
  run_tells : (n : ℕ) → Tells Before nobody (run_lines config n)
      (After (between (kept_after config n) ((world_after config n).update + 1)
      (world_after config n).cells)) (seen_after n)
  run_tells n =
      more_lines (head_line config ∷ []) (updates_lines config n ++ End n ∷ [])
      (one_line Before nobody (head_line config) (reader_after 0) (seen_after 0) head_told
      (head_seen nobody))
      (more_lines (updates_lines config n) (End n ∷ []) (updates_tell n)
      (one_line (reader_after n) (seen_after n) (End n) _ (seen_after n) (end_told n) refl))

  -- their order is good
  pub run_whole : (n : ℕ) → IsWhole (told_all Before (run_lines config n))
  run_whole n = let told = (run_tells n).told in rw told tt

  -- they replay to who lives
  pub run_replays : (n : ℕ)
      → replay_of (run_lines config n) ≡ residents_of_world (world_after config n)
  unfolding replay_of
  run_replays n =
      rw (run_tells n).seen (same_living 0 (world_after config n).cells
      (world_after config n).everyone (run_after n).world.kept)
