-- The lines of an update take the reader from one world to the next.
use Rattle.std.proofs.Common.{◌≡◌, ℕ, suc, ◌+◌, ◌-◌, ◌≤◌, true, List, [], ◌∷◌, ◌++◌, map, length, drop, Option, Some, None, Ok, refl, sym, ap, ◌∙◌, arith, inl, inr}
use Rattle.std.specs.Prelude.{slice_get, slice_set, option_map}
use Rattle.world_laws.proofs.Prelude.{AllByRecursion, length-map, append-nil, drop_all, cases_lt, slice_get-map, Letter, Count, Stage, Quiet, taken, may_be_born, Within, told_count, at_next_update, without, get_other, Link, ConfigValues, Occupant, World, id_of, ids_of, Scene, CellLife, scene_stats, stats_in, after_lives, deaths_of, after_burials, births_of, turns_of, after_births, events_at, after_events, last_scene, death_lines, birth_lines, event_lines, lines_of_lives, People, genomes_ever}
use Rattle.world_laws.proofs.ListLemmas.{get_left, get_right, get_dropped, eqb_same}
use Rattle.world_laws.proofs.Mirror.{written, people_in, mirror, between, seen_in, Tells, one_line, more_lines}
use Rattle.world_laws.proofs.Scenes.{Stands, Known, Apart, Agree, IsScene, people_number}
use Rattle.world_laws.proofs.UpdateLines.{rising_part, ToBirths, ToEvents, scene_deaths, all_deaths, IsTurn, scene_births, all_births, IsEvent, scene_events, all_events}
use Rattle.lineage_log.proofs.StandingLemmas.{kept_before, length_without}

-- those who stay keep their genomes
without_others : (ids : List ℕ) (people : People) (id : ℕ)
    → ((place : ℕ) → slice_get ids place ≡ Some id → ⊥)
    → slice_get (without ids people) id ≡ slice_get people id
without_others [] people id h = refl
without_others (x ∷ ids) people id h =
    without_others ids (slice_set people x None) id
    (λ place e. h (suc place) e) ∙ get_other people x id None (λ e. h 0 (ap Some (sym e)))

-- a link that was written, with its genome
pub written_there : (slot : Option Link) (letters : List Letter)
    → option_map written slot ≡ Some (Some letters) → (link : Link) × (slot ≡ Some link)
    × (link.genome ≡ letters)
written_there None letters e = absurd cc
written_there (Some link) letters e = (link, refl, cc)

-- genomes within an update agree with the links
agree_in : (start : People) (everyone : List Link) (id : ℕ) (letters : List Letter)
    → Agree start everyone → length start ≤ length everyone
    → slice_get (people_in start everyone) id ≡ Some (Some letters)
    → slice_get (genomes_ever everyone) id ≡ Some letters
agree_in start everyone id letters agree grown h = elim (cases_lt id (length start)) [
  | inl low ↦ agree id letters
      (sym (get_left start (map written (drop (length start) everyone)) id low) ∙ h)
  | inr high ↦
      let n = length start in
      let at : n + (id - n) ≡ id = omega (arith, high) in
      let wrote : option_map written (slice_get everyone id) ≡ Some (Some letters) =
      rw at at (rw (get_right, slice_get-map, get_dropped) at (rw (← at) at h)) in
      let found = written_there (slice_get everyone id) letters wrote in
      rw (slice_get-map (λ (l : Link). l.genome) everyone id, found.1, found.2) refl
]

-- the genomes that a reader keeps after an update
abbrev pub people_after : People → Scene → People
people_after start scene = without scene.gone (people_in start scene.everyone)

-- what holds of a world and the genomes that a reader keeps
pub record IsWorld (size : ℕ) (start : People) (cells : List (Option Occupant))
    (everyone : List Link) : Type 0 where
  pub sized : length cells ≡ size
  pub number : length start ≡ length everyone
  pub known : Known start cells
  pub kept : Known (map written everyone) cells
  pub apart : Apart cells
  pub agree : Agree start everyone

-- ids and genomes of the cells stay through lives
pub record KeepsFolk (cells later : List (Option Occupant)) : Type 0 where
  pub ids : ids_of later ≡ ids_of cells
  pub same : (cell : ℕ) (o : Occupant) → Stands later cell o → (x : Occupant) × Stands cells cell x
      × (x.id ≡ o.id) × (x.organism.genome ≡ o.organism.genome)

-- the line of what is counted
one_count : (start : People) (stage : Stage) (births : ℕ) (scene : Scene)
    → told_count (mirror start stage births scene) (scene_stats scene births)
    ≡ Ok (Within (at_next_update (mirror start stage births scene)))
unfolding told_count stats_in
one_count start stage births scene =
    let living = eqb_same (taken (ids_of scene.cells)) in
    rw (eqb_same scene.update, living, eqb_same births, eqb_same (length scene.gone)) refl

-- the reader when the next update is due is that between two updates
renewed_is : (start : People) (stage : Stage) (births : ℕ) (scene : Scene)
    → at_next_update (mirror start stage births scene)
    ≡ between (people_after start scene) (scene.update + 1) scene.cells
renewed_is start stage births scene =
    rw (length_without scene.gone (people_in start scene.everyone)) refl

-- what is counted ends an update
pub count_tells : (start : People) (stage : Stage) (births : ℕ) (scene : Scene)
    → Tells (Within (mirror start stage births scene)) (seen_in scene.cells scene.everyone)
    (Count (scene_stats scene births) ∷ [])
    (Within (between (people_after start scene) (scene.update + 1) scene.cells))
    (seen_in scene.cells scene.everyone)
count_tells start stage births scene =
    one_line _ _ _ _ _ (one_count start stage births scene
    ∙ ap (λ r. Ok (Within r)) (renewed_is start stage births scene)) refl

-- an update leaves a world
pub world_left : (size : ℕ) (start : People) (scene : Scene) → IsScene size start scene
    → IsWorld size (people_after start scene) scene.cells scene.everyone
world_left size start scene is = record {
  sized = is.sized;
  number = length_without scene.gone (people_in start scene.everyone)
      ∙ people_number start scene.everyone is.grown;
  known = λ cell o h. without_others scene.gone (people_in start scene.everyone) o.id
      (λ place e. is.gone cell place o h e) ∙ is.known cell o h;
  kept = is.kept;
  apart = is.apart;
  agree = λ id letters h. agree_in start scene.everyone id letters is.agree is.grown
      (kept_before scene.gone (people_in start scene.everyone) id letters h);
}

-- the genomes as an update begins
people_begun : (start : People) (everyone : List Link) → length start ≡ length everyone
    → people_in start everyone ≡ start
people_begun start everyone h =
    ap (λ (l : List Link). start ++ map written l)
    (drop_all (length start) everyone (omega (arith, h))) ∙ append-nil start

module _ (size : ℕ) (start : People) (w : World) (lives : List CellLife)
    (is : IsWorld size start w.cells w.everyone)
    (folk : KeepsFolk w.cells (map (λ l. l.occupant) lives)) where
  -- the scene as the lives have ended
  abbrev pub begun : Scene
  begun = after_lives (w.update + 1) w.everyone lives

  -- an update begins with a scene
  pub scene_begun : IsScene size start begun
  scene_begun = record {
    sized = sym (length-map begun.cells id_of) ∙ ap length folk.ids ∙ length-map w.cells id_of
        ∙ is.sized;
    grown = omega (arith, is.number);
    known =
        rw (people_begun start w.everyone is.number) (λ cell o h. stays start is.known cell o h);
    kept = λ cell o h. stays (map written w.everyone) is.kept cell o h;
    apart = λ cell other o x h k e.
        let a = folk.same cell o h in
        let b = folk.same other x k in
        is.apart cell other a.0 b.0 a.1 b.1 (a.2 ∙ e ∙ sym b.2);
    gone = λ cell place o h e. absurd cc;
    below = λ place id h. absurd cc;
    agree = is.agree;
  }
    where
      stays : (genomes : People) → Known genomes w.cells → Known genomes begun.cells
      stays genomes known cell o h =
          let a = folk.same cell o h in
          rw (a.2, a.3) at (known cell a.0 a.1)

  -- the reader as an update begins is that between two updates
  pub begun_is : mirror start Quiet 0 begun ≡ between start (w.update + 1) w.cells
  begun_is = rw (people_begun start w.everyone is.number, folk.ids) refl

  -- the lives change nothing that a replay has seen
  pub seen_begun : seen_in begun.cells w.everyone ≡ seen_in w.cells w.everyone
  seen_begun = rw folk.ids refl

-- an update from the scene as its lives have ended
module _ (size : ℕ) (start : People) (config : ConfigValues) (scene : Scene) (lives : List CellLife)
    (is : IsScene size start scene) where
  -- its newborns are lawful
  pub record AreTurns : Type 0 where
    pub number : length (turns_of config (after_burials scene lives) (births_of lives))
        ≡ length (births_of lives)
    pub lawful : AllByRecursion (IsTurn size start)
        (turns_of config (after_burials scene lives) (births_of lives))

  -- what holds of the scene holds once the dead have left
  scene_buried : IsScene size start (after_burials scene lives)
  unfolding after_burials
  scene_buried = scene_deaths size start scene (deaths_of lives) is

  -- and once the newborns are placed
  scene_born : IsScene size start
      (after_births config (after_burials scene lives) (births_of lives))
  unfolding after_births
  scene_born = scene_births size start config (after_burials scene lives)
      (turns_of config (after_burials scene lives) (births_of lives)) scene_buried

  -- and at the end of the update
  pub scene_last : IsScene size start (last_scene config scene lives)
  unfolding last_scene after_events
  scene_last =
      let born = after_births config (after_burials scene lives) (births_of lives) in
      scene_events size start config born (events_at config born.update) scene_born

  -- after the lines of its deaths births may come
  deaths_tell : ToBirths start Quiet 0 scene (death_lines scene (deaths_of lives)) 0
      (after_burials scene lives)
  unfolding after_burials deaths_of
  deaths_tell = all_deaths start Quiet 0 0 scene (deaths_of lives) (rising_part _ 0 (length lives))
      (λ cell h. refl) refl

  -- after the lines of its births too, and each newborn is counted
  births_tell : (stage : Stage) → may_be_born stage ≡ true → AreTurns
      → ToBirths start stage 0 (after_burials scene lives)
      (birth_lines config (after_burials scene lives) (births_of lives)) (length (births_of lives))
      (after_births config (after_burials scene lives) (births_of lives))
  unfolding after_births
  births_tell stage may turns =
      let buried = after_burials scene lives in
      let list = turns_of config buried (births_of lives) in
      let e : 0 + length list ≡ length (births_of lives) = omega (arith, turns.number) in
      rw (← e) (all_births size start stage 0 config buried list scene_buried turns.lawful may)

  -- the lines of its events take the reader on to the end of the update
  events_tell : (stage : Stage) (births : ℕ)
      → ((update : ℕ) → AllByRecursion (IsEvent size) (events_at config update))
      → ToEvents start stage births
      (after_births config (after_burials scene lives) (births_of lives))
      (event_lines config (after_births config (after_burials scene lives) (births_of lives)))
      (last_scene config scene lives)
  unfolding last_scene after_events
  events_tell stage births events =
      let born = after_births config (after_burials scene lives) (births_of lives) in
      all_events size start stage births config born (events_at config born.update) scene_born
      (events born.update)

  -- its lines
  pub lives_tell : AreTurns
      → ((update : ℕ) → AllByRecursion (IsEvent size) (events_at config update))
      → Tells (Within (mirror start Quiet 0 scene)) (seen_in scene.cells scene.everyone)
      (lines_of_lives config scene lives)
      (Within (between (people_after start (last_scene config scene lives))
      ((last_scene config scene lives).update + 1) (last_scene config scene lives).cells))
      (seen_in (last_scene config scene lives).cells (last_scene config scene lives).everyone)
  unfolding lines_of_lives
  lives_tell turns events =
      let buried = after_burials scene lives in
      let born = after_births config buried (births_of lives) in
      let deaths = deaths_tell in
      let births = births_tell deaths.later deaths.may turns in
      let happened = events_tell births.later (length (births_of lives)) events in
      let last = last_scene config scene lives in
      let counted = count_tells start happened.later (length (births_of lives)) last in
      more_lines (death_lines scene (deaths_of lives) ++ birth_lines config buried (births_of lives)
      ++ event_lines config born) (Count (scene_stats last (length (births_of lives))) ∷ [])
      (more_lines (death_lines scene (deaths_of lives)
      ++ birth_lines config buried (births_of lives)) (event_lines config born)
      (more_lines (death_lines scene (deaths_of lives))
      (birth_lines config buried (births_of lives)) deaths.passes births.passes)
      happened.passes) counted
