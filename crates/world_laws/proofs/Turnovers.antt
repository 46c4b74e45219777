-- Who comes and who goes, from the lives of an update to its last event.
use Rattle.std.proofs.Common.{◌≡◌, ◌⊎◌, inl, inr, ◌∙◌, refl, sym, ap, subst, unwrap_or, ℕ, ◌+◌, ◌<◌, ◌≤◌, true, List, [], ◌∷◌, ◌++◌, length, drop, fold, Option, Some, None, arith, length-append, eqb-true}
use Rattle.std.specs.Prelude.{nat_eq, slice_get, slice_set, option_map}
use Rattle.world_laws.proofs.Prelude.{AllByRecursion, IsDistinct, list_any, option_to_list, cases_eq, cases_lt, false_from_ne_true, append-nil, append_assoc, drop-append-le, drop_all, get_or_from_slice_get, slice_get-get_or, slice_get-map, slice_get_within, Placing, OrganismState, new_organism, Link, get_other, EventValue, WhatValue, inject, clear, rate, ConfigValues, Occupant, World, founder_link, founder_of, id_of, ids_of, Scene, cells_from, next_id, standing_at, with_death, with_deaths, with_newcomer, slice_at, Delivery, after_births, after_burials, after_event, after_events, after_what, birth_link, births_of, child_of_birth, deaths_of, events_at, last_scene, lives_after, next_scene, placings_of, scene_of_lives, turns_of, with_newborn, world_after, HasBeen, HasGone, IsStanding, IsTurnover, LifeLaws, IsConfig, size_of, People, get_more, get_seam, get_pushed}
use Rattle.std.specs.Cmp.{nat_eq_equiv}
use Rattle.std.proofs.lemmas.List.Folds.{Any-from_list_any}
use Rattle.std.proofs.lemmas.Map.Keys.{IsDistinct-push}
use Rattle.world_laws.proofs.ListLemmas.{get_emptied, get_written}
use Rattle.world_laws.proofs.Scenes.{IsScene, Stands, gone_more, scene_death, scene_newcomer, stands_with, who_stands}
use Rattle.world_laws.proofs.UpdateLines.{IsEvent, IsTurn, IsWhat, scene_birth, scene_births, scene_deaths, scene_what}
use Rattle.world_laws.proofs.AfterLives.{folk_kept, left_by}
use Rattle.world_laws.proofs.Configs.{events_fit}
use Rattle.world_laws.proofs.Runs.{IsRun, ended, events_are, lives_lawful, scene_ended, turns_are}
use Rattle.world_laws.proofs.WholeLogs.{kept_after, run_after}
use Rattle.world_laws.proofs.Parents.{parents_from, zip_parents}

-- the id of who stands in a cell
standing_id : (scene : Scene) (cell : ℕ) (o : Occupant) → Stands scene.cells cell o
    → standing_at scene cell ≡ Some o.id
standing_id scene cell o h = ap id_of (get_or_from_slice_get scene.cells cell (Some o) None h)

-- who stood there had been
been_more : (cells : List (Option Occupant)) (first few many id : ℕ) → few ≤ many
    → HasBeen cells first few id → HasBeen cells first many id
been_more cells first few many id more (inl stood) = inl stood
been_more cells first few many id more (inr came) = inr (came.0, omega (arith, more, came.1))

-- who is in a list is found there
in_list : (ids : List ℕ) (id : ℕ) → list_any (nat_eq id) ids ≡ true → HasGone ids id
in_list ids id h =
    let any = Any-from_list_any (nat_eq id) ids h in
    let there = slice_get-get_or ids any.0 any.1 any.2 in
    (any.0, there ∙ ap (λ (n : ℕ). Some n) (any.3 ∙ sym (eqb-true id any.1 any.4)))

-- one more that was not there
once_more : (gone : List ℕ) (slot : Option ℕ) → IsDistinct nat_eq gone
    → ((id : ℕ) → slot ≡ Some id → HasGone gone id → ⊥)
    → IsDistinct nat_eq (gone ++ option_to_list slot)
once_more gone None once new = subst (IsDistinct nat_eq) (sym (append-nil gone)) once
once_more gone (Some id) once new =
    IsDistinct-push {eq = nat_eq} nat_eq_equiv gone id once
    (false_from_ne_true (list_any (nat_eq id) gone) (λ h. new id refl (in_list gone id h)))

-- who went first is still gone, and so is who goes now
gone_still : (gone : List ℕ) (slot : Option ℕ) (id : ℕ) → HasGone gone id
    → HasGone (gone ++ option_to_list slot) id
gone_still gone slot id there = (there.0, get_more gone (option_to_list slot) there.0 id there.1)

-- who goes now is gone
gone_now : (gone : List ℕ) (slot : Option ℕ) (id : ℕ) → slot ≡ Some id
    → HasGone (gone ++ option_to_list slot) id
gone_now gone slot id e = (length gone, rw e (get_seam gone [] id))

-- who has gone, with one more
gone_from : (gone : List ℕ) (slot : Option ℕ) (id : ℕ) → HasGone (gone ++ option_to_list slot) id
    → HasGone gone id ⊎ (slot ≡ Some id)
gone_from gone slot id there = elim (gone_more gone slot there.0 id there.1)
    [ inl before ↦ inl (there.0, before) | inr last ↦ inr last ]

module _ (cells : List (Option Occupant)) (before : List Link) (size : ℕ) (start : People) where
  -- the first id of those that come
  abbrev first : ℕ
  first = length before

  -- nobody who stands has gone
  not_gone : (scene : Scene) (id : ℕ) → IsScene size start scene → IsStanding scene.cells id
      → HasGone scene.gone id → ⊥
  not_gone scene id is stands there =
      is.gone stands.0 there.0 stands.1 stands.2 (there.1 ∙ ap (λ (n : ℕ). Some n) (sym stands.3))

  -- who stands in a cell that is emptied or taken goes, and the others stay
  goes_or_stays : (scene : Scene) (at : ℕ) (new : Option Occupant) (id : ℕ)
      → IsStanding scene.cells id → IsStanding (slice_set scene.cells at new) id
      ⊎ HasGone (scene.gone ++ option_to_list (standing_at scene at)) id
  goes_or_stays scene at new id stands = elim (cases_eq stands.0 at) [
    | inl same ↦ inr (gone_now scene.gone (standing_at scene at) id
        (standing_id scene at stands.1 (rw same at stands.2) ∙ ap (λ (n : ℕ). Some n) stands.3))
    | inr other ↦ inl
        (stands.0, stands.1, get_other scene.cells at stands.0 new other ∙ stands.2, stands.3)
  ]

  -- who goes stood there
  went_stood : (scene : Scene) (at id : ℕ) → standing_at scene at ≡ Some id
      → IsStanding scene.cells id
  went_stood scene at id e =
      let who = who_stands scene.cells at id e in
      (at, who.0, who.1, who.2)

  -- who goes had not gone
  once_on : (scene : Scene) (at : ℕ) → IsScene size start scene → IsDistinct nat_eq scene.gone
      → IsDistinct nat_eq (scene.gone ++ option_to_list (standing_at scene at))
  once_on scene at is once =
      once_more scene.gone (standing_at scene at) once
      (λ id e. not_gone scene id is (went_stood scene at id e))

  -- a death
  turnover_death : (scene : Scene) (at : ℕ) → IsScene size start scene
      → IsTurnover cells before scene → IsTurnover cells before (with_death scene at)
  unfolding with_death
  turnover_death scene at is t =
      let next : Scene = record scene {
        cells = slice_set scene.cells at None;
        gone = scene.gone ++ option_to_list (standing_at scene at);
      } in
      record {
        grown = t.grown;
        follows = t.follows;
        standing = λ id stands.
            let stood = (get_emptied scene.cells stands.0 at stands.1 stands.2).0 in
            t.standing id (stands.0, stands.1, stood, stands.3);
        gone = λ id there. elim (gone_from scene.gone (standing_at scene at) id there) [
          | inl before ↦ t.gone id before
          | inr last ↦ t.standing id (went_stood scene at id last)
        ];
        left = λ id been. elim (t.left id been) [
          | inl stands ↦ goes_or_stays scene at None id stands
          | inr there ↦ inr (gone_still scene.gone (standing_at scene at) id there)
        ];
        once = once_on scene at is t.once;
        apart = λ id stands there. (scene_death size start scene is at).gone stands.0 there.0
            stands.1 stands.2 (there.1 ∙ ap (λ (n : ℕ). Some n) (sym stands.3));
        parents = t.parents;
      }

  -- some deaths
  turnover_deaths : (scene : Scene) (ats : List ℕ) → IsScene size start scene
      → IsTurnover cells before scene → IsTurnover cells before (with_deaths scene ats)
  turnover_deaths scene [] is t = t
  turnover_deaths scene (at ∷ ats) is t =
      turnover_deaths (with_death scene at) ats (scene_death size start scene is at)
      (turnover_death scene at is t)

  -- a newcomer
  turnover_newcomer : (scene : Scene) (link : Link) (organism : OrganismState)
      → link.id ≡ length scene.everyone → organism.genome ≡ link.genome → link.cell < size
      → ((parent : ℕ) → link.parent ≡ Some parent → IsStanding cells parent)
      → IsScene size start scene → IsTurnover cells before scene
      → IsTurnover cells before (with_newcomer scene link organism)
  unfolding with_newcomer
  turnover_newcomer scene link organism next same within parents is t =
      let new : Occupant = record { id = link.id; organism = organism } in
      let at = link.cell in
      let more : length (scene.everyone ++ link ∷ []) ≡ length scene.everyone + 1 =
      length-append scene.everyone (link ∷ []) in
      let lift = λ (id : ℕ). been_more cells first (length scene.everyone)
      (length (scene.everyone ++ link ∷ [])) id (omega (arith, more)) in
      let older : (id : ℕ) → HasBeen cells first (length scene.everyone) id
      → IsStanding (slice_set scene.cells at (Some new)) id
      ⊎ HasGone (scene.gone ++ option_to_list (standing_at scene at)) id =
      λ id been. elim (t.left id been) [
        | inl stands ↦ goes_or_stays scene at (Some new) id stands
        | inr there ↦ inr (gone_still scene.gone (standing_at scene at) id there)
      ] in
      record {
        grown = omega (arith, t.grown, more);
        follows = let same = append_assoc before (drop first scene.everyone) (link ∷ []) in
            rw (drop-append-le first scene.everyone (link ∷ []) t.grown, ← same, t.follows) refl;
        standing = λ id stands.
            elim (stands_with scene.cells stands.0 at new stands.1 stands.2) [
              | inl here ↦
                  let e = ap (λ (o : Occupant). o.id) here.1 in
                  inr (omega (arith, t.grown, next, e, stands.3), omega (arith, more, next, e, stands.3))
              | inr far ↦ lift id (t.standing id (stands.0, stands.1, far.0, stands.3))
            ];
        gone = λ id there. elim (gone_from scene.gone (standing_at scene at) id there) [
          | inl before ↦ lift id (t.gone id before)
          | inr last ↦ lift id (t.standing id (went_stood scene at id last))
        ];
        left = λ id been. elim been [
          | inl stood ↦ older id (inl stood)
          | inr came ↦ elim (cases_lt id (length scene.everyone)) [
            | inl low ↦ older id (inr (came.0, low))
            | inr high ↦
                let here = get_written scene.cells at (Some new)
                (omega (arith, within, is.sized)) in
                inl (at, new, here, omega (arith, next, high, came.1, more))
          ]
        ];
        once = once_on scene at is t.once;
        apart = λ id stands there. (scene_newcomer size start scene is link organism next same).gone
            stands.0 there.0 stands.1 stands.2 (there.1 ∙ ap (λ (n : ℕ). Some n) (sym stands.3));
        parents = λ place parent other low there e.
            elim (get_pushed scene.everyone link other place there) [
              | inl before ↦ t.parents place parent other low before e
              | inr last ↦ parents parent (rw (last.1) e)
            ];
      }

  -- the parent of each of these births stood there
  abbrev HaveParents : List (Delivery × Placing) → Type 0
  HaveParents turns =
      AllByRecursion (λ (turn : Delivery × Placing). IsStanding cells turn.0.parent) turns

  -- a birth
  turnover_birth : (config : ConfigValues) (scene : Scene) (turn : Delivery × Placing)
      → turn.1.cell < size → IsStanding cells turn.0.parent → IsScene size start scene
      → IsTurnover cells before scene → IsTurnover cells before (with_newborn config scene turn)
  unfolding with_newborn new_organism
  turnover_birth config scene turn within stood is t =
      turnover_newcomer scene (birth_link (next_id scene) scene.update turn.0 turn.1.cell)
      (child_of_birth config turn.0 turn.1) refl refl within
      (λ parent e. subst (IsStanding cells) (ap (λ (o : Option ℕ). unwrap_or o 0) e) stood) is t

  -- some births
  turnover_births : (config : ConfigValues) (scene : Scene) (turns : List (Delivery × Placing))
      → AllByRecursion (IsTurn size start) turns → HaveParents turns → IsScene size start scene
      → IsTurnover cells before scene
      → IsTurnover cells before (fold (with_newborn config) scene turns)
  turnover_births config scene [] lawful parents is t = t
  turnover_births config scene (turn ∷ turns) lawful parents is t =
      turnover_births config (with_newborn config scene turn) turns lawful.1 parents.1
      (scene_birth size start config scene turn is)
      (turnover_birth config scene turn lawful.0.within parents.0 is t)

  -- what an event does
  turnover_what : (config : ConfigValues) (scene : Scene) (nth : ℕ) (what : WhatValue)
      → IsWhat size what → IsScene size start scene → IsTurnover cells before scene
      → IsTurnover cells before (after_what config scene nth what)
  unfolding founder_of new_organism
  turnover_what config scene nth (inject cell letters) within is t =
      turnover_newcomer scene (founder_link (next_id scene) scene.update cell letters)
      (founder_of config cell nth letters) refl refl within (λ parent e. absurd cc) is t
  turnover_what config scene nth (clear low high) within is t =
      turnover_deaths scene (cells_from low high) is t
  turnover_what config scene nth (rate name ppm) within is t = t

  -- some events
  turnover_events : (config : ConfigValues) (scene : Scene) (events : List (ℕ × EventValue))
      → AllByRecursion (IsEvent size) events → IsScene size start scene
      → IsTurnover cells before scene
      → IsTurnover cells before (fold (after_event config) scene events)
  unfolding after_event
  turnover_events config scene [] within is t = t
  turnover_events config scene (event ∷ events) within is t =
      turnover_events config (after_what config scene event.0 event.1.what) events within.1
      (scene_what size start config scene event.0 event.1.what is)
      (turnover_what config scene event.0 event.1.what within.0 is t)

module _ (laws : LifeLaws) (config : ConfigValues) (fit : IsConfig config) where
  module _ (n : ℕ) (start : People) (w : World) (is : IsRun config n start w) where
    -- as the lives have ended nobody came or went
    turnover_begun : IsTurnover w.cells w.everyone (ended laws config fit n start w is)
    unfolding IsDistinct
    turnover_begun =
        let lives = lives_after config w in
        let folk = folk_kept config (slice_at config w.cells) 0 w.cells lives
        (lives_lawful laws config fit n start w is) in
        record {
          grown = omega arith;
          follows = rw (drop_all (length w.everyone) w.everyone (omega arith)) (append-nil w.everyone);
          standing = λ id stands.
              let was = folk.same stands.0 stands.1 stands.2 in
              inl (stands.0, was.0, was.1, was.2 ∙ stands.3);
          gone = λ id there. absurd cc;
          left = λ id been. elim been [
            | inl stood ↦ inl (stays folk.ids id stood)
            | inr came ↦ absurd (omega (arith, came.0, came.1))
          ];
          once = tt;
          apart = λ id stands there. absurd cc;
          parents = λ place parent link low there e.
              absurd (omega (arith, low, slice_get_within w.everyone place link there));
        }
      where
        stays : ids_of (left_by (lives_after config w)) ≡ ids_of w.cells → (id : ℕ)
            → IsStanding w.cells id → IsStanding (left_by (lives_after config w)) id
        stays ids id stood =
            let same : option_map id_of (slice_get (left_by (lives_after config w)) stood.0)
            ≡ Some (Some stood.1.id) =
            rw (
              ← slice_get-map id_of (left_by (lives_after config w)) stood.0,
              ids,
              slice_get-map id_of w.cells stood.0,
              stood.2,
            ) refl in
            by (slice_get (left_by (lives_after config w)) stood.0) refl same
          where
            by : (found : Option (Option Occupant))
                → slice_get (left_by (lives_after config w)) stood.0 ≡ found
                → option_map id_of found ≡ Some (Some stood.1.id)
                → IsStanding (left_by (lives_after config w)) id
            by (Some (Some o)) e same =
                let it : o.id ≡ stood.1.id = cc in (stood.0, o, e, it ∙ stood.3)
            by _ e same = absurd cc

    -- so it is at the end of the update
    turnover_next : IsTurnover w.cells w.everyone (next_scene config w)
    unfolding next_scene scene_of_lives last_scene after_burials after_births after_events births_of
    turnover_next =
        let lives = lives_after config w in
        let scene = ended laws config fit n start w is in
        let is_ended = scene_ended laws config fit n start w is in
        let buried = after_burials scene lives in
        let born = after_births config buried (births_of lives) in
        let turns = turns_are laws config fit n start w is in
        let size = size_of config in
        let parents = parents_from (IsStanding w.cells) config (slice_at config w.cells) 0 w.cells
        lives (lives_lawful laws config fit n start w is) (λ cell o h. (cell, o, h, refl)) in
        let is_buried = scene_deaths size start scene (deaths_of lives) is_ended in
        let is_born = scene_births size start config buried
        (turns_of config buried (births_of lives)) is_buried in
        turnover_events w.cells w.everyone size start config born (events_at config born.update)
        (events_are config (events_at config born.update) (events_fit config fit born.update))
        is_born
        (turnover_births w.cells w.everyone size start config buried
        (turns_of config buried (births_of lives)) turns.lawful
        (zip_parents (IsStanding w.cells) (births_of lives)
        (placings_of config buried (births_of lives)) parents) is_buried
        (turnover_deaths w.cells w.everyone size start scene (deaths_of lives) is_ended
        turnover_begun))

  -- in each update of a run
  pub turnover_after : (n : ℕ)
      → IsTurnover (world_after config n).cells (world_after config n).everyone
      (next_scene config (world_after config n))
  turnover_after n =
      turnover_next n (kept_after config n) (world_after config n) (run_after laws config fit n)
