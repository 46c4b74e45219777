-- Organisms stay sound as a world's update ends, and ids stay few and each of one organism.
use Rattle.std.proofs.Common.{◌≡◌, ℕ, ◌+◌, ◌-◌, ◌*◌, ◌≤◌, List, [], ◌∷◌, ◌++◌, length, Option, Some, None, refl, ap, ◌∙◌, arith, length-append, inl, inr}
use Rattle.std.specs.Prelude.{fold}
use Rattle.world_laws.proofs.Prelude.{AllByRecursion, zip, option_to_list, length-set, length-range_with_len, Letter, Placing, OrganismState, IsSoundOrganism, no_tasks, Link, EventValue, WhatValue, inject, clear, rate, ConfigValues, Occupant, founder_of, founder_link, Scene, next_id, standing_at, with_death, with_deaths, cells_from, with_newcomer, Delivery, child_of_birth, birth_link, with_newborn, after_what, after_event, LifeLaws, HaveOwnIds, IsConfig, FitsWhat}
use Rattle.world_laws.proofs.ListLemmas.{get_emptied}
use Rattle.world_laws.proofs.Scenes.{apart_new, Each, stands_with}
use Rattle.world_laws.proofs.AfterLives.{IsBorn}
use Rattle.world_laws.proofs.Configs.{few_cells, FitsPlaced, genome_fits}

-- who stands in a scene has an id of its own
abbrev pub HasOwnIds : Scene → Type 0
HasOwnIds scene = HaveOwnIds scene.cells (length scene.everyone)

-- what holds as an update ends: organisms are sound, each with its own id, and so many came and
-- died at most
pub record Goes (scene next : Scene) (count deaths : ℕ) : Type 0 where
  pub sound : Each IsSoundOrganism scene.cells → Each IsSoundOrganism next.cells
  pub own : HasOwnIds scene → HasOwnIds next
  pub sized : length next.cells ≡ length scene.cells
  pub grown : length scene.everyone ≤ length next.everyone
  pub few : length next.everyone ≤ length scene.everyone + count
  pub gone : length next.gone ≤ length scene.gone + deaths
  pub update : next.update ≡ scene.update

-- in a scene that stays nobody came and nobody died
goes_nowhere : (scene : Scene) (count deaths : ℕ) → Goes scene scene count deaths
goes_nowhere scene count deaths = record {
  sound = λ s. s;
  own = λ o. o;
  sized = refl;
  grown = omega arith;
  few = omega arith;
  gone = omega arith;
  update = refl;
}

-- from a scene to a second and on to a third, numbers of newcomers and of deaths add up, at most
pub goes_on : {a b c : Scene} {m n k l count deaths : ℕ} → Goes a b m k → Goes b c n l
    → m + n ≤ count → k + l ≤ deaths → Goes a c count deaths
goes_on {a} {b} {c} {m} {n} {k} {l} first second come gone = record {
  sound = λ s. second.sound (first.sound s);
  own = λ o. second.own (first.own o);
  sized = second.sized ∙ first.sized;
  grown = omega (arith, first.grown, second.grown);
  few = omega (arith, first.few, second.few, come);
  gone = omega (arith, first.gone, second.gone, gone);
  update = second.update ∙ first.update;
}

-- what holds of so many newcomers and deaths at most holds of more
pub goes_more : {a b : Scene} {m n k l : ℕ} → Goes a b m k → m ≤ n → k ≤ l → Goes a b n l
goes_more {a} {b} goes h i = goes_on goes (goes_nowhere b 0 0) (omega (arith, h)) (omega (arith, i))

-- with one more dead, or none, the list is at most one longer
gone_one : (gone : List ℕ) (slot : Option ℕ)
    → length (gone ++ option_to_list slot) ≤ length gone + 1
gone_one gone None = omega (arith, length-append gone [])
gone_one gone (Some id) = omega (arith, length-append gone (id ∷ []))

-- with a death nobody came and at most one died
goes_death : (scene : Scene) (cell : ℕ) → Goes scene (with_death scene cell) 0 1
unfolding with_death
goes_death scene at = record {
  sound = λ s cell o h. s cell o (get_emptied scene.cells cell at o h).0;
  own = λ ids. record {
    given = λ cell o h. ids.given cell o (get_emptied scene.cells cell at o h).0;
    apart = λ cell other o x h k e. ids.apart cell other o x
        (get_emptied scene.cells cell at o h).0 (get_emptied scene.cells other at x k).0 e;
  };
  sized = length-set scene.cells at None;
  grown = omega arith;
  few = omega arith;
  gone = gone_one scene.gone (standing_at scene at);
  update = refl;
}

-- with deaths nobody came and at most one died for each cell
pub goes_deaths : (scene : Scene) (cells : List ℕ)
    → Goes scene (with_deaths scene cells) 0 (length cells)
goes_deaths scene [] = goes_nowhere scene 0 0
goes_deaths scene (cell ∷ cells) =
    goes_on (goes_death scene cell) (goes_deaths (with_death scene cell) cells) (omega arith)
    (omega arith)

-- a newcomer with the next id has its own, and so have the others
own_newcomer : (scene : Scene) (link : Link) (organism : OrganismState)
    → link.id ≡ length scene.everyone → HasOwnIds scene
    → HasOwnIds (with_newcomer scene link organism)
unfolding with_newcomer
own_newcomer scene link organism next ids =
    let new : Occupant = record { id = link.id; organism = organism } in
    let grown = length-append scene.everyone (link ∷ []) in
    let id = λ (o : Occupant) (is : new ≡ o). ap (λ (x : Occupant). x.id) is in
    record {
      given = λ cell o h. elim (stands_with scene.cells cell link.cell new o h) [
        | inl here ↦ omega (arith, grown, next, id o here.1)
        | inr there ↦ omega (arith, grown, ids.given cell o there.0)
      ];
      apart = apart_new scene.cells link.cell new ids.apart
          (λ cell o h e. omega (arith, ids.given cell o h, e, next));
    }

-- with a sound newcomer that has the next id one came and at most one died
goes_newcomer : (scene : Scene) (link : Link) (organism : OrganismState)
    → link.id ≡ length scene.everyone → IsSoundOrganism organism
    → Goes scene (with_newcomer scene link organism) 1 1
unfolding with_newcomer
goes_newcomer scene link organism next sound =
    let new : Occupant = record { id = link.id; organism = organism } in
    let grown = length-append scene.everyone (link ∷ []) in
    record {
      sound = λ s cell o h. elim (stands_with scene.cells cell link.cell new o h) [
        | inl here ↦ rw (← here.1) sound
        | inr there ↦ s cell o there.0
      ];
      own = own_newcomer scene link organism next;
      sized = length-set scene.cells link.cell (Some new);
      grown = omega (arith, grown);
      few = omega (arith, grown);
      gone = gone_one scene.gone (standing_at scene link.cell);
      update = refl;
    }

module _ (laws : LifeLaws) (config : ConfigValues) (fit : IsConfig config) where
  -- a newborn makes a sound organism
  sound_newborn : (b : Delivery) (placing : Placing) → IsBorn config b
      → IsSoundOrganism (child_of_birth config b placing)
  sound_newborn b placing is =
      laws.new b.newborn.genome placing.inputs b.newborn.merit b.newborn.credited
      config.memory_limit
      (genome_fits config fit b.newborn.genome is.born.least is.born.greatest)
      (omega (arith, is.born.greatest, fit.room)) (omega (arith, fit.greatest))
      is.born.some_merit is.born.merit

  -- with a birth of a newborn as the rules want it one came and at most one died
  pub goes_birth : (scene : Scene) (turn : Delivery × Placing) → IsBorn config turn.0
      → Goes scene (with_newborn config scene turn) 1 1
  unfolding with_newborn
  goes_birth scene turn is =
      goes_newcomer scene (birth_link (next_id scene) scene.update turn.0 turn.1.cell)
      (child_of_birth config turn.0 turn.1) refl (sound_newborn turn.0 turn.1 is)

  -- with such births at most one came and at most one died for each newborn
  pub goes_births : (scene : Scene) (births : List Delivery) (placings : List Placing)
      → AllByRecursion (IsBorn config) births
      → Goes scene (fold (with_newborn config) scene (zip births placings)) (length births)
      (length births)
  goes_births scene (b ∷ births) (p ∷ placings) are =
      goes_on (goes_birth scene (b, p) are.0)
      (goes_births (with_newborn config scene (b, p)) births placings are.1)
      (omega arith) (omega arith)
  goes_births scene _ _ are = goes_nowhere scene _ _

  -- a founder of an allowed length is a sound organism
  pub sound_founder : (cell nth : ℕ) (letters : List Letter) → config.rules.least ≤ length letters
      → length letters ≤ config.rules.greatest
      → IsSoundOrganism (founder_of config cell nth letters)
  unfolding founder_of
  sound_founder cell nth letters least greatest =
      let low = fit.rules.long_enough in
      let room = fit.room in
      let top = fit.greatest in
      laws.new letters _ (length letters) no_tasks config.memory_limit
      (genome_fits config fit letters least greatest) (omega arith) (omega arith) (omega arith)
      (omega arith)

  -- with what an event does at most one came and at most 65536 died
  goes_what : (scene : Scene) (nth : ℕ) (what : WhatValue) → FitsWhat config what
      → Goes scene (after_what config scene nth what) 1 65536
  goes_what scene nth (inject cell letters) fits =
      goes_more (goes_newcomer scene
      (founder_link (next_id scene) scene.update cell letters) (founder_of config cell nth letters)
      refl (sound_founder cell nth letters fits.1 fits.2)) (omega arith) (omega arith)
  goes_what scene nth (clear first last) fits =
      let few = few_cells config fit in
      goes_more (goes_deaths scene (cells_from first last)) (omega arith)
      (omega (arith, length-range_with_len first (last + 1 - first), fits, few))
  goes_what scene nth (rate name ppm) fits = goes_nowhere scene 1 65536

  -- so it is with an event, given with its place
  pub goes_event : (scene : Scene) (event : ℕ × EventValue) → FitsPlaced config event
      → Goes scene (after_event config scene event) 1 65536
  unfolding after_event
  goes_event scene event fits = goes_what scene event.0 event.1.what fits

  -- with events at most one came and at most 65536 died for each
  pub goes_events : (scene : Scene) (events : List (ℕ × EventValue))
      → AllByRecursion (FitsPlaced config) events
      → Goes scene (fold (after_event config) scene events) (length events) (65536 * length events)
  goes_events scene [] fits = goes_nowhere scene _ _
  goes_events scene (event ∷ events) fits =
      goes_on (goes_event scene event fits.0)
      (goes_events (after_event config scene event) events fits.1) (omega arith) (omega arith)
