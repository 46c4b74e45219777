-- What holds of each who stands in the cells, as organisms go and come.
use Rattle.std.proofs.Common.{◌≡◌, ◌≢◌, inl, inr, sym, subst, ℕ, zero, suc, ◌+◌, ◌<◌, ◌≤◌, Bool, false, List, [], ◌∷◌, length, map, get_or, Option, Some, None, arith}
use Rattle.std.specs.Prelude.{filter, flat_map}
use Rattle.world_laws.proofs.Prelude.{AllByRecursion, enumerate_from, range_with_len, cases_Bool, cases_eq, length-map, recursion_from_All, get_or-map-range_with_len, length-map-range_with_len, slice_get-get_or, slice_get-map, slice_get_within, NewbornValue, OrganismState, Link, CellLife, no_life, Scene, with_death, with_deaths, with_newcomer, Occupant, Delivery, births_by, births_in, delivery_of, all_append}
use Rattle.world_laws.proofs.AfterLives.{left_by}
use Rattle.world_laws.proofs.ListLemmas.{get_emptied}
use Rattle.world_laws.proofs.Scenes.{Each, Stands, stands_with}

-- ---- who stands once some have died

-- who stands after some deaths stood before them, in none of their cells
pub stood_before : (scene : Scene) (ats : List ℕ) (cell : ℕ) (o : Occupant)
    → Stands (with_deaths scene ats).cells cell o
    → Stands scene.cells cell o × AllByRecursion (λ at. cell ≢ at) ats
unfolding with_death
stood_before scene [] cell o h = (h, tt)
stood_before scene (at ∷ ats) cell o h =
    let later = stood_before (with_death scene at) ats cell o h in
    let first = get_emptied scene.cells cell at o later.0 in
    (first.0, (first.1, later.1))

-- a place of a range that is none of those that pass a test fails it
pub fails_test : (test : ℕ → Bool) (from count cell : ℕ)
    → AllByRecursion (λ at. cell ≢ at) (filter test (range_with_len from count)) → from ≤ cell
    → cell < from + count → test cell ≡ false
fails_test test from zero cell others low high = absurd (omega (arith, low, high))
fails_test test from (suc count) cell others low high = elim (cases_Bool (test from)) [
  | inl passes ↦
      let rest = rw passes at others in
      fails_test test (from + 1) count cell rest.1 (omega (arith, low, rest.0)) (omega (arith, high))
  | inr fails ↦ elim (cases_eq cell from) [
    | inl same ↦ rw same fails
    | inr other ↦ fails_test test (from + 1) count cell (rw fails at others)
        (omega (arith, low, other)) (omega (arith, high))
  ]
]

-- ---- what holds of each, as organisms go and come

module _ (Holds : OrganismState → Type 0) where
  -- what holds of each still holds once some have died
  pub each_left : (scene : Scene) (ats : List ℕ) → Each Holds scene.cells
      → Each Holds (with_deaths scene ats).cells
  each_left scene ats each cell o h = each cell o (stood_before scene ats cell o h).0

  -- and once somebody has come of whom it holds
  pub each_with : (scene : Scene) (link : Link) (organism : OrganismState) → Holds organism
      → Each Holds scene.cells → Each Holds (with_newcomer scene link organism).cells
  unfolding with_newcomer
  each_with scene link organism holds each cell o h =
      let new : Occupant = record { id = link.id; organism = organism } in
      elim (stands_with scene.cells cell link.cell new o h) [
        | inl here ↦ rw (← here.1) holds
        | inr there ↦ each cell o there.0
      ]

-- ---- lives and their newborns by their cells

-- the life of who stands in a cell after the lives
pub life_there : (run : ℕ → CellLife) (count cell : ℕ) (o : Occupant)
    → Stands (left_by (map run (range_with_len 0 count))) cell o
    → (cell < count) × (get_or (map run (range_with_len 0 count)) cell no_life ≡ run cell)
    × ((run cell).occupant ≡ Some o)
life_there run count cell o h =
    let lives = map run (range_with_len 0 count) in
    let long : length lives ≡ count = length-map-range_with_len run 0 count in
    let within = slice_get_within (left_by lives) cell (Some o) h in
    let same = length-map lives (λ (l : CellLife). l.occupant) in
    let low : cell < count = omega (arith, within, same, long) in
    let at : get_or lives cell no_life ≡ run cell =
    get_or-map-range_with_len run 0 count cell cell no_life low (omega arith) in
    let here = slice_get-get_or lives cell no_life (omega (arith, low, long)) in
    let there = rw (slice_get-map (λ (l : CellLife). l.occupant) lives cell, here, at) at h in
    (low, at, cc)

-- what holds of the lives of all cells
pub all_lives : (P : CellLife → Type 0) (run : ℕ → CellLife) (count : ℕ)
    → ((cell : ℕ) → cell < count → P (run cell))
    → AllByRecursion P (map run (range_with_len 0 count))
all_lives P run count each =
    recursion_from_All P (map run (range_with_len 0 count)) (λ k d there.
    let low : k < count = omega (arith, there, length-map-range_with_len run 0 count) in
    subst P (sym (get_or-map-range_with_len run 0 count k k d low (omega arith))) (each k low))

module _ (P : NewbornValue → Type 0) where
  -- what holds of newborns holds of them with their parent's cell and id
  newborns_by : (cell parent : ℕ) (newborns : List NewbornValue) → AllByRecursion P newborns
      → AllByRecursion (λ (d : Delivery). P d.newborn) (map (delivery_of cell parent) newborns)
  newborns_by cell parent [] all = tt
  newborns_by cell parent (n ∷ newborns) all = (all.0, newborns_by cell parent newborns all.1)

  -- what holds of a life's newborns holds of the births by who stands in its cell
  births_there : (cell : ℕ) (newborns : List NewbornValue) (slot : Option Occupant)
      → AllByRecursion P newborns
      → AllByRecursion (λ (d : Delivery). P d.newborn) (births_by cell newborns slot)
  births_there cell newborns None all = tt
  births_there cell newborns (Some o) all = newborns_by cell o.id newborns all

  -- what holds of the newborns of all lives
  pub all_births : (from : ℕ) (lives : List CellLife)
      → AllByRecursion (λ (l : CellLife). AllByRecursion P l.newborns) lives
      → AllByRecursion (λ (d : Delivery). P d.newborn)
      (flat_map births_in (enumerate_from from lives))
  all_births from [] all = tt
  all_births from (l ∷ lives) all =
      all_append (λ (d : Delivery). P d.newborn) (births_by from l.newborns l.occupant)
      (flat_map births_in (enumerate_from (from + 1) lives))
      (births_there from l.newborns l.occupant all.0) (all_births (from + 1) lives all.1)
