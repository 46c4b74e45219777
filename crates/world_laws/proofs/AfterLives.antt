-- Who stands in the cells after the lives of an update, and how many newborns there are.
use Rattle.std.proofs.Common.{◌≡◌, ℕ, zero, suc, ◌+◌, ◌<◌, ◌≤◌, List, [], ◌∷◌, map, length, take, Option, Some, None, refl, sym, ap, ◌∙◌, arith, length-append, inl, inr, sum}
use Rattle.std.specs.Prelude.{slice_get, slice_index_or, flat_map}
use Rattle.world_laws.proofs.Prelude.{AllByRecursion, enumerate_from, zip, length-map, take_all, get_or_past, sum_by_more, sum_by-take-le, cases_lt, Letter, Placing, NewbornValue, IsSoundOrganism, ConfigValues, Occupant, id_of, ids_of, CellLife, Delivery, births_by, births_in, births_of, delivery_of, all_append, People}
use Rattle.world_laws.proofs.Scenes.{Stands, Known, Each}
use Rattle.world_laws.proofs.UpdateLines.{IsTurn}
use Rattle.world_laws.proofs.Updates.{KeepsFolk}
use Rattle.world_laws.proofs.LivesLemmas.{IsNewborn, IsLife, AreLives}

-- the cells that lives leave
abbrev pub left_by : List CellLife → List (Option Occupant)
left_by lives = map (λ l. l.occupant) lives

-- a life leaves its cell the id that stood there, or none
slot_id : (config : ConfigValues) (steps : ℕ) (slot : Option Occupant) (l : CellLife)
    → IsLife config steps slot l → id_of l.occupant ≡ id_of slot
slot_id config steps None l is = ap id_of is.0
slot_id config steps (Some o) l is = ap id_of is.stays ∙ ap Some is.id

-- lives leave all cells their ids
ids_stay : (config : ConfigValues) (steps : ℕ → ℕ) (from : ℕ) (cells : List (Option Occupant))
    (lives : List CellLife) → AreLives config steps from cells lives
    → ids_of (left_by lives) ≡ ids_of cells
ids_stay config steps from [] [] are = refl
ids_stay config steps from (slot ∷ cells) (l ∷ lives) are =
    rw (slot_id config (steps from) slot l are.0, ids_stay config steps (from + 1) cells lives are.1)
    refl
ids_stay config steps from _ _ are = absurd are

-- who stood in a cell before, of which this is known
pub record WasIn (slot : Option (Option Occupant)) (o : Occupant) : Type 0 where
  pub who : Occupant
  pub stood : slot ≡ Some (Some who)
  pub id : who.id ≡ o.id
  pub genome : who.organism.genome ≡ o.organism.genome
  pub sound : IsSoundOrganism o.organism

-- who stood in one of these cells before
abbrev pub WasThere : List (Option Occupant) → ℕ → Occupant → Type 0
WasThere cells cell o = WasIn (slice_get cells cell) o

-- who stands in the first cell after its life stood there before
slot_was : (config : ConfigValues) (steps : ℕ) (slot : Option Occupant) (l : CellLife)
    (cells : List (Option Occupant)) (o : Occupant) → IsLife config steps slot l
    → l.occupant ≡ Some o → WasThere (slot ∷ cells) 0 o
slot_was config steps None l cells o is e = let n = is.0 in absurd cc
slot_was config steps (Some x) l cells o is e =
    let f = is.stays in
    let same : is.who ≡ o = cc in
    rw (← same)
    (record { who = x; stood = refl; id = sym is.id; genome = sym is.genome; sound = is.sound })

-- who stands after the lives is sound, and stood there before with its id and genome
pub was_there : (config : ConfigValues) (steps : ℕ → ℕ) (from : ℕ) (cells : List (Option Occupant))
    (lives : List CellLife) → AreLives config steps from cells lives → (cell : ℕ) (o : Occupant)
    → Stands (left_by lives) cell o → WasThere cells cell o
was_there config steps from [] [] are cell o h = absurd cc
was_there config steps from (slot ∷ cells) (l ∷ lives) are zero o h =
    let e : l.occupant ≡ Some o = cc in slot_was config (steps from) slot l cells o are.0 e
was_there config steps from (slot ∷ cells) (l ∷ lives) are (suc cell) o h =
    was_there config steps (from + 1) cells lives are.1 cell o h
was_there config steps from _ _ are cell o h = absurd are

-- lives leave the cells their ids and genomes
pub folk_kept : (config : ConfigValues) (steps : ℕ → ℕ) (from : ℕ) (cells : List (Option Occupant))
    (lives : List CellLife) → AreLives config steps from cells lives
    → KeepsFolk cells (left_by lives)
folk_kept config steps from cells lives are = record {
  ids = ids_stay config steps from cells lives are;
  same = λ cell o h. let w = was_there config steps from cells lives are cell o h in
      (w.who, w.stood, w.id, w.genome);
}

-- each who stands after the lives is sound
pub sound_kept : (config : ConfigValues) (steps : ℕ → ℕ) (from : ℕ) (cells : List (Option Occupant))
    (lives : List CellLife) → AreLives config steps from cells lives
    → Each IsSoundOrganism (left_by lives)
sound_kept config steps from cells lives are cell o h =
    (was_there config steps from cells lives are cell o h).sound

-- the parent lived when the update began, and the newborn is as the rules want it
pub record IsDelivery (config : ConfigValues) (size : ℕ) (start : People) (d : Delivery) : Type 0
  where
    pub letters : List Letter
    pub lived : slice_get start d.parent ≡ Some (Some letters)
    pub born : IsNewborn config letters d.newborn
    pub within : d.cell < size

module _ (config : ConfigValues) (P : Delivery → Type 0) where
  -- what holds of each newborn of a parent holds of their births
  newborns_hold : (cell parent : ℕ) (letters : List Letter) (newborns : List NewbornValue)
      → AllByRecursion (IsNewborn config letters) newborns
      → ((n : NewbornValue) → IsNewborn config letters n → P (delivery_of cell parent n))
      → AllByRecursion P (map (delivery_of cell parent) newborns)
  newborns_hold cell parent letters [] born each = tt
  newborns_hold cell parent letters (n ∷ newborns) born each =
      (each n born.0, newborns_hold cell parent letters newborns born.1 each)

  -- so it does of the births of a cell, by who stood there
  slot_holds : (steps cell : ℕ) (slot : Option Occupant) (l : CellLife)
      → IsLife config steps slot l → ((o : Occupant) (n : NewbornValue) → slot ≡ Some o
      → IsNewborn config o.organism.genome n → P (delivery_of cell o.id n))
      → AllByRecursion P (births_by cell l.newborns l.occupant)
  slot_holds steps cell None l is each = rw is.0 tt
  slot_holds steps cell (Some o) l is each =
      rw (is.stays, is.id) (newborns_hold cell o.id o.organism.genome l.newborns is.newborns
      (λ n born. each o n refl born))

  -- and of those of the cells from one on
  pub births_hold : (steps : ℕ → ℕ) (size from : ℕ) (cells : List (Option Occupant))
      (lives : List CellLife) → AreLives config steps from cells lives
      → from + length cells ≤ size
      → ((cell at : ℕ) (o : Occupant) (n : NewbornValue) → Stands cells cell o → at < size
      → IsNewborn config o.organism.genome n → P (delivery_of at o.id n))
      → AllByRecursion P (flat_map births_in (enumerate_from from lives))
  births_hold steps size from [] [] are fits each = tt
  births_hold steps size from (slot ∷ cells) (l ∷ lives) are fits each =
      all_append P (births_by from l.newborns l.occupant)
      (flat_map births_in (enumerate_from (from + 1) lives))
      (slot_holds (steps from) from slot l are.0
      (λ o n e born. each 0 from o n (ap Some e) (omega (arith, fits)) born))
      (births_hold steps size (from + 1) cells lives are.1 (omega (arith, fits))
      (λ cell at o n h low born. each (suc cell) at o n h low born))
  births_hold steps size from _ _ are fits each = absurd are

-- the newborns of an update are lawful
pub births_lawful : (config : ConfigValues) (size : ℕ) (start : People) (steps : ℕ → ℕ)
    (cells : List (Option Occupant)) (lives : List CellLife) → AreLives config steps 0 cells lives
    → length cells ≡ size → Known start cells
    → AllByRecursion (IsDelivery config size start) (births_of lives)
unfolding births_of
births_lawful config size start steps cells lives are sized known =
    births_hold config (IsDelivery config size start) steps size 0 cells lives are
    (omega (arith, sized)) (λ cell at o n there low born. record
    { letters = o.organism.genome; lived = known cell o there; born = born; within = low })

-- a newborn of some parent is as the rules want it
pub record IsBorn (config : ConfigValues) (d : Delivery) : Type 0 where
  pub letters : List Letter
  pub born : IsNewborn config letters d.newborn

-- so is each newborn of an update
pub births_born : (config : ConfigValues) (steps : ℕ → ℕ) (cells : List (Option Occupant))
    (lives : List CellLife) → AreLives config steps 0 cells lives
    → AllByRecursion (IsBorn config) (births_of lives)
unfolding births_of
births_born config steps cells lives are =
    births_hold config (IsBorn config) steps (length cells) 0 cells lives are (omega arith)
    (λ cell at o n there low born. record { letters = o.organism.genome; born = born })

-- so many numbers of a sequence, together
abbrev pub steps_in_all : (ℕ → ℕ) → ℕ → ℕ → ℕ
steps_in_all steps from zero = 0
steps_in_all steps from (suc count) = steps from + steps_in_all steps (from + 1) count

-- a cell has no more births than its life has steps
slot_few : (config : ConfigValues) (steps cell : ℕ) (slot : Option Occupant) (l : CellLife)
    → IsLife config steps slot l → length (births_by cell l.newborns l.occupant) ≤ steps
slot_few config steps cell None l is = rw is.0 (omega arith)
slot_few config steps cell (Some o) l is =
    rw is.stays (omega (arith, is.few, length-map l.newborns (delivery_of cell is.who.id)))

-- the cells from one on have no more births than steps in all
births_few_from : (config : ConfigValues) (steps : ℕ → ℕ) (from : ℕ)
    (cells : List (Option Occupant)) (lives : List CellLife)
    → AreLives config steps from cells lives
    → length (flat_map births_in (enumerate_from from lives)) ≤ steps_in_all steps from
    (length cells)
births_few_from config steps from [] [] are = omega arith
births_few_from config steps from (slot ∷ cells) (l ∷ lives) are =
    let first = slot_few config (steps from) from slot l are.0 in
    let rest = births_few_from config steps (from + 1) cells lives are.1 in
    omega (
      arith,
      first,
      rest,
      length-append (births_by from l.newborns l.occupant)
          (flat_map births_in (enumerate_from (from + 1) lives)),
    )
births_few_from config steps from _ _ are = absurd are

-- no more newborns than steps
pub births_few : (config : ConfigValues) (steps : ℕ → ℕ) (cells : List (Option Occupant))
    (lives : List CellLife) → AreLives config steps 0 cells lives
    → length (births_of lives) ≤ steps_in_all steps 0 (length cells)
unfolding births_of
births_few config steps cells lives are = births_few_from config steps 0 cells lives are

-- entries of a list from a place on are no more than the rest of its sum
entries_from : (xs : List ℕ) (from count : ℕ)
    → sum (take from xs) + steps_in_all (λ i. slice_index_or xs i 0) from count ≤ sum xs
entries_from xs from zero = omega (arith, sum_by-take-le (λ x. x) xs from)
entries_from xs from (suc count) =
    let rest = entries_from xs (from + 1) count in
    elim (cases_lt from (length xs)) [
      | inl within ↦ omega (arith, rest, sum_by_more (λ x. x) xs from 0 within)
      | inr past ↦
          let same = rw (take_all (from + 1) xs (omega (arith, past))) at rest in
          rw (take_all from xs past) (omega (arith, same, get_or_past xs from 0 past))
    ]

-- so many first entries of a list are together no more than its sum
pub entries_few : (xs : List ℕ) (count : ℕ)
    → steps_in_all (λ i. slice_index_or xs i 0) 0 count ≤ sum xs
entries_few xs count = omega (arith, entries_from xs 0 count)

-- deliveries with placings in the world are turns
pub turns_lawful : (config : ConfigValues) (size : ℕ) (start : People) (births : List Delivery)
    (placings : List Placing) → AllByRecursion (IsDelivery config size start) births
    → AllByRecursion (λ (p : Placing). p.cell < size) placings
    → AllByRecursion (IsTurn size start) (zip births placings)
turns_lawful config size start (b ∷ births) (p ∷ placings) lawful within =
    let d = lawful.0 in (
      record { letters = d.letters; lived = d.lived; child = d.born.child; within = within.0 },
      turns_lawful config size start births placings lawful.1 within.1,
    )
turns_lawful config size start _ _ lawful within = tt
