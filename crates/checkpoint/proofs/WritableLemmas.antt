-- What stands in a state that can be written may stand in a saved world.
use Rattle.std.proofs.Common.{◌≡◌, ◌∙◌, refl, sym, ap, subst, ℕ, zero, suc, ◌+◌, ◌*◌, ◌<◌, ◌^◌, List, [], ◌∷◌, Option, Some, None, arith, ◌≢◌}
use Rattle.std.specs.Prelude.{slice_get}
use Rattle.checkpoint.proofs.Prelude.{AllByRecursion, length-replicate, All-from_recursion, slice_get_within, Occupant, Placed, SavedState, AreSaved, MayStandThere, IsWritable}
use Rattle.saved_worlds.specs.Resuming.{forgotten}
use Rattle.saved_worlds.proofs.Valid.{head_up}
use Rattle.world_laws.proofs.Scenes.{Stands}

-- who stands in some cells, of which the first has this number
abbrev pub standing_from : ℕ → List (Option Occupant) → List Placed
standing_from first [] = []
standing_from first (None ∷ cells) = standing_from (first + 1) cells
standing_from first (Some o ∷ cells) =
    record { cell = first; occupant = o } ∷ standing_from (first + 1) cells

-- what holds of who stands in each cell
all_standing : (P : Placed → Type 0) (first : ℕ) (cells : List (Option Occupant))
    → ((cell : ℕ) (o : Occupant) → Stands cells cell o
    → P (record { cell = first + cell; occupant = o }))
    → AllByRecursion P (standing_from first cells)
all_standing P first [] each = tt
all_standing P first (None ∷ cells) each = all_standing P (first + 1) cells (λ cell o h.
    let at : first + suc cell ≡ first + 1 + cell = omega arith in
    subst (λ n. P (record { cell = n; occupant = o })) at (each (suc cell) o h))
all_standing P first (Some o ∷ cells) each =
    let here : first + 0 ≡ first = omega arith in (
      subst (λ n. P (record { cell = n; occupant = o })) here (each 0 o refl),
      all_standing P (first + 1) cells (λ cell o h.
          let at : first + suc cell ≡ first + 1 + cell = omega arith in
          subst (λ n. P (record { cell = n; occupant = o })) at (each (suc cell) o h)),
    )

-- who is among those stands in a cell
stood : (first : ℕ) (cells : List (Option Occupant)) (place : ℕ) (one : Placed)
    → slice_get (standing_from first cells) place ≡ Some one
    → (cell : ℕ) × (one.cell ≡ first + cell) × Stands cells cell one.occupant
stood first [] place one h = absurd cc
stood first (None ∷ cells) place one h =
    let deep = stood (first + 1) cells place one h in
    (suc deep.0, omega (arith, deep.1), deep.2)
stood first (Some o ∷ cells) zero one h =
    let here : Placed = record { cell = first; occupant = o } in
    let is : here ≡ one = cc in (
      0,
      sym (ap (λ (p : Placed). p.cell) is) ∙ omega arith,
      ap (λ (p : Placed). Some (Some p.occupant)) is,
    )
stood first (Some o ∷ cells) (suc place) one h =
    let deep = stood (first + 1) cells place one h in
    (suc deep.0, omega (arith, deep.1), deep.2)

-- they are in the order of their cells
in_order : (first : ℕ) (cells : List (Option Occupant)) (place next : ℕ) (one other : Placed)
    → place < next → slice_get (standing_from first cells) place ≡ Some one
    → slice_get (standing_from first cells) next ≡ Some other → one.cell < other.cell
in_order first [] place next one other before h k = absurd cc
in_order first (None ∷ cells) place next one other before h k =
    in_order (first + 1) cells place next one other before h k
in_order first (Some o ∷ cells) place zero one other before h k = absurd (omega (arith, before))
in_order first (Some o ∷ cells) zero (suc next) one other before h k =
    let here : Placed = record { cell = first; occupant = o } in
    let is : here ≡ one = cc in
    let deep = stood (first + 1) cells next other k in
    omega (arith, deep.1, ap (λ (p : Placed). p.cell) is)
in_order first (Some o ∷ cells) (suc place) (suc next) one other before h k =
    in_order (first + 1) cells place next one other (omega (arith, before)) h k

module _ (state : SavedState) (is : IsWritable state) where
  -- who stands in a cell may stand there
  stands_well : (cell : ℕ) (o : Occupant) → Stands state.cells cell o
      → MayStandThere state.head (record { cell = 0 + cell; occupant = o })
  stands_well cell o h =
      let stand = is.valid.stand in
      let range = stand.each cell o h in
      let given = length-replicate state.head.next_id forgotten in
      record {
        cell = omega (arith, slice_get_within state.cells cell (Some o) h, stand.cells);
        occupant = record {
          sound = stand.sound cell o h;
          id = omega (arith, stand.own.given cell o h, given);
          genome = (range.least, range.greatest);
          age = is.fits.ages cell o h;
          young = range.young;
          limit = range.limit;
          credited = range.credited;
          gestation = range.gestation;
          inputs = range.inputs;
        };
      }

  -- an id stands in one cell
  come_before : (place next : ℕ) (one other : Placed) → place < next
      → slice_get (standing_from 0 state.cells) place ≡ Some one
      → slice_get (standing_from 0 state.cells) next ≡ Some other
      → (one.cell < other.cell) × (one.occupant.id ≢ other.occupant.id)
  come_before place next one other before h k =
      let low = in_order 0 state.cells place next one other before h k in
      let a = stood 0 state.cells place one h in
      let b = stood 0 state.cells next other k in (
        low,
        λ same.
            let cells = is.valid.stand.own.apart a.0 b.0 one.occupant other.occupant a.2 b.2 same in
            omega (arith, low, a.1, b.1, cells),
      )

  -- so a saved world can be made of it
  pub state_saved : AreSaved state.head (standing_from 0 state.cells)
  state_saved = record {
    values = head_up (2 ^ 62 + 2 ^ 32 * state.head.update) (2 ^ 62) state is.fits.next_id
        is.valid.head;
    each = All-from_recursion (MayStandThere state.head) (standing_from 0 state.cells)
        (all_standing (MayStandThere state.head) 0 state.cells stands_well);
    rising = come_before;
  }
