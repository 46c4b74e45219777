-- Organisms beside their ids, as one cell changes.
use Rattle.std.proofs.Common.{◌≡◌, ◌∙◌, ◌<◌, refl, sym, ap, ℕ, zero, suc, List, [], ◌∷◌, length, map, set, get_or, replicate, Option, Some, None, arith}
use Rattle.world_core.proofs.Prelude.{get_or_read, length-map, length-replicate, length-set, map-set, standing_in, standing_of, Standing, organism_of_image, OrganismState, Resident, values_in, image_of, merit_in, with_id, organism_in, Occupant, AreKeptBeside, occupants_of, merit_or_zero, IsResidentIn, map-replicate}
use Rattle.std.proofs.Math.ListN.{get_or-map}
use Rattle.world_core.specs.declared.cell_table.CellTable.TheInside.{Inside}

-- there are as many cells as organisms and gaps
pub occupants_of-length : (os : List (Option OrganismState)) (ids : List ℕ) → length ids ≡ length os
    → length (occupants_of os ids) ≡ length os
occupants_of-length [] ids long = refl
occupants_of-length (o ∷ os) [] long = absurd (omega (arith, long))
occupants_of-length (o ∷ os) (id ∷ ids) long =
    ap suc (occupants_of-length os ids (omega (arith, long)))

-- who stands in a cell
pub occupants_of-at : (os : List (Option OrganismState)) (ids : List ℕ) (cell : ℕ)
    → length ids ≡ length os
    → get_or (occupants_of os ids) cell None ≡ with_id (get_or ids cell 0) (get_or os cell None)
occupants_of-at [] ids cell long = refl
occupants_of-at (o ∷ os) [] cell long = absurd (omega (arith, long))
occupants_of-at (o ∷ os) (id ∷ ids) zero long = refl
occupants_of-at (o ∷ os) (id ∷ ids) (suc cell) long =
    occupants_of-at os ids cell (omega (arith, long))

-- a cell becomes empty
pub occupants_of-remove : (os : List (Option OrganismState)) (ids : List ℕ) (cell : ℕ)
    → occupants_of (set os cell None) ids ≡ set (occupants_of os ids) cell None
occupants_of-remove [] ids cell = refl
occupants_of-remove (o ∷ os) [] zero = refl
occupants_of-remove (o ∷ os) [] (suc cell) = refl
occupants_of-remove (o ∷ os) (id ∷ ids) zero = refl
occupants_of-remove (o ∷ os) (id ∷ ids) (suc cell) =
    ap (λ rest. with_id id o ∷ rest) (occupants_of-remove os ids cell)

-- somebody comes into a cell
pub occupants_of-put : (os : List (Option OrganismState)) (ids : List ℕ) (cell id : ℕ)
    (o : OrganismState) → length ids ≡ length os
    → occupants_of (set os cell (Some o)) (set ids cell id)
    ≡ set (occupants_of os ids) cell (Some (record { id = id; organism = o }))
occupants_of-put [] ids cell id o long = refl
occupants_of-put (x ∷ os) [] cell id o long = absurd (omega (arith, long))
occupants_of-put (x ∷ os) (y ∷ ids) zero id o long = refl
occupants_of-put (x ∷ os) (y ∷ ids) (suc cell) id o long =
    ap (λ rest. with_id y x ∷ rest) (occupants_of-put os ids cell id o (omega (arith, long)))

-- nobody stands anywhere
pub occupants_of-none : (n : ℕ) (ids : List ℕ) → length ids ≡ n
    → occupants_of (replicate n None) ids ≡ replicate n None
occupants_of-none zero ids long = refl
occupants_of-none (suc n) [] long = absurd (omega (arith, long))
occupants_of-none (suc n) (id ∷ ids) long =
    ap (λ rest. None ∷ rest) (occupants_of-none n ids (omega (arith, long)))

-- where nobody stands nothing is counted, and that is kept
pub AreKeptBeside-none : (n : ℕ) (os : List (Option OrganismState)) (ids : List ℕ)
    (standings : List (Option Standing)) → os ≡ replicate n None → length ids ≡ n
    → standings ≡ replicate n None → AreKeptBeside os ids standings
AreKeptBeside-none n os ids standings empty many untold = record {
  long = rw empty (many ∙ sym (length-replicate {A = Option OrganismState} n None));
  counted = rw empty (untold ∙ sym (map-replicate standing_in n None));
}

-- beside a cell that changes is kept what is counted of who stands there now
pub AreKeptBeside-set : (os : List (Option OrganismState)) (ids next : List ℕ)
    (standings : List (Option Standing)) (cell : ℕ) (slot : Option OrganismState)
    (standing : Option Standing) → AreKeptBeside os ids standings → length next ≡ length ids
    → standing ≡ standing_in slot
    → AreKeptBeside (set os cell slot) next (set standings cell standing)
AreKeptBeside-set os ids next standings cell slot standing beside many is = record {
  long = many ∙ beside.long ∙ sym (length-set os cell slot);
  counted = (λ i. set (beside.counted i) cell (is i)) ∙ sym (map-set standing_in os cell slot);
}

-- an id takes nothing from the organism
pub organism-with : (id : ℕ) (slot : Option OrganismState) → organism_in (with_id id slot) ≡ slot
organism-with id None = refl
organism-with id (Some o) = refl

-- a cell of a table, whose organisms and ids lie apart
module _ (r : Inside) (cell : ℕ) {cells : List (Option Occupant)} (within : cell < length cells)
    (beside : AreKeptBeside r.organisms.items r.ids.items r.standings.items)
    (are : occupants_of r.organisms.items r.ids.items ≡ cells) where
  -- has an organism or a gap
  pub has_slot : cell < r.organisms.len
  has_slot =
      omega (
        arith,
        within,
        r.organisms.ok.0,
        occupants_of-length r.organisms.items r.ids.items beside.long,
        ap length are,
      )

  -- and an id
  pub has_id : cell < r.ids.len
  has_id = omega (arith, has_slot, r.organisms.ok.0, r.ids.ok.0, beside.long)

  -- and something that is counted of it
  pub has_standing : cell < r.standings.len
  has_standing =
      omega (
        arith,
        has_slot,
        r.organisms.ok.0,
        r.standings.ok.0,
        ap length beside.counted,
        length-map r.organisms.items standing_in,
      )

  -- who stands there, by what was read
  pub read-slot : (read slot : Option OrganismState) → read ≡ get_or r.organisms.items cell read
      → read ≡ slot → get_or cells cell None ≡ with_id (get_or r.ids.items cell 0) slot
  read-slot read slot found is =
      let here = get_or_read r.organisms.items cell read
      (omega (arith, has_slot, r.organisms.ok.0)) found None in
      rw (← are, occupants_of-at r.organisms.items r.ids.items cell beside.long, sym here ∙ is)

  -- what is counted of who stands there
  pub read-standing : (read : Option Standing) → read ≡ get_or r.standings.items cell read
      → read ≡ standing_in (organism_in (get_or cells cell None))
  read-standing read found =
      rw (
        ← are,
        occupants_of-at r.organisms.items r.ids.items cell beside.long,
        organism-with,
        get_or_read r.standings.items cell read (omega (arith, has_standing, r.standings.ok.0))
            found None,
        beside.counted,
      )
      (get_or-map standing_in r.organisms.items cell None)

  -- the id
  pub read-id : (id : ℕ) → id ≡ get_or r.ids.items cell id → id ≡ get_or r.ids.items cell 0
  read-id id found =
      get_or_read r.ids.items cell id (omega (arith, has_id, r.ids.ok.0)) found 0

-- its merit counts in the cell
merit-of : (id : ℕ) (o : Option OrganismState)
    → merit_in (with_id id o) ≡ merit_or_zero (standing_in o)
merit-of id None = refl
merit-of id (Some o) = refl

-- the merits in the cells are those that are counted of the organisms
pub merits-of : (os : List (Option OrganismState)) (ids : List ℕ) → length ids ≡ length os
    → map merit_in (occupants_of os ids) ≡ map merit_or_zero (map standing_in os)
merits-of [] ids long = refl
merits-of (o ∷ os) [] long = absurd (omega (arith, long))
merits-of (o ∷ os) (id ∷ ids) long = λ i. merit-of id o i ∷ merits-of os ids (omega (arith, long)) i

-- who is counted like this
pub somebody : (slot : Option Occupant) (standing : Standing)
    → standing_in (organism_in slot) ≡ Some standing
    → (o : Occupant) × (slot ≡ Some o) × (standing_of o.organism ≡ standing)
somebody None standing is = absurd cc
somebody (Some o) standing is = (o, refl, cc)

-- nobody is not counted
pub nobody : (slot : Option Occupant) → standing_in (organism_in slot) ≡ None → slot ≡ None
nobody None is = refl
nobody (Some o) is = absurd cc

-- a resident with this cell and id and the image of an organism has its values
pub resident_is : (cell id : ℕ) (o : OrganismState) (resident : Resident) → resident.cell ≡ cell
    → resident.id ≡ id → organism_of_image resident.image o.machine.limit ≡ o
    → resident.image.cpu ≡ image_of o.machine
    → IsResidentIn cell (Some (record { id = id; organism = o })) (Some resident)
resident_is cell id o resident at named is machine =
    (λ i. values_in (at i) (record { id = named i; organism = is i }), machine)
