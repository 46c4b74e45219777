-- What holds of a world within an update, and stays so as organisms leave it and come into it.
use Rattle.std.proofs.Common.{◌≡◌, ◌≢◌, ℕ, ◌+◌, ◌<◌, ◌≤◌, List, [], ◌∷◌, ◌++◌, map, length, drop, Option, Some, None, refl, sym, ap, ◌∙◌, arith, length-append, ◌⊎◌, inl, inr}
use Rattle.std.specs.Prelude.{slice_get, slice_set, slice_index_or}
use Rattle.world_laws.proofs.Prelude.{option_to_list, drop-append-le, length-set, length-map, length-drop, map-append, append_assoc, append-nil, slice_get_within, cases_eq, Letter, OrganismState, Link, get_other, Occupant, id_of, id_at, Scene, standing_at, with_death, with_newcomer, People, get_more, get_seam, get_pushed, genomes_ever}
use Rattle.world_laws.proofs.ListLemmas.{get_written, get_emptied, set_nothing, got_some}
use Rattle.world_laws.proofs.Mirror.{written, people_in}

-- somebody stands in a cell
abbrev pub Stands : List (Option Occupant) → ℕ → Occupant → Type 0
Stands cells cell o = slice_get cells cell ≡ Some (Some o)

-- the genome of each who stands in a cell is at its id
abbrev pub Known : People → List (Option Occupant) → Type 0
Known genomes cells = (cell : ℕ) (o : Occupant) → Stands cells cell o
    → slice_get genomes o.id ≡ Some (Some o.organism.genome)

-- an id stands in one cell at most
abbrev pub Apart : List (Option Occupant) → Type 0
Apart cells = (cell other : ℕ) (o x : Occupant) → Stands cells cell o → Stands cells other x
    → o.id ≡ x.id → cell ≡ other

-- who has gone stands nowhere
abbrev pub Gone : List ℕ → List (Option Occupant) → Type 0
Gone gone cells =
    (cell place : ℕ) (o : Occupant) → Stands cells cell o → slice_get gone place ≡ Some o.id → ⊥

-- ids below a number
abbrev pub Below : List ℕ → ℕ → Type 0
Below ids end = (place id : ℕ) → slice_get ids place ≡ Some id → id < end

-- the genomes by id are those of the links
abbrev pub Agree : People → List Link → Type 0
Agree genomes everyone = (id : ℕ) (letters : List Letter)
    → slice_get genomes id ≡ Some (Some letters)
    → slice_get (genomes_ever everyone) id ≡ Some letters

-- what holds of each organism
abbrev pub Each : (OrganismState → Type 0) → List (Option Occupant) → Type 0
Each Holds cells = (cell : ℕ) (o : Occupant) → Stands cells cell o → Holds o.organism

-- what holds of a world within an update
pub record IsScene (size : ℕ) (start : People) (scene : Scene) : Type 0 where
  pub sized : length scene.cells ≡ size
  pub grown : length start ≤ length scene.everyone
  pub known : Known (people_in start scene.everyone) scene.cells
  pub kept : Known (map written scene.everyone) scene.cells
  pub apart : Apart scene.cells
  pub gone : Gone scene.gone scene.cells
  pub below : Below scene.gone (length scene.everyone)
  pub agree : Agree start scene.everyone

-- where somebody stands once somebody new does
pub stands_with : (cells : List (Option Occupant)) (cell at : ℕ) (new o : Occupant)
    → Stands (slice_set cells at (Some new)) cell o → ((cell ≡ at) × (new ≡ o))
    ⊎ (Stands cells cell o × (cell ≢ at))
stands_with cells cell at new o h = elim (cases_eq cell at) [
  | inl same ↦
      let here = rw same at h in
      let within = slice_get_within (slice_set cells at (Some new)) at (Some o) here in
      let e = get_written cells at (Some new) (rw length-set at within) in
      inl (same, cc)
  | inr other ↦ inr (sym (get_other cells at cell (Some new) other) ∙ h, other)
]

-- where genomes are at the ids of who stands, so they are once a cell is empty
known_empty : (genomes : People) (cells : List (Option Occupant)) (at : ℕ) → Known genomes cells
    → Known genomes (slice_set cells at None)
known_empty genomes cells at known cell o h = known cell o (get_emptied cells cell at o h).0

-- so they are once somebody comes whose genome is the next one
known_new : (genomes : People) (cells : List (Option Occupant)) (at : ℕ) (new : Occupant)
    → Known genomes cells → new.id ≡ length genomes
    → Known (genomes ++ Some new.organism.genome ∷ []) (slice_set cells at (Some new))
known_new genomes cells at new known is cell o h = elim (stands_with cells cell at new o h) [
  | inl here ↦ rw (← here.1, is) (get_seam genomes [] (Some new.organism.genome))
  | inr there ↦ get_more genomes (Some new.organism.genome ∷ []) o.id (Some o.organism.genome)
      (known cell o there.0)
]

-- ids stay apart once somebody comes whose id nobody has
pub apart_new : (cells : List (Option Occupant)) (at : ℕ) (new : Occupant) → Apart cells
    → ((cell : ℕ) (o : Occupant) → Stands cells cell o → o.id ≡ new.id → ⊥)
    → Apart (slice_set cells at (Some new))
apart_new cells at new apart nobody cell other o x h k e =
    elim (stands_with cells cell at new o h) [
      | inl here ↦ elim (stands_with cells other at new x k) [
        | inl too ↦ here.0 ∙ sym too.0
        | inr there ↦ absurd (nobody other x there.0 (rw here.1 (sym e)))
      ]
      | inr there ↦ elim (stands_with cells other at new x k) [
        | inl too ↦ absurd (nobody cell o there.0 (rw too.1 e))
        | inr both ↦ apart cell other o x there.0 both.0 e
      ]
    ]

-- an id that stands is below the number of genomes
pub id_below : (genomes : People) (cells : List (Option Occupant)) (cell : ℕ) (o : Occupant)
    → Known genomes cells → Stands cells cell o → o.id < length genomes
id_below genomes cells cell o known h =
    slice_get_within genomes o.id (Some o.organism.genome) (known cell o h)

-- the id in a cell is of somebody who stands there
pub who_stands : (cells : List (Option Occupant)) (cell id : ℕ) → id_at cells cell ≡ Some id
    → (o : Occupant) × Stands cells cell o × (o.id ≡ id)
who_stands cells cell id h = found (slice_index_or cells cell None) refl h
  where
    found : (slot : Option Occupant) → slice_index_or cells cell None ≡ slot → id_of slot ≡ Some id
        → (o : Occupant) × Stands cells cell o × (o.id ≡ id)
    found None e f = absurd cc
    found (Some o) e f = (o, got_some cells cell o e, cc)

-- the genomes are as many as the ids
pub people_number : (start : People) (everyone : List Link) → length start ≤ length everyone
    → length (people_in start everyone) ≡ length everyone
people_number start everyone h =
    let tail = drop (length start) everyone in
    let all = length-append start (map written tail) in
    omega (arith, h, all, length-map tail written, length-drop (length start) everyone)

-- the genomes with somebody new
pub people_grown : (start : People) (everyone : List Link) (link : Link)
    → length start ≤ length everyone
    → people_in start (everyone ++ link ∷ []) ≡ people_in start everyone ++ Some link.genome ∷ []
people_grown start everyone link h =
    rw (drop-append-le (length start) everyone (link ∷ []) h, map-append, append_assoc) refl

-- who has gone with one more
pub gone_more : (gone : List ℕ) (slot : Option ℕ) (place id : ℕ)
    → slice_get (gone ++ option_to_list slot) place ≡ Some id → (slice_get gone place ≡ Some id)
    ⊎ (slot ≡ Some id)
gone_more gone None place id h = inl (rw (append-nil gone) at h)
gone_more gone (Some x) place id h =
    elim (get_pushed gone x id place h)
    [ inl before ↦ inl before | inr last ↦ inr (ap Some last.1) ]

module _ (size : ℕ) (start : People) (scene : Scene) (is : IsScene size start scene) where
  -- ids in cells are below the next id
  pub id_small : (cell : ℕ) (o : Occupant) → Stands scene.cells cell o
      → o.id < length scene.everyone
  id_small cell o h =
      let low = id_below (map written scene.everyone) scene.cells cell o is.kept h in
      omega (arith, low, length-map scene.everyone written)

  -- the ids of those who have gone, and of who stands in a cell, are below the next id
  below_more : (cell : ℕ) → Below (scene.gone ++ option_to_list (standing_at scene cell))
      (length scene.everyone)
  below_more cell place id h = elim (gone_more scene.gone (standing_at scene cell) place id h) [
    | inl before ↦ is.below place id before
    | inr last ↦
        let who = who_stands scene.cells cell id last in
        omega (arith, id_small cell who.0 who.1, who.2)
  ]

  -- a death keeps it
  pub scene_death : (cell : ℕ) → IsScene size start (with_death scene cell)
  unfolding with_death
  scene_death at = record {
    sized = length-set scene.cells at None ∙ is.sized;
    grown = is.grown;
    known = known_empty (people_in start scene.everyone) scene.cells at is.known;
    kept = known_empty (map written scene.everyone) scene.cells at is.kept;
    apart = λ cell other o x h k e. is.apart cell other o x
        (get_emptied scene.cells cell at o h).0 (get_emptied scene.cells other at x k).0 e;
    gone = λ cell place o h g.
        let stood = get_emptied scene.cells cell at o h in
        elim (gone_more scene.gone (standing_at scene at) place o.id g) [
          | inl before ↦ is.gone cell place o stood.0 before
          | inr last ↦
              let who = who_stands scene.cells at o.id last in
              stood.1 (is.apart cell at o who.0 stood.0 who.1 (sym who.2))
        ];
    below = below_more at;
    agree = is.agree;
  }

  -- so does a newcomer with the next id
  pub scene_newcomer : (link : Link) (organism : OrganismState) → link.id ≡ length scene.everyone
      → organism.genome ≡ link.genome → IsScene size start (with_newcomer scene link organism)
  unfolding with_newcomer
  scene_newcomer link organism is-next same =
      let new : Occupant = record { id = link.id; organism = organism } in
      let number : length (people_in start scene.everyone) ≡ length scene.everyone =
      people_number start scene.everyone is.grown in
      let grown : length (scene.everyone ++ link ∷ []) ≡ length scene.everyone + 1 =
      length-append scene.everyone (link ∷ []) in
      let before : (cell : ℕ) (o : Occupant) → Stands scene.cells cell o → o.id ≡ link.id → ⊥ =
      λ cell o h e. omega (arith, id_small cell o h, e, is-next) in
      record {
        sized = length-set scene.cells link.cell (Some new) ∙ is.sized;
        grown = omega (arith, is.grown, grown);
        known = rw (people_grown start scene.everyone link is.grown, ← same)
            (known_new (people_in start scene.everyone) scene.cells link.cell new is.known
            (is-next ∙ sym number));
        kept = rw (map-append written scene.everyone (link ∷ []), ← same)
            (known_new (map written scene.everyone) scene.cells link.cell new is.kept
            (is-next ∙ sym (length-map scene.everyone written)));
        apart = apart_new scene.cells link.cell new is.apart before;
        gone = λ cell place o h g. elim (stands_with scene.cells cell link.cell new o h) [
          | inl here ↦
              let low : o.id < length scene.everyone = below_more link.cell place o.id g in
              omega (arith, low, is-next, ap (λ (y : Occupant). y.id) here.1)
          | inr there ↦ elim (gone_more scene.gone (standing_at scene link.cell) place o.id g) [
            | inl early ↦ is.gone cell place o there.0 early
            | inr last ↦
                let who = who_stands scene.cells link.cell o.id last in
                there.1 (is.apart cell link.cell o who.0 there.0 who.1 (sym who.2))
          ]
        ];
        below = λ place id h. omega (arith, below_more link.cell place id h, grown);
        agree = λ id letters h. rw (map-append (λ (l : Link). l.genome) scene.everyone (link ∷ []))
            (get_more (genomes_ever scene.everyone) (link.genome ∷ []) id letters
            (is.agree id letters h));
      }

-- where nobody stands, nobody dies
pub no_death : (scene : Scene) (cell : ℕ) → standing_at scene cell ≡ None
    → with_death scene cell ≡ scene
unfolding with_death
no_death scene cell h =
    rw (
      set_nothing scene.cells cell (nobody (slice_index_or scene.cells cell None) h),
      h,
      append-nil scene.gone,
    ) refl
  where
    nobody : (slot : Option Occupant) → id_of slot ≡ None → slot ≡ None
    nobody None e = refl
    nobody (Some o) e = absurd cc
