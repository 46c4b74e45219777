-- Who comes and who goes in one update, and how genomes come down a line of descent
-- (docs/WORLD.md, "The end of an update" and "Lines of descent").
use Rattle.std.specs.Prelude.{◌≡◌, ◌⊎◌, ℕ, ◌<◌, ◌≤◌, ◌++◌, List, Option, Some, drop, length, nat_eq, slice_get, [], ◌∷◌, None, Ok}
use Rattle.world_laws.specs.Prelude.{IsDistinct, Link, Scene, Occupant, World, line_in}
use Rattle.mutations.specs.BirthRecord.{BirthRecord, child_of}

-- the organism with this id stands in a cell
abbrev pub IsStanding : List (Option Occupant) → ℕ → Type 0
IsStanding cells id =
    (cell : ℕ) × (o : Occupant) × (slice_get cells cell ≡ Some (Some o)) × (o.id ≡ id)

-- it stood there as the update began, or came in the update
abbrev pub HasBeen : List (Option Occupant) → ℕ → ℕ → ℕ → Type 0
HasBeen cells first end id = IsStanding cells id ⊎ ((first ≤ id) × (id < end))

-- it died in the update
abbrev pub HasGone : List ℕ → ℕ → Type 0
HasGone gone id = (place : ℕ) × (slice_get gone place ≡ Some id)

-- who stands or died was there or came, and the reverse; nobody dies twice or stands dead; and the
-- parents of those who came stood in these cells as the update began
pub record IsTurnover (cells : List (Option Occupant)) (before : List Link) (scene : Scene) : Type 0
  where
    pub grown : length before ≤ length scene.everyone
    pub follows : before ++ drop (length before) scene.everyone ≡ scene.everyone
    pub standing : (id : ℕ) → IsStanding scene.cells id
        → HasBeen cells (length before) (length scene.everyone) id
    pub gone : (id : ℕ) → HasGone scene.gone id
        → HasBeen cells (length before) (length scene.everyone) id
    pub left : (id : ℕ) → HasBeen cells (length before) (length scene.everyone) id
        → IsStanding scene.cells id ⊎ HasGone scene.gone id
    pub once : IsDistinct nat_eq scene.gone
    pub apart : (id : ℕ) → IsStanding scene.cells id → HasGone scene.gone id → ⊥
    pub parents : (place parent : ℕ) (link : Link)
        → length before ≤ place → slice_get scene.everyone place ≡ Some link
        → link.parent ≡ Some parent → IsStanding cells parent

-- the record of a link makes its genome of the other's
pub record IsChildOf (parent link : Link) : Type 0 where
  pub record_of_birth : BirthRecord
  pub recorded : link.origin ≡ Some record_of_birth
  pub child : child_of parent.genome record_of_birth ≡ Ok link.genome

-- a founder has no record, and the record of any other makes its genome of its parent's
abbrev pub ComesFrom : List Link → Option ℕ → Link → Type 0
ComesFrom everyone None link = link.origin ≡ None
ComesFrom everyone (Some parent) link =
    (before : Link) × (slice_get everyone parent ≡ Some before) × IsChildOf before link

-- so it is of each of these
abbrev pub AreDescended : List Link → Type 0
AreDescended everyone =
    (place : ℕ) (link : Link)
    → slice_get everyone place ≡ Some link
    → ComesFrom everyone link.parent link

-- each of a line but the first is made of the one before it
abbrev pub IsDescent : List Link → Type 0
IsDescent [] = Unit {0}
IsDescent (link ∷ []) = Unit {0}
IsDescent (link ∷ next ∷ links) = IsChildOf link next × IsDescent (next ∷ links)

-- who stands in a cell has the genome of its record, and its line of descent ends with that record
pub record IsLastOfLine (w : World) (cell : ℕ) (occupant : Occupant) : Type 0 where
  pub last : Link
  pub recorded : slice_get w.everyone occupant.id ≡ Some last
  pub genome : last.genome ≡ occupant.organism.genome
  pub before : List Link
  pub line : line_in w cell ≡ Some (before ++ last ∷ [])
