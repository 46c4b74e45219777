-- One line at a time: each takes the reader from the scene before it to the scene after it.
use Rattle.std.proofs.Common.{◌≡◌, ℕ, ◌+◌, ◌<◌, ◌≤◌, true, List, [], ◌∷◌, ◌++◌, map, length, drop, Option, Some, None, Result, Ok, refl, sym, ap, ◌∙◌, arith}
use Rattle.std.specs.Prelude.{slice_get, slice_set, ◌==◌, nat_lt}
use Rattle.world_laws.proofs.Prelude.{map-set, map-append, slice_get-get_or, slice_get-map, slice_get_within, nat_tests, Letter, BirthRecord, child_of, Death, Birth, Injected, Cleared, Rate, Stage, Dying, Happening, holds, Reader, may_die, may_be_born, parent_in, LogPlace, Within, told_death, told_birth, told_injected, told_cleared, told_rate, Link, OrganismState, Occupant, id_of, ids_of, id_at, Scene, standing_at, with_death, with_newcomer, People, get_more}
use Rattle.mutations.specs.declared.rate_name.RateName.{RateName}
use Rattle.lineage_log.specs.declared.reason.Reason.{Reason}
use Rattle.lineage_log.specs.declared.stage.Stage.TheVariants.{Placing}
use Rattle.lineage_log.specs.Reader as reader
use Rattle.world_laws.proofs.ListLemmas.{eqb_same}
use Rattle.world_laws.proofs.Mirror.{written, people_in, mirror, seen_in, Passes, one_line}
use Rattle.world_laws.proofs.Scenes.{who_stands, people_number, people_grown}

-- the answer that the log goes on, with this reader
abbrev on : Reader → Result LogPlace Reason
on r = Ok (Within r)

-- a slot is the same as itself
same_self : (slot : Option ℕ) → holds (Some slot) slot ≡ true
same_self None = refl
same_self (Some id) = eqb_same id

-- a reader's cell holds who stands there
holds_cell : (cells : List (Option Occupant)) (cell : ℕ) → cell < length cells
    → holds (slice_get (ids_of cells) cell) (id_at cells cell) ≡ true
holds_cell cells cell h =
    rw (slice_get-map id_of cells cell, slice_get-get_or cells cell None h)
    (same_self (id_at cells cell))

-- where an id stands in a cell, the reader's cell holds it
holds_who : (cells : List (Option Occupant)) (cell id : ℕ) → id_at cells cell ≡ Some id
    → holds (slice_get (ids_of cells) cell) (Some id) ≡ true
holds_who cells cell id h =
    let who = who_stands cells cell id h in
    let within : cell < length cells = slice_get_within cells cell (Some who.0) who.1 in
    rw (← h) (holds_cell cells cell within)

-- the mirror of a scene with a death
mirror_death : (start : People) (before stage : Stage) (births : ℕ) (scene : Scene) (cell id : ℕ)
    → standing_at scene cell ≡ Some id
    → reader.reader_with_death (mirror start before births scene) stage cell id
    ≡ mirror start stage births (with_death scene cell)
unfolding with_death
mirror_death start before stage births scene cell id h =
    rw (h, map-set id_of scene.cells cell None) refl

-- the mirror of a scene with somebody new
mirror_newcomer : (start : People) (before stage : Stage) (births more : ℕ) (scene : Scene)
    (link : Link) (organism : OrganismState) → length start ≤ length scene.everyone
    → link.id ≡ length scene.everyone
    → reader.reader_with_newcomer (mirror start before births scene) stage link.cell
    (standing_at scene link.cell) link.genome more
    ≡ mirror start stage more (with_newcomer scene link organism)
unfolding with_newcomer
mirror_newcomer start before stage births more scene link organism grown is =
    let number : length (people_in start scene.everyone) ≡ link.id =
    people_number start scene.everyone grown ∙ sym is in
    rw (people_grown start scene.everyone link grown, map-set, number) refl

-- what a replay sees of a scene with a death
seen_death : (scene : Scene) (cell : ℕ)
    → record (seen_in scene.cells scene.everyone)
    { standing = slice_set (ids_of scene.cells) cell None } ≡ seen_in (with_death scene cell).cells
    (with_death scene cell).everyone
unfolding with_death
seen_death scene cell = rw (map-set id_of scene.cells cell None) refl

-- and with somebody new
seen_newcomer : (scene : Scene) (link : Link) (organism : OrganismState) (cells : List (Option ℕ))
    (genomes : List (List Letter)) → cells ≡ slice_set (ids_of scene.cells) link.cell (Some link.id)
    → genomes ≡ map (λ l. l.genome) scene.everyone ++ link.genome ∷ []
    → record { standing = cells; genomes = genomes }
    ≡ seen_in (with_newcomer scene link organism).cells (with_newcomer scene link organism).everyone
unfolding with_newcomer
seen_newcomer scene link organism cells genomes e f =
    rw (e, f, map-set, map-append) refl

-- the line of a death of age
pub one_death : (start : People) (stage : Stage) (births : ℕ) (scene : Scene) (cell id : ℕ)
    → may_die stage cell ≡ true → standing_at scene cell ≡ Some id
    → Passes start stage births scene (Death id scene.update cell ∷ []) (Dying cell) births
    (with_death scene cell)
unfolding told_death
one_death start stage births scene cell id may h =
    one_line _ _ _ _ _ (rw (eqb_same scene.update, may, holds_who scene.cells cell id h)
    (ap on (mirror_death start stage (Dying cell) births scene cell id h))) (seen_death scene cell)

-- the line of who is cleared
pub one_cleared : (start : People) (stage : Stage) (births : ℕ) (scene : Scene) (cell id : ℕ)
    → standing_at scene cell ≡ Some id
    → Passes start stage births scene (Cleared id scene.update cell ∷ []) Happening births
    (with_death scene cell)
unfolding told_cleared
one_cleared start stage births scene cell id h =
    one_line _ _ _ _ _ (rw (eqb_same scene.update, holds_who scene.cells cell id h)
    (ap on (mirror_death start stage Happening births scene cell id h))) (seen_death scene cell)

-- the line of a rate
pub one_rate : (start : People) (stage : Stage) (births : ℕ) (scene : Scene) (name : RateName)
    (ppm : ℕ)
    → Passes start stage births scene (Rate scene.update name ppm ∷ []) Happening births scene
unfolding told_rate
one_rate start stage births scene name ppm =
    one_line _ _ _ _ _ (rw (eqb_same scene.update) refl) refl

-- the line of an injected organism
pub one_injected : (start : People) (stage : Stage) (births : ℕ) (scene : Scene) (link : Link)
    (organism : OrganismState) → length start ≤ length scene.everyone
    → link.cell < length scene.cells → link.id ≡ length scene.everyone
    → Passes start stage births scene
    (Injected link.id scene.update link.cell (standing_at scene link.cell) link.genome ∷ [])
    Happening births (with_newcomer scene link organism)
unfolding told_injected
one_injected start stage births scene link organism grown within is =
    let people = people_in start scene.everyone in
    let number : (link.id == length people) ≡ true =
    rw (is, people_number start scene.everyone grown) (eqb_same (length scene.everyone)) in
    let stands = holds_cell scene.cells link.cell within in
    one_line _ _ _ _ _ (rw (eqb_same scene.update, number, stands)
    (ap on (mirror_newcomer start stage Happening births births scene link organism grown is)))
    (seen_newcomer scene link organism _ _ refl refl)

-- who lived when the update began has its genome in the mirror
parent_is : (start : People) (stage : Stage) (births : ℕ) (scene : Scene) (parent : ℕ)
    (letters : List Letter) → slice_get start parent ≡ Some (Some letters)
    → parent_in (mirror start stage births scene) parent ≡ Some letters
parent_is start stage births scene parent letters h =
    let low : parent < length start = slice_get_within start parent (Some letters) h in
    let test : nat_lt parent (length start) ≡ true = grind (arith, nat_tests) in
    let found =
    get_more start (map written (drop (length start) scene.everyone)) parent (Some letters) h in
    rw (test, found) refl

-- the line of a birth
pub one_birth : (start : People) (stage : Stage) (births : ℕ) (scene : Scene) (link : Link)
    (organism : OrganismState) (parent : ℕ) (origin : BirthRecord) (letters : List Letter)
    → may_be_born stage ≡ true → length start ≤ length scene.everyone
    → link.cell < length scene.cells → link.id ≡ length scene.everyone
    → slice_get start parent ≡ Some (Some letters)
    → slice_get (map (λ (l : Link). l.genome) scene.everyone) parent ≡ Some letters
    → child_of letters origin ≡ Ok link.genome
    → Passes start stage births scene
    (Birth link.id parent scene.update link.cell (standing_at scene link.cell) origin ∷ [])
    Placing (births + 1) (with_newcomer scene link organism)
unfolding told_birth
one_birth start stage births scene link organism parent origin letters may grown within is lived
    wrote child =
    let people = people_in start scene.everyone in
    let number : (link.id == length people) ≡ true =
    rw (is, people_number start scene.everyone grown) (eqb_same (length scene.everyone)) in
    let stands = holds_cell scene.cells link.cell within in
    let found = parent_is start stage births scene parent letters lived in
    one_line _ _ _ _ _ (rw (eqb_same scene.update, may, number, stands, found, child)
    (ap on (mirror_newcomer start stage Placing births (births + 1) scene link organism grown
    is))) (seen_newcomer scene link organism _ _ refl (rw (wrote, child) refl))
