-- A walk over the cells, and over the lines of a log.
use Rattle.std.proofs.Common.{◌≡◌, ℕ, suc, ◌+◌, ◌<◌, ◌≤◌, List, [], ◌∷◌, ◌++◌, Option, Some, None, length, drop, eqb, get_or, map, set, add-one, append_assoc, refl, sym, ap, ◌∙◌, arith}
use Rattle.std.specs.Prelude.{count_by, is_some, slice_get}
use Rattle.phylogeny.proofs.Prelude.{common_steps, drop_more, count_by-le-length, Line, Dweller, living_from, newcomer_parent, parents_in, standing_after, standing_on}
use Rattle.phylogeny.proofs.CountLemmas.{count_cons}
use Rattle.lineage_log.proofs.ResidentWalks.{drop_is}

-- who stands in a cell
abbrev pub dweller_at : ℕ → ℕ → Dweller
dweller_at cell id = record { cell = cell; id = id }

-- who lives from a cell on, by what stands in the cell and by the cells behind it
cells_left : (standing : List (Option ℕ)) (cell : ℕ) (slot : Option ℕ) → cell < length standing
    → get_or standing cell None ≡ slot
    → living_from cell (drop cell standing) ≡ living_from cell (slot ∷ drop (cell + 1) standing)
cells_left standing cell slot within is =
    ap (living_from cell) (drop_more standing cell None within
    ∙ ap (λ (s : Option ℕ). s ∷ drop (cell + 1) standing) is)

-- nobody stands in a cell
pub living_without : (standing : List (Option ℕ)) (cell : ℕ) → cell < length standing
    → get_or standing cell None ≡ None
    → living_from cell (drop cell standing) ≡ living_from (cell + 1) (drop (cell + 1) standing)
living_without standing cell within is = cells_left standing cell None within is
    ∙ ap (λ (n : ℕ). living_from n (drop (cell + 1) standing)) (sym (add-one cell))

-- somebody stands in it
pub living_with : (standing : List (Option ℕ)) (cell id : ℕ) → cell < length standing
    → get_or standing cell None ≡ Some id
    → living_from cell (drop cell standing) ≡ dweller_at cell id ∷ living_from (cell + 1)
    (drop (cell + 1) standing)
living_with standing cell id within is = cells_left standing cell (Some id) within is
    ∙ ap (λ (n : ℕ). dweller_at cell id ∷ living_from n (drop (cell + 1) standing))
    (sym (add-one cell))

-- one who lives more of a walk over the cells
pub mapped_with : {B : Type 0} (f : Dweller → B) (old new all : List B) (standing : List (Option ℕ))
    (cell id : ℕ) → cell < length standing → get_or standing cell None ≡ Some id
    → new ≡ old ++ f (dweller_at cell id) ∷ []
    → old ++ map f (living_from cell (drop cell standing)) ≡ all
    → new ++ map f (living_from (cell + 1) (drop (cell + 1) standing)) ≡ all
mapped_with {B} f old new all standing cell id within is more so_far =
    let rest = map f (living_from (cell + 1) (drop (cell + 1) standing)) in
    ap (λ (bs : List B). bs ++ rest) more
    ∙ append_assoc old (f (dweller_at cell id) ∷ []) rest
    ∙ sym (ap (λ (ls : List Dweller). old ++ map f ls) (living_with standing cell id within is))
    ∙ so_far

-- nobody more of a walk over the cells, where one is empty
pub mapped_without : {B : Type 0} (f : Dweller → B) (old all : List B) (standing : List (Option ℕ))
    (cell : ℕ) → cell < length standing → get_or standing cell None ≡ None
    → old ++ map f (living_from cell (drop cell standing)) ≡ all
    → old ++ map f (living_from (cell + 1) (drop (cell + 1) standing)) ≡ all
mapped_without f old all standing cell within is so_far =
    sym (ap (λ (ls : List Dweller). old ++ map f ls) (living_without standing cell within is))
    ∙ so_far

-- as many live as cells are taken
pub living_count : (cell : ℕ) (standing : List (Option ℕ))
    → length (living_from cell standing) ≡ count_by is_some standing
living_count cell [] = refl
living_count cell (None ∷ slots) =
    omega (arith, living_count (suc cell) slots, count_cons is_some None slots)
living_count cell (Some id ∷ slots) =
    omega (arith, living_count (suc cell) slots, count_cons is_some (Some id) slots)

-- how many of these have an id
abbrev pub here : ℕ → List Dweller → ℕ
here id living = count_by (λ who. eqb who.id id) living

-- no id is counted more often than there are cells
pub here_few : (id : ℕ) (standing : List (Option ℕ))
    → here id (living_from 0 standing) ≤ length standing
here_few id standing =
    omega (
      arith,
      count_by-le-length (λ who. eqb who.id id) (living_from 0 standing),
      living_count 0 standing,
      count_by-le-length is_some standing,
    )

-- with those from this cell on, each id is counted as often as it stands in a cell
abbrev pub AreCounted : List ℕ → ℕ → ℕ → List (Option ℕ) → Type 0
AreCounted counts ids cell standing = (id : ℕ) → id < ids
    → get_or counts id 0 + here id (living_from cell (drop cell standing))
    ≡ here id (living_from 0 standing)

-- an empty cell leaves the counts as they are
pub counted_without : (counts : List ℕ) (ids cell : ℕ) (standing : List (Option ℕ))
    → cell < length standing → get_or standing cell None ≡ None
    → AreCounted counts ids cell standing → AreCounted counts ids (cell + 1) standing
counted_without counts ids cell standing within is counted id few =
    ap (λ (ls : List Dweller). get_or counts id 0 + here id ls)
    (sym (living_without standing cell within is)) ∙ counted id few

-- a cell with somebody in it adds one to the count of the id
pub counted_with : (counts : List ℕ) (ids cell who : ℕ) (standing : List (Option ℕ))
    → length counts ≡ ids → cell < length standing → who < ids
    → get_or standing cell None ≡ Some who → AreCounted counts ids cell standing
    → AreCounted (set counts who (get_or counts who 0 + 1)) ids (cell + 1) standing
counted_with counts ids cell who standing len within few is counted id small =
    let rest = living_from (cell + 1) (drop (cell + 1) standing) in
    let left = ap (here id) (living_with standing cell who within is)
    ∙ count_cons (λ w. eqb w.id id) (dweller_at cell who) rest in
    let there : who < length counts = omega (arith, len) in
    grind (arith, common_steps, left, counted id small, there)

-- one line more is told
pub parents_more : (lines : List Line) (at : ℕ) (line : Line) (old new : List (Option ℕ))
    → Some line ≡ slice_get lines at → new ≡ old ++ newcomer_parent line
    → new ++ parents_in (drop (at + 1) lines) ≡ old ++ parents_in (drop at lines)
parents_more lines at line old new is more =
    ap (λ (ps : List (Option ℕ)). ps ++ parents_in (drop (at + 1) lines)) more
    ∙ append_assoc old (newcomer_parent line) (parents_in (drop (at + 1) lines))
    ∙ sym (ap (λ (ls : List Line). old ++ parents_in ls) (drop_is lines at line (sym is)))

-- one line more is told, and what stands in the cells at the end stays
pub standing_more : (lines : List Line) (at : ℕ) (line : Line) (old new : List (Option ℕ))
    → Some line ≡ slice_get lines at → new ≡ standing_on old line
    → standing_after new (drop (at + 1) lines) ≡ standing_after old (drop at lines)
standing_more lines at line old new is more =
    ap (λ (slots : List (Option ℕ)). standing_after slots (drop (at + 1) lines)) more
    ∙ sym (ap (standing_after old) (drop_is lines at line (sym is)))
