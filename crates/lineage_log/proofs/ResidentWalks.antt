-- Walks over the cells at the end of a log.
use Rattle.std.proofs.Common.{◌≡◌, ℕ, drop, add-one, ◌+◌, List, [], ◌∷◌, ◌++◌, Option, Some, None, refl, sym, ap, append_assoc, ◌∙◌}
use Rattle.std.specs.Prelude.{slice_get}
use Rattle.lineage_log.proofs.Prelude.{drop_more, slice_get_within, get_or_from_slice_get, Letter, Resident, resident_at, residents_from}

-- what is left begins with the item at this place
pub drop_is : {A : Type 0} (xs : List A) (i : ℕ) (x : A) → slice_get xs i ≡ Some x
    → drop i xs ≡ x ∷ drop (i + 1) xs
drop_is xs i x is = drop_more xs i x (slice_get_within xs i x is)
    ∙ ap (λ y. y ∷ drop (i + 1) xs) (get_or_from_slice_get xs i x x is)

-- the organism of a cell before others stands alone in front of them
resident_front : (cell : ℕ) (slot : Option ℕ) (genomes : List (List Letter))
    (others : List Resident)
    → resident_at cell slot genomes others ≡ resident_at cell slot genomes [] ++ others
resident_front cell None genomes others = refl
resident_front cell (Some id) genomes others = refl

-- who resides from a cell on is who does in the cell, and then from the next cell on
cell_more : (slots : List (Option ℕ)) (genomes : List (List Letter)) (cell : ℕ) (slot : Option ℕ)
    → slice_get slots cell ≡ Some slot
    → residents_from cell (drop cell slots) genomes ≡ resident_at cell slot genomes []
    ++ residents_from (cell + 1) (drop (cell + 1) slots) genomes
cell_more slots genomes cell slot is =
    ap (λ (rest : List (Option ℕ)). residents_from cell rest genomes) (drop_is slots cell slot is)
    ∙ ap (λ (next : ℕ). resident_at cell slot genomes
    (residents_from next (drop (cell + 1) slots) genomes)) (sym (add-one cell))
    ∙ resident_front cell slot genomes (residents_from (cell + 1) (drop (cell + 1) slots) genomes)

-- one cell more of a walk over the cells
pub cell_walked : (items next : List Resident) (slots : List (Option ℕ))
    (genomes : List (List Letter)) (cell : ℕ) (slot : Option ℕ) (all : List Resident)
    → slice_get slots cell ≡ Some slot → next ≡ items ++ resident_at cell slot genomes []
    → items ++ residents_from cell (drop cell slots) genomes ≡ all
    → next ++ residents_from (cell + 1) (drop (cell + 1) slots) genomes ≡ all
cell_walked items next slots genomes cell slot all is more so_far =
    let here = resident_at cell slot genomes [] in
    let rest = residents_from (cell + 1) (drop (cell + 1) slots) genomes in
    ap (λ (rs : List Resident). rs ++ rest) more
    ∙ append_assoc items here rest
    ∙ ap (λ (rs : List Resident). items ++ rs) (sym (cell_more slots genomes cell slot is))
    ∙ so_far
