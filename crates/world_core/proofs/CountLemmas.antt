-- The counts after lives, one cell after another.
use Rattle.std.proofs.Common.{◌≡◌, ◌∙◌, refl, sym, ap, ℕ, ◌+◌, ◌<◌, ◌≤◌, ◌^◌, List, [], ◌∷◌, ◌++◌, append-nil, append_assoc, length, set, get_or, take, drop, Option, Some, None, arith, inl, inr}
use Rattle.world_core.proofs.Prelude.{map-set_same, drop_all, drop_more, get_or_at, length-append, length-drop, length-take-le, set_at, take_all, take_more, standing_in, Counts, Letter, has_task, OrganismState, merit_in, with_id, Occupant, CanCountChange, CountsChange, IsKeptOf, is_credited, occupant_genome, occupant_genomes, OneList}
use Rattle.world_core.proofs.KeptOfLemmas.{IsKeptOf-empty, IsKeptOf-lived, IsKeptOf-removed, can-remove}
use Rattle.world_core.proofs.SumLemmas.{AreSummedIn-renewed, AreSummedIn-same, can-renew}

-- what a life leaves of who stood in a cell: the same genome and a merit that fits, or nobody
pub record GoesOn (was now : Option OrganismState) : Type 0 where
  pub nobody : was ≡ None → now ≡ None
  pub genome : (o next : OrganismState) → was ≡ Some o → now ≡ Some next → next.genome ≡ o.genome
  pub merit : (next : OrganismState) → now ≡ Some next → next.merit ≤ 2 ^ 38

module _ (one_list : OneList) (cells : List (Option Occupant)) (genomes : List (List Letter))
    (keys : List ℕ) (before after : Counts) (cell : ℕ) (within : cell < length cells) (id : ℕ)
    (kept : IsKeptOf cells genomes keys before) where
  -- who stood in the cell may be counted again
  pub can-count : (was now : Option OrganismState) → get_or cells cell None ≡ with_id id was
      → GoesOn was now
      → CanCountChange before (get_or keys cell 0) (standing_in was) (standing_in now)
  can-count None now here goes = tt
  can-count (Some o) None here goes =
      can-remove one_list cells genomes keys before before cell within
      (record { id = id; organism = o }) kept here
  can-count (Some o) (Some next) here goes = (
    can-renew cells cell (record { id = id; organism = o }) before.merit before.tasks
        before.genotypes within here kept.sums,
    goes.merit next refl,
  )

  -- and what is kept is that of who stands there now
  pub counted-again : (was now : Option OrganismState) → get_or cells cell None ≡ with_id id was
      → GoesOn was now
      → CountsChange before after (get_or keys cell 0) (standing_in was) (standing_in now)
      → IsKeptOf (set cells cell (with_id id now)) genomes keys after
  counted-again None None here goes counted =
      rw counted
      (IsKeptOf-empty one_list cells genomes keys before before cell within here kept)
  counted-again None (Some next) here goes counted =
      absurd (let none = goes.nobody refl in cc)
  counted-again (Some o) None here goes counted =
      IsKeptOf-removed one_list cells genomes keys before after cell within
      (record { id = id; organism = o }) kept here counted
  counted-again (Some o) (Some next) here goes counted =
      let first : Occupant = record { id = id; organism = o } in
      let last : Occupant = record { id = id; organism = next } in
      let standing : occupant_genomes (set cells cell (Some last)) ≡ occupant_genomes cells =
      map-set_same occupant_genome cells cell (Some last) None
      (ap Some (goes.genome o next refl refl) ∙ sym (ap occupant_genome here)) in
      elim counted [
        | inl is ↦
            IsKeptOf-lived cells (set cells cell (Some last)) genomes keys before after kept
            (ap (λ (c : Counts). c.genotypes) is) standing
            (rw is (AreSummedIn-renewed cells cell first last before.merit before.tasks within here
            (goes.merit next refl) kept.sums))
        | inr same ↦
            IsKeptOf-lived cells (set cells cell (Some last)) genomes keys before after kept
            (ap (λ (c : Counts). c.genotypes) same.0) standing
            (rw same.0 (AreSummedIn-same cells cell (Some last) before.merit before.tasks within
            (same.1 ∙ sym (ap merit_in here))
            (λ task. ap (λ credited. has_task credited task) same.2
            ∙ sym (ap (is_credited task) here)) kept.sums))
      ]

-- the first cells of one list and then those of another
abbrev pub mixed : List (Option Occupant) → List (Option Occupant) → ℕ → List (Option Occupant)
mixed next was n = take n next ++ drop n was

-- one cell more of the first
pub mixed-step : (next was : List (Option Occupant)) (n : ℕ) → length next ≡ length was
    → n < length was → set (mixed next was n) n (get_or next n None) ≡ mixed next was (n + 1)
mixed-step next was n long within =
    let front : length (take n next) ≡ n = length-take-le n next (omega (arith, long, within)) in
    ap (λ rest. set (take n next ++ rest) n (get_or next n None)) (drop_more was n None within)
    ∙ set_at (take n next) (get_or was n None) (drop (n + 1) was) (get_or next n None) n front
    ∙ sym (append_assoc (take n next) (get_or next n None ∷ []) (drop (n + 1) was))
    ∙ ap (λ all. all ++ drop (n + 1) was)
    (sym (take_more next n None (omega (arith, long, within))))

-- the next cell is still that of the second
pub mixed-at : (next was : List (Option Occupant)) (n : ℕ) → length next ≡ length was
    → n < length was → get_or (mixed next was n) n None ≡ get_or was n None
mixed-at next was n long within =
    rw (drop_more was n None within) (get_or_at (take n next) (get_or was n None) (drop (n + 1) was) None n
    (length-take-le n next (omega (arith, long, within))))

-- there are as many cells
pub mixed-length : (next was : List (Option Occupant)) (n : ℕ) → length next ≡ length was
    → n ≤ length was → length (mixed next was n) ≡ length was
mixed-length next was n long within =
    omega (
      arith,
      length-append (take n next) (drop n was),
      length-take-le n next (omega (arith, long, within)),
      length-drop n was,
      within,
    )

-- all are of the first
pub mixed-all : (next was : List (Option Occupant)) (n : ℕ) → length next ≡ length was
    → length was ≤ n → mixed next was n ≡ next
mixed-all next was n long past =
    (λ i. take_all n next (omega (arith, long, past)) i ++ drop_all n was past i) ∙ append-nil next
