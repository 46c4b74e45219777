-- A head and organisms of which a saved world can be made are a state that can go on.
use Rattle.std.proofs.Common.{◌≡◌, ◌∙◌, ◌⊎◌, inl, inr, refl, sym, ap, subst, ℕ, zero, suc, ◌+◌, ◌*◌, ◌<◌, ◌^◌, List, [], ◌∷◌, length, get_or, Option, Some, None, replicate, arith}
use Rattle.std.specs.Prelude.{fold, slice_get, slice_set}
use Rattle.saved_worlds.proofs.Prelude.{cases_eq, cases_lt, length-replicate, length-set, Occupant, IsInRange, HeadValues, config_of_head, forgotten, Placed, state_of_lines, with_placed, AreSaved, CanGoOn, FitsText, MayLive}
use Rattle.std.proofs.lemmas.Option.{get_or_from_slice_get, slice_get_within}
use Rattle.saved_worlds.proofs.Valid.{head_up}

-- nobody stands in empty cells
none_there : (count cell : ℕ) (o : Occupant)
    → slice_get (replicate count None) cell ≡ Some (Some o) → ⊥
none_there zero cell o h = absurd cc
none_there (suc count) zero o h = absurd cc
none_there (suc count) (suc cell) o h = none_there count cell o h

-- who stands once somebody else was written came or stood there before
came_or_stood : (cells : List (Option Occupant)) (at cell : ℕ) (new o : Occupant)
    → slice_get (slice_set cells at (Some new)) cell ≡ Some (Some o)
    → ((at ≡ cell) × (new ≡ o)) ⊎ (slice_get cells cell ≡ Some (Some o))
came_or_stood [] at cell new o h = absurd cc
came_or_stood (slot ∷ cells) zero zero new o h = inl (refl, cc)
came_or_stood (slot ∷ cells) zero (suc cell) new o h = inr h
came_or_stood (slot ∷ cells) (suc at) zero new o h = inr h
came_or_stood (slot ∷ cells) (suc at) (suc cell) new o h =
    elim (came_or_stood cells at cell new o h)
    [ inl came ↦ inl (ap suc came.0, came.1) | inr stood ↦ inr stood ]

-- one of the organisms stands in this cell
abbrev IsPlaced : List Placed → ℕ → Occupant → Type 0
IsPlaced placed cell o =
    (place : ℕ) × (slice_get placed place ≡ Some (record { cell = cell; occupant = o }))

-- who stands in the cells is one of the organisms, or stood there before
placed_or_stood : (cells : List (Option Occupant)) (placed : List Placed) (cell : ℕ) (o : Occupant)
    → slice_get (fold with_placed cells placed) cell ≡ Some (Some o)
    → IsPlaced placed cell o ⊎ (slice_get cells cell ≡ Some (Some o))
placed_or_stood cells [] cell o h = inr h
placed_or_stood cells (one ∷ placed) cell o h =
    elim (placed_or_stood (with_placed cells one) placed cell o h) [
      | inl later ↦ inl (suc later.0, later.1)
      | inr now ↦ elim (came_or_stood cells one.cell cell one.occupant o now) [
        | inl came ↦
            let same : one ≡ record { cell = cell; occupant = o } =
            ap (λ (n : ℕ). record { cell = n; occupant = one.occupant }) came.0
            ∙ ap (λ (x : Occupant). record { cell = cell; occupant = x }) came.1 in
            inl (0, ap (λ (p : Placed). Some p) same)
        | inr stood ↦ inr stood
      ]
    ]

-- there are as many cells as before
length-placed : (cells : List (Option Occupant)) (placed : List Placed)
    → length (fold with_placed cells placed) ≡ length cells
length-placed cells [] = refl
length-placed cells (one ∷ placed) =
    length-placed (with_placed cells one) placed
    ∙ length-set cells one.cell (Some one.occupant)

-- who may live under a head is in range
in_range : (head : HeadValues) (ages : ℕ) (o : Occupant) → o.organism.age < ages → MayLive head o
    → IsInRange (config_of_head head) ages o.organism
in_range head ages o young lives = record {
  least = lives.genome.0;
  greatest = lives.genome.1;
  age = young;
  young = lives.young;
  limit = lives.limit;
  credited = lives.credited;
  gestation = lives.gestation;
  inputs = lives.inputs;
}

module _ (head : HeadValues) (placed : List Placed) (saved : AreSaved head placed) where
  -- the cells
  abbrev cells : List (Option Occupant)
  cells = (state_of_lines head placed).cells

  -- who stands there is one of the organisms
  is_placed : (cell : ℕ) (o : Occupant) → slice_get cells cell ≡ Some (Some o)
      → IsPlaced placed cell o
  is_placed cell o h =
      elim (placed_or_stood (replicate (head.width * head.height) None) placed cell o h) [
        | inl is ↦ is
        | inr before ↦ absurd (none_there (head.width * head.height) cell o before)
      ]

  -- and may stand there
  may_live : (cell : ℕ) (o : Occupant) → slice_get cells cell ≡ Some (Some o) → MayLive head o
  may_live cell o h =
      let one : Placed = record { cell = cell; occupant = o } in
      let is = is_placed cell o h in
      let at : get_or placed is.0 one ≡ one = get_or_from_slice_get placed is.0 one one is.1 in
      subst (λ (p : Placed). MayLive head p.occupant) at
      (saved.each is.0 one (slice_get_within placed is.0 one is.1)).occupant

  -- an id stands in one cell
  apart : (cell other : ℕ) (o x : Occupant) → slice_get cells cell ≡ Some (Some o)
      → slice_get cells other ≡ Some (Some x) → o.id ≡ x.id → cell ≡ other
  apart cell other o x h k same =
      let one : Placed = record { cell = cell; occupant = o } in
      let two : Placed = record { cell = other; occupant = x } in
      let first = is_placed cell o h in
      let second = is_placed other x k in
      elim (cases_eq first.0 second.0) [
        | inl equal ↦
            let both : Some one ≡ Some two =
            sym first.1 ∙ ap (slice_get placed) equal ∙ second.1 in
            let is : one ≡ two = cc in ap (λ (p : Placed). p.cell) is
        | inr unequal ↦ elim (cases_lt first.0 second.0) [
          | inl low ↦ absurd
              ((saved.rising first.0 second.0 one two low first.1 second.1).1 same)
          | inr high ↦
              let below : second.0 < first.0 = omega (arith, high, unequal) in
              absurd ((saved.rising second.0 first.0 two one below second.1 first.1).1 (sym same))
        ]
      ]

  -- the state can go on
  pub lines_valid : CanGoOn (state_of_lines head placed)
  lines_valid =
      let u = head.update in
      record {
        head = head_up (2 ^ 62) (2 ^ 62 + 2 ^ 32 * u) (state_of_lines head placed)
            (omega (arith, saved.values.next_id.1)) saved.values;
        stand = record {
          cells = length-placed (replicate (head.width * head.height) None) placed
              ∙ length-replicate (head.width * head.height) None;
          sound = λ cell o h. (may_live cell o h).sound;
          each = λ cell o h.
              let lives = may_live cell o h in
              in_range head (2 ^ 48 + 2 ^ 27 * u) o (omega (arith, lives.age)) lives;
          own = record {
            given = λ cell o h.
                omega (
                  arith,
                  (may_live cell o h).id,
                  length-replicate head.next_id forgotten,
                );
            apart = apart;
          };
        };
      }

  -- it fits its text
  pub lines_fit : FitsText (state_of_lines head placed)
  lines_fit = record {
    next_id = saved.values.next_id.1;
    ages = λ cell o h. (may_live cell o h).age;
  }
