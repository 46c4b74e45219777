-- The lives of an update so far, and the newborns among them.
use Rattle.std.proofs.Common.{◌≡◌, ℕ, ◌<◌, List, [], length, map, Option, Some, Contains, sym, subst, ap, ◌∙◌, arith}
use Rattle.std.specs.Prelude.{IsSome, slice_index_or, unwrap_or}
use Rattle.event_orders.proofs.Prelude.{flat_map, range_with_len, get_or_default, Contains-get_or, length-map-range_with_len, get_or-map-range_with_len, fill_by_all, Letter, ConfigValues, World, CellLife, no_life, State, life_in, newborn_genomes, results_of, with_value_at}
use Rattle.event_orders.proofs.Going.{at_either}
use Rattle.event_orders.proofs.Members.{Contains-flat_map, Contains-flat_map_cases, Contains-from_fn, Contains-from_fn_cases}

-- the lives of all cells of a world
abbrev pub lives_in : ConfigValues → World → List CellLife
lives_in config w = map (life_in config w) (range_with_len 0 (length w.cells))

-- the genomes of their newborns
abbrev pub born_in : ConfigValues → World → List (List Letter)
born_in config w = flat_map newborn_genomes (lives_in config w)

-- the result that a cell has, if it has one
abbrev result_at : (ℕ → Option CellLife) → ℕ → CellLife
result_at results cell = unwrap_or (results cell) no_life

-- the results are those of the lives of cells of the starting world
abbrev pub AreLives : ConfigValues → World → (ℕ → Option CellLife) → Type 0
AreLives config world results =
    (cell : ℕ) → IsSome (results cell) → (cell < length world.cells)
    × (result_at results cell ≡ life_in config world cell)

module _ (config : ConfigValues) where
  -- a cell has lived
  pub result_kept : (world : World) (results : ℕ → Option CellLife) (cell : ℕ)
      → cell < length world.cells → AreLives config world results
      → AreLives config world (with_value_at results cell (Some (life_in config world cell)))
  result_kept world results cell within had c =
      at_either (λ (r : Option CellLife). IsSome r → (c < length world.cells)
      × (unwrap_or r no_life ≡ life_in config world c)) results cell c
      (Some (life_in config world cell))
      (λ is h. ((omega arith), ap (life_in config world) (sym is))) (λ n h. had c h)

  -- the results of all cells are the lives that the definition lists
  pub results_are_lives : (s : State) → AreLives config s.world s.results
      → ((cell : ℕ) → cell < length s.world.cells → IsSome (s.results cell))
      → results_of s ≡ lives_in config s.world
  results_are_lives s are all =
      fill_by_all (life_in config s.world) (results_of s) (length s.world.cells) no_life
      (length-map-range_with_len (result_at s.results) 0 (length s.world.cells))
      (λ k l. get_or-map-range_with_len (result_at s.results) 0 (length s.world.cells) k k no_life l
      (omega arith) ∙ (are k (all k l)).1)

  -- a newborn of a cell is one of the births
  pub newborn_is_birth : (w : World) (cell nth : ℕ) → cell < length w.cells
      → nth < length (newborn_genomes (life_in config w cell))
      → Contains (born_in config w) (slice_index_or
      (newborn_genomes (life_in config w cell)) nth [])
  newborn_is_birth w cell nth within is =
      Contains-flat_map newborn_genomes (lives_in config w) (life_in config w cell) _
      (Contains-from_fn (life_in config w) (length w.cells) cell within)
      (Contains-get_or (newborn_genomes (life_in config w cell)) nth [] is)

  -- a birth is a newborn of a cell
  pub birth_is_newborn : (w : World) (g : List Letter) → Contains (born_in config w) g
      → (cell : ℕ) × (nth : ℕ) × (cell < length w.cells)
      × (nth < length (newborn_genomes (life_in config w cell)))
      × (slice_index_or (newborn_genomes (life_in config w cell)) nth [] ≡ g)
  birth_is_newborn w g h =
      let of = Contains-flat_map_cases newborn_genomes (lives_in config w) g h in
      let at = Contains-from_fn_cases (life_in config w) (length w.cells) of.0 of.1 in
      let child : Contains (newborn_genomes (life_in config w at.0)) g =
      subst (λ (l : CellLife). Contains (newborn_genomes l) g) (sym at.2) of.2 in (
        at.0,
        child.0,
        at.1,
        child.1,
        get_or_default
            (newborn_genomes (life_in config w at.0)) child.0 [] g child.1 ∙ child.2,
      )
