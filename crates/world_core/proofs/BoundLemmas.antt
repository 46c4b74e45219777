-- The lives of an update keep the bounds of a world.
use Rattle.std.proofs.Common.{◌≡◌, ◌∙◌, refl, sym, ap, subst, ℕ, ◌+◌, ◌<◌, ◌≤◌, ◌^◌, Bool, true, false, cond, List, [], length, map, sum, get_or, Option, Some, None, arith, inl, inr}
use Rattle.std.specs.Prelude.{slice_get}
use Rattle.world_core.proofs.Prelude.{All, cases_lt, get_or_default, get_or_past, length-map, All-nil, All-map, All-weaker, get_or-map-range_with_len, length-map-range_with_len, slice_get-get_or, HasLived, IsBornOf, beginning, life_by, life, Run, draw, ConfigValues, CellLife, life_at, life_of, lives_of, no_life, slice_at, slices_at, settings_at, births_of, Occupant, LiveOn, AreBounded, AreBoundedLives, IsBoundedIn, staying_in, occupant_genome}
use Rattle.world_core.proofs.BirthOrderLemmas.{FitsMachine, births_of-few, births_of-fit, births_of-rise}
use Rattle.world_core.proofs.LifeLemmas.{greatest_of}

-- a life of at most so many steps keeps the bounds of who stood in the cell, and of its newborns
pub record KeepsBounds (config : ConfigValues) (update steps : ℕ) (slot : Option Occupant)
    (l : CellLife) : Type 0 where
  pub cell : IsBoundedIn (update + 1) l.occupant
  pub genome : occupant_genome l.occupant ≡ occupant_genome slot
  pub few : length l.newborns ≤ steps
  pub newborns : All (FitsMachine config) l.newborns

-- where nobody stands the bounds are kept
nobody-keeps : (config : ConfigValues) (update steps : ℕ)
    → KeepsBounds config update steps None no_life
nobody-keeps config update steps =
    record { cell = tt; genome = refl; few = omega arith; newborns = All-nil (FitsMachine config) }

module _ (config : ConfigValues) (update : ℕ) (cells : List (Option Occupant))
    (sound : AreBounded update cells)
    (lasting : LiveOn config (record { update = update; cells = cells; everyone = [] }))
    (few : (cell : ℕ) → slice_at config cells cell < 2 ^ 27) where
  -- the life of a cell keeps the bounds of who stands there, if somebody does
  life-keeps : (cell : ℕ) → cell < length cells → (slot : Option Occupant)
      → get_or cells cell None ≡ slot
      → KeepsBounds config update (slice_at config cells cell) slot
      (life_of config (update + 1) cell (slice_at config cells cell) slot)
  unfolding life_of life_by
  life-keeps cell within None here = nobody-keeps config update (slice_at config cells cell)
  life-keeps cell within (Some o) here =
      let steps = slice_at config cells cell in
      let settings = settings_at config (update + 1) in
      let there : slice_get cells cell ≡ Some (Some o) =
      slice_get-get_or cells cell None within ∙ ap Some here in
      let lived : HasLived settings o.organism steps
      (life settings (draw config.seed (update + 1) cell Run) (beginning o.organism) steps).0 =
      lasting cell steps o there in
      let bounded : IsBoundedIn update (Some o) =
      subst (IsBoundedIn update) here (sound cell None within) in
      record {
        cell = (omega (arith, lived.age, bounded.0, few cell), lived.sound.merit);
        genome = ap Some lived.genome;
        few = lived.few;
        newborns = All-weaker (IsBornOf o.organism.genome settings.rules) (FitsMachine config)
            (λ b born. record {
              genome = omega (arith, born.greatest, greatest_of config (update + 1) settings refl);
              merit = born.merit;
            }) _ lived.newborns;
      }

  -- so does the life of each cell
  pub lives-keep : (place : ℕ)
      → KeepsBounds config update (slice_at config cells place) (get_or cells place None)
      (get_or (lives_of config (update + 1) cells) place no_life)
  unfolding lives_of
  lives-keep place =
      elim (cases_lt place (length cells)) [
        | inl within ↦
            rw (get_or-map-range_with_len (life_at config (update + 1) cells) 0
            (length cells) place place no_life within (omega arith))
            (life-keeps place within (get_or cells place None) refl)
        | inr past ↦
            let long = length-map-range_with_len (life_at config (update + 1) cells) 0
            (length cells) in
            rw (
              get_or_past cells place None past,
              get_or_past (lives_of config (update + 1) cells) place no_life
                  (omega (arith, past, long)),
            )
            (nobody-keeps config update (slice_at config cells place))
      ]

  -- there are as many lives as cells
  lives-long : length (lives_of config (update + 1) cells) ≡ length cells
  unfolding lives_of
  lives-long = length-map-range_with_len (life_at config (update + 1) cells) 0 (length cells)

  -- whoever stays in a cell
  stays-bounded : (b : Bool) (slot : Option Occupant) → IsBoundedIn (update + 1) slot
      → IsBoundedIn (update + 1) (cond b None slot)
  stays-bounded true slot is = tt
  stays-bounded false slot is = is

  -- what an update leaves in the cells, and its newborns
  pub lives-bounded : length (slices_at config cells) ≡ length cells
      → sum (slices_at config cells) < 2 ^ 27
      → AreBoundedLives config (update + 1) (map staying_in (lives_of config (update + 1) cells))
      (births_of (lives_of config (update + 1) cells))
  lives-bounded slices total =
      let lives = lives_of config (update + 1) cells in
      let left : length (map staying_in lives) ≡ length lives = length-map lives staying_in in
      record {
        cells = All-map (IsBoundedIn (update + 1)) staying_in lives
            (λ k d within. stays-bounded (get_or lives k d).died (get_or lives k d).occupant
            (kept k d within));
        births = record {
          each = births_of-fit config (length (map staying_in lives)) lives (sym left)
              (λ place. (lives-keep place).newborns);
          rising = births_of-rise lives;
          few = omega (
            arith,
            total,
            births_of-few lives (slices_at config cells) (slices ∙ sym lives-long)
                (λ place. (lives-keep place).few),
          );
        };
      }
    where
      kept : (k : ℕ) (d : CellLife) → k < length (lives_of config (update + 1) cells)
          → IsBoundedIn (update + 1) (get_or (lives_of config (update + 1) cells) k d).occupant
      kept k d within =
          rw (← get_or_default (lives_of config (update + 1) cells) k no_life d within)
          (lives-keep k).cell
