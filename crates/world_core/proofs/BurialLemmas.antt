-- Those that died of age leave their cells one after another, or all at once.
use Rattle.std.proofs.Common.{◌≡◌, ◌∙◌, refl, sym, ap, ℕ, ◌+◌, Bool, cond, List, [], ◌∷◌, ◌++◌, append-nil, append_assoc, length, map, get_or, filter, Option, Some, None, arith, inl, inr}
use Rattle.world_core.proofs.Prelude.{filter_map, range_with_len, scan, option_map, option_to_list, cases_Bool, get_or_at, length_push, map-append, set_at, Link, Line, Death, CellLife, no_life, death_line, death_lines, Scene, with_death, with_deaths, Occupant, id_of, after_burials, after_lives, deaths_of, departed_from, departure_line, staying_in}

-- the cells whose organism died, which go on from this one
abbrev deaths_at : ℕ → List CellLife → List ℕ
deaths_at first [] = []
deaths_at first (l ∷ lives) =
    cond l.died (first ∷ deaths_at (first + 1) lives) (deaths_at (first + 1) lives)

-- whether the organism of a cell died
abbrev died_in : List CellLife → ℕ → Bool
died_in lives cell = (get_or lives cell no_life).died

-- the dead behind other cells
deaths-behind : (before lives : List CellLife) (first : ℕ) → length before ≡ first
    → filter (died_in (before ++ lives)) (range_with_len first (length lives))
    ≡ deaths_at first lives
deaths-behind before [] first long = refl
deaths-behind before (l ∷ lives) first long =
    let here : died_in (before ++ l ∷ lives) first ≡ l.died =
    ap (λ (c : CellLife). c.died) (get_or_at before l lives no_life first long) in
    let next : length (before ++ l ∷ []) ≡ first + 1 = omega (arith, length_push before l, long) in
    let rest : filter (died_in (before ++ l ∷ lives)) (range_with_len (first + 1) (length lives))
    ≡ deaths_at (first + 1) lives =
    ap (λ all. filter (died_in all) (range_with_len (first + 1) (length lives)))
    (sym (append_assoc before (l ∷ []) lives))
    ∙ deaths-behind (before ++ l ∷ []) lives (first + 1) next in
    λ i. cond (here i) (first ∷ rest i) (rest i)

-- the dead of all cells
deaths_of-at : (lives : List CellLife) → deaths_of lives ≡ deaths_at 0 lives
unfolding deaths_of
deaths_of-at lives = deaths-behind [] lives 0 refl

module _ (update : ℕ) (everyone : List Link) where
  -- the scene with these cells and these dead
  abbrev scene_with : List (Option Occupant) → List ℕ → Scene
  scene_with cells gone =
      record { update = update; cells = cells; everyone = everyone; gone = gone }

  -- the organisms of some lives
  abbrev occupants : List CellLife → List (Option Occupant)
  occupants lives = map (λ l. l.occupant) lives

  -- the ids of some dead
  abbrev ids_in : List (ℕ × ℕ) → List ℕ
  ids_in dead = map (λ one. one.1) dead

  -- one cell becomes empty
  one-death : (before rest : List (Option Occupant)) (slot : Option Occupant) (gone : List ℕ)
      (first : ℕ) → length before ≡ first
      → with_death (scene_with (before ++ slot ∷ rest) gone) first
      ≡ scene_with ((before ++ None ∷ []) ++ rest) (gone ++ option_to_list (id_of slot))
  unfolding with_death
  one-death before rest slot gone first long = λ i. record {
    update = update;
    cells =
        (set_at before slot rest None first long ∙ sym (append_assoc before (None ∷ []) rest)) i;
    everyone = everyone;
    gone = gone ++ option_to_list (id_of (get_or_at before slot rest None first long i));
  }

  -- the id of one who died
  ids-in-one : (first : ℕ) (slot : Option Occupant)
      → ids_in (option_to_list (option_map (λ o. (first, o.id)) slot))
      ≡ option_to_list (id_of slot)
  ids-in-one first None = refl
  ids-in-one first (Some o) = refl

  -- the line of one who died
  lines-in-one : (first : ℕ) (slot : Option Occupant)
      → filter_map (λ line. line) (option_map (λ id. Death id update first) (id_of slot) ∷ [])
      ≡ map (departure_line update)
      (option_to_list (option_map (λ o. (first, o.id)) slot))
  lines-in-one first None = refl
  lines-in-one first (Some o) = refl

  -- the scene once the dead among these have left
  burials-from : (before : List (Option Occupant)) (lives : List CellLife) (gone : List ℕ)
      (first : ℕ) → length before ≡ first
      → with_deaths (scene_with (before ++ occupants lives) gone) (deaths_at first lives)
      ≡ scene_with (before ++ map staying_in lives) (gone ++ ids_in (departed_from first lives))
  burials-from before [] gone first long = ap (scene_with (before ++ [])) (sym (append-nil gone))
  burials-from before (l ∷ lives) gone first long =
      let dead : List (ℕ × ℕ) = option_to_list (option_map (λ o. (first, o.id)) l.occupant) in
      let more_gone : List ℕ = option_to_list (id_of l.occupant) in
      let rest = departed_from (first + 1) lives in
      let later = λ (slot : Option Occupant) (more : List ℕ).
      burials-from (before ++ slot ∷ []) lives more (first + 1)
      (omega (arith, length_push before slot, long))
      ∙ ap (λ cells. scene_with cells (more ++ ids_in rest))
      (append_assoc before (slot ∷ []) (map staying_in lives)) in
      elim (cases_Bool l.died) [
        | inl dies ↦
            rw dies
            (ap (λ scene. with_deaths scene (deaths_at (first + 1) lives))
            (one-death before (occupants lives) l.occupant gone first long)
            ∙ later None (gone ++ more_gone)
            ∙ rw (
              map-append (λ (one : ℕ × ℕ). one.1) dead rest,
              ids-in-one first l.occupant,
              append_assoc gone more_gone (ids_in rest),
            ))
        | inr stays ↦
            rw (stays, ← append_assoc before (l.occupant ∷ []) (occupants lives))
            (later l.occupant gone)
      ]

  -- their lines
  lines-from : (before : List (Option Occupant)) (lives : List CellLife) (gone : List ℕ) (first : ℕ)
      → length before ≡ first → death_lines (scene_with (before ++ occupants lives) gone)
      (deaths_at first lives) ≡ map (departure_line update) (departed_from first lives)
  lines-from before [] gone first long = refl
  lines-from before (l ∷ lives) gone first long =
      let dead : List (ℕ × ℕ) = option_to_list (option_map (λ o. (first, o.id)) l.occupant) in
      let later = λ (slot : Option Occupant) (more : List ℕ).
      lines-from (before ++ slot ∷ []) lives more (first + 1)
      (omega (arith, length_push before slot, long)) in
      let scene : Scene = scene_with (before ++ l.occupant ∷ occupants lives) gone in
      elim (cases_Bool l.died) [
        | inl dies ↦
            rw (
              dies,
              told (death_line scene first)
                  (scan with_death death_line (with_death scene first)
                  (deaths_at (first + 1) lives)),
              get_or_at before l.occupant (occupants lives) None first long,
              one-death before (occupants lives) l.occupant gone first long,
              lines-in-one first l.occupant,
              map-append (departure_line update) dead (departed_from (first + 1) lives),
              later None (gone ++ option_to_list (id_of l.occupant)),
            )
        | inr stays ↦
            rw (stays, ← append_assoc before (l.occupant ∷ []) (occupants lives))
            (later l.occupant gone)
      ]
    where
      -- what is told, and then the rest
      told : (line : Option Line) (rest : List (Option Line))
          → filter_map (λ line. line) (line ∷ rest) ≡ filter_map (λ line. line) (line ∷ [])
          ++ filter_map (λ line. line) rest
      told None rest = refl
      told (Some line) rest = refl

  -- the scene once all dead have left
  pub burials-are : (lives : List CellLife)
      → after_burials (after_lives update everyone lives) lives
      ≡ scene_with (map staying_in lives) (ids_in (departed_from 0 lives))
  unfolding after_burials
  burials-are lives = ap (with_deaths (after_lives update everyone lives)) (deaths_of-at lives)
      ∙ burials-from [] lives [] 0 refl

  -- and their lines
  pub burial-lines-are : (lives : List CellLife)
      → death_lines (after_lives update everyone lives) (deaths_of lives)
      ≡ map (departure_line update) (departed_from 0 lives)
  burial-lines-are lives = ap (death_lines (after_lives update everyone lives)) (deaths_of-at lives)
      ∙ lines-from [] lives [] 0 refl
