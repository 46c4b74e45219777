-- The lives of a world's cells are those of its shards, with the ids of the cells.
use Rattle.std.proofs.Common.{◌≡◌, ◌∙◌, refl, ℕ, zero, suc, ◌+◌, Bool, true, false, cond, List, [], ◌∷◌, ◌++◌, length, map, get_or, Option, Some, None, arith}
use Rattle.world_core.proofs.Prelude.{range_with_len, flat_map, enumerate_from, map-append, born_in, dead_in, left_in, newborns_in, shard_life_of, beginning, OrganismLife, ended_life, life_by, NewbornValue, OrganismState, life, Run, draw, ConfigValues, CellLife, life_of, with_id, settings_at, Delivery, births_in, delivery_of, occupants_of, departed_in, departure_by, round_of, staying_in}
use Rattle.world_core.proofs.BirthOrderLemmas.{map-both}

-- a newborn of a cell, with the id of the cell
abbrev pub delivery_by : List ℕ → ℕ × NewbornValue → Delivery
delivery_by ids birth = delivery_of birth.0 (get_or ids birth.0 0) birth.1

-- the life of a cell as a shard has it, and as the world has it, by the ids of the cells
pub record LivesAs (ids : List ℕ) (cell : ℕ) (l : OrganismLife) (w : CellLife) : Type 0 where
  pub stays : with_id (get_or ids cell 0) (left_in l) ≡ staying_in w
  pub births : map (delivery_by ids) (newborns_in (cell, l)) ≡ births_in (cell, w)
  pub dead : map (departure_by ids) (dead_in (cell, l)) ≡ departed_in (cell, w)

-- one life
pub life-as : (config : ConfigValues) (update cell steps : ℕ) (ids : List ℕ)
    (slot : Option OrganismState)
    → LivesAs ids cell (shard_life_of (round_of config update) cell steps slot)
    (life_of config update cell steps (with_id (get_or ids cell 0) slot))
unfolding life_by life_of
life-as config update cell steps ids None = record { stays = refl; births = refl; dead = refl }
life-as config update cell steps ids (Some o) =
    let words = draw config.seed update cell Run in
    let l = ended_life (life (settings_at config update) words (beginning o) steps) in
    record {
      stays = stays l.died l.organism;
      births = map-both (born_in cell) (delivery_by ids) l.newborns;
      dead = dead l.died;
    }
  where
    id : ℕ
    id = get_or ids cell 0

    stays : (died : Bool) (left : Option OrganismState)
        → with_id id (cond died None left) ≡ cond died None (with_id id left)
    stays true left = refl
    stays false left = refl

    dead : (died : Bool)
        → map (departure_by ids) (cond died (cell ∷ []) []) ≡ cond died ((cell, id) ∷ []) []
    dead true = refl
    dead false = refl

-- what is told of cells that go on from one, where it is alike for each
pub told-alike : {A B X Y : Type 0} (f : ℕ → A) (g : ℕ → B) (tell : ℕ × A → List X)
    (say : ℕ × B → List Y) (h : X → Y) (from n : ℕ)
    → ((cell : ℕ) → map h (tell (cell, f cell)) ≡ say (cell, g cell))
    → map h (flat_map tell (enumerate_from from (map f (range_with_len from n))))
    ≡ flat_map say (enumerate_from from (map g (range_with_len from n)))
told-alike f g tell say h from zero alike = refl
told-alike f g tell say h from (suc n) alike =
    map-append h (tell (from, f from))
    (flat_map tell (enumerate_from (from + 1) (map f (range_with_len (from + 1) n))))
    ∙ (λ i. alike from i ++ told-alike f g tell say h (from + 1) n alike i)

-- who stays in cells that go on from one
pub staying-are : (f : ℕ → OrganismLife) (g : ℕ → CellLife) (from n : ℕ) (ids : List ℕ)
    → length ids ≡ n
    → ((place cell : ℕ) → cell ≡ from + place
    → with_id (get_or ids place 0) (left_in (f cell)) ≡ staying_in (g cell))
    → occupants_of (map left_in (map f (range_with_len from n))) ids
    ≡ map staying_in (map g (range_with_len from n))
staying-are f g from zero ids long each = refl
staying-are f g from (suc n) [] long each = absurd (omega (arith, long))
staying-are f g from (suc n) (id ∷ ids) long each =
    let rest = staying-are f g (from + 1) n ids (omega (arith, long))
    (λ place cell is. each (suc place) cell (omega (arith, is))) in
    λ i. each 0 from (omega arith) i ∷ rest i
