-- What the shards leave is what a world's lives leave.
use Rattle.std.proofs.Common.{◌≡◌, ◌∙◌, refl, sym, ap, ℕ, ◌+◌, ◌<◌, ◌≤◌, ◌^◌, Bool, true, false, cond, List, [], ◌∷◌, length, map, get_or, Option, Some, None, arith}
use Rattle.world_core.proofs.Prelude.{All, range_with_len, flat_map, enumerate_from, length-map, All-cons, All-head, All-map, All-nil, All-tail, length-map-range_with_len, IsYoung, RoundNumbers, births_from, dead_in, deaths_from, left_in, newborns_in, part_from, shard_life_at, shard_life_of, shard_lives_of, standing_in, birth_of, Delivered, Standing, slices_of, OrganismState, OrganismLife, ConfigValues, CellLife, life_at, lives_of, merit_in, no_life, slice_at, slices_at, with_id, organism_in, births_in, births_of, Occupant, AreBounded, IsBoundedIn, occupants_of, merit_or_zero, occupant_genome, delivery_at, departed_from, departed_in, departure_by, round_of, staying_in}
use Rattle.std.proofs.Math.ListN.{get_or-map}
use Rattle.world_core.proofs.BirthOrderLemmas.{map-both}
use Rattle.world_core.proofs.CellTableLemmas.{merits-of, occupants_of-at, occupants_of-length, organism-with}
use Rattle.world_core.proofs.CountLemmas.{GoesOn}
use Rattle.world_core.proofs.ShardLemmas.{LivesAs, delivery_by, life-as, staying-are, told-alike}

-- organisms that are bounded are not too old
pub young-are : (update : ℕ) (os : List (Option OrganismState)) (ids : List ℕ)
    → length ids ≡ length os → update < 1000000 → AreBounded update (occupants_of os ids)
    → All IsYoung os
young-are update [] ids long early sound = All-nil IsYoung
young-are update (o ∷ os) [] long early sound = absurd (omega (arith, long))
young-are update (o ∷ os) (id ∷ ids) long early sound =
    All-cons IsYoung o os
    (by o (All-head (IsBoundedIn update) (with_id id o) (occupants_of os ids) sound))
    (young-are update os ids (omega (arith, long)) early
    (All-tail (IsBoundedIn update) (with_id id o) (occupants_of os ids) sound))
  where
    by : (o : Option OrganismState) → IsBoundedIn update (with_id id o) → IsYoung o
    by None is = tt
    by (Some o) is = omega (arith, is.0, early)

-- nor have they too great merits
pub merits-fit : (os : List (Option OrganismState)) (ids : List ℕ)
    (standings : List (Option Standing)) → length ids ≡ length os
    → standings ≡ map standing_in os → All (λ slot. merit_in slot ≤ 2 ^ 38) (occupants_of os ids)
    → All (λ merit. merit ≤ 2 ^ 38) (map merit_or_zero standings)
merits-fit os ids standings long same fit =
    rw (same, ← merits-of os ids long)
    (All-map (λ (merit : ℕ). merit ≤ 2 ^ 38) merit_in (occupants_of os ids) fit)

-- the steps of the cells
pub slices-are : (config : ConfigValues) (cells : List (Option Occupant))
    (os : List (Option OrganismState)) (ids slices : List ℕ) (standings : List (Option Standing))
    → length ids ≡ length os → occupants_of os ids ≡ cells → standings ≡ map standing_in os
    → slices ≡ slices_of (map merit_or_zero standings) config.average_slices
    → slices ≡ slices_at config cells
unfolding slices_at
slices-are config cells os ids slices standings long were same bought =
    rw (bought, same, ← merits-of os ids long, were)

-- the cells of a world as its shards have them: organisms and ids apart, the steps of each cell,
-- and what all lives of an update share
pub record LiveApart (config : ConfigValues) (update : ℕ) (cells : List (Option Occupant))
    (os : List (Option OrganismState)) (ids slices : List ℕ) (round : RoundNumbers) : Type 0 where
  pub long : length ids ≡ length os
  pub were : occupants_of os ids ≡ cells
  pub bought : slices ≡ slices_at config cells
  pub shared : round ≡ round_of config update

module _ {config : ConfigValues} {update : ℕ} {cells : List (Option Occupant)}
    {os : List (Option OrganismState)} {ids slices : List ℕ} {round : RoundNumbers}
    (apart : LiveApart config update cells os ids slices round) where
  -- the lives of the cells
  abbrev lives : List CellLife
  lives = lives_of config update cells

  -- the lives of the shards
  abbrev shard_lives : List OrganismLife
  shard_lives = shard_lives_of round (part_from 0 os slices)

  -- the life of one cell
  abbrev life_in : ℕ → CellLife
  life_in = life_at config update cells

  -- the same in its shard
  abbrev shard_life_in : ℕ → OrganismLife
  shard_life_in = shard_life_at round (part_from 0 os slices)

  -- there are as many cells as organisms and gaps
  pub cells-long : length cells ≡ length os
  cells-long = sym (ap length apart.were) ∙ occupants_of-length os ids apart.long

  -- each cell lives in its shard as in the world
  lives-as : (cell : ℕ) → LivesAs ids cell (shard_life_in cell) (life_in cell)
  lives-as cell =
      let steps = slice_at config cells cell in
      let slot = get_or os cell None in
      let place : cell ≡ 0 + cell = omega arith in
      let there : with_id (get_or ids cell 0) slot ≡ get_or cells cell None =
      sym (occupants_of-at os ids cell apart.long)
      ∙ ap (λ (cells : List (Option Occupant)). get_or cells cell None) apart.were in
      let one : shard_life_of (round_of config update) cell steps slot ≡ shard_life_in cell =
      λ i. shard_life_of (sym apart.shared i) (place i) (get_or (sym apart.bought i) cell 0)
      slot in
      rw (← one, ← there) (life-as config update cell steps ids slot)

  -- who stays in the cells
  pub lived-cells : (left : List (Option OrganismState)) → left ≡ map left_in shard_lives
      → occupants_of left ids ≡ map staying_in lives
  unfolding lives_of shard_lives_of
  lived-cells left are =
      ap (λ os. occupants_of os ids) are
      ∙ staying-are shard_life_in life_in 0 (length os) ids apart.long (λ place cell is.
      (let same : cell ≡ place = omega (arith, is) in
      rw (← same) (lives-as cell).stays))
      ∙ ap (λ n. map staying_in (map life_in (range_with_len 0 n))) (sym cells-long)

  -- as many as have an id
  pub lived-length : (left : List (Option OrganismState)) → left ≡ map left_in shard_lives
      → length ids ≡ length left
  unfolding shard_lives_of
  lived-length left are = apart.long
      ∙ sym (ap length are ∙ length-map shard_lives left_in
      ∙ length-map-range_with_len shard_life_in 0 (length os))

  -- what is told of the cells
  told-are : {X Y : Type 0} (tell : ℕ × OrganismLife → List X) (say : ℕ × CellLife → List Y)
      (h : X → Y) → ((cell : ℕ) → map h (tell (cell, shard_life_in cell)) ≡ say (cell, life_in cell))
      → map h (flat_map tell (enumerate_from 0 shard_lives))
      ≡ flat_map say (enumerate_from 0 lives)
  unfolding lives_of shard_lives_of
  told-are tell say h alike = told-alike shard_life_in life_in tell say h 0 (length os) alike
      ∙ ap (λ n. flat_map say (enumerate_from 0 (map life_in (range_with_len 0 n))))
      (sym cells-long)

  -- the newborns
  pub lived-births : (newborns : List Delivered) → map birth_of newborns ≡ births_from 0 shard_lives
      → map (delivery_at ids) newborns ≡ births_of lives
  unfolding births_of
  lived-births newborns born =
      sym (map-both birth_of (delivery_by ids) newborns) ∙ ap (map (delivery_by ids)) born
      ∙ told-are newborns_in births_in (delivery_by ids) (λ cell. (lives-as cell).births)

  -- the dead
  pub lived-dead : (died : List ℕ) (dead : List (ℕ × ℕ)) → died ≡ deaths_from 0 shard_lives
      → dead ≡ map (departure_by ids) died → dead ≡ departed_from 0 lives
  lived-dead died dead are named =
      named ∙ ap (map (departure_by ids)) are
      ∙ told-are dead_in departed_in (departure_by ids) (λ cell. (lives-as cell).dead)

  -- the life of one cell leaves the same organism with a merit that fits, or nobody
  goes-by : (was : Option OrganismState) (id : ℕ) (l : CellLife) → IsBoundedIn update l.occupant
      → occupant_genome l.occupant ≡ occupant_genome (with_id id was)
      → GoesOn was (organism_in (staying_in l))
  goes-by was id l bounded same = by l.died l.occupant bounded same where
    nobody : GoesOn was None
    nobody = record {
      nobody = λ none. refl;
      genome = λ o next a b. absurd cc;
      merit = λ next b. absurd cc;
    }

    somebody : (o : Occupant) (was : Option OrganismState) → IsBoundedIn update (Some o)
        → Some o.organism.genome ≡ occupant_genome (with_id id was) → GoesOn was (Some o.organism)
    somebody o None bounded same = absurd cc
    somebody o (Some first) bounded same = record {
      nobody = λ none. absurd cc;
      genome = λ old next a b. cc;
      merit = λ next b. (let here : o.organism ≡ next = cc in
          rw (← here) bounded.1);
    }

    by : (b : Bool) (slot : Option Occupant) → IsBoundedIn update slot
        → occupant_genome slot ≡ occupant_genome (with_id id was)
        → GoesOn was (organism_in (cond b None slot))
    by true slot bounded same = nobody
    by false None bounded same = nobody
    by false (Some o) bounded same = somebody o was bounded same

  -- so do all lives
  pub goes-on : (left : List (Option OrganismState)) → left ≡ map left_in shard_lives
      → ((place : ℕ) → IsBoundedIn update (get_or lives place no_life).occupant
      × (occupant_genome (get_or lives place no_life).occupant
      ≡ occupant_genome (get_or cells place None)))
      → (place : ℕ)
      → GoesOn (get_or os place None) (get_or left place None)
  goes-on left are keep place =
      rw stays
      (goes-by (get_or os place None) (get_or ids place 0) (get_or lives place no_life)
      (keep place).0 ((keep place).1
      ∙ ap (λ (cells : List (Option Occupant)). occupant_genome (get_or cells place None))
      (sym apart.were) ∙ ap occupant_genome (occupants_of-at os ids place apart.long)))
    where
      stays : get_or left place None ≡ organism_in (staying_in (get_or lives place no_life))
      stays = sym (organism-with (get_or ids place 0) (get_or left place None))
          ∙ ap organism_in (sym (occupants_of-at left ids place (lived-length left are))
          ∙ ap (λ (cells : List (Option Occupant)). get_or cells place None)
          (lived-cells left are)
          ∙ get_or-map staying_in lives place no_life)
