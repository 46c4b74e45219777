-- A turn of the count after lives, over what is read of the cell.
use Rattle.std.proofs.Common.{◌≡◌, ◌∙◌, sym, ap, ℕ, ◌+◌, ◌<◌, ◌≤◌, List, length, map, get_or, Option, None, arith}
use Rattle.world_core.proofs.Prelude.{get_or_read, length-map, RoundNumbers, left_in, part_from, shard_lives_of, standing_in, Standing, Counts, Letter, OrganismState, ConfigValues, with_id, Occupant, occupants_of, CanCountChange, CountsChange, IsKeptOf, OneList}
use Rattle.std.proofs.Math.ListN.{get_or-map}
use Rattle.world_core.proofs.CellTableLemmas.{occupants_of-at, occupants_of-length}
use Rattle.world_core.proofs.CountLemmas.{GoesOn, can-count, counted-again, mixed, mixed-all, mixed-at, mixed-length, mixed-step}
use Rattle.world_core.proofs.LivedLemmas.{LiveApart, cells-long, lived-length}

-- what is read of the cells: the keys, and what is counted of them before and after the lives
pub record AreRead (os left : List (Option OrganismState)) (keys : List ℕ)
    (before after : List (Option Standing)) : Type 0 where
  pub keyed : length keys ≡ length os
  pub before_are : before ≡ map standing_in os
  pub after_are : after ≡ map standing_in left

-- what is read of one of them
pub record IsRead (keys : List ℕ) (before after : List (Option Standing)) (cell key : ℕ)
    (was now : Option Standing) : Type 0 where
  pub key_is : key ≡ get_or keys cell key
  pub was_is : was ≡ get_or before cell was
  pub now_is : now ≡ get_or after cell now

-- what was read of a cell is what is counted of who stands there
counted-at : (os : List (Option OrganismState)) (standings : List (Option Standing)) (cell : ℕ)
    (read : Option Standing) → cell < length os → standings ≡ map standing_in os
    → read ≡ get_or standings cell read → read ≡ standing_in (get_or os cell None)
counted-at os standings cell read within are found =
    get_or_read standings cell read
    (omega (arith, within, ap length are, length-map os standing_in)) found None
    ∙ ap (λ ss. get_or ss cell None) are
    ∙ get_or-map standing_in os cell None

module _ {config : ConfigValues} {update : ℕ} {cells : List (Option Occupant)}
    {os : List (Option OrganismState)} {ids slices : List ℕ} {round : RoundNumbers}
    (apart : LiveApart config update cells os ids slices round)
    {left : List (Option OrganismState)}
    (are : left ≡ map left_in (shard_lives_of round (part_from 0 os slices))) where
  -- there are as many cells as before the lives
  next-long : length (occupants_of left ids) ≡ length cells
  next-long =
      let long = lived-length apart left are in
      omega (arith, occupants_of-length left ids long, long, apart.long, cells-long apart)

  -- once all are counted
  pub all-counted : (cell : ℕ) (genomes : List (List Letter)) (keys : List ℕ) (counts : Counts)
      → length left ≤ cell → IsKeptOf (mixed (occupants_of left ids) cells cell) genomes keys counts
      → IsKeptOf (occupants_of left ids) genomes keys counts
  all-counted cell genomes keys counts past kept =
      let long = occupants_of-length left ids (lived-length apart left are) in
      rw (mixed-all (occupants_of left ids) cells cell next-long
      (omega (arith, past, next-long, long))) at kept

  module _ (one_list : OneList) {keys : List ℕ} {standings told : List (Option Standing)}
      (lists : AreRead os left keys standings told) (genomes : List (List Letter))
      (before after : Counts) (cell : ℕ) (inside : cell < length left)
      (goes : GoesOn (get_or os cell None) (get_or left cell None))
      (kept : IsKeptOf (mixed (occupants_of left ids) cells cell) genomes keys before)
      {key : ℕ} {was now : Option Standing}
      (read : IsRead keys standings told cell key was now) where
    -- somebody or nobody stood there
    within : cell < length os
    within = omega (arith, inside, lived-length apart left are, apart.long)

    -- what was read of the cell is what is so of it
    key-here : key ≡ get_or keys cell 0
    key-here = get_or_read keys cell key (omega (arith, within, lists.keyed)) read.key_is 0

    was-here : was ≡ standing_in (get_or os cell None)
    was-here = counted-at os standings cell was within lists.before_are read.was_is

    now-here : now ≡ standing_in (get_or left cell None)
    now-here = counted-at left told cell now inside lists.after_are read.now_is

    -- the cell is not counted yet
    stands : cell < length cells
    stands = omega (arith, within, cells-long apart)

    here : get_or (mixed (occupants_of left ids) cells cell) cell None
        ≡ with_id (get_or ids cell 0) (get_or os cell None)
    here = mixed-at (occupants_of left ids) cells cell next-long stands
        ∙ ap (λ (cells : List (Option Occupant)). get_or cells cell None) (sym apart.were)
        ∙ occupants_of-at os ids cell apart.long

    among : cell < length (mixed (occupants_of left ids) cells cell)
    among = omega (
      arith,
      stands,
      mixed-length (occupants_of left ids) cells cell next-long (omega (arith, stands)),
    )

    -- it can be counted
    pub can-count-here : CanCountChange before key was now
    can-count-here =
        rw (key-here, was-here, now-here)
        (can-count one_list (mixed (occupants_of left ids) cells cell) genomes keys before before
        cell among (get_or ids cell 0) kept (get_or os cell None) (get_or left cell None) here goes)

    -- and then one cell more is
    pub counted-here : CountsChange before after key was now
        → IsKeptOf (mixed (occupants_of left ids) cells (cell + 1)) genomes keys after
    counted-here counted =
        let so = rw (key-here, was-here, now-here) at counted in
        rw (
          ← mixed-step (occupants_of left ids) cells cell next-long stands,
          occupants_of-at left ids cell (lived-length apart left are),
        )
        (counted-again one_list (mixed (occupants_of left ids) cells cell) genomes keys before after
        cell among (get_or ids cell 0) kept (get_or os cell None) (get_or left cell None) here goes
        so)
