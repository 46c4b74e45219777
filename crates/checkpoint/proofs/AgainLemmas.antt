-- Whoever may stand in a cell has lines that come in their place.
use Rattle.std.proofs.Common.{◌≡◌, ℕ, ◌<◌, ◌≤◌, ◌*◌, ◌==◌, true, List, ◌∷◌, ◌++◌, Some, length, get_or, refl, ap, ◌∙◌, arith, length-append}
use Rattle.std.specs.Prelude.{nat_lt, not, slice_get, if◌then◌else◌}
use Rattle.checkpoint.proofs.Prelude.{lt-ltb, ne_eqb, nat_tests, list_all-from_AllPass, slice_get-get_or, get_or-append_seam, image_of, machine_of_image, Machine, IsMachine, Occupant, HeadValues, OrganismValues, Placed, is_above, is_new, is_young, may_follow, may_stand, placed_of, values_in, AreSaved, MayStandThere}
use Rattle.std.proofs.Math.ListN.{get_or-append}
use Rattle.lineage_log.proofs.StandingLemmas.{get_seam}

-- what stands in front of others in a list
at_front : {X : Type 0} (xs ys : List X) (k : ℕ) (d : X) → k < length xs
    → slice_get (xs ++ ys) k ≡ Some (get_or xs k d)
at_front xs ys k d there =
    slice_get-get_or (xs ++ ys) k d (omega (arith, there, length-append xs ys))
    ∙ ap (λ x. Some x) (get_or-append xs ys d k there)

module _ (head : HeadValues) (placed : List Placed) (one : Placed) (others : List Placed)
    (saved : AreSaved head (placed ++ one ∷ others)) where
  -- each of those that stand before one has a lower cell
  pub above_those : is_above one.cell placed ≡ true
  above_those = list_all-from_AllPass (λ (p : Placed). nat_lt p.cell one.cell) placed
      (λ k d there. lt-ltb (get_or placed k d).cell one.cell
      (saved.rising k (length placed) (get_or placed k d) one there
      (at_front placed (one ∷ others) k d there) (get_seam placed others one)).0)

  -- each of them has another id
  pub new_to_those : is_new one.occupant.id placed ≡ true
  new_to_those =
      list_all-from_AllPass (λ (p : Placed). not (p.occupant.id == one.occupant.id)) placed
      (λ k d there. ap not (ne_eqb (get_or placed k d).occupant.id one.occupant.id
      (saved.rising k (length placed) (get_or placed k d) one there
      (at_front placed (one ∷ others) k d there) (get_seam placed others one)).1))

  -- and may stand there
  pub stands_itself : MayStandThere head one
  stands_itself = rw get_or-append_seam at
      (saved.each (length placed) one (omega (arith, length-append placed (one ∷ others))))

-- it has not reached the age of death
young_again : (head : HeadValues) (o : OrganismValues)
    → (head.death ≡ true → o.age < head.age_limit * length o.genome) → is_young head o ≡ true
young_again head o young = grind (arith, nat_tests, young)

module _ (head : HeadValues) (cell : ℕ) (o : Occupant)
    (stands : MayStandThere head (record { cell = cell; occupant = o })) where
  -- the line of the organism may come
  pub stands_again : (placed : List Placed) → is_above cell placed ≡ true
      → is_new o.id placed ≡ true → may_stand head placed (values_in cell o) ≡ true
  stands_again placed above fresh =
      let young = young_again head (values_in cell o) stands.occupant.young in
      grind (arith, nat_tests)

  -- and that of its machine
  pub follows_again :
      may_follow head (values_in cell o) (image_of o.organism.machine) ≡ true
  follows_again =
      let m = o.organism.machine in
      let growth : length m.memory ≤ (if m.pending then 6 else 2) * length o.organism.genome =
      rw (← stands.occupant.sound.organism.birth_length) stands.occupant.sound.machine.growth in
      grind (arith, nat_tests)

  -- the two lines are of the organism
  pub placed_again : ((m : Machine) → IsMachine m
      → machine_of_image (image_of m) m.birth_length m.limit ≡ m)
      → placed_of head (values_in cell o) (image_of o.organism.machine)
      ≡ record { cell = cell; occupant = o }
  placed_again whole =
      let m = o.organism.machine in
      let same : machine_of_image (image_of m) (length o.organism.genome) head.memory_limit ≡ m =
      rw (← stands.occupant.sound.organism.birth_length, ← stands.occupant.limit)
      (whole m stands.occupant.sound.machine) in
      rw same refl
