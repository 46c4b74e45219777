-- The bank between two ends of updates.
use Rattle.std.proofs.Common.{◌≡◌, ◌⊎◌, ℕ, ◌+◌, ◌<◌, Bool, true, List, [], ◌∷◌, ◌++◌, length, map, Contains, refl, ap, ◌∙◌, inl, inr}
use Rattle.std.specs.Prelude.{◌↔◌, slice_index_or}
use Rattle.event_orders.proofs.Prelude.{Contains-append_left, Contains-append_right, Contains-append_cases, Contains-push_cases, Contains-push, filter_map-append, Entry, genomes_of, interned_genome, Letter, ConfigValues, World, scene_of_lives, world_of, Gather, Intern, State, genome_entry, life_in, newborn_genomes, result_of, results_of, injections_at, IsLawful, MayGather, with_value_at, state_after_event, genomes_ever}
use Rattle.event_orders.proofs.Everyone.{genomes_next, births_are}
use Rattle.event_orders.proofs.Going.{at_either}
use Rattle.event_orders.proofs.Results.{lives_in, born_in, AreLives, results_are_lives, newborn_is_birth, birth_is_newborn}

-- what holds of the bank between two ends of updates
pub record IsBanked (config : ConfigValues) (world : World) (done : ℕ → ℕ → Bool)
    (history : List Entry) : Type 0 where
  -- who was ever in the world is in the bank
  pub old : (g : List Letter) → Contains (genomes_ever world.everyone) g
      → Contains (genomes_of history) g
  -- so is each newborn that was interned
  pub young : (cell nth : ℕ) → done cell nth ≡ true
      → Contains (genomes_of history) (slice_index_or
      (newborn_genomes (life_in config world cell)) nth [])
  -- and nobody else
  pub only : (g : List Letter) → Contains (genomes_of history) g
      → Contains (genomes_ever world.everyone) g ⊎ Contains (born_in config world) g

-- the genomes of a history with a further one
genomes-push : (history : List Entry) (seat : ℕ) (g : List Letter)
    → genomes_of (history ++ genome_entry seat g ∷ []) ≡ genomes_of history ++ g ∷ []
genomes-push history seat g =
    filter_map-append (λ (one : Entry). interned_genome one.call) history (genome_entry seat g ∷ [])

-- the genomes of a list that a seat interned
genomes-interned : (seat : ℕ) (gs : List (List Letter))
    → genomes_of (map (genome_entry seat) gs) ≡ gs
genomes-interned seat [] = refl
genomes-interned seat (g ∷ gs) = ap (λ l. g ∷ l) (genomes-interned seat gs)

module _ (config : ConfigValues) where
  -- a newborn was interned
  young_kept : (known : List (List Letter)) (newborns : ℕ → List (List Letter))
      (done : ℕ → ℕ → Bool) (cell nth : ℕ)
      → ((c k : ℕ) → done c k ≡ true → Contains known (slice_index_or (newborns c) k []))
      → (c k : ℕ) → with_value_at done cell (with_value_at (done cell) nth true) c k ≡ true
      → Contains (known ++ slice_index_or (newborns cell) nth [] ∷ [])
      (slice_index_or (newborns c) k [])
  young_kept known newborns done cell nth had c k =
      let Kept = λ (b : Bool). b ≡ true → Contains
      (known ++ slice_index_or (newborns cell) nth [] ∷ []) (slice_index_or (newborns c) k []) in
      at_either (λ (f : ℕ → Bool). Kept (f k)) done cell c (with_value_at (done cell) nth true)
      (λ e. at_either Kept (done cell) nth k true
      (λ f h. rw (e, f) (Contains-push known (slice_index_or (newborns cell) nth [])))
      (λ n h. Contains-append_left known _ _ (had c k (ap (λ c. done c k) e ∙ h))))
      (λ n h. Contains-append_left known _ _ (had c k h))

  -- a newborn was interned, and the bank is as it was to be
  pub intern_banked : (s : State) (seat cell nth : ℕ)
      → IsLawful config s (Intern seat cell nth)
      → AreLives config s.world s.results → IsBanked config s.world s.interned s.history
      → IsBanked config s.world (state_after_event config s (Intern seat cell nth)).interned
      (state_after_event config s (Intern seat cell nth)).history
  intern_banked s seat cell nth may are h =
      let w = s.world in
      let is = are cell may.0 in
      let g0 = slice_index_or (newborn_genomes (life_in config w cell)) nth [] in
      let more : genomes_of (s.history ++ genome_entry seat
      (slice_index_or (newborn_genomes (result_of s cell)) nth []) ∷ []) ≡ genomes_of s.history
      ++ g0 ∷ [] = rw is.1 (genomes-push s.history seat g0) in
      record {
        old = λ g k. rw more (Contains-append_left (genomes_of s.history) (g0 ∷ []) g (h.old g k));
        young = λ c k e. rw more (young_kept (genomes_of s.history)
            (λ c. newborn_genomes (life_in config w c)) s.interned cell nth h.young c k e);
        only = λ g k. elim (Contains-push_cases (genomes_of s.history) g0 g (rw more at k)) [
          | inl l ↦ h.only g l
          | inr e ↦ inr
              (rw e at (newborn_is_birth config w cell nth is.0 (rw is.1 at may.1)))
        ];
      }

  -- the list of all, at the end of an update over these results
  ever_gathered : (s : State) → MayGather s → AreLives config s.world s.results
      → genomes_ever (world_of (scene_of_lives config s.world (results_of s))).everyone
      ≡ genomes_ever s.world.everyone ++ (born_in config s.world ++ injections_at config
      (s.world.update + 1))
  ever_gathered s may are =
      let w = s.world in
      rw (
        results_are_lives config s are may.every_cell,
        genomes_next config w (lives_in config w),
        births_are config (w.update + 1) w.cells,
      ) refl

  -- at the end of an update the bank has exactly those that were ever in the world
  pub gather_members : (s : State) (seat : ℕ) → MayGather s → AreLives config s.world s.results
      → IsBanked config s.world s.interned s.history → (g : List Letter)
      → Contains (genomes_of (state_after_event config s (Gather seat)).history) g
      ↔ Contains (genomes_ever (state_after_event config s (Gather seat)).world.everyone) g
  gather_members s seat may are h g =
      let w = s.world in
      let known = genomes_of s.history in
      let added = injections_at config (w.update + 1) in
      let born = born_in config w in
      let ever : genomes_ever (state_after_event config s (Gather seat)).world.everyone
      ≡ genomes_ever w.everyone ++ (born ++ added) = ever_gathered s may are in
      let more : genomes_of (s.history ++ map (genome_entry seat) added) ≡ known ++ added =
      filter_map-append (λ (one : Entry). interned_genome one.call) s.history
      (map (genome_entry seat) added) ∙ ap (λ l. known ++ l)
      (genomes-interned seat added) in (
        (λ (k : Contains (genomes_of (s.history ++ map (genome_entry seat) added)) g). rw ever
            (elim (Contains-append_cases known added g (rw more at k)) [
              | inl l ↦ elim (h.only g l) [
                | inl o ↦ Contains-append_left _ (born ++ added) g o
                | inr b ↦ Contains-append_right (genomes_ever w.everyone) _ g
                    (Contains-append_left born added g b)
              ]
              | inr i ↦ Contains-append_right (genomes_ever w.everyone) _ g
                  (Contains-append_right born added g i)
            ])),
        (λ (k : Contains (genomes_ever
            (state_after_event config s (Gather seat)).world.everyone) g). rw more
            (elim (Contains-append_cases (genomes_ever w.everyone) (born ++ added) g
            (rw ever at k)) [
              | inl o ↦ Contains-append_left known added g (h.old g o)
              | inr r ↦ elim (Contains-append_cases born added g r) [
                | inl b ↦
                    let at = birth_is_newborn config w g b in
                    let is = (are at.0 (may.every_cell at.0 at.2)).1 in
                    let low : at.1 < length (newborn_genomes (result_of s at.0)) = rw is at.3 in
                    Contains-append_left known added g (rw at.4 at
                    (h.young at.0 at.1 (may.every_newborn at.0 at.1 at.2 low)))
                | inr i ↦ Contains-append_right known added g i
              ]
            ])),
      )
