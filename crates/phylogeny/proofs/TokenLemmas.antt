-- Where the count of one who lives stands on its way down the ids: at the first id of its line
-- below a bound.
use Rattle.std.proofs.Common.{◌≡◌, ℕ, zero, suc, ◌+◌, ◌<◌, ◌≤◌, Bool, false, cond, eqb, ltb, List, [], ◌∷◌, Option, Some, None, refl, ap, ◌∙◌, arith}
use Rattle.phylogeny.proofs.Prelude.{list_any, option_map_or, common_steps, ancestors_within, Older}
use Rattle.phylogeny.proofs.AncestorLemmas.{line_head}
use Rattle.phylogeny.proofs.CountLemmas.{bit}

-- the first of these below the bound is this one
abbrev pub stops : ℕ → ℕ → List ℕ → Bool
stops bound at [] = false
stops bound at (id ∷ ids) = cond (ltb id bound) (eqb id at) (stops bound at ids)

-- this one is among them
abbrev pub is_among : ℕ → List ℕ → Bool
is_among at ids = list_any (λ id. eqb id at) ids

-- a first id below the bound is the one at which the count stops
pub stops_here : (bound at id : ℕ) (ids : List ℕ) → id < bound
    → stops bound at (id ∷ ids) ≡ eqb id at
stops_here bound at id ids below = grind (arith, common_steps)

-- the first id below the next bound is this one where it is among them, by those behind
stops_first : (at id : ℕ) (ids : List ℕ) → (id < at → is_among at ids ≡ false)
    → (at < id → stops (at + 1) at ids ≡ is_among at ids)
    → stops (at + 1) at (id ∷ ids) ≡ is_among at (id ∷ ids)
stops_first at id ids none later = grind (arith, common_steps, none, later)

-- the count at an id is handed on to its parent
handed_first : (id at first : ℕ) (ids : List ℕ) (t : Bool) → at < id
    → (first ≡ id → bit (stops id at ids) ≡ bit t)
    → (id < first → bit (stops id at ids)
    ≡ bit (stops (id + 1) at ids) + cond t (bit (stops (id + 1) id ids)) 0)
    → bit (stops id at (first ∷ ids)) ≡ bit (stops (id + 1) at (first ∷ ids)) + cond t
    (bit (stops (id + 1) id (first ∷ ids))) 0
handed_first id at first ids t below here later = grind (arith, common_steps, here, later)

module _ (parent_of : ℕ → Option ℕ) (older : Older parent_of) where
  -- a greater id is not in the line
  pub none_above : (n id at : ℕ) → id < at → is_among at (ancestors_within n parent_of id) ≡ false
  none_above zero id at below = grind (arith, common_steps)
  none_above (suc n) id at below =
      grind (arith, common_steps, older id, λ (above : ℕ). none_above n above at)

  -- an id stands in a line exactly where the first id of the line below the next bound is this one
  pub stops-among : (n id at : ℕ)
      → stops (at + 1) at (ancestors_within n parent_of id)
      ≡ is_among at (ancestors_within n parent_of id)
  stops-among zero id at = stops_first at id [] (λ _. refl) (λ _. refl)
  stops-among (suc n) id at =
      stops_first at id (option_map_or (ancestors_within n parent_of) (parent_of id) [])
      (λ below. grind (arith, common_steps, older id, λ (above : ℕ). none_above n above at))
      (λ _. grind (arith, common_steps, λ (above : ℕ). stops-among n above at))

  -- this is the parent of an id
  abbrev pub is_parent : ℕ → ℕ → Bool
  is_parent id at = option_map_or (λ above. eqb above at) (parent_of id) false

  -- the first id below this one among its parent and those above is its parent
  parent_next : (n id at : ℕ) → at < id
      → bit (stops id at (option_map_or (ancestors_within n parent_of) (parent_of id) []))
      ≡ bit (is_parent id at)
  parent_next n id at below =
      (elim (parent_of id) as (λ o. parent_of id ≡ o
      → bit (stops id at (option_map_or (ancestors_within n parent_of) o []))
      ≡ bit (option_map_or (λ above. eqb above at) o false)) [
        | None ↦ λ is. refl
        | Some above ↦ λ is.
            let h = line_head parent_of n above in
            rw h.1 (ap bit (stops_here id at above h.0 (older id above is)))
      ]) refl

  -- the count of one who lives is handed on from an id to its parent
  pub handed : (n first id at : ℕ) → first ≤ n → at < id
      → bit (stops id at (ancestors_within n parent_of first))
      ≡ bit (stops (id + 1) at (ancestors_within n parent_of first)) + cond (is_parent id at)
      (bit (stops (id + 1) id (ancestors_within n parent_of first))) 0
  handed zero first id at few below =
      handed_first id at first [] (is_parent id at) below (λ e. absurd (omega arith))
      (λ e. absurd (omega arith))
  handed (suc n) first id at few below =
      handed_first id at first (option_map_or (ancestors_within n parent_of) (parent_of first) [])
      (is_parent id at) below
      (λ e. ap (λ (f : ℕ). bit
      (stops id at (option_map_or (ancestors_within n parent_of) (parent_of f) []))) e
      ∙ parent_next n id at below)
      (λ later. let rest = λ (above : ℕ) (few : above ≤ n). handed n above id at few below in
      grind (arith, common_steps, older first, rest))
