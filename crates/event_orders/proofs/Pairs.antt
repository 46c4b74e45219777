-- Lists of pairs of a cell and the number of a newborn, of which each stands once.
use Rattle.std.proofs.Common.{◌≡◌, ℕ, zero, suc, ◌+◌, ◌<◌, ◌≤◌, List, [], ◌∷◌, ◌++◌, map, Contains, refl, inl, inr, arith}
use Rattle.std.specs.Prelude.{if◌then◌else◌, ◌==◌}
use Rattle.event_orders.proofs.Prelude.{flat_map, range_with_len, cases_eq, cases_Bool, eq-eqb, eqb_tells, Contains-append_left, Contains-append_right, Contains-append_cases}
use Rattle.event_orders.proofs.Members.{Contains-nil, Contains-cons, Contains-cons_cases, Contains-here, Contains-from_fn}

-- a cell and the number of a newborn
abbrev pub Pair : Type 0
Pair = ℕ × ℕ

-- each stands once
abbrev pub Apart : List Pair → Type 0
Apart [] = Unit {0}
Apart (p ∷ ps) = (Contains ps p → ⊥) × Apart ps

-- two lists without a common pair
apart_append : (ps qs : List Pair) → Apart ps → Apart qs
    → ((p : Pair) → Contains ps p → Contains qs p → ⊥) → Apart (ps ++ qs)
apart_append [] qs first rest common = rest
apart_append (p ∷ ps) qs first rest common = (
  (λ h. elim (Contains-append_cases ps qs p h)
      [ inl l ↦ first.0 l | inr r ↦ common p (Contains-here p ps p refl) r ]),
  apart_append ps qs first.1 rest (λ q l r. common q (Contains-cons p ps q l) r),
)

-- the pairs of a cell, from a number on
abbrev from_nth : ℕ → ℕ → ℕ → List Pair
from_nth c first n = map (λ k. (c, k)) (range_with_len first n)

-- these are of the cell, and their numbers are in the range
in_from_nth : (c first n : ℕ) (p : Pair) → Contains (from_nth c first n) p → (p.0 ≡ c)
    × (first ≤ p.1) × (p.1 < first + n)
in_from_nth c first zero p h = absurd (Contains-nil p h)
in_from_nth c first (suc n) p h =
    elim (Contains-cons_cases (c, first) (from_nth c (first + 1) n) p h) [
      | inl e ↦ rw (← e) (refl, (omega arith), (omega arith))
      | inr r ↦
          let rest = in_from_nth c (first + 1) n p r in
          (rest.0, (omega (arith, rest.1)), (omega (arith, rest.2)))
    ]

-- each stands once
from_nth_apart : (c first n : ℕ) → Apart (from_nth c first n)
from_nth_apart c first zero = tt
from_nth_apart c first (suc n) = (
  (λ h. absurd (omega (arith, (in_from_nth c (first + 1) n (c, first) h).1))),
  from_nth_apart c (first + 1) n,
)

-- the pairs of a seat's cells, of which each has so many newborns
module _ (seat_of : ℕ → ℕ) (many : ℕ → ℕ) (seat : ℕ) where
  -- those of one cell
  abbrev pub pairs_at : ℕ → List Pair
  pairs_at c = if seat_of c == seat then from_nth c 0 (many c) else []

  -- those of so many cells, from a cell on
  abbrev pub pairs_from : ℕ → ℕ → List Pair
  pairs_from first n = flat_map pairs_at (range_with_len first n)

  -- a pair of a cell is of that cell, which is the seat's
  in_pairs_at : (c : ℕ) (p : Pair) → Contains (pairs_at c) p → (p.0 ≡ c) × (p.1 < many c)
      × (seat_of c ≡ seat)
  in_pairs_at c p h = elim (eqb_tells (seat_of c) seat) [
    | inl is ↦
        let in_cell = in_from_nth c 0 (many c) p (rw is.0 at h) in
        (in_cell.0, (omega (arith, in_cell.2)), is.1)
    | inr other ↦ absurd (Contains-nil p (rw other.0 at h))
  ]

  -- a pair of these is of one of the cells, which is the seat's
  pub in_pairs : (first n : ℕ) (p : Pair) → Contains (pairs_from first n) p → (first ≤ p.0)
      × (p.0 < first + n) × (p.1 < many p.0) × (seat_of p.0 ≡ seat)
  in_pairs first zero p h = absurd (Contains-nil p h)
  in_pairs first (suc n) p h =
      elim (Contains-append_cases (pairs_at first) (pairs_from (first + 1) n) p h) [
        | inl l ↦
            let here = in_pairs_at first p l in
            ((omega (arith, here.0)), (omega (arith, here.0)), rw here.0 here.1, rw here.0 here.2)
        | inr r ↦
            let rest = in_pairs (first + 1) n p r in
            ((omega (arith, rest.0)), (omega (arith, rest.1)), rest.2, rest.3)
      ]

  -- and each of those is among them
  pub pairs_have : (first n c k : ℕ) → first ≤ c → c < first + n → seat_of c ≡ seat → k < many c
      → Contains (pairs_from first n) (c, k)
  pairs_have first zero c k low high is within = absurd (omega (arith, low, high))
  pairs_have first (suc n) c k low high is within = elim (cases_eq first c) [
    | inl same ↦ Contains-append_left (pairs_at first) (pairs_from (first + 1) n) (c, k)
        (rw (same, eq-eqb (seat_of c) seat is) (Contains-from_fn (λ k. (c, k)) (many c) k within))
    | inr other ↦ Contains-append_right (pairs_at first) (pairs_from (first + 1) n) (c, k)
        (pairs_have (first + 1) n c k (omega (arith, low, other)) (omega (arith, high)) is within)
  ]

  -- each stands once
  pub pairs_apart : (first n : ℕ) → Apart (pairs_from first n)
  pairs_apart first zero = tt
  pairs_apart first (suc n) =
      let here : Apart (pairs_at first) = elim (cases_Bool (seat_of first == seat))
      [ inl is ↦ rw is (from_nth_apart first 0 (many first)) | inr other ↦ rw other tt ] in
      apart_append (pairs_at first) (pairs_from (first + 1) n) here
      (pairs_apart (first + 1) n)
      (λ p l r. absurd (omega (arith, (in_pairs_at first p l).0, (in_pairs (first + 1) n p r).0)))
