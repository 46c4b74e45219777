-- The letters that are left, and the places that are left.
use Rattle.std.proofs.Common.{◌≡◌, ◌≢◌, ℕ, ◌+◌, ◌-◌, ◌<◌, ◌≤◌, Bool, true, false, eqb, List, [], ◌∷◌, ◌++◌, Option, Some, None, length, map, append_assoc, refl, sym, ap, ◌∙◌, arith}
use Rattle.std.specs.Prelude.{filter, filter_map, flat_map, not}
use Rattle.std.specs.List.{cons_option, range_with_len}
use Rattle.std.proofs.lemmas.Bool.Decides.{nat_tests}
use Rattle.instruction_set.specs.declared.letter.Letter.{Letter}
use Rattle.instruction_set.specs.Letter.{index_of, letter_at}
use Rattle.landscape.specs.declared.changes.Change.{Change}
use Rattle.landscape.specs.Landscape.{changes_at, others_from}
use Rattle.landscape.proofs.RangeLemmas.{range_next}

-- the changes of a place to the letters of the indexes that are left
abbrev pub changes_left : ℕ → Letter → ℕ → List Change
changes_left at letter index =
    map (λ other. record { at = at; letter = other }) (others_from letter index (26 - index))

-- a first number that fails the test is left out
filter_out : (p : ℕ → Bool) (x : ℕ) (xs : List ℕ) → p x ≡ false → filter p (x ∷ xs) ≡ filter p xs
filter_out p x xs out = rw out refl

-- a first number that passes the test is kept
filter_in : (p : ℕ → Bool) (x : ℕ) (xs : List ℕ) → p x ≡ true → filter p (x ∷ xs) ≡ x ∷ filter p xs
filter_in p x xs within = rw within refl

-- two numbers that differ pass the test for a difference
not_equal : (a b : ℕ) → a ≢ b → not (eqb a b) ≡ true
not_equal a b apart = let e : eqb a b ≡ false = grind (arith, nat_tests) in ap not e

-- equal numbers fail the test for a difference
equal : (a b : ℕ) → a ≡ b → not (eqb a b) ≡ false
equal a b same = let e : eqb a b ≡ true = grind (arith, nat_tests) in ap not e

module _ (letter : Letter) (index : ℕ) (within : index < 26) where
  -- whether an index is not the letter's
  abbrev test : ℕ → Bool
  test i = not (eqb i (index_of letter))

  -- the first index of those that are left
  first_index : others_from letter index (26 - index)
      ≡ filter_map letter_at (filter test (index ∷ range_with_len (index + 1) (26 - (index + 1))))
  unfolding others_from
  first_index =
      ap (λ (is : List ℕ). filter_map letter_at (filter test is)) (range_next index 26 within)

  -- the letter itself is left out
  pub others_itself : index ≡ index_of letter
      → others_from letter index (26 - index) ≡ others_from letter (index + 1) (26 - (index + 1))
  unfolding others_from
  others_itself same = first_index ∙ ap (filter_map letter_at)
      (filter_out test index (range_with_len (index + 1) (26 - (index + 1)))
      (equal index (index_of letter) same))

  -- at any other index stands its letter, if it has one
  others_else : index ≢ index_of letter
      → others_from letter index (26 - index)
      ≡ cons_option (letter_at index) (others_from letter (index + 1) (26 - (index + 1)))
  unfolding others_from
  others_else apart = first_index ∙ ap (filter_map letter_at)
      (filter_in test index (range_with_len (index + 1) (26 - (index + 1)))
      (not_equal index (index_of letter) apart))

  -- any other is there
  pub others_other : (other : Letter) → index ≢ index_of letter → Some other ≡ letter_at index
      → others_from letter index (26 - index) ≡ other ∷ others_from letter (index + 1)
      (26 - (index + 1))
  others_other other apart is = others_else apart
      ∙ ap (λ (o : Option Letter).
      cons_option o (others_from letter (index + 1) (26 - (index + 1)))) (sym is)

  -- an index that has no letter adds none
  pub others_none : index ≢ index_of letter → None ≡ letter_at index
      → others_from letter index (26 - index) ≡ others_from letter (index + 1) (26 - (index + 1))
  others_none apart is = others_else apart
      ∙ ap (λ (o : Option Letter).
      cons_option o (others_from letter (index + 1) (26 - (index + 1)))) (sym is)

-- one change more
pub change_more : (at : ℕ) (letter other : Letter) (index : ℕ) (old new all : List Change)
    → index < 26 → index ≢ index_of letter → Some other ≡ letter_at index
    → new ≡ old ++ record { at = at; letter = other } ∷ []
    → old ++ changes_left at letter index ≡ all → new ++ changes_left at letter (index + 1) ≡ all
change_more at letter other index old new all within apart is more so_far =
    let one : Change = record { at = at; letter = other } in
    ap (λ (cs : List Change). cs ++ changes_left at letter (index + 1)) more
    ∙ append_assoc old (one ∷ []) (changes_left at letter (index + 1))
    ∙ sym (ap (λ (ls : List Letter). old ++ map (λ l. record { at = at; letter = l }) ls)
    (others_other letter index within other apart is))
    ∙ so_far

-- no change more: where an index adds no letter, those made and those left are still all
pub same_left : (at : ℕ) (letter : Letter) (index : ℕ) (old all : List Change)
    → others_from letter index (26 - index) ≡ others_from letter (index + 1) (26 - (index + 1))
    → old ++ changes_left at letter index ≡ all → old ++ changes_left at letter (index + 1) ≡ all
same_left at letter index old all same so_far =
    sym (ap (λ (ls : List Letter). old ++ map (λ l. record { at = at; letter = l }) ls) same)
    ∙ so_far

-- where no indexes are left, there are no letters
no_letter_left : (letter : Letter) (index : ℕ) → others_from letter index 0 ≡ []
unfolding others_from
no_letter_left letter index = refl

-- past the last index no change of a place is left
pub no_change_left : (at : ℕ) (letter : Letter) (index : ℕ) → 26 ≤ index
    → changes_left at letter index ≡ []
no_change_left at letter index past =
    let e : 26 - index ≡ 0 = omega arith in
    ap (λ (n : ℕ). map (λ l. record { at = at; letter = l }) (others_from letter index n)) e
    ∙ ap (map (λ l. record { at = at; letter = l })) (no_letter_left letter index)

-- the changes of the places that are left
abbrev pub places_left : List Letter → ℕ → List Change
places_left genome at = flat_map (changes_at genome) (range_with_len at (length genome - at))

-- one place more: the changes made and those of the places left are still all
pub place_more : (genome : List Letter) (at : ℕ) (old new all : List Change) → at < length genome
    → new ≡ old ++ changes_at genome at → old ++ places_left genome at ≡ all
    → new ++ places_left genome (at + 1) ≡ all
place_more genome at old new all within more so_far =
    ap (λ (cs : List Change). cs ++ places_left genome (at + 1)) more
    ∙ append_assoc old (changes_at genome at) (places_left genome (at + 1))
    ∙ sym (ap (λ (ns : List ℕ). old ++ flat_map (changes_at genome) ns)
    (range_next at (length genome) within))
    ∙ so_far
