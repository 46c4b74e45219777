-- What a reader of a log knows of its organisms, beside the pedigree so far.
use Rattle.std.proofs.Common.{◌≡◌, ℕ, zero, suc, ◌+◌, ◌<◌, ◌≤◌, Bool, true, List, [], ◌∷◌, Option, Some, None, Ok, length, set, sym, ap, ◌∙◌, arith}
use Rattle.std.specs.Prelude.{◌==◌, ◌&&◌}
use Rattle.phylogeny.proofs.Prelude.{length-append, and_parts, eqb-true, Letter, LogPlace, Before, Within, After, within_if, Reader, reader_with_death, reader_with_newcomer, AreBelow}
use Rattle.lineage_log.specs.declared.stage.Stage.{Stage}

-- ---- who stands in the cells

-- once a cell is set, all ids are below a number that the old ones and the new one are below
set_below : (n m : ℕ) (slots : List (Option ℕ)) (cell : ℕ) (slot : Option ℕ) → n ≤ m
    → AreBelow n slots → ((id : ℕ) → slot ≡ Some id → id < m) → AreBelow m (set slots cell slot)
set_below n m [] cell slot few below new c id is = absurd cc
set_below n m (s ∷ slots) zero slot few below new zero id is = new id is
set_below n m (s ∷ slots) zero slot few below new (suc c) id is =
    let b = below (suc c) id is in omega arith
set_below n m (s ∷ slots) (suc cell) slot few below new zero id is =
    let b = below zero id is in omega arith
set_below n m (s ∷ slots) (suc cell) slot few below new (suc c) id is =
    set_below n m slots cell slot few (λ k i e. below (suc k) i e) new c id is

-- who stands in a cell is below a number still once a cell is empty
below_without : (n : ℕ) (slots : List (Option ℕ)) (cell : ℕ) → AreBelow n slots
    → AreBelow n (set slots cell None)
below_without n slots cell below =
    set_below n n slots cell None (omega arith) below (λ id is. absurd cc)

-- once the next id stands in a cell, all are below the one after it
pub below_with : (n : ℕ) (slots : List (Option ℕ)) (cell id : ℕ) → id ≡ n → AreBelow n slots
    → AreBelow (n + 1) (set slots cell (Some id))
below_with n slots cell id next below =
    set_below n (n + 1) slots cell (Some id) (omega arith) below
    (λ x is. let same : id ≡ x = cc in omega arith)

-- ---- what is known beside a reader

-- so many ids, and who stands in the cells
pub record IsAt (r : Reader) (count : ℕ) (standing : List (Option ℕ)) : Type 0 where
  pub as_many : length r.people ≡ count
  pub same : r.standing ≡ standing
  pub below : AreBelow count standing

-- the same of the reader of a place, which is not before the first line
abbrev pub IsPlaceAt : LogPlace → ℕ → List (Option ℕ) → Type 0
IsPlaceAt Before count standing = ⊥
IsPlaceAt (Within r) count standing = IsAt r count standing
IsPlaceAt (After r) count standing = IsAt r count standing

-- a place that a line's test gives is so, if its reader is so where the test holds
pub within_gives : (test : Bool) (r : Reader) (p : LogPlace) (count : ℕ)
    (standing : List (Option ℕ))
    → within_if test r ≡ Ok p → (test ≡ true → IsAt r count standing) → IsPlaceAt p count standing
within_gives test r p count standing is gives = grind arith

-- the test of a line that tells a newcomer
pub tested : (test : Bool) (r : Reader) (p : LogPlace) → within_if test r ≡ Ok p → test ≡ true
tested test r p is = grind arith

-- after a death there are as many ids, and the cell is empty
pub death_at : (r : Reader) (stage : Stage) (cell id count : ℕ) (standing : List (Option ℕ))
    → IsAt r count standing → IsAt (reader_with_death r stage cell id) count
    (set standing cell None)
death_at r stage cell id count standing now = record {
  as_many = now.as_many;
  same = ap (λ (slots : List (Option ℕ)). set slots cell None) now.same;
  below = below_without count standing cell now.below;
}

-- after a newcomer with the next id there is one id more, and it stands in the cell
pub newcomer_at : (r : Reader) (stage : Stage) (cell id : ℕ) (over : Option ℕ)
    (genome : List Letter) (births count : ℕ) (standing : List (Option ℕ)) → id ≡ count
    → IsAt r count standing
    → IsAt (reader_with_newcomer r stage cell over genome births) (count + 1)
    (set standing cell (Some id))
newcomer_at r stage cell id over genome births count standing next now = record {
  as_many = length-append r.people (Some genome ∷ []) ∙ ap (λ n. n + 1) now.as_many;
  same = λ i. set (now.same i) cell (Some ((now.as_many ∙ sym next) i));
  below = below_with count standing cell id next now.below;
}

-- a newcomer whose line passes its test has the next id
pub next_id : (a b c : Bool) (id count : ℕ) (people : List (Option (List Letter)))
    → length people ≡ count → (((a && b) && (id == length people)) && c) ≡ true → id ≡ count
next_id a b c id count people as_many test =
    eqb-true id (length people)
    (and_parts (a && b) (id == length people)
    (and_parts ((a && b) && (id == length people)) c test).0).1 ∙ as_many
