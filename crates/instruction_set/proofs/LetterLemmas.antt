-- The look-ups of a letter.
use Rattle.std.proofs.Common.{◌≡◌, ◌≢◌, ◌∙◌, sym, ap, subst, ℕ, zero, suc, ◌+◌, ◌-◌, ◌<◌, ◌≤◌, ◌↔◌, Bool, true, false, cond, map, refl, Option, None, Some, List, [], ◌∷◌, arith, eq-eqb}
use Rattle.std.specs.Prelude.{◌==◌, find, slice_get, IsNone}
use Rattle.std.specs.Bool.{Decides}
use Rattle.std.specs.List.{range_with_len}
use Rattle.std.specs.Str.{bytes_eq}
use Rattle.std.proofs.lemmas.Bool.{ne_eqb}
use Rattle.std.proofs.lemmas.Bool.Decides.{Decides-eqb}
use Rattle.std.proofs.lemmas.Slice.Eq.{bytes_eq-Decides, slice_eq-Decides}
use Rattle.instruction_set.specs.declared.letter.Letter.{Letter}
use Rattle.instruction_set.specs.declared.letter.Letter.TheVariants.{NopA}
use Rattle.instruction_set.specs.Letter.{letter_table, index_of, byte_of, name_of, letter_at, letter_of_byte, letter_named, same_letter, same_letters}

-- the keys of these letters count on from a number
abbrev pub Counts : (Letter → ℕ) → ℕ → List Letter → Type 0
Counts key from [] = Unit {0}
Counts key from (letter ∷ rest) = (key letter ≡ from) × Counts key (from + 1) rest

-- among letters whose keys count on, the place finds a key
pub find-Counts : (key : Letter → ℕ) (from : ℕ) (ls : List Letter) (at wanted : ℕ)
    → Counts key from ls → wanted ≡ from + at
    → find (λ letter. key letter == wanted) ls ≡ slice_get ls at
find-Counts key from [] at wanted counts is = refl
find-Counts key from (letter ∷ rest) zero wanted counts is =
    let here : (key letter == wanted) ≡ true =
    eq-eqb (key letter) wanted (omega (arith, counts.0)) in
    ap (λ b. cond b (Some letter) (find (λ other. key other == wanted) rest)) here
find-Counts key from (letter ∷ rest) (suc at) wanted counts is =
    let elsewhere : (key letter == wanted) ≡ false =
    ne_eqb (key letter) wanted (λ same. omega (arith, counts.0)) in
    ap (λ b. cond b (Some letter) (find (λ other. key other == wanted) rest)) elsewhere
    ∙ find-Counts key (from + 1) rest at wanted counts.1 (omega arith)

-- no key is below the first
pub find-below : (key : Letter → ℕ) (from : ℕ) (ls : List Letter) (wanted : ℕ) → Counts key from ls
    → wanted < from → find (λ letter. key letter == wanted) ls ≡ None
find-below key from [] wanted counts below = refl
find-below key from (letter ∷ rest) wanted counts below =
    let elsewhere : (key letter == wanted) ≡ false =
    ne_eqb (key letter) wanted (λ same. omega (arith, counts.0)) in
    ap (λ b. cond b (Some letter) (find (λ other. key other == wanted) rest)) elsewhere
    ∙ find-below key (from + 1) rest wanted counts.1 (omega arith)

-- what is found passes the test
pub find-passes : {X : Type 0} (test : X → Bool) (items : List X) (item : X)
    → find test items ≡ Some item → test item ≡ true
find-passes test [] item is = cc
find-passes test (first ∷ rest) item is = by (test first) refl is (find-passes test rest item) where
  -- the item is the first, which passes, or is found among the rest
  by : (b : Bool) → test first ≡ b → cond b (Some first) (find test rest) ≡ Some item
      → (find test rest ≡ Some item → test item ≡ true) → test item ≡ true
  by true here found _ = let same : first ≡ item = cc in subst (λ x. test x ≡ true) same here
  by false _ found passes = passes found

-- keys that are the numbers from one on count on from it
counts-range : (key : Letter → ℕ) (from : ℕ) (ls : List Letter) (n : ℕ)
    → map key ls ≡ range_with_len from n → Counts key from ls
counts-range key from [] n same = tt
counts-range key from (letter ∷ rest) zero same = absurd (cc)
counts-range key from (letter ∷ rest) (suc n) same =
    let here : key letter ≡ from = cc in
    let others : map key rest ≡ range_with_len (from + 1) n = cc in
    (here, counts-range key (from + 1) rest n others)

-- the indexes of the table
letters-index_of : Counts index_of 0 letter_table
letters-index_of = counts-range index_of 0 letter_table 26 refl

-- the bytes of the table
letters-byte_of : Counts byte_of 97 letter_table
letters-byte_of = counts-range byte_of 97 letter_table 26 refl

-- the letter of an index stands at that place of the table
pub letter_at_place : (index : ℕ) → slice_get letter_table index ≡ letter_at index
unfolding letter_at
letter_at_place index =
    sym (find-Counts index_of 0 letter_table index index letters-index_of (omega arith))

-- the letter of a byte has the index that the byte counts from `a`
pub letter_of_byte_at : (byte : ℕ) → 97 ≤ byte → letter_at (byte - 97) ≡ letter_of_byte byte
unfolding letter_of_byte
letter_of_byte_at byte within =
    sym (find-Counts byte_of 97 letter_table (byte - 97) byte letters-byte_of (omega arith)
    ∙ letter_at_place (byte - 97))

-- no letter has a byte below `a`
pub letter_of_byte-below : (byte : ℕ) → byte < 97 → letter_of_byte byte ≡ None
unfolding letter_of_byte
letter_of_byte-below byte below = find-below byte_of 97 letter_table byte letters-byte_of below

-- the look-ups of what a letter has
pub record FoundAgain (letter : Letter) : Type 0 where
  pub by_index : letter_at (index_of letter) ≡ Some letter
  pub by_byte : letter_of_byte (byte_of letter) ≡ Some letter
  pub by_name : letter_named (name_of letter) ≡ Some letter

-- each letter is found by its index, its byte and its name
pub found_again : (letter : Letter) → FoundAgain letter
unfolding letter_at letter_of_byte letter_named
found_again NopA = record { by_index = refl; by_byte = refl; by_name = refl }
found_again _ = record { by_index = refl; by_byte = refl; by_name = refl }

-- a letter that is found by a name has that name
pub letter_named-name_of : (name : List ℕ) (letter : Letter) → letter_named name ≡ Some letter
    → name_of letter ≡ name
unfolding letter_named
letter_named-name_of name letter found =
    (bytes_eq-Decides (name_of letter) name).0
    (find-passes (λ other. bytes_eq (name_of other) name) letter_table letter found)

-- a name that is not found is no letter's
pub letter_named-None : (name : List ℕ) → IsNone (letter_named name)
    ↔ ((letter : Letter) → name_of letter ≢ name)
letter_named-None name = by (letter_named name) refl where
  -- what was found is none just where no letter has the name
  by : (found : Option Letter) → letter_named name ≡ found
      → IsNone found ↔ ((letter : Letter) → name_of letter ≢ name)
  by None is = (
    λ _ letter same. let found : letter_named name ≡ Some letter =
        subst (λ n. letter_named n ≡ Some letter) same (found_again letter).by_name in cc,
    λ _. refl,
  )
  by (Some letter) is =
      (λ none. cc, λ nobody. absurd (nobody letter (letter_named-name_of name letter is)))

-- the test of two letters tells which are one
abbrev pub OneIndex : Type 0
OneIndex = (letter other : Letter) → Decides (same_letter letter other) (letter ≡ other)

-- letters with one index are one letter
pub same_letter-Decides : OneIndex
same_letter-Decides letter other =
    let same = Decides-eqb (index_of letter) (index_of other) in (
      λ equal. let found : Some letter ≡ Some other = sym (found_again letter).by_index
          ∙ ap letter_at (same.0 equal) ∙ (found_again other).by_index in
          cc,
      λ equal. same.1 (ap index_of equal),
    )

-- and so are lists of them
pub same_letters-Decides : (letters others : List Letter)
    → Decides (same_letters letters others) (letters ≡ others)
same_letters-Decides letters others = slice_eq-Decides same_letter-Decides letters others _ refl
