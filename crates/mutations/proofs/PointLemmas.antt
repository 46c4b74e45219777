-- Points make a text of the clean one.
use Rattle.std.proofs.Common.{◌≡◌, refl, ap, ℕ, ◌+◌, ◌<◌, Bool, true, false, cond, List, [], ◌∷◌, ◌++◌, length, set, arith, append_assoc, length-append, length-set}
use Rattle.mutations.proofs.Prelude.{OneIndex, common_steps, IsGenome, Letter, same_letter, Change, Point, with_change, is_genome_length, Makes, points_from}
use Rattle.mutations.proofs.ChangeLemmas.{Makes-append, Makes-one, Makes-none}

-- a letter in the middle of a text
pub set-middle : (front rest : List Letter) (was letter : Letter)
    → set (front ++ was ∷ rest) (length front) letter ≡ front ++ letter ∷ rest
set-middle [] rest was letter = refl
set-middle (x ∷ front) rest was letter = ap (λ l. x ∷ l) (set-middle front rest was letter)

-- a text whose length a genome may have
pub genome-fits : (text : List Letter) → IsGenome text → is_genome_length (length text) ≡ true
genome-fits text genome = grind (arith, common_steps)

-- one further place: the letters agree, or a point makes them
pub points-make_next : (alike : Bool) (at : ℕ) (front clean text : List Letter)
    (was letter : Letter) (rest : List Change) → (alike ≡ true → was ≡ letter) → at ≡ length front
    → IsGenome (front ++ was ∷ clean)
    → Makes rest (front ++ letter ∷ clean) (front ++ letter ∷ text)
    → Makes (cond alike rest (Point at letter ∷ rest)) (front ++ was ∷ clean)
    (front ++ letter ∷ text)
points-make_next true at front clean text was letter rest agree place genome further =
    rw (agree refl) further
points-make_next false at front clean text was letter rest agree place genome further =
    let middle : set (front ++ was ∷ clean) at letter ≡ front ++ letter ∷ clean =
    rw place (set-middle front clean was letter) in
    let inside : at < length (front ++ was ∷ clean) = simp length-append (omega arith) in
    let fits : is_genome_length (length (with_change (Point at letter) (front ++ was ∷ clean)))
    ≡ true = rw length-set (genome-fits _ genome) in
    Makes-append (Point at letter ∷ []) rest _ _ _
    (Makes-one (Point at letter) (front ++ was ∷ clean) (grind arith) fits) (rw middle further)

module _ (one_index : OneIndex) where
  -- the points of the rest of a text make it
  pub points-make : (at : ℕ) (front clean text : List Letter) → at ≡ length front
      → length clean ≡ length text → IsGenome (front ++ clean)
      → Makes (points_from at clean text) (front ++ clean) (front ++ text)
  points-make at front [] [] place same genome = Makes-none (front ++ [])
  points-make at front [] (letter ∷ text) place same genome = absurd (omega arith)
  points-make at front (was ∷ clean) [] place same genome = absurd (omega arith)
  points-make at front (was ∷ clean) (letter ∷ text) place same genome =
      let longer : length ((front ++ letter ∷ []) ++ clean) ≡ length (front ++ was ∷ clean) =
      simp length-append (omega arith) in
      let others = points-make (at + 1) (front ++ letter ∷ []) clean text
      (simp length-append (omega arith)) (omega arith)
      (record { least = omega arith; greatest = omega arith }) in
      points-make_next (same_letter was letter) at front clean text was letter _
      (one_index was letter).0 place genome (simp append_assoc at others)
