-- The best so far of a walk over the genotypes is the dominant one.
use Rattle.std.proofs.Common.{◌≡◌, ◌∙◌, refl, ap, ℕ, zero, suc, ◌<◌, Bool, true, false, not, List, [], ◌∷◌, length, get_or, Some, None, map, Result, Ok, Err, IsErr, arith}
use Rattle.std.specs.Prelude.{find}
use Rattle.std.specs.Cmp.{IsTotalOrder, IsStrictWeakOrder, nat_cmp_total}
use Rattle.std.specs.Cmp.Lexicographic.{nat_list_cmp_total}
use Rattle.std.specs.List.{best_of, list_all}
use Rattle.std.specs.Map.{values_of}
use Rattle.std.proofs.lemmas.Cmp.{on_total, then_total, back_total}
use Rattle.std.proofs.lemmas.List.{get_or_default}
use Rattle.std.proofs.lemmas.List.Folds.{list_all_at}
use Rattle.std.proofs.lemmas.List.MinMax.{ranks_by, IsFirstBest-from_best_of}
use Rattle.std.proofs.lemmas.List.Sums.{list_all-from_AllPass}
use Rattle.instruction_set.specs.Letter.{index_of}
use Rattle.census.specs.Counts.{GenotypeCount, dominance_cmp, outranks, dominant_among}

-- dominance is a total order
pub dominance-total : IsTotalOrder dominance_cmp
dominance-total =
    then_total (back_total (on_total (λ (g : GenotypeCount). g.count) nat_cmp_total))
    (on_total (λ (g : GenotypeCount). map index_of g.genome) nat_list_cmp_total)

-- coming before another by dominance is a strict weak order
outranks-order : IsStrictWeakOrder outranks
outranks-order = ranks_by dominance-total (λ (g : GenotypeCount). g)

-- the first that passes
find-first : {X : Type 0} (p : X → Bool) (xs : List X) (at : ℕ) (d : X) → at < length xs
    → p (get_or xs at d) ≡ true → ((k : ℕ) → k < at → p (get_or xs k d) ≡ false)
    → find p xs ≡ Some (get_or xs at d)
find-first p [] at d within passes others = absurd (omega (arith, within))
find-first p (x ∷ xs) zero d within passes others = rw passes refl
find-first p (x ∷ xs) (suc at) d within passes others =
    rw (others 0 (omega arith))
    (find-first p xs at d (omega arith) passes
    (λ k below. others (suc k) (omega (arith, below))))

-- what a walk keeps is the one before which no other comes
pub dominant-best : (first : GenotypeCount) (rest : List GenotypeCount)
    → dominant_among (first ∷ rest) ≡ Some (best_of outranks first rest)
unfolding dominant_among
dominant-best first rest =
    let all : List GenotypeCount = first ∷ rest in
    let best = IsFirstBest-from_best_of outranks-order first rest in
    let at : ℕ = best.0 in
    let is = best.1 in
    let within : at < length all = is.0 in
    let chosen : GenotypeCount = get_or all at first in
    let test : GenotypeCount → GenotypeCount → Bool =
    λ genotype other. not (outranks other genotype) in
    find-first (λ genotype. list_all (test genotype) all) all at first within
    (list_all-from_AllPass (test chosen) all
    (λ k d below. ap (λ genotype. not (outranks (get_or all k d) genotype))
    (get_or_default all at first d within) ∙ ap not (is.1 k d below)))
    (λ k below. list_all_at (test (get_or all k first)) all at first within
    (ap not (is.2 k first below)))
    ∙ ap Some best.2

-- none is dominant only among no genotypes
pub dominant-none : (genotypes : List (ℕ × GenotypeCount))
    → dominant_among (values_of genotypes) ≡ None → genotypes ≡ []
dominant-none [] none = refl
dominant-none (e ∷ es) none = let some = dominant-best e.1 (values_of es) in cc

-- among no genotypes none is dominant
pub dominant-some : (genotypes : List (ℕ × GenotypeCount)) (found : GenotypeCount)
    → dominant_among (values_of genotypes) ≡ Some found → genotypes ≡ [] → ⊥
unfolding dominant_among
dominant-some genotypes found is empty =
    let none = rw empty at is in cc

-- an error is no answer
pub not_ok : {T E : Type 0} (r : Result T E) (x : T) → IsErr r → r ≡ Ok x → ⊥
not_ok (Ok y) x error is = cc
not_ok (Err e) x error is = cc
